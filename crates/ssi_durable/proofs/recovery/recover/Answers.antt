use Rattle.std.proofs.Common.{[], ◌≡◌, ◌+◌, length, take, sym, ◌∙◌, ap, subst, arith}
use Rattle.adya_keys.specs.Meaning.Keys.{Bytes}
use Rattle.adya_text.specs.Meaning.Texts.{with_ends}
use Rattle.ssi_log.specs.Machinery.Standing.{HasText}
use Rattle.ssi_log.specs.Meaning.Texts.{text_of}
use Rattle.ssi_durable.specs.Meaning.Lines.{loads_len, whole_lines}
use Rattle.ssi_durable.specs.Clauses.Recovery.{IsReplayed}
use Rattle.ssi_durable.proofs.Recovering.{take_whole, torn_len, whole_fits, whole_none, resumed_keeps, untouched_keeps}
use Rattle.ssi_durable.proofs.WholeLines.{all_plain, falls}
use Rattle.ssi_durable.proofs.Resumes.{resume_fails}
use Rattle.ssi_durable.proofs.recovery.recover.Goals as goal

pub returns-in-Err-clause-fault : goal.returns-in-Err-clause-fault
returns-in-Err-clause-fault g c = λ at. ((c.read.ensures.seen, c.read.ensures.crash), c.in-Err.ensures.fault)

pub returns-in-Err-clause-crash : goal.returns-in-Err-clause-crash
returns-in-Err-clause-crash g c = λ clean only.
    untouched_keeps (g.D.Disk.seen c.args.log.now.disk) (g.D.Disk.may_leave c.args.log.now.disk)
    (g.D.Disk.may_leave c.read.new.self.disk) only c.read.ensures.crash

pub returns-in-Err-replay-clause-fault : goal.returns-in-Err-replay-clause-fault
returns-in-Err-replay-clause-fault g c = λ at. (
  (c.read.ensures.seen, c.read.ensures.crash),
  (c.deref.result.now, λ clean. (c.in-Ok.ensures.text clean).0 ∙ sym c.deref.ensures.value, c.in-Err-replay.ensures.fault at),
)

pub returns-in-Err-replay-clause-crash : goal.returns-in-Err-replay-clause-crash
returns-in-Err-replay-clause-crash g c = λ clean only.
    untouched_keeps (g.D.Disk.seen c.args.log.now.disk) (g.D.Disk.may_leave c.args.log.now.disk)
    (g.D.Disk.may_leave c.read.new.self.disk) only c.read.ensures.crash

pub slice_bounds-resume-end : goal.slice_bounds-resume-end
slice_bounds-resume-end g c =
    let items = c.in-Ok.text.items in
    let n = c.in-Ok-replay.replayed.len in
    let n_is : n ≡ length (with_ends (whole_lines items)) =
    c.in-Ok-replay.ensures.len ∙ ap (λ (l : Bytes). length (with_ends (whole_lines l))) c.deref.ensures.value in
    let front : take n c.deref-2.result.now ≡ with_ends (whole_lines items) =
    ap (λ (l : Bytes). take n l) c.deref-2.ensures.value ∙ take_whole items n n_is in
    n_is ∙ sym (ap length front)

pub returns-in-Err-resume-clause-fault : goal.returns-in-Err-resume-clause-fault
returns-in-Err-resume-clause-fault g c = λ at.
    let items = c.in-Ok.text.items in
    let n = c.in-Ok-replay.replayed.len in
    let n_is : n ≡ length (with_ends (whole_lines items)) =
    c.in-Ok-replay.ensures.len ∙ ap (λ (l : Bytes). length (with_ends (whole_lines l))) c.deref.ensures.value in
    let front : take n c.deref-2.result.now ≡ with_ends (whole_lines items) =
    ap (λ (l : Bytes). take n l) c.deref-2.ensures.value ∙ take_whole items n n_is in (
      items,
      λ clean. (c.in-Ok.ensures.text (c.resume.ensures.clean clean)).0,
      resume_fails c.args.log.now c.read.new.self c.resume.new.self (length (take n c.deref-2.result.now) + c.args.ahead + 1)
          (length (with_ends (whole_lines items)) + c.args.ahead + 1) c.in-Err-resume.fault
          (ap (λ (l : Bytes). length l + c.args.ahead + 1) front) c.read.ensures.seen c.read.ensures.usable c.in-Ok.ensures.faults
          c.in-Err-resume.ensures.fault,
    )

pub returns-in-Err-resume-clause-crash : goal.returns-in-Err-resume-clause-crash
returns-in-Err-resume-clause-crash g c = λ clean only.
    let items = c.in-Ok.text.items in
    let n = c.in-Ok-replay.replayed.len in
    let n_is : n ≡ length (with_ends (whole_lines items)) =
    c.in-Ok-replay.ensures.len ∙ ap (λ (l : Bytes). length (with_ends (whole_lines l))) c.deref.ensures.value in
    let front : take n c.deref-2.result.now ≡ with_ends (whole_lines items) =
    ap (λ (l : Bytes). take n l) c.deref-2.ensures.value ∙ take_whole items n n_is in
    let held = c.resume.ensures.clean clean in
    resumed_keeps (g.D.Disk.seen c.read.new.self.disk) (g.D.Disk.may_leave c.read.new.self.disk)
    (g.D.Disk.may_leave c.resume.new.self.disk) (text_of (g.D.Disk.seen c.args.log.now.disk)) items
    (take n c.deref-2.result.now) (c.in-Ok.ensures.text held).0 front (c.in-Ok.ensures.finds held only) c.resume.ensures.crash

pub overflow_sub-result : goal.overflow_sub-result
overflow_sub-result g c =
    let items = c.in-Ok.text.items in
    let n = c.in-Ok-replay.replayed.len in
    let n_is : n ≡ length (with_ends (whole_lines items)) =
    c.in-Ok-replay.ensures.len ∙ ap (λ (l : Bytes). length (with_ends (whole_lines l))) c.deref.ensures.value in
    omega (arith, whole_fits items n n_is, c.len.ensures, c.in-Ok.text.ok.0)

pub returns-clause-recovered : goal.returns-clause-recovered
returns-clause-recovered g c = λ at.
    let items = c.in-Ok.text.items in
    let n = c.in-Ok-replay.replayed.len in
    let same = c.deref.ensures.value in
    let n_is : n ≡ length (with_ends (whole_lines items)) =
    c.in-Ok-replay.ensures.len ∙ ap (λ (l : Bytes). length (with_ends (whole_lines l))) same in
    let front : take n c.deref-2.result.now ≡ with_ends (whole_lines items) =
    ap (λ (l : Bytes). take n l) c.deref-2.ensures.value ∙ take_whole items n n_is in
    let resumed = c.in_default.ensures.text (whole_none items (take n c.deref-2.result.now) front c.in-Ok.ensures.plain) in (
      items,
      λ clean. (c.in-Ok.ensures.text (c.resume.ensures.clean clean)).0,
      subst (λ (l : Bytes). IsReplayed g.S.AnyStore.is_at c.args.number (whole_lines l) c.replay.new.store)
          same (c.in-Ok-replay.ensures.replayed at),
      record {
        plain = all_plain (whole_lines items) (falls [] items tt).lines;
        has = subst (HasText c.resume.new.self) front resumed.0;
        synced = resumed.1 ∙ ap length front;
      },
      c.in-Ok-replay.ensures.lines ∙ ap (λ (l : Bytes). length (whole_lines l)) same,
      omega (arith, torn_len items n n_is, c.len.ensures, c.in-Ok.text.ok.0),
      c.in-Ok-replay.ensures.loaded ∙ ap (λ (l : Bytes). loads_len (whole_lines l)) same,
    )

pub returns-clause-room : goal.returns-clause-room
returns-clause-room g c = c.in_default.ensures.ahead

pub returns-clause-crash : goal.returns-clause-crash
returns-clause-crash g c = λ clean only.
    let items = c.in-Ok.text.items in
    let n = c.in-Ok-replay.replayed.len in
    let n_is : n ≡ length (with_ends (whole_lines items)) =
    c.in-Ok-replay.ensures.len ∙ ap (λ (l : Bytes). length (with_ends (whole_lines l))) c.deref.ensures.value in
    let front : take n c.deref-2.result.now ≡ with_ends (whole_lines items) =
    ap (λ (l : Bytes). take n l) c.deref-2.ensures.value ∙ take_whole items n n_is in
    let held = c.resume.ensures.clean clean in
    resumed_keeps (g.D.Disk.seen c.read.new.self.disk) (g.D.Disk.may_leave c.read.new.self.disk)
    (g.D.Disk.may_leave c.resume.new.self.disk) (text_of (g.D.Disk.seen c.args.log.now.disk)) items
    (take n c.deref-2.result.now) (c.in-Ok.ensures.text held).0 front (c.in-Ok.ensures.finds held only) c.resume.ensures.crash
