use Rattle.std.proofs.Common.{[], ◌∷◌, ◌++◌, Bool, refl, sym, ◌∙◌, ap, subst}
use Rattle.adya_keys.specs.Meaning.Keys.{Bytes}
use Rattle.ssi_hub.specs.Clauses.Outcomes.{lost_by}
use Rattle.ssi_hub.specs.Mirror.{buffers_of, is_stopped}
use Rattle.ssi_durable.specs.Meaning.Logs.{logged}
use Rattle.ssi_durable.specs.Clauses.Counts.{commits_with}
use Rattle.ssi_durable.specs.Mirror.Servers.{HasCounted}
use Rattle.ssi_hub.specs.Clauses.Calls.{with_run}
use Rattle.ssi_durable.proofs.Free.{uncounted_goes_on}
use Rattle.ssi_durable.proofs.Giving.{grown_by, grown_freely}
use Rattle.ssi_durable.proofs.Counting.{first_counted}
use Rattle.ssi_durable.proofs.Serving.{ready_has, was_false, was_true, line_served, not_counted, added_line}
use Rattle.ssi_durable.proofs.server.Server.carry_out.Goals as goal

pub returns-then-not-carried-clause-some : goal.returns-then-not-carried-clause-some
returns-then-not-carried-clause-some g c = λ n began calls was.
    let self = c.args.self.now in
    let now = record self { hub = c.step.new.self; store = c.step.new.store; noted = c.note.new.to } in
    let (line, step, is, stands, more) = c.in-Some.ensures.stands calls was.stands in
    let none = is.counted ∙ was_false c.in-Some.carried.counted c.if-not-carried.true in (
      line,
      step,
      is,
      line_served g.S.ProtocolStore.keeps g.S.AnyStore.is_at n began self now calls (lost_by c.in-Some.carried.outcome) c.args.token line step
          c.commands_are_words.ensures.lettered was is.made is.logged stands more refl
          (λ run early held follows.
          grown_freely self.holds c.args.token step was.sure was.since began.before held
          (uncounted_goes_on was.gone.end step none follows))
          (not_counted self.journal (began.lines ++ logged was.sure) (began.lines ++ logged was.since) line step none was.keeps),
    )

pub returns-clause-some : goal.returns-clause-some
returns-clause-some g c = λ n began calls was.
    let dumps = g.S.ProtocolStore.keeps in
    let self = c.args.self.now in
    let t = c.args.token in
    let now = record self { hub = c.step.new.self; store = c.step.new.store; noted = c.note.new.to; commits = c.commits_with-self.result; journal = c.add.new.self; holds = c.hold.new.holds } in
    let (line, step, is, stands, more) = c.in-Some.ensures.stands calls was.stands in
    let counted = is.counted ∙ was_true c.in-Some.carried.counted c.if-not-carried.false in
    let ready = ready_has (is_stopped self.hub) (buffers_of self.hub t) (sym c.in-Some.ensures.when) in
    let (front, rest, plain, waits, kept) = c.note.ensures ready.0 ready.1 ready.2 in
    let same = (is.first ready.0 front rest ready.1 waits plain).0 in (
      line,
      step,
      is,
      line_served dumps g.S.AnyStore.is_at n began self now calls (lost_by c.in-Some.carried.outcome) t line step
          c.commands_are_words.ensures.lettered was is.made is.logged stands more refl
          (λ run early held follows.
          grown_by dumps self.hub c.step.new.self calls (with_run (lost_by c.in-Some.carried.outcome) t (line ∷ []) (step ∷ []) calls)
          run.made t step self.holds c.hold.new.holds was.sure was.since began.before c.unsent_len-before.result ready.0 was.stands stands
          run.is run.steps run.adds.written_is was.parts ready.1
          (c.unsent_len-before.ensures (was.mode ∙ early) ready.0 ready.1)
          counted (c.hold.ensures.lost (was.mode ∙ early)) (c.hold.ensures.held (was.mode ∙ early)) held)
          (added_line dumps c.add.new.self (began.lines ++ logged was.sure) (began.lines ++ logged was.since) line step
          c.commands_are_words.ensures.short c.commands_are_words.ensures.printed is.made counted front c.bytes-2.result.now
          (c.bytes-2.ensures.line ∙ kept) same
          (c.add.ensures (began.lines ++ logged was.sure) (began.lines ++ logged was.since) was.keeps)),
    )

pub returns-then-not-carried-clause-commits : goal.returns-then-not-carried-clause-commits
returns-then-not-carried-clause-commits g c =
    let self = c.args.self.now in
    let now = record self { hub = c.step.new.self; store = c.step.new.store; noted = c.note.new.to } in
    subst (λ (b : Bool). HasCounted c.args.token b self now) (sym (was_false c.in-Some.carried.counted c.if-not-carried.true)) refl

pub returns-clause-commits : goal.returns-clause-commits
returns-clause-commits g c =
    let self = c.args.self.now in
    let now = record self { hub = c.step.new.self; store = c.step.new.store; noted = c.note.new.to; commits = c.commits_with-self.result; journal = c.add.new.self; holds = c.hold.new.holds } in
    let ready = ready_has (is_stopped self.hub) (buffers_of self.hub c.args.token) (sym c.in-Some.ensures.when) in
    let (front, rest, plain, waits, kept) = c.note.ensures ready.0 ready.1 ready.2 in
    subst (λ (b : Bool). HasCounted c.args.token b self now) (sym (was_true c.in-Some.carried.counted c.if-not-carried.false))
    (first_counted self now c.args.token ready.0 front rest ready.1 plain waits
    (c.commits_with-self.ensures ∙ ap (λ (l : Bytes). commits_with l self.commits) (c.bytes.ensures.line ∙ kept)))
