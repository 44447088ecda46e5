use Rattle.std.proofs.Common.{◌≤◌, ◌<◌, ap, sym, ◌∙◌, length, refl, arith}
use Rattle.ssi_hub.specs.Clauses.Buffers.{Buffers}
use Rattle.ssi_hub.specs.Clauses.Stepping.{is_ready}
use Rattle.ssi_hub.proofs.Clips.{plain_has_none}
use Rattle.ssi_hub.proofs.Carrying.{stepped, full, none_ready, ready}
use Rattle.ssi_hub.proofs.connection.Connection.step.Goals as goal

pub returns-then-len-gt-MOST_UNSENT-clause-when : goal.returns-then-len-gt-MOST_UNSENT-clause-when
returns-then-len-gt-MOST_UNSENT-clause-when g c =
    let many : 65536 < length c.self.inside.unsent = omega (arith, c.if-len-gt-MOST_UNSENT.true, c.len.ensures) in
    sym (full (record { waiting = c.self.inside.inbox; unsent = c.self.inside.unsent }) many)
    ∙ ap (λ (b : Buffers). is_ready b) c.self.view_is

pub returns-in_default-clause-when : goal.returns-in_default-clause-when
returns-in_default-clause-when g c =
    sym (none_ready (record { waiting = c.self.inside.inbox; unsent = c.self.inside.unsent })
    (plain_has_none c.self.inside.inbox c.in_default.ensures.none)) ∙ ap (λ (b : Buffers). is_ready b) c.self.view_is

pub returns-clause-when : goal.returns-clause-when
returns-clause-when g c =
    let (plain, (more, cut)) = c.in-Some.ensures.some in
    let short : length c.self.inside.unsent ≤ 65536 = omega (arith, c.if-len-gt-MOST_UNSENT.false, c.len.ensures) in
    sym (ready (record { waiting = c.self.inside.inbox; unsent = c.self.inside.unsent }) c.in-Some.line.now more cut short)
    ∙ ap (λ (b : Buffers). is_ready b) c.self.view_is

pub returns-clause-some : goal.returns-clause-some
returns-clause-some g c = λ bytes waits.
    let (plain, (more, cut)) = c.in-Some.ensures.some in
    let short : length c.self.inside.unsent ≤ 65536 = omega (arith, c.if-len-gt-MOST_UNSENT.false, c.len.ensures) in
    stepped g.S.ProtocolStore.keeps g.S.AnyStore.is_at c.args.self.now
    (record { waiting = c.self.inside.inbox; unsent = c.self.inside.unsent }) bytes c.in-Some.line.now more
    c.pass.new.self c.reply-carried.new.unsent (length c.in-Some.line.now) c.args.store.now c.reply-carried.new.store
    c.reply-carried.result c.self.view_is waits plain cut refl c.pass.ensures short c.reply-carried.ensures
