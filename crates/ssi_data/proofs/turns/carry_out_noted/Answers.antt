use Rattle.std.proofs.Common.{◌≡◌, ◌∙◌, ℕ, List, Some, cond, refl, sym, subst, inr}
use Rattle.ssi_hub.specs.Mirror.{buffers_of, is_stopped}
use Rattle.ssi_durable.specs.Mirror.Servers.{hub_of}
use Rattle.ssi_cli.specs.Meaning.Users.{is_it}
use Rattle.ssi_cli.specs.Mirror.{last_at}
use Rattle.ssi_data.proofs.Turning.{carried_maybe, carried_same, carried_closed, has_run, if_ok, if_err, table_noted}
use Rattle.ssi_data.proofs.turns.carry_out_noted.Goals as goal

pub returns-in_default-prepare-clause-carried : goal.returns-in_default-prepare-clause-carried
returns-in_default-prepare-clause-carried g c =
    let dumps = g.T.ProtocolStore.keeps in
    let is_at = g.T.AnyStore.is_at in
    let (b, has, goes, waits, short) =
    has_run (is_stopped (hub_of c.args.server.now)) (buffers_of (hub_of c.args.server.now) c.args.token) c.requires in
    if_ok dumps is_at c.args.token c.args.tables.now c.prepare.new.self c.args.server.now c.closed.new.self
    (carried_closed dumps is_at c.args.token (Unit {0}) c.args.tables.now c.prepare.new.self c.args.server.now
    c.closed.new.self b has waits c.closed.ensures.serves (λ s u e. sym (c.prepare.ensures.users s) ∙ e)
    c.prepare.ensures.clock (λ s u e. inr (sym (c.prepare.ensures.times s) ∙ e, refl)))

pub returns-in-Ok-Some-clause-carried : goal.returns-in-Ok-Some-clause-carried
returns-in-Ok-Some-clause-carried g c =
    let dumps = g.T.ProtocolStore.keeps in
    let is_at = g.T.AnyStore.is_at in
    let (plain, (b, rest, has, cut)) = c.in-Some.ensures.some in
    if_ok dumps is_at c.args.token c.args.tables.now c.note.new.self c.args.server.now c.step.new.self
    (carried_maybe dumps is_at c.args.token c.args.tables.now c.note.new.self c.args.server.now c.step.new.self
    c.in-Ok-Some.field-0 c.requires c.in-Ok-Some.ensures.when c.in-Ok-Some.ensures.serves
    (λ carried line step is.
    table_noted c.args.token c.args.tables.now.users c.prepare.new.self.users c.note.new.self.users step c.in-Ok.noting.used
    c.note.ensures.users_table c.prepare.ensures.users_table
    (λ there. c.in-Ok.ensures.used there dumps line step (is.first b c.in-Some.line.now rest has cut plain).0 is.made)
    c.prepare.ensures.users c.note.ensures.users)
    (c.note.ensures.clock ∙ c.prepare.ensures.clock)
    (λ carried line step is.
    table_noted c.args.tables.now.second c.args.tables.now.times c.prepare.new.self.times c.note.new.self.times step
    c.in-Ok.noting.timed c.note.ensures.times_table c.prepare.ensures.times_table
    (λ there. c.in-Ok.ensures.timed there dumps line step (is.first b c.in-Some.line.now rest has cut plain).0 is.made)
    c.prepare.ensures.times
    (subst (λ (k : ℕ). (s : List ℕ) (u : ℕ) → last_at c.note.new.self.times s ≡ Some u
    → cond (is_it s c.in-Ok.noting.timed) (Some k) (last_at c.prepare.new.self.times s) ≡ Some u) c.prepare.ensures.clock
    c.note.ensures.times)))

pub returns-in-Err-clause-carried : goal.returns-in-Err-clause-carried
returns-in-Err-clause-carried g c =
    let dumps = g.T.ProtocolStore.keeps in
    let is_at = g.T.AnyStore.is_at in
    if_err dumps is_at c.args.token c.args.tables.now c.prepare.new.self c.args.server.now c.step.new.self
    (carried_same dumps is_at c.args.token ⊥ c.args.tables.now c.prepare.new.self c.args.server.now c.step.new.self
    (λ h. h) (λ s u e. sym (c.prepare.ensures.users s) ∙ e) c.prepare.ensures.clock
    (λ s u e. inr (sym (c.prepare.ensures.times s) ∙ e, refl)) c.in-Err.ensures.serves)
