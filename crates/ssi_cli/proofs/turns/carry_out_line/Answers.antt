use Rattle.std.proofs.Common.{true, ◌≡◌, ◌∙◌, refl, sym, ap, Ok, Err, Some, arith}
use Rattle.std.specs.Prelude.{is_err}
use Rattle.std.proofs.lemmas.Option.{same_Some}
use Rattle.ssi_store.specs.Mirror.Stores.{IsAt}
use Rattle.ssi_hub.specs.Clauses.Buffers.{Buffers}
use Rattle.ssi_hub.specs.Mirror.{buffers_of, is_stopped}
use Rattle.ssi_cli.specs.declared.closing.Closing.TheVariants.{Memory}
use Rattle.ssi_cli.specs.Clauses.Turns.{MayRun}
use Rattle.ssi_cli.proofs.Turning.{carried_none, carried_lines, carried_closed, line_noted, has_run, none_run, on_err, on_ok}
use Rattle.ssi_cli.proofs.turns.carry_out_line.Goals as goal

pub returns-in_default-clause-carried : goal.returns-in_default-clause-carried
returns-in_default-clause-carried g c =
    carried_none (IsAt {g = g.C.Chains} {h = g.M.Marks} g.C.Chains.held g.M.Marks.marked) c.args.token {A = Unit {0}}
    (MayRun (is_stopped c.args.hub.now) (buffers_of c.args.hub.now c.args.token)) tt (Some c.args.users.now) c.args.hub.now
    c.args.store.now (none_run (is_stopped c.args.hub.now) (buffers_of c.args.hub.now c.args.token) c.in_default.ensures.none)

pub returns-then-is_err-clause-carried : goal.returns-then-is_err-clause-carried
returns-then-is_err-clause-carried g c =
    let (b, has, goes, waits, short) = has_run (is_stopped c.args.hub.now) (buffers_of c.args.hub.now c.args.token) c.requires in
    carried_closed (IsAt {g = g.C.Chains} {h = g.M.Marks} g.C.Chains.held g.M.Marks.marked) c.args.token {A = Unit {0}} (Err Memory)
    (Some c.args.users.now) (Some c.note.new.self) c.args.hub.now c.closed.new.self c.args.store.now b has waits refl
    (c.closed.ensures.stands true) (λ s t e. sym (on_err _ c.note.result (sym c.is_err.ensures.value ∙ c.if-is_err.true) c.note.ensures.err s) ∙ e)

pub returns-then-is_err-2-clause-carried : goal.returns-then-is_err-2-clause-carried
returns-then-is_err-2-clause-carried g c =
    let (b, has, goes, waits, short) = has_run (is_stopped c.args.hub.now) (buffers_of c.args.hub.now c.args.token) c.requires in
    let (plain, (x, rest, same, cut)) = c.in-Some.ensures.some in
    let is : x ≡ b = same_Some x b (sym same ∙ has) in
    let front = sym (ap (λ (y : Buffers). y.waiting) is) ∙ cut in
    carried_lines (IsAt {g = g.C.Chains} {h = g.M.Marks} g.C.Chains.held g.M.Marks.marked) c.args.token {A = Unit {0}} (Err Memory)
    (is_err c.run.result) (Some c.args.users.now) (Some c.note.new.self) c.args.hub.now c.run.new.self c.args.store.now
    c.run.new.store 1 b c.in-Some.line.now rest has front plain (omega arith)
    (refl, sym c.is_err-2.ensures.value ∙ c.if-is_err-2.true) c.run.ensures.stands
    (line_noted c.args.token c.args.users.now c.note.new.self (is_stopped c.args.hub.now) (is_err c.run.result)
    (buffers_of c.args.hub.now c.args.token) b c.in-Some.line.now rest goes has front plain short
    (on_ok _ c.note.result (sym c.is_err.ensures.value ∙ c.if-is_err.false) c.note.ensures.ok))

pub returns-clause-carried : goal.returns-clause-carried
returns-clause-carried g c =
    let (b, has, goes, waits, short) = has_run (is_stopped c.args.hub.now) (buffers_of c.args.hub.now c.args.token) c.requires in
    let (plain, (x, rest, same, cut)) = c.in-Some.ensures.some in
    let is : x ≡ b = same_Some x b (sym same ∙ has) in
    let front = sym (ap (λ (y : Buffers). y.waiting) is) ∙ cut in
    carried_lines (IsAt {g = g.C.Chains} {h = g.M.Marks} g.C.Chains.held g.M.Marks.marked) c.args.token {A = Unit {0}} (Ok tt)
    (is_err c.run.result) (Some c.args.users.now) (Some c.note.new.self) c.args.hub.now c.run.new.self c.args.store.now
    c.run.new.store 1 b c.in-Some.line.now rest has front plain (omega arith)
    (sym c.is_err-2.ensures.value ∙ c.if-is_err-2.false) c.run.ensures.stands
    (line_noted c.args.token c.args.users.now c.note.new.self (is_stopped c.args.hub.now) (is_err c.run.result)
    (buffers_of c.args.hub.now c.args.token) b c.in-Some.line.now rest goes has front plain short
    (on_ok _ c.note.result (sym c.is_err.ensures.value ∙ c.if-is_err.false) c.note.ensures.ok))
