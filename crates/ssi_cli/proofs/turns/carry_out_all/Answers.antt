use Rattle.std.proofs.Common.{◌∙◌, refl, sym, Ok, Err, None, [], ◌∷◌, arith}
use Rattle.std.specs.Prelude.{is_err}
use Rattle.ssi_store.specs.Mirror.Stores.{IsAt}
use Rattle.ssi_hub.specs.Clauses.Calls.{Ran}
use Rattle.ssi_hub.specs.Mirror.{buffers_of, is_stopped}
use Rattle.ssi_cli.specs.declared.closing.Closing.TheVariants.{Memory}
use Rattle.ssi_cli.specs.Clauses.Turns.{MayRun}
use Rattle.ssi_cli.proofs.Turning.{carried_none, carried_lines, nobody_noted, none_run}
use Rattle.ssi_cli.proofs.turns.carry_out_all.Goals as goal

pub returns-in_default-clause-carried : goal.returns-in_default-clause-carried
returns-in_default-clause-carried g c =
    carried_none (IsAt {g = g.C.Chains} {h = g.M.Marks} g.C.Chains.held g.M.Marks.marked) c.args.token {A = Unit {0}}
    (MayRun (is_stopped c.args.hub.now) (buffers_of c.args.hub.now c.args.token)) tt None c.args.hub.now c.args.store.now
    (none_run (is_stopped c.args.hub.now) (buffers_of c.args.hub.now c.args.token) c.in_default.ensures.none)

pub returns-then-is_err-clause-carried : goal.returns-then-is_err-clause-carried
returns-then-is_err-clause-carried g c =
    let (plain, (b, rest, has, cut)) = c.in-Some.ensures.some in
    carried_lines (IsAt {g = g.C.Chains} {h = g.M.Marks} g.C.Chains.held g.M.Marks.marked) c.args.token {A = Unit {0}} (Err Memory)
    (is_err c.run.result) None None c.args.hub.now c.run.new.self c.args.store.now c.run.new.store 256 b c.in-Some._line.now rest
    has cut plain (omega arith) (refl, sym c.is_err.ensures.value ∙ c.if-is_err.true) c.run.ensures.stands
    (λ lines steps taken. nobody_noted (Ran c.args.token lines steps ∷ []))

pub returns-clause-carried : goal.returns-clause-carried
returns-clause-carried g c =
    let (plain, (b, rest, has, cut)) = c.in-Some.ensures.some in
    carried_lines (IsAt {g = g.C.Chains} {h = g.M.Marks} g.C.Chains.held g.M.Marks.marked) c.args.token {A = Unit {0}} (Ok tt)
    (is_err c.run.result) None None c.args.hub.now c.run.new.self c.args.store.now c.run.new.store 256 b c.in-Some._line.now rest
    has cut plain (omega arith) (sym c.is_err.ensures.value ∙ c.if-is_err.false) c.run.ensures.stands
    (λ lines steps taken. nobody_noted (Ran c.args.token lines steps ∷ []))
