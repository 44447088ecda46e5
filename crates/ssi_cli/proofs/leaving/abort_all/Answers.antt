use Rattle.std.proofs.Common.{sym, subst, Option, Some}
use Rattle.ssi_store.specs.Mirror.Stores.{IsAt}
use Rattle.ssi_cli.specs.declared.users.Users.{Users}
use Rattle.ssi_cli.specs.Clauses.Leaving.{HasAborted, HasUsed, HasForgotten}
use Rattle.ssi_cli.proofs.leaving.abort_all.Goals as goal

pub returns-in-Some-clause-aborts : goal.returns-in-Some-clause-aborts
returns-in-Some-clause-aborts g c =
    subst (λ (o : Option Users). HasAborted (IsAt {g = g.C.Chains} {h = g.M.Marks} g.C.Chains.held g.M.Marks.marked)
    (HasUsed o c.args.token) c.args.hub.now c.args.store.now c.abort_each.new.hub c.abort_each.new.store)
    (sym c.in-Some.is) c.abort_each.ensures.aborts

pub returns-in-Some-clause-forgets : goal.returns-in-Some-clause-forgets
returns-in-Some-clause-forgets g c =
    subst (λ (o : Option Users). HasForgotten o (Some c.abort_each.new.users)) (sym c.in-Some.is) c.abort_each.ensures.forgets
