use Rattle.std.proofs.Common.{rules, sym}
use Rattle.ssi_store.proofs.Steps.{counted_at}
use Rattle.ssi_store.proofs.sessions.count_at.Goals as goal

pub returns-clause-counted : goal.returns-clause-counted
returns-clause-counted c = λ o at.
    counted_at _ _ c.args.session o c.in-Some.open.now (sym c.in-Some.ensures.value) at
    (c.count.new.self, c.count.ensures, ((c.get_mut.follows.holds c.count.new.self).3 (Prim.search rules)).0)
