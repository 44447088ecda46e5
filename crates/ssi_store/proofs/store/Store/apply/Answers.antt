use Rattle.std.proofs.Math.Logic.{∥∥₁_map}
use Rattle.ssi_store.proofs.store.Store.apply.Goals as goal

pub invariant_of-self : goal.invariant_of-self
invariant_of-self g c = record {
  stands = ∥∥₁_map c.args.self.now.stands (λ at. (_, c.apply.ensures.stands at.0 at.1));
}
