use Rattle.std.proofs.Math.Logic.{∥∥₁_map}
use Rattle.ssi_store.proofs.store.Store.finish.Goals as goal

pub invariant_of-result : goal.invariant_of-result
invariant_of-result g c = record {
  stands = ∥∥₁_map c.args.self.stands (λ at. (at.0, c.in-Err.ensures.err at.0 at.1));
}
