use Rattle.ssi_store.specs.Meaning.Courses.{New}
use Rattle.ssi_store.proofs.store.Store.with_next.Goals as goal

pub invariant_of-result : goal.invariant_of-result
invariant_of-result g c = record {
  stands = ∣ (New c.args.next, c.with_next-engine.ensures c.requires.marks c.new.ensures.events c.new.ensures.snapshots) ∣₁;
}
