use Rattle.adya_values.proofs.PackedParts.{all_stay_in}
use Rattle.adya_keys.proofs.Within.{front_same}
use Rattle.adya_keys.specs.Machinery.KeyTables.{keys_in}
use Rattle.std.proofs.Common.{refl}
use Rattle.adya_values.proofs.arena.Arena.add.Goals as goal

pub invariant_of-self : goal.invariant_of-self
invariant_of-self c =
    let a = c.args.self.now in
    record {
      there = all_stay_in (keys_in a.keys) (keys_in a.keys) a.bytes.items c.add_to.new.bytes.items (front_same _ _ refl) c.add_to.ensures.front a.seen.items a.there;
    }
