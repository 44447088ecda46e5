use Rattle.adya_values.proofs.PackedParts.{all_stay_in}
use Rattle.adya_keys.proofs.Within.{front_same}
use Rattle.adya_keys.specs.Machinery.KeyTables.{keys_in}
use Rattle.std.proofs.Common.{refl}
use Rattle.adya_values.proofs.arena.Arena.number.Goals as goal

pub invariant_of-self : goal.invariant_of-self
invariant_of-self c =
    let a = c.args.self.now in
    record {
      there = all_stay_in (keys_in a.keys) (keys_in c.number.new.self) a.bytes.items a.bytes.items c.number.ensures.front (front_same _ _ refl) a.seen.items a.there;
    }

pub invariant_of-self-2 : goal.invariant_of-self-2
invariant_of-self-2 c =
    let a = c.args.self.now in
    record {
      there = all_stay_in (keys_in a.keys) (keys_in c.number.new.self) a.bytes.items a.bytes.items c.number.ensures.front (front_same _ _ refl) a.seen.items a.there;
    }
