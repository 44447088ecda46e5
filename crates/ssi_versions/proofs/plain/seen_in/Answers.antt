use Rattle.std.proofs.Common.{arith, rules, ap, sym, ◌∙◌}
use Rattle.std.proofs.Common.{option_map}
use Rattle.std.specs.Map.{lookup}
use Rattle.std.specs.BTreeMap.{is_at}
use Rattle.std.specs.Ordering.{nat_cmp}
use Rattle.std.specs.Cmp.Lexicographic.{slice_cmp}
use Rattle.adya_keys.specs.Meaning.Keys.{lies_in}
use Rattle.ssi_versions.specs.Mirror.{held_of}
use Rattle.ssi_versions.proofs.Ranges.{seen_then, seen_else, are_owned, are_owned-insert}
use Rattle.ssi_versions.proofs.plain.seen_in.Goals as goal
use Rattle.ssi_versions.proofs.plain.seen_in.Goals.{then-is_seen+in_ok-insert, else-is_seen}

pub items-preserved : goal.items-preserved
items-preserved c =
    elim c.if-is_seen.branch [
      | then-is_seen+in_ok-insert w ↦ record {
        seen = λ key.
            seen_then (lies_in c.args.low c.args.high) c.args.stamp key c.args.items.now c.items.held-index c.held-item.result c.items.seen.entries c.if-is_seen.seen.entries (omega arith) (Prim.search rules)
            (sym w.if-is_seen.ensures) (ap (λ m. lookup (is_at (slice_cmp nat_cmp key)) m.entries) w.seen-is ∙ w.in_ok-insert.ensures.updates.0 key) (c.items.invariant.seen key);
        owned = ap (λ m. are_owned m.entries) w.seen-is ∙ ap are_owned w.in_ok-insert.ensures.entries ∙ are_owned-insert c.items.seen.entries c.held-item.result c.items.invariant.owned;
      }
      | else-is_seen w ↦ record {
        seen = λ key. ap (λ m. option_map held_of (lookup (is_at (slice_cmp nat_cmp key)) m.entries)) w.seen-is
            ∙ seen_else (lies_in c.args.low c.args.high) c.args.stamp key c.args.items.now c.items.held-index c.held-item.result c.items.seen.entries (omega arith) (Prim.search rules) (sym w.if-is_seen.ensures) (c.items.invariant.seen key);
        owned = ap (λ m. are_owned m.entries) w.seen-is ∙ c.items.invariant.owned;
      }
    ]
