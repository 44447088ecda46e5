use Rattle.std.proofs.Common.{◌≡◌, ℕ, List, true, option_map, take, map}
use Rattle.std.specs.List.{list_all}
use Rattle.std.specs.Map.{lookup}
use Rattle.std.specs.BTreeMap.{is_at}
use Rattle.std.specs.Ordering.{nat_cmp}
use Rattle.std.specs.Cmp.Lexicographic.{slice_cmp}
use Rattle.ssi_versions.specs.Clauses.ByStamp.{newest_within}
use Rattle.ssi_versions.specs.Mirror.{held_of, chain_of, is_of}
use Rattle.ssi_versions.proofs.plain.seen_in_all.Given as goal

abbrev pub invariant-items : goal.invariant-items
invariant-items l = record {
  seen : (key : List ℕ) → option_map held_of (lookup (is_at (slice_cmp nat_cmp key)) l.seen.entries)
      ≡ newest_within l.stamp (chain_of key (map held_of (take l.held-index l.items)));
  owned : list_all (λ e. is_of e.0 (held_of e.1)) l.seen.entries ≡ true;
}
