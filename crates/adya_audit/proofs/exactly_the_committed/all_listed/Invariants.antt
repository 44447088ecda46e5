use Rattle.std.proofs.Common.{◌≡◌, ℕ, drop}
use Rattle.std.specs.List.{list_all}
use Rattle.std.specs.Ordering.{nat_cmp}
use Rattle.std.specs.BTreeSet.{contains}
use Rattle.adya_values.specs.Mirror.Events.{events_of}
use Rattle.adya_audit.specs.Machinery.ExactlyTheCommitted.{commit_passes}
use Rattle.adya_audit.proofs.exactly_the_committed.all_listed.Given as goal

abbrev pub invariant-loop-i : goal.invariant-loop-i
invariant-loop-i l =
    let passes = commit_passes (λ (t : ℕ). contains nat_cmp l.listed t) in
    list_all passes (events_of l.events) ≡ list_all passes (drop l.i (events_of l.events))
