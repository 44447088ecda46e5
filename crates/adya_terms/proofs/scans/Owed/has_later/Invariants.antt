use Rattle.std.proofs.Common.{◌≡◌, ℕ, Bool, Some, List}
use Rattle.std.specs.List.{list_all}
use Rattle.adya_values.specs.Mirror.Events.{events_of}
use Rattle.adya_values.specs.Computing.Faults.{none_or_lists_only}
use Rattle.adya_terms.specs.Machinery.Scans.{listed}
use Rattle.adya_terms.specs.Machinery.Tables.{written_at}
use Rattle.adya_terms.proofs.scans.Owed.has_later.Given as goal

abbrev pub invariant-loop-at : goal.invariant-loop-at
invariant-loop-at l =
    let scan = l.self.scan.now in
    let test : List ℕ × ℕ → Bool = λ e. none_or_lists_only (listed scan) (written_at (events_of scan.events.now) (Some e.1)) in
    list_all test l.initial.at-iterator ≡ list_all test l.at-iterator
