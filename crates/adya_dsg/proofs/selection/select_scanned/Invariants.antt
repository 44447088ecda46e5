use Rattle.std.proofs.Common.{◌≡◌, ◌<◌, ◌≤◌, ◌++◌, ℕ, map, length, drop, All}
use Rattle.adya_values.specs.Meaning.Events.{listed}
use Rattle.adya_values.specs.Meaning.Histories.{Scan}
use Rattle.adya_values.specs.Meaning.Selections.{selected}
use Rattle.adya_dsg.specs.Machinery.VersionOrders.{ordered_entry, ordered_history, numbered}
use Rattle.adya_dsg.specs.Machinery.Choices.{choices, choice_of, key_at}
use Rattle.adya_dsg.proofs.Selections.{chosen_in}
use Rattle.adya_dsg.proofs.selection.select_scanned.Given as goal

abbrev pub invariant-loop-line : goal.invariant-loop-line
invariant-loop-line l =
    let h = ordered_history l.versions in
    let w = ordered_entry l.versions in
    let e = Scan l.txn (numbered l.versions l.low) (numbered l.versions l.high) (map w l.seen) in record {
      within : All (λ s. s.line < length h.orders) l.selections.items;
      choices : map (choice_of h) l.selections.items ++ chosen_in (selected h e) (drop l.line h.orders) ≡ choices h e;
      passed : (i : ℕ) → l.line ≤ i → i < length h.orders
          → listed (key_at h i) (map w (drop l.next l.seen)) ≡ listed (key_at h i) (map w l.seen);
    }
