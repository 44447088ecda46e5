use Rattle.std.proofs.Common.{◌≡◌, suc, ◌++◌, length, drop, filter}
use Rattle.adya_values.specs.Meaning.Orders.{is_visible_at}
use Rattle.adya_values.specs.Meaning.Selections.{changes_matches}
use Rattle.adya_values.specs.Computing.EdgeList.{numbers}
use Rattle.adya_terms.specs.Clauses.Checked.{checked_history}
use Rattle.adya_dsg.specs.Machinery.Choices.{key_at}
use Rattle.adya_dsg.specs.Machinery.Links.{changed_places}
use Rattle.adya_dsg.proofs.changes.push_changed.Given as goal

abbrev pub invariant-loop-i : goal.invariant-loop-i
invariant-loop-i l =
    let h = checked_history l.checked in
    let k = key_at h l.line in record {
      before : l.was ≡ is_visible_at h k l.i;
      all : l.places.items ++ filter (changes_matches h k) (numbers (suc l.i) (length (drop l.i l.txns)))
          ≡ l.initial.places.items ++ changed_places h k;
    }
