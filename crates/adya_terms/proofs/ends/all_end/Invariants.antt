use Rattle.std.proofs.Common.{◌≡◌, Bool, drop}
use Rattle.std.specs.List.{list_all}
use Rattle.adya_values.specs.Meaning.Histories.{Event}
use Rattle.adya_values.specs.Meaning.Events.{txn_of}
use Rattle.adya_terms.specs.Machinery.EventIndex.{indexed, is_done}
use Rattle.adya_terms.proofs.ends.all_end.Given as goal

abbrev pub invariant-loop-i : goal.invariant-loop-i
invariant-loop-i l =
    let all = indexed l.index in
    let test : Event → Bool = λ e. is_done l.index (txn_of e) in
    list_all test all ≡ list_all test (drop l.i all)
