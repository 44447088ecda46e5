use Rattle.std.proofs.Common.{◌∙◌, option_and_then, ap}
use Rattle.adya_values.specs.Meaning.Events.{observed, txn_of}
use Rattle.adya_values.specs.Mirror.Numbers.{both_at, bounds, seen_in}
use Rattle.adya_values.specs.Computing.Faults as faults
use Rattle.adya_terms.specs.Machinery.Telling.{keys_in}
use Rattle.adya_terms.proofs.Found.{found_is}
use Rattle.adya_terms.proofs.ScanEvents.{scan_shown}
use Rattle.adya_terms.proofs.rules.is_rising.Goals as goal

pub returns-in-Some : goal.returns-in-Some
returns-in-Some c e found =
    let t = c.args.tables.now in
    c.is_rising.ensures (txn_of e) ∙
    ap faults.is_rising (scan_shown c.of.result t.writes.events.now (seen_in c.observed-observed.result) e (both_at (keys_in t) (c.in-Some.low, c.in-Some.high))
    c.of.ensures.events c.of.ensures.low c.of.ensures.high (c.of.ensures.seen ∙ c.seen.ensures)
    (found_is observed _ e _ c.observed-observed.ensures.entries found) (c.in-Some.ensures.keys ∙ ap (option_and_then bounds) found))
