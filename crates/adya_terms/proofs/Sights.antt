-- What events see, by the numbers of keys.
use Rattle.std.proofs.Common.{◌≡◌, Bool, List, map, sym, ◌∙◌, ap}
use Rattle.std.specs.List.{list_all}
use Rattle.std.proofs.lemmas.List.Folds.{list_all-map}
use Rattle.adya_values.specs.declared.events.Events.{Events}
use Rattle.adya_values.specs.declared.seen.Seen.{Seen}
use Rattle.adya_values.specs.Meaning.Histories.{Entry, Event}
use Rattle.adya_values.specs.Meaning.Events.{observed}
use Rattle.adya_values.specs.Mirror.Numbers.{seen_entry}

-- a test of all that an event sees
pub all_seen : (p : Entry → Bool) (es : Events) (e : Event) (ss items : List Seen) → observed e ≡ map (seen_entry es) ss → items ≡ ss
    → list_all p (observed e) ≡ list_all (λ s. p (seen_entry es s)) items
all_seen p es e ss items sees same =
    ap (list_all p) sees ∙ (list_all-map p (seen_entry es) ss ∙ ap (list_all (λ s. p (seen_entry es s))) (sym same))
