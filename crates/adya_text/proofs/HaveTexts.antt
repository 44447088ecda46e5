-- Histories of the code have texts: what their types say of each part, together.
use Rattle.std.proofs.Common.{◌≡◌, ◌<◌, ◌==◌, true, List, [], ◌∷◌, length, not, arith}
use Rattle.std.specs.List.{AllByRecursion, list_all}
use Rattle.std.proofs.lemmas.Bool.{and_parts}
use Rattle.std.proofs.lemmas.Bool.Decides.{nat_tests}
use Rattle.adya_keys.specs.Meaning.Keys.{IsTxn}
use Rattle.adya_values.specs.Meaning.Histories.{History, Order}
use Rattle.adya_values.specs.Computing.Shapes.{fits_edition, is_shape}
use Rattle.adya_line.specs.Meaning.Limits.{IsEvent, IsOrder, IsFinal}
use Rattle.adya_text.specs.Meaning.Texts.{IsHistory}

some_writer : (o : Order) → not (length o.writers == 0) ≡ true → 0 < length o.writers
some_writer o some = grind (arith, nat_tests)

orders_with_writers : (os : List Order) → list_all (λ o. not (length o.writers == 0)) os ≡ true
    → AllByRecursion (λ o. 0 < length o.writers → IsOrder o) os → AllByRecursion IsOrder os
orders_with_writers [] some all = tt
orders_with_writers (o ∷ os) some all =
    let both = and_parts _ _ some in (all.0 (some_writer o both.0), orders_with_writers os both.1 all.1)

-- a history whose parts are within their limits has a text if its lists are of the shape that each history has
pub within_has_text : (h : History) → fits_edition h.edition h.unfinished ≡ true
    → is_shape h.orders h.finals ≡ true → AllByRecursion IsTxn h.unfinished → AllByRecursion IsEvent h.events
    → AllByRecursion (λ o. 0 < length o.writers → IsOrder o) h.orders → AllByRecursion IsFinal h.finals → IsHistory h
within_has_text h edited shape unfinished events orders finals =
    let both = and_parts _ _ shape in
    let first = and_parts _ _ both.0 in
    record {
      edition = edited;
      unfinished = unfinished;
      events = events;
      orders = orders_with_writers h.orders first.0 orders;
      orders_rise = first.1;
      finals = finals;
      finals_rise = both.1;
    }
