-- The order lines and the final values of a map of lines have the shape of a history.
use Rattle.std.proofs.Common.{◌≡◌, ℕ, true, not, ◌==◌, List, [], ◌∷◌, map, length, Some, None, refl, ◌∙◌, ap}
use Rattle.std.specs.List.{filter_map, cons_option, AllByRecursion, list_all}
use Rattle.std.specs.List.Sorted.{IsStrictlySortedBy}
use Rattle.std.specs.Map.{keys_of, values_of}
use Rattle.std.specs.Ordering.{nat_cmp, is_lt}
use Rattle.std.specs.declared.cmp.Ordering.TheVariants.{Less}
use Rattle.std.specs.Cmp.Lexicographic.{slice_cmp}
use Rattle.std.proofs.lemmas.Bool.{and_from}
use Rattle.std.proofs.lemmas.List.{length-map}
use Rattle.adya_values.specs.declared.event.Entry.{Entry as EntryValue}
use Rattle.adya_keys.specs.Meaning.Keys.{key_lt, keys_rise}
use Rattle.adya_values.specs.Meaning.Histories.{Entry, Order, FinalPair}
use Rattle.adya_values.specs.Mirror.Events.{entry_of}
use Rattle.adya_values.specs.Meaning.Events.{last, shown}
use Rattle.adya_values.specs.Meaning.Serial.{visible_pair_of}
use Rattle.adya_values.specs.Computing.Shapes.{is_shape}
use Rattle.ssi_recorder.specs.Machinery.Lines.{Line, AreLines, line_entries, order_in, final_in}

pub keys_rise-from_sorted : (ks : List (List ℕ)) → IsStrictlySortedBy (slice_cmp nat_cmp) ks → keys_rise ks ≡ true
unfolding IsStrictlySortedBy
keys_rise-from_sorted [] sorted = refl
keys_rise-from_sorted (k ∷ []) sorted = refl
keys_rise-from_sorted (k ∷ j ∷ ks) sorted = and_from (key_lt k j) (keys_rise (j ∷ ks)) (ap is_lt sorted.0.0) (keys_rise-from_sorted (j ∷ ks) sorted.1)

order_keys : (es : List (List ℕ × Line)) → map (λ (o : Order). o.key) (map order_in es) ≡ keys_of es
order_keys [] = refl
order_keys (e ∷ es) = ap (λ ks. e.0 ∷ ks) (order_keys es)

-- no order line is empty
all_written : (es : List (List ℕ × Line)) → AreLines es → list_all (λ (o : Order). not (length o.writers == 0)) (map order_in es) ≡ true
all_written [] all = refl
all_written (e ∷ es) all =
    let n : length (map (λ (w : Entry). w.version.txn) (line_entries e.1)) ≡ length e.1.entries =
    length-map (line_entries e.1) (λ (w : Entry). w.version.txn) ∙ length-map (values_of e.1.entries) entry_of ∙ length-map e.1.entries (λ (x : ℕ × EntryValue). x.1) in
    and_from (not (length (order_in e).writers == 0)) (list_all (λ (o : Order). not (length o.writers == 0)) (map order_in es)) (ap (λ k. not (k == 0)) n ∙ all.0.0) (all_written es all.1)

all_finals : (P : List ℕ → Type 0) (es : List (List ℕ × Line)) → AllByRecursion P (keys_of es) → AllByRecursion P (map (λ (f : FinalPair). f.key) (filter_map final_in es))
all_finals P [] all = all
all_finals P (e ∷ es) all =
    elim (shown (last (line_entries e.1))) as (λ o. AllByRecursion P (map (λ (f : FinalPair). f.key) (cons_option (visible_pair_of e.0 o) (filter_map final_in es)))) [
      | None ↦ all_finals P es all.1
      | Some v ↦ (all.0, all_finals P es all.1)
    ]

-- the keys of the finals rise, since they are some of the keys of the lines
sorted_finals : (es : List (List ℕ × Line)) → IsStrictlySortedBy (slice_cmp nat_cmp) (keys_of es) → IsStrictlySortedBy (slice_cmp nat_cmp) (map (λ (f : FinalPair). f.key) (filter_map final_in es))
unfolding IsStrictlySortedBy
sorted_finals [] sorted = sorted
sorted_finals (e ∷ es) sorted =
    elim (shown (last (line_entries e.1))) as (λ o. IsStrictlySortedBy (slice_cmp nat_cmp) (map (λ (f : FinalPair). f.key) (cons_option (visible_pair_of e.0 o) (filter_map final_in es)))) [
      | None ↦ sorted_finals es sorted.1
      | Some v ↦ (all_finals (λ y. slice_cmp nat_cmp e.0 y ≡ Less) es sorted.0, sorted_finals es sorted.1)
    ]

pub shape_of : (es : List (List ℕ × Line)) → AreLines es → IsStrictlySortedBy (slice_cmp nat_cmp) (keys_of es) → is_shape (map order_in es) (filter_map final_in es) ≡ true
shape_of es all sorted =
    and_from _ _ (and_from _ _ (all_written es all) (ap keys_rise (order_keys es) ∙ keys_rise-from_sorted (keys_of es) sorted))
    (keys_rise-from_sorted (map (λ (f : FinalPair). f.key) (filter_map final_in es)) (sorted_finals es sorted))
