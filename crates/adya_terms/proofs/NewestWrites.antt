-- What the places of the keys' newest writes say after one more event.
use Rattle.std.proofs.Common.{◌≡◌, ◌≢◌, ℕ, zero, suc, true, List, [], ◌∷◌, ◌++◌, replicate, set, Option, Some, None, slice_get, refl, sym, ◌∙◌, ap, inl, inr}
use Rattle.std.specs.List.{filter_map, cons_option, list_any}
use Rattle.std.proofs.lemmas.Bool.{cases_eq, or_left, or_right}
use Rattle.std.proofs.lemmas.List.Folds.{list_any-append}
use Rattle.std.proofs.lemmas.Option.{none-some, same_Some}
use Rattle.adya_values.specs.Meaning.Histories.{Entry, Event}
use Rattle.adya_values.specs.Meaning.Events.{written}
use Rattle.adya_values.specs.Computing.Faults.{entry_eq, is_entry}
use Rattle.adya_values.proofs.Entries.{entry_eq-turned}
use Rattle.adya_terms.specs.Machinery.Tables.{written_at, written_by}
use Rattle.adya_terms.specs.Machinery.NewestWrites.{AreWritten}
use Rattle.adya_terms.proofs.Tells.{written_more}

-- no places
pub written_zeros : (n : ℕ) (all : List Event) → AreWritten (replicate n 0) all []
written_zeros zero all i p at o is = absurd (none-some (suc p) at)
written_zeros (suc n) all zero p at o is = absurd cc
written_zeros (suc n) all (suc i) p at o is = written_zeros n all i p at o is

get_set : (xs : List ℕ) (n x y : ℕ) → slice_get (set xs n x) n ≡ Some y → x ≡ y
get_set [] n x y here = absurd (none-some y here)
get_set (z ∷ zs) zero x y here = same_Some x y here
get_set (z ∷ zs) (suc n) x y here = get_set zs n x y here

get_set_other : (xs : List ℕ) (n x i : ℕ) → i ≢ n → slice_get (set xs n x) i ≡ slice_get xs i
get_set_other [] n x i other = refl
get_set_other (y ∷ ys) zero x zero other = absurd (other refl)
get_set_other (y ∷ ys) zero x (suc i) other = refl
get_set_other (y ∷ ys) (suc n) x zero other = refl
get_set_other (y ∷ ys) (suc n) x (suc i) other = get_set_other ys n x i (λ e. other (ap suc e))

module _ (places : List ℕ) (all before : List Event) (e : Event) (m : AreWritten places all before) where
  still : (o : Entry) → list_any (entry_eq o) (filter_map written before) ≡ true → list_any (entry_eq o) (filter_map written (before ++ e ∷ [])) ≡ true
  still o there =
      ap (list_any (entry_eq o)) (written_more before e) ∙
      (list_any-append (entry_eq o) (filter_map written before) (cons_option (written e) []) ∙ or_left _ _ there)

  pub written_quiet : AreWritten places all (before ++ e ∷ [])
  written_quiet i p at o is = still o (m i p at o is)

  -- what the event writes was written with it
  now_written : (o : Entry) (w : Option Entry) → written e ≡ w → is_entry w o ≡ true → list_any (entry_eq o) (filter_map written (before ++ e ∷ [])) ≡ true
  now_written o None wrote is = absurd cc
  now_written o (Some w) wrote is =
      ap (list_any (entry_eq o)) (written_more before e) ∙
      (list_any-append (entry_eq o) (filter_map written before) (cons_option (written e) []) ∙
      or_right _ _ (ap (λ x. list_any (entry_eq o) (cons_option x [])) wrote ∙ or_left _ _ (entry_eq-turned o w ∙ is)))

  pub written_write : (n at x : ℕ) → ((p : ℕ) → x ≡ suc p → at ≡ p) → slice_get all at ≡ Some e → AreWritten (set places n x) all (before ++ e ∷ [])
  written_write n at x counted found i p here o is =
      elim (cases_eq i n) [
        | inl same ↦
            let this : at ≡ p = counted p (get_set places n x (suc p) (ap (slice_get (set places n x)) (sym same) ∙ here)) in
            now_written o (written e) refl (ap (λ q. is_entry (written_by q) o) (sym found) ∙ (ap (λ q. is_entry (written_at all (Some q)) o) this ∙ is))
        | inr other ↦ still o (m i p (sym (get_set_other places n x i other) ∙ here) o is)
      ]
