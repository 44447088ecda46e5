-- The order lines of a recorded history.
use Rattle.std.specs.List.{Contains, cons_option, filter_map}
use Rattle.std.proofs.Common.{List, [], ap, arith, inl, inr, refl, suc, sym, zero, ℕ, ◌∙◌, ◌∷◌, ◌≡◌, ◌⊎◌}
use Rattle.std.proofs.lemmas.Bool.{both_ways, cases_Bool, cond-false, cond-true}
use Rattle.lemmas.proofs.Members.{none_contained}
use Rattle.lemmas.proofs.Orderings.{bytes_eq-from, bytes_eq-same}
use Rattle.adya_values.specs.Meaning.Histories.{Order}
use Rattle.adya_keys.specs.Meaning.Keys.{key_eq}
use Rattle.adya_values.specs.Meaning.Orders.{line_of, writers}
use Rattle.adya_values.specs.declared.edition.Edition.{Edition}
use Rattle.ssi_recorder.specs.Meaning.Recorded.{order_line}
use Rattle.ssi_store.specs.Meaning.Acts.{Aborts, Act, Collects, Commits, Gets, Scans, Begins, Writes}
use Rattle.ssi_store.specs.Meaning.Seeing.{keys, wrote}
use Rattle.ssi_store.proofs.LoggedHistories.{history_of_log, installers}
use Rattle.adya_values.proofs.InsertedKeys.{Contains-inserted}
use Rattle.ssi_store.proofs.OwnWrites.{wrote_key}

line_step : (f : List ℕ → List ℕ) (j k : List ℕ) (os : List Order) (l : List ℕ) → f j ≡ l
    → ((j ≡ k → f k ≡ []) → line_of os k ≡ f k) → line_of (cons_option (order_line j l) os) k ≡ f k
line_step f j k os [] e rest = rest (λ s. ap f (sym s) ∙ e)
line_step f j k os (t ∷ ts) e rest =
    elim (cases_Bool (key_eq j k)) [
      | inl same ↦ cond-true {A = List ℕ} (key_eq j k) (t ∷ ts) (line_of os k) same
          ∙ (sym e ∙ ap f (bytes_eq-same j k same))
      | inr other ↦ cond-false {A = List ℕ} (key_eq j k) (t ∷ ts) (line_of os k) other
          ∙ rest (λ s. absurd (both_ways _ other (bytes_eq-from j k s)))
    ]

line_made : (f : List ℕ → List ℕ) (js : List (List ℕ)) (k : List ℕ) → (Contains js k ⊎ (f k ≡ []))
    → line_of (filter_map (λ j. order_line j (f j)) js) k ≡ f k
line_made f [] k (inl c) = absurd (none_contained k c)
line_made f [] k (inr e) = sym e
line_made f (j ∷ js) k (inr e) = line_step f j k _ (f j) refl (λ h. line_made f js k (inr e))
line_made f (j ∷ js) k (inl (zero, l, s)) = line_step f j k _ (f j) refl (λ h. line_made f js k (inr (h s)))
line_made f (j ∷ js) k (inl (suc i, l, s)) = line_step f j k _ (f j) refl
    (λ h. line_made f js k (inl (i, omega (arith, l), s)))

-- a key without writes has no installers
installers_key : (k : List ℕ) (log : List Act) → Contains (keys log) k ⊎ (installers k log ≡ [])
installers_key k [] = inr refl
installers_key k (Begins u ∷ log) = installers_key k log
installers_key k (Gets u j ∷ log) = installers_key k log
installers_key k (Scans u low high ∷ log) = installers_key k log
installers_key k (Aborts u ∷ log) = installers_key k log
installers_key k (Writes u j c ∷ log) =
    elim (installers_key k log) [ inl there ↦ inl (Contains-inserted j (keys log) k there) | inr none ↦ inr none ]
installers_key k (Commits u ∷ log) =
    elim (cases_Bool (wrote u k log)) [
      | inl holds ↦ inl (wrote_key u k log holds)
      | inr fails ↦ elim (installers_key k log) [ inl there ↦ inl there | inr none ↦ inr (rw fails none) ]
    ]
installers_key k (Collects ∷ log) = installers_key k log

pub writers_are : (edition : Edition) (unfinished : List ℕ) (k : List ℕ) (log : List Act)
    → writers (history_of_log edition unfinished log) k ≡ installers k log
writers_are edition unfinished k log = line_made (λ j. installers j log) (keys log) k (installers_key k log)
