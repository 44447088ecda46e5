-- Where limited scans end, and that a scan up to there gives the same rows.
use Rattle.std.specs.List.{Contains, cons_option, filter_map}
use Rattle.std.proofs.Common.{Bool, List, None, Option, Some, [], ap, arith, cond, false, if◌then◌else◌, inl, inr, length, refl, subst, suc, sym, take, true, zero, ℕ, ◌<◌, ◌==◌, ◌∙◌, ◌∷◌, ◌≡◌}
use Rattle.std.proofs.lemmas.Bool.{and_from, and_parts, and_right, cases_Bool, cond-false, cond-true, eqb-true, false_from_ne_true}
use Rattle.std.proofs.lemmas.Option.{none-some, same_Some}
use Rattle.lemmas.proofs.Filters.{filter_map-source}
use Rattle.lemmas.proofs.Members.{Contains-cons, Contains-head}
use Rattle.adya_values.specs.Meaning.Events.{last, visible}
use Rattle.adya_values.specs.Meaning.Histories.{Entry, FinalPair}
use Rattle.adya_keys.specs.Meaning.Keys.{key_le, key_lt, keys_rise, lies_in}
use Rattle.adya_values.specs.Meaning.Serial.{visible_pair_of, visible_pairs}
use Rattle.adya_keys.proofs.Keys.{keys_rise-tail}
use Rattle.adya_values.proofs.Writes.{last_contained}
use Rattle.ssi_snapshot.specs.Meaning.Reached.{key_or, reached}
use Rattle.ssi_store.specs.Meaning.Acts.{Act}
use Rattle.ssi_store.specs.Meaning.Replies.{rows}
use Rattle.ssi_store.specs.Meaning.Seeing.{keys, scanned, sees}
use Rattle.adya_keys.proofs.KeyOrder.{key_le-from_eq, key_le-from_lt, key_le-itself, key_le-trans, key_lt-from_le_lt, key_lt-never}
use Rattle.ssi_store.proofs.Lists.{Contains-take, filter_map_same, last_of_some, take_all}
use Rattle.adya_values.proofs.InsertedKeys.{head_below}
use Rattle.ssi_store.proofs.Rules.{scanned_source}
use Rattle.ssi_store.proofs.SeenByEvents.{sees_is}
use Rattle.ssi_store.proofs.OwnWrites.{keys_of_log_rise}

-- the row that an entry makes is of its key
pub row_key : (k : List ℕ) (v : Option (List ℕ)) (p : FinalPair) → visible_pair_of k v ≡ Some p → p.key ≡ k
row_key k None p e = absurd (none-some p e)
row_key k (Some v) p e = sym (ap (λ x. x.key) (same_Some _ p e))

-- the rows of a scan lie in its range
row_within : (t : ℕ) (low high : List ℕ) (log : List Act) (p : FinalPair) → Contains (rows t low high log) p
    → lies_in low high p.key ≡ true
row_within t low high log p c =
    let w = filter_map-source (λ x. visible_pair_of x.version.key (visible x.content)) (scanned t low high log) p c in
    subst (λ x. lies_in low high x ≡ true) (sym (row_key w.0.version.key (visible w.0.content) p w.2))
    (scanned_source t low high log w.0 w.1).0

reached_within : (low high : List ℕ) (n : ℕ) (rs : List FinalPair) → key_le low high ≡ true
    → ((p : FinalPair) → Contains rs p → lies_in low high p.key ≡ true) → lies_in low high (reached high n rs) ≡ true
reached_within low high n rs up each =
    elim (cases_Bool (length rs == n)) [
      | inl full ↦ rw full (by_last (last rs) refl)
      | inr short ↦ rw short (and_from (key_le low high) (key_le high high) up (key_le-itself high))
    ]
  where
    by_last : (o : Option FinalPair) → last rs ≡ o → lies_in low high (key_or high o) ≡ true
    by_last None e = and_from (key_le low high) (key_le high high) up (key_le-itself high)
    by_last (Some p) e = each p (last_contained rs p e)

pub reached_upward : (t : ℕ) (low high : List ℕ) (n : ℕ) (log : List Act) → key_le low high ≡ true
    → key_le low (reached high n (take n (rows t low high log))) ≡ true
reached_upward t low high n log up =
    (and_parts (key_le low (reached high n (take n (rows t low high log))))
    (key_le (reached high n (take n (rows t low high log))) high)
    (reached_within low high n (take n (rows t low high log)) up
    (λ p c. row_within t low high log p (Contains-take n (rows t low high log) p c)))).0

-- what an entry shows as a row
abbrev row_in : Option Entry → Option FinalPair
row_in None = None
row_in (Some w) = visible_pair_of w.version.key (visible w.content)

pairs_of_made : (f : List ℕ → Option Entry) (js : List (List ℕ))
    → visible_pairs (filter_map f js) ≡ filter_map (λ j. row_in (f j)) js
pairs_of_made f [] = refl
pairs_of_made f (j ∷ js) = one (f j) (filter_map f js) ∙ ap (cons_option (row_in (f j))) (pairs_of_made f js)
  where
    one : (l : Option Entry) (es : List Entry)
        → visible_pairs (cons_option l es) ≡ cons_option (row_in l) (visible_pairs es)
    one None es = refl
    one (Some w) es = refl

module _ (low : List ℕ) (r : List ℕ → Option FinalPair)
    (own : (j : List ℕ) (p : FinalPair) → r j ≡ Some p → p.key ≡ j) where
  abbrev pub within : List ℕ → List ℕ → Option FinalPair
  within high j = cond (lies_in low high j) (r j) None

  within_some : (high j : List ℕ) (p : FinalPair) → within high j ≡ Some p
      → (lies_in low high j ≡ true) × (r j ≡ Some p)
  within_some high j p e =
      elim (cases_Bool (lies_in low high j)) [
        | inl inside ↦ (inside, rw inside at e)
        | inr out ↦ absurd (let nothing : None ≡ Some p = rw out at e in none-some p nothing)
      ]

  -- the row of a list made so is of a key of it, inside the range
  within_source : (high : List ℕ) (js : List (List ℕ)) (p : FinalPair) → Contains (filter_map (within high) js) p
      → (lies_in low high p.key ≡ true) × Contains js p.key
  within_source high js p c =
      let j = filter_map-source (within high) js p c in
      let both = within_some high j.0 p j.2 in
      let at : p.key ≡ j.0 = own j.0 p both.1 in
      (subst (λ x. lies_in low high x ≡ true) (sym at) both.0, subst (Contains js) (sym at) j.1)

  -- no row where all keys lie above
  none_above : (high : List ℕ) (js : List (List ℕ)) → ((y : List ℕ) → Contains js y → key_lt high y ≡ true)
      → filter_map (within high) js ≡ []
  none_above high [] h = refl
  none_above high (j ∷ js) h =
      let out : lies_in low high j ≡ false = and_right (key_le low j) (key_le j high)
      (false_from_ne_true (key_le j high)
      (λ le. key_lt-never j (key_lt-from_le_lt j high j le (h j (Contains-head j js))))) in
      ap (λ b. cons_option (cond b (r j) None) (filter_map (within high) js)) out
      ∙ none_above high js (λ y c. h y (Contains-cons j js y c))

  -- a key that makes no row below one bound makes none below a smaller one
  none_lower : (high lower j : List ℕ) → key_le lower high ≡ true → within high j ≡ None → within lower j ≡ None
  none_lower high lower j le e =
      elim (cases_Bool (lies_in low lower j)) [
        | inl inside ↦
            let both = and_parts (key_le low j) (key_le j lower) inside in
            let wide : lies_in low high j ≡ true = and_from (key_le low j) (key_le j high) both.0
            (key_le-trans j lower high both.1 le) in
            let nothing : r j ≡ None = rw wide at e in
            cond-true {A = Option FinalPair} (lies_in low lower j) (r j) None inside ∙ nothing
        | inr out ↦ cond-false {A = Option FinalPair} (lies_in low lower j) (r j) None out
      ]

  cut_some : (high j : List ℕ) (js : List (List ℕ)) → keys_rise (j ∷ js) ≡ true → (q : FinalPair)
      → within high j ≡ Some q → (m : ℕ) (p : FinalPair)
      → (last (take m (filter_map (within high) js)) ≡ Some p → length (take m (filter_map (within high) js)) ≡ m
      → filter_map (within p.key) js ≡ take m (filter_map (within high) js))
      → (ys : List FinalPair) → take m (filter_map (within high) js) ≡ ys → last (q ∷ ys) ≡ Some p → length ys ≡ m
      → cons_option (within p.key j) (filter_map (within p.key) js) ≡ q ∷ ys
  cut_some high j js rise q e m p rest [] t l len =
      let both = within_some high j q e in
      let same : q ≡ p = same_Some q p l in
      let at : p.key ≡ j = ap (λ x. x.key) (sym same) ∙ own j q both.1 in
      let inside : lies_in low p.key j ≡ true = and_from (key_le low j) (key_le j p.key)
      (and_parts (key_le low j) (key_le j high) both.0).0 (key_le-from_eq j p.key (sym at)) in
      ap (λ b. cons_option (cond b (r j) None) (filter_map (within p.key) js)) inside ∙
      (ap (λ o. cons_option o (filter_map (within p.key) js)) both.1 ∙
      ap (λ ys. q ∷ ys) (none_above p.key js
      (λ y c. subst (λ x. key_lt x y ≡ true) (sym at) (head_below j js y rise c))))
  cut_some high j js rise q e m p rest (x ∷ xs) t l len =
      let both = within_some high j q e in
      let more = rest (ap last t ∙ l) (ap length t ∙ len) in
      let there : Contains (take m (filter_map (within high) js)) p = subst (λ ys. Contains ys p) (sym t)
      (last_contained (x ∷ xs) p l) in
      let key_there = (within_source high js p (Contains-take m (filter_map (within high) js) p there)).1 in
      let inside : lies_in low p.key j ≡ true = and_from (key_le low j) (key_le j p.key)
      (and_parts (key_le low j) (key_le j high) both.0).0
      (key_le-from_lt j p.key (head_below j js p.key rise key_there)) in
      ap (λ b. cons_option (cond b (r j) None) (filter_map (within p.key) js)) inside ∙
      (ap (λ o. cons_option o (filter_map (within p.key) js)) both.1 ∙
      ap (λ ys. q ∷ ys) (more ∙ t))

  cut_step : (high j : List ℕ) (js : List (List ℕ)) → keys_rise (j ∷ js) ≡ true → (o : Option FinalPair)
      → within high j ≡ o → (n : ℕ) (p : FinalPair)
      → ((m : ℕ) → last (take m (filter_map (within high) js)) ≡ Some p
      → length (take m (filter_map (within high) js)) ≡ m
      → filter_map (within p.key) js ≡ take m (filter_map (within high) js))
      → last (take n (cons_option o (filter_map (within high) js))) ≡ Some p
      → length (take n (cons_option o (filter_map (within high) js))) ≡ n
      → cons_option (within p.key j) (filter_map (within p.key) js) ≡ take n
      (cons_option o (filter_map (within high) js))
  cut_step high j js rise None e n p rest l len =
      let there = last_contained (take n (filter_map (within high) js)) p l in
      let inside = (within_source high js p (Contains-take n (filter_map (within high) js) p there)).0 in
      let le = (and_parts (key_le low p.key) (key_le p.key high) inside).1 in
      ap (λ o. cons_option o (filter_map (within p.key) js)) (none_lower high p.key j le e) ∙ rest n l len
  cut_step high j js rise (Some q) e zero p rest l len = absurd (none-some p l)
  cut_step high j js rise (Some q) e (suc m) p rest l len =
      cut_some high j js rise q e m p (rest m) (take m (filter_map (within high) js)) refl l (omega (arith, len))

  -- where as many rows as the limit were found, a scan up to the last of them gives just these
  cut : (high : List ℕ) (js : List (List ℕ)) → keys_rise js ≡ true → (n : ℕ) (p : FinalPair)
      → last (take n (filter_map (within high) js)) ≡ Some p → length (take n (filter_map (within high) js)) ≡ n
      → filter_map (within p.key) js ≡ take n (filter_map (within high) js)
  cut high [] rise zero p l len = absurd (none-some p l)
  cut high [] rise (suc n) p l len = absurd (none-some p l)
  cut high (j ∷ js) rise n p l len =
      cut_step high j js rise (within high j) refl n p (λ m e f. cut high js (keys_rise-tail j js rise) m p e f) l len

rows_are : (t : ℕ) (low high : List ℕ) (log : List Act)
    → rows t low high log ≡ filter_map (λ j. cond (lies_in low high j) (row_in (sees t j log)) None) (keys log)
rows_are t low high log =
    pairs_of_made (λ k. if lies_in low high k then sees t k log else None) (keys log) ∙
    filter_map_same (λ j. row_in (if lies_in low high j then sees t j log else None))
    (λ j. cond (lies_in low high j) (row_in (sees t j log)) None) (keys log)
    (λ j. by_test (lies_in low high j) (sees t j log))
  where
    by_test : (b : Bool) (o : Option Entry) → row_in (cond b o None) ≡ cond b (row_in o) None
    by_test true o = refl
    by_test false o = refl

seen_key : (t : ℕ) (log : List Act) (j : List ℕ) (p : FinalPair) → row_in (sees t j log) ≡ Some p → p.key ≡ j
seen_key t log j p e = by_seen (sees t j log) refl e
  where
    by_seen : (o : Option Entry) → sees t j log ≡ o → row_in o ≡ Some p → p.key ≡ j
    by_seen None f e = absurd (none-some p e)
    by_seen (Some w) f e = row_key w.version.key (visible w.content) p e ∙ (sees_is t j log w f).0

-- the rows of a limited scan are all rows of the range that it reached
pub limited_rows : (t : ℕ) (low high : List ℕ) (n : ℕ) (log : List Act) → 0 < n
    → rows t low (reached high n (take n (rows t low high log))) log ≡ take n (rows t low high log)
limited_rows t low high n log some =
    elim (cases_Bool (length (take n (rows t low high log)) == n)) [
      | inl full ↦
          let size : length (take n (rows t low high log)) ≡ n = eqb-true _ n full in
          let final = last_of_some (take n (rows t low high log)) (omega (arith, size, some)) in
          let at : reached high n (take n (rows t low high log)) ≡ final.0.key =
          cond-true {A = List ℕ} (length (take n (rows t low high log)) == n)
          (key_or high (last (take n (rows t low high log)))) high full ∙ ap (key_or high) final.1 in
          let are = rows_are t low high log in
          ap (λ h. rows t low h log) at ∙
          (rows_are t low final.0.key log ∙
          (cut low (λ j. row_in (sees t j log)) (seen_key t log) high (keys log) (keys_of_log_rise log) n final.0
          (ap (λ l. last (take n l)) (sym are) ∙ final.1) (ap (λ l. length (take n l)) (sym are) ∙ size) ∙
          ap (take n) (sym are)))
      | inr short ↦
          ap (λ h. rows t low h log) (cond-false {A = List ℕ} (length (take n (rows t low high log)) == n)
          (key_or high (last (take n (rows t low high log)))) high short) ∙
          sym (take_all n (rows t low high log) short)
    ]
