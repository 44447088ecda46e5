-- Where a limited scan ends: it lists all that is shown up to there.
use Rattle.std.proofs.Common.{◌≡◌, ◌⊎◌, ℕ, zero, suc, ◌==◌, true, false, ◌&&◌, if◌then◌else◌, List, [], ◌∷◌, length, Option, Some, None, is_some, Contains, refl, ◌∙◌, ap, sym, subst, inl, inr, arith}
use Rattle.std.specs.List.{cons_option}
use Rattle.std.specs.Ordering.{nat_cmp, is_lt, is_le}
use Rattle.std.specs.declared.cmp.Ordering.{Ordering}
use Rattle.std.specs.declared.cmp.Ordering.TheVariants.{Less, Equal, Greater}
use Rattle.std.specs.Cmp.Lexicographic.{slice_cmp, nat_list_cmp_total}
use Rattle.std.proofs.lemmas.Bool.{and_parts, and_from, both_ways, ne_eqb, eqb-true, eq-eqb}
use Rattle.std.proofs.lemmas.Cmp.{tied_itself}
use Rattle.lemmas.proofs.Booleans.{same_test}
use Rattle.lemmas.proofs.Members.{Contains-head, Contains-cons}
use Rattle.lemmas.proofs.Orderings.{less_from_is_lt, tied_bytes, bytes_eq-same, bytes_lt-trans}
use Rattle.adya_keys.specs.Meaning.Keys.{key_eq, key_lt, key_le, keys_rise, lies_in}
use Rattle.adya_values.specs.Meaning.Histories.{Entry, FinalPair}
use Rattle.adya_values.specs.Meaning.Events.{last, listed, visible}
use Rattle.adya_values.specs.Meaning.Serial.{pair, visible_pair_of, visible_pairs}
use Rattle.adya_keys.proofs.Keys.{keys_rise-tail}
use Rattle.adya_values.proofs.KeyLookups.{listed_found}
use Rattle.ssi_snapshot.specs.Clauses.Listings.{keys, within, IsListing, up_to}
use Rattle.ssi_snapshot.specs.Meaning.Reached.{key_or, reached}
use Rattle.ssi_snapshot.specs.Laws.{LimitListsItsRange}
use Rattle.ssi_snapshot.proofs.Unique.{skip, below}

-- ---- at or below

le_itself : (a : List ℕ) → key_le a a ≡ true
le_itself a = ap is_le (tied_itself nat_list_cmp_total a)

le_from_lt : (a b : List ℕ) → key_lt a b ≡ true → key_le a b ≡ true
le_from_lt a b e = ap is_le (less_from_is_lt (slice_cmp nat_cmp a b) e)

le_cases : (a b : List ℕ) → key_le a b ≡ true → (key_lt a b ≡ true) ⊎ (a ≡ b)
le_cases a b e = by_order (slice_cmp nat_cmp a b) refl
  where
    by_order : (o : Ordering) → slice_cmp nat_cmp a b ≡ o → (key_lt a b ≡ true) ⊎ (a ≡ b)
    by_order Less f = inl (ap is_lt f)
    by_order Equal f = inr (tied_bytes a b f)
    by_order Greater f = absurd (both_ways (key_le a b) (ap is_le f) e)

le_trans : (a b c : List ℕ) → key_le a b ≡ true → key_le b c ≡ true → key_le a c ≡ true
le_trans a b c e f =
    elim (le_cases a b e) [
      | inr same ↦ subst (λ x. key_le x c ≡ true) (sym same) f
      | inl l ↦
          (elim (le_cases b c f) [
            | inr same ↦ subst (λ x. key_le a x ≡ true) same e
            | inl m ↦ le_from_lt a c (bytes_lt-trans a b c l m)
          ])
    ]

-- a key at or below the head of a rising list is at or below all of it
lower_head : (j k : List ℕ) (ws : List Entry) → key_le j k ≡ true → keys_rise (k ∷ keys ws) ≡ true → keys_rise (j ∷ keys ws) ≡ true
lower_head j k ws le rise =
    elim (le_cases j k le) [
      | inl lt ↦ skip j k ws lt rise
      | inr same ↦ subst (λ x. keys_rise (x ∷ keys ws) ≡ true) (sym same) rise
    ]

one_more : (a b : ℕ) → (suc a == suc b) ≡ (a == b)
one_more a b =
    same_test (suc a == suc b) (a == b)
    (λ e. eq-eqb a b (omega (arith, eqb-true (suc a) (suc b) e)))
    (λ e. eq-eqb (suc a) (suc b) (omega (arith, eqb-true a b e)))

-- the key of the last pair, if there is one
key_of_last : (j k : List ℕ) (p : FinalPair) (ps : List FinalPair) → key_or j (last (p ∷ ps)) ≡ key_or k (last (p ∷ ps))
key_of_last j k p [] = refl
key_of_last j k p (q ∷ ps) = key_of_last j k q ps

-- ---- the key at which the scan ends, entry by entry: k once no more visible ones are wanted

module _ (high : List ℕ) where
  abbrev end : List ℕ → ℕ → List Entry → List ℕ
  end k zero ws = k
  end k (suc n) [] = high
  end k (suc n) (w ∷ ws) = if is_some (visible w.content) then end w.version.key n ws else end k (suc n) ws

  end_is : (k : List ℕ) (n : ℕ) (ws : List Entry)
      → (if length (visible_pairs (up_to n ws)) == n then key_or k (last (visible_pairs (up_to n ws))) else high) ≡ end k n ws
  end_is k zero ws = refl
  end_is k (suc n) [] = ap (λ b. if b then k else high) (ne_eqb 0 (suc n) (λ e. omega (arith, e)))
  end_is k (suc n) (w ∷ ws) =
      elim (visible w.content) as (λ o. (if length (cons_option (visible_pair_of w.version.key o) (visible_pairs (if is_some o then up_to n ws else up_to (suc n) ws))) == suc n
      then key_or k (last (cons_option (visible_pair_of w.version.key o) (visible_pairs (if is_some o then up_to n ws else up_to (suc n) ws)))) else high)
      ≡ (if is_some o then end w.version.key n ws else end k (suc n) ws)) [
        | None ↦ end_is k (suc n) ws
        | Some v ↦
            let ps = visible_pairs (up_to n ws) in
            ap (λ b. if b then key_or k (last (pair w.version.key v ∷ ps)) else high) (one_more (length ps) n)
            ∙ ap (λ j. if length ps == n then j else high) (last_of v ps) ∙ end_is w.version.key n ws
      ]
    where
      last_of : (v : List ℕ) (ps : List FinalPair) → key_or k (last (pair w.version.key v ∷ ps)) ≡ key_or w.version.key (last ps)
      last_of v [] = refl
      last_of v (p ∷ ps) = key_of_last k w.version.key p ps

  -- a key below all of them is at or below the end
  end_above : (j k : List ℕ) (n : ℕ) (ws : List Entry) → (n ≡ 0 → key_le j k ≡ true) → key_le j high ≡ true → keys_rise (j ∷ keys ws) ≡ true
      → key_le j (end k n ws) ≡ true
  end_above j k zero ws at upper rise = at refl
  end_above j k (suc n) [] at upper rise = upper
  end_above j k (suc n) (w ∷ ws) at upper rise =
      let r = and_parts (key_lt j w.version.key) (keys_rise (keys (w ∷ ws))) rise in
      let later : keys_rise (j ∷ keys ws) ≡ true = skip j w.version.key ws r.0 r.1 in
      elim (is_some (visible w.content)) as (λ b. key_le j (if b then end w.version.key n ws else end k (suc n) ws) ≡ true) [
        | true ↦ end_above j w.version.key n ws (λ _. le_from_lt j w.version.key r.0) upper later
        | false ↦ end_above j k (suc n) ws (λ z. absurd (omega (arith, z))) upper later
      ]

  -- the end is at or below the end of the range
  end_below : (k : List ℕ) (n : ℕ) (ws : List Entry) → (n ≡ 0 → key_le k high ≡ true) → ((w : Entry) → Contains ws w → key_le w.version.key high ≡ true)
      → key_le (end k n ws) high ≡ true
  end_below k zero ws at upper = at refl
  end_below k (suc n) [] at upper = le_itself high
  end_below k (suc n) (w ∷ ws) at upper =
      elim (is_some (visible w.content)) as (λ b. key_le (if b then end w.version.key n ws else end k (suc n) ws) high ≡ true) [
        | true ↦ end_below w.version.key n ws (λ _. upper w (Contains-head w ws)) (λ v c. upper v (Contains-cons w ws v c))
        | false ↦ end_below k (suc n) ws (λ z. absurd (omega (arith, z))) (λ v c. upper v (Contains-cons w ws v c))
      ]

  -- it lists all up to the end
  listed_to_end : (k : List ℕ) (n : ℕ) (ws : List Entry) → (n ≡ 0 → keys_rise (k ∷ keys ws) ≡ true) → keys_rise (keys ws) ≡ true
      → ((w : Entry) → Contains ws w → key_le w.version.key high ≡ true) → (key : List ℕ)
      → listed key (up_to n ws) ≡ (if key_le key (end k n ws) then listed key ws else None)
  listed_to_end k zero ws at rise upper key =
      elim (key_le key k) as (λ b. key_le key k ≡ b → None ≡ (if b then listed key ws else None)) [
        | true ↦ λ le. sym (below key ws (lower_head key k ws le (at refl)))
        | false ↦ λ _. refl
      ] refl
  listed_to_end k (suc n) [] at rise upper key =
      elim (key_le key high) as (λ b. ◌≡◌ {A = Option Entry} None (if b then None else None)) [
        | true ↦ refl
        | false ↦ refl
      ]
  listed_to_end k (suc n) (w ∷ ws) at rise upper key =
      let tail : keys_rise (keys ws) ≡ true = keys_rise-tail w.version.key (keys ws) rise in
      let first : key_le w.version.key high ≡ true = upper w (Contains-head w ws) in
      let later = λ (v : Entry) (c : Contains ws v). upper v (Contains-cons w ws v c) in
      elim (is_some (visible w.content)) as (λ b. listed key (w ∷ (if b then up_to n ws else up_to (suc n) ws))
      ≡ (if key_le key (if b then end w.version.key n ws else end k (suc n) ws) then (if key_eq w.version.key key then Some w else listed key ws) else None)) [
        | true ↦ one w ws key (up_to n ws) (end w.version.key n ws)
            (end_above w.version.key w.version.key n ws (λ _. le_itself w.version.key) first rise)
            (listed_to_end w.version.key n ws (λ _. rise) tail later key)
        | false ↦ one w ws key (up_to (suc n) ws) (end k (suc n) ws)
            (end_above w.version.key k (suc n) ws (λ z. absurd (omega (arith, z))) first rise)
            (listed_to_end k (suc n) ws (λ z. absurd (omega (arith, z))) tail later key)
      ]
    where
      one : (w : Entry) (ws : List Entry) (key : List ℕ) (xs : List Entry) (to : List ℕ) → key_le w.version.key to ≡ true
          → listed key xs ≡ (if key_le key to then listed key ws else None)
          → listed key (w ∷ xs) ≡ (if key_le key to then (if key_eq w.version.key key then Some w else listed key ws) else None)
      one w ws key xs to le rest =
          elim (key_eq w.version.key key) as (λ b. key_eq w.version.key key ≡ b → (if b then Some w else listed key xs)
          ≡ (if key_le key to then (if b then Some w else listed key ws) else None)) [
            | true ↦ λ t. ap (λ b. if b then Some w else None) (sym (subst (λ j. key_le j to ≡ true) (bytes_eq-same w.version.key key t) le))
            | false ↦ λ _. rest
          ] refl

-- its keys rise
rises_after : (j : List ℕ) (n : ℕ) (ws : List Entry) → keys_rise (j ∷ keys ws) ≡ true → keys_rise (j ∷ keys (up_to n ws)) ≡ true
rises_after j zero ws rise = refl
rises_after j (suc n) [] rise = refl
rises_after j (suc n) (w ∷ ws) rise =
    let r = and_parts (key_lt j w.version.key) (keys_rise (keys (w ∷ ws))) rise in
    elim (is_some (visible w.content)) as (λ b. keys_rise (j ∷ w.version.key ∷ keys (if b then up_to n ws else up_to (suc n) ws)) ≡ true) [
      | true ↦ and_from (key_lt j w.version.key) (keys_rise (w.version.key ∷ keys (up_to n ws))) r.0 (rises_after w.version.key n ws r.1)
      | false ↦ and_from (key_lt j w.version.key) (keys_rise (w.version.key ∷ keys (up_to (suc n) ws))) r.0 (rises_after w.version.key (suc n) ws r.1)
    ]

rises_to_end : (n : ℕ) (ws : List Entry) → keys_rise (keys ws) ≡ true → keys_rise (keys (up_to n ws)) ≡ true
rises_to_end zero ws rise = refl
rises_to_end (suc n) [] rise = refl
rises_to_end (suc n) (w ∷ ws) rise =
    elim (is_some (visible w.content)) as (λ b. keys_rise (w.version.key ∷ keys (if b then up_to n ws else up_to (suc n) ws)) ≡ true) [
      | true ↦ rises_after w.version.key n ws rise
      | false ↦ rises_after w.version.key (suc n) ws rise
    ]

-- a listed entry lies in the range
in_range : (low high : List ℕ) (shows : List ℕ → Option Entry) (ws : List Entry) → IsListing (within low high shows) ws → (w : Entry) → Contains ws w
    → lies_in low high w.version.key ≡ true
in_range low high shows ws is w c =
    let key = w.version.key in
    let there : within low high shows key ≡ Some w = sym (is.each key) ∙ listed_found ws w is.rising c in
    elim (lies_in low high key) as (λ b. (if b then shows key else None) ≡ Some w → b ≡ true) [
      | true ↦ λ _. refl
      | false ↦ λ e. absurd (cc (e))
    ] there

pub limit_range : LimitListsItsRange
limit_range shows low high n ws some is =
    let upper = λ (w : Entry) (c : Contains ws w). (and_parts (key_le low w.version.key) (key_le w.version.key high) (in_range low high shows ws is w c)).1 in
    let to = end high high n ws in
    let below_high : key_le to high ≡ true = end_below high high n ws (λ _. le_itself high) upper in
    let here : reached high n (visible_pairs (up_to n ws)) ≡ to = end_is high high n ws in
    record {
      rising = rises_to_end n ws is.rising;
      each = λ key.
          listed_to_end high high n ws (λ z. absurd (omega (arith, some, z))) is.rising upper key
          ∙ ap (λ o. if key_le key to then o else None) (is.each key)
          ∙ elim (key_le key to) as (λ b. key_le key to ≡ b → (if b then (if key_le low key && key_le key high then shows key else None) else None)
          ≡ (if key_le low key && b then shows key else None)) [
            | true ↦ λ le. ap (λ b. if key_le low key && b then shows key else None) (le_trans key to high le below_high)
            | false ↦ λ _. elim (key_le low key) as (λ b. None ≡ (if b && false then shows key else None)) [
              | true ↦ refl
              | false ↦ refl
            ]
          ] refl
          ∙ ap (λ j. within low j shows key) (sym here);
    }
