-- The numbers of keys: equal numbers are equal keys.
use Rattle.std.proofs.Common.{◌≡◌, ℕ, ◌==◌, ◌<◌, Bool, true, false, cond, List, [], ◌∷◌, length, get_or, map, Some, None, refl, sym, ◌∙◌, ap, subst}
use Rattle.std.specs.Prelude.{nat_lt}
use Rattle.std.specs.List.{list_all, position_or_len}
use Rattle.std.proofs.lemmas.Bool.{and_parts, eq-eqb, eqb-true, false_from_ne_true, ltb-true}
use Rattle.std.proofs.lemmas.List.Sums.{passes_at_first}
use Rattle.std.proofs.lemmas.Option.{get_or_from_slice_get, none-some, same_Some, slice_get-get_or}
use Rattle.adya_values.specs.Meaning.Histories.{Entry}
use Rattle.lemmas.proofs.Booleans.{same_test}
use Rattle.lemmas.proofs.Orderings.{bytes_eq-from, bytes_eq-same}
use Rattle.adya_values.specs.declared.events.Events.{Events}
use Rattle.adya_values.specs.declared.seen.Seen.{Seen}
use Rattle.adya_keys.specs.Meaning.Keys.{Key, key_eq}
use Rattle.adya_keys.specs.Machinery.Within.{key_at}
use Rattle.adya_values.specs.Mirror.Numbers.{has_seen, keys_of, seen_entry}
use Rattle.adya_keys.specs.Mirror.{number_in, AreNumbered}

-- the key of a number
pub key_is : (ks : List Key) (k : Key) (n : ℕ) → number_in ks k ≡ Some n → key_at ks n ≡ k
key_is ks k n e = by (nat_lt first (length ks)) refl
  where
    first : ℕ
    first = position_or_len (key_eq k) ks

    by : (b : Bool) → nat_lt first (length ks) ≡ b → key_at ks n ≡ k
    by true there =
        let same : first ≡ n = same_Some first n (ap (λ b. cond b (Some first) None) (sym there) ∙ e) in
        sym (bytes_eq-same k (key_at ks n) (subst (λ i. key_eq k (key_at ks i) ≡ true) same (passes_at_first (key_eq k) ks [] (ltb-true first (length ks) there))))
    by false past = absurd (none-some n (ap (λ b. cond b (Some first) None) (sym past) ∙ e))

module _ (ks : List Key) (numbered : AreNumbered ks) (n : ℕ) (within : n < length ks) (k : Key) where
  -- a key is equal to the key of a number if it has that number
  pub same_number : (j : ℕ) → number_in ks k ≡ Some j → (n == j) ≡ key_eq (key_at ks n) k
  same_number j e =
      same_test (n == j) (key_eq (key_at ks n) k)
      (λ t. bytes_eq-from _ _ (ap (key_at ks) (eqb-true n j t) ∙ key_is ks k j e))
      (λ t. eq-eqb n j (same_Some n j (sym (numbered n within) ∙ (ap (number_in ks) (bytes_eq-same _ _ t) ∙ e))))

  -- and not if it has none
  pub no_number : number_in ks k ≡ None → key_eq (key_at ks n) k ≡ false
  no_number e =
      false_from_ne_true _ (λ t. none-some n (sym e ∙ (ap (number_in ks) (sym (bytes_eq-same _ _ t)) ∙ numbered n within)))

-- keys of other numbers differ
pub keys_apart : (ks : List Key) → AreNumbered ks → (n m : ℕ) → n < length ks → m < length ks → (n == m) ≡ false → key_eq (key_at ks n) (key_at ks m) ≡ false
keys_apart ks numbered n m within also apart = sym (same_number ks numbered n within (key_at ks m) m (numbered m also)) ∙ apart

-- the key of what is seen has a number
pub seen_within : (es : Events) (s : Seen) → has_seen es s ≡ true → s.key < length (keys_of es)
seen_within es s there = ltb-true s.key (length (keys_of es)) (and_parts (nat_lt s.key (length (keys_of es))) _ there).0

pub seen_key : (es : Events) (other : Key) (s : Seen) → has_seen es s ≡ true → get_or (keys_of es) s.key other ≡ key_at (keys_of es) s.key
seen_key es other s there =
    let found = slice_get-get_or (keys_of es) s.key other (seen_within es s there) in
    sym (get_or_from_slice_get (keys_of es) s.key (get_or (keys_of es) s.key other) [] found)

-- the keys of what is seen, found by their numbers or else another
pub seen_keys : (es : Events) (other : Key) (ss : List Seen) → list_all (has_seen es) ss ≡ true
    → map (λ (s : Seen). get_or (keys_of es) s.key other) ss ≡ map (λ (w : Entry). w.version.key) (map (seen_entry es) ss)
seen_keys es other [] there = refl
seen_keys es other (s ∷ ss) there =
    let (here, rest) = and_parts (has_seen es s) _ there in
    ap (λ k. k ∷ map (λ (x : Seen). get_or (keys_of es) x.key other) ss) (seen_key es other s here) ∙ ap (λ ks. key_at (keys_of es) s.key ∷ ks) (seen_keys es other ss rest)
