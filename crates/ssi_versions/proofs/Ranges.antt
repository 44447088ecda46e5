-- What a range or a whole map shows, key by key.
use Rattle.std.proofs.Common.{◌≡◌, ℕ, ◌<◌, ◌+◌, Bool, true, false, cond, ◌&&◌, if◌then◌else◌, List, [], ◌∷◌, map, length, take, get_or, Option, Some, None, refl, ◌∙◌, ap, sym, nat_le, option_map, Less, Equal, Greater}
use Rattle.std.specs.List.{list_all}
use Rattle.std.specs.Map.{lookup, keys_of, values_of}
use Rattle.std.specs.BTreeMap.{is_at, insert_entry}
use Rattle.std.specs.Ordering.{nat_cmp, match_ordering, is_eq, is_lt}
use Rattle.std.specs.List.Sorted.{IsStrictlySortedBy}
use Rattle.std.specs.Cmp.Lexicographic.{slice_cmp, texts_ties, same_text, nat_list_eq_equiv}
use Rattle.std.proofs.lemmas.Bool.{and_parts, and_from}
use Rattle.adya_keys.specs.Meaning.Keys.{key_eq, key_lt, keys_rise}
use Rattle.ssi_versions.specs.Meaning.Changes.{Held, otherwise}
use Rattle.ssi_versions.specs.Clauses.ByStamp.{newest_within}
use Rattle.ssi_versions.specs.declared.held.Held.{Held as HeldValue}
use Rattle.ssi_versions.specs.Mirror.{held_of, is_of, chain_of, found_in, key_in}
use Rattle.ssi_versions.proofs.ByKey.{alone, newest_within-append, chain-more}

-- the map's test of keys is equality
pub tied : (k q : List ℕ) → is_at (slice_cmp nat_cmp k) q ≡ key_eq k q
tied k q = sym (texts_ties k q)

-- what a snapshot at the stamp sees of the key, if the key passes the test
abbrev pub seen_at : (List ℕ → Bool) → ℕ → List ℕ → List HeldValue → Option Held
seen_at passes s key xs = if passes key then newest_within s (chain_of key (map held_of xs)) else None

seen_more : (passes : List ℕ → Bool) (s : ℕ) (key : List ℕ) (xs : List HeldValue) (i : ℕ) (x : HeldValue) → i < length xs → x ≡ get_or xs i x
    → seen_at passes s key (take (i + 1) xs) ≡ cond (key_eq x.version.key key && (passes x.version.key && nat_le x.stamp s)) (Some (held_of x)) (seen_at passes s key (take i xs))
seen_more passes s key xs i x h is =
    let chain = chain_of key (map held_of (take i xs)) in
    let before = newest_within s chain in
    ap (λ o. if passes key then o else None) (ap (newest_within s) (chain-more key xs i x h is) ∙ newest_within-append s chain (chain_of key (held_of x ∷ [])))
    ∙ elim (key_eq x.version.key key) as (λ b. key_eq x.version.key key ≡ b
    → (if passes key then otherwise (newest_within s (cond b (held_of x ∷ []) [])) before else None)
    ≡ cond (b && (passes x.version.key && nat_le x.stamp s)) (Some (held_of x)) (if passes key then before else None)) [
      | true ↦ λ t.
          elim (passes key) as (λ m. (if m then otherwise (alone s (held_of x)) before else None) ≡ cond (m && nat_le x.stamp s) (Some (held_of x)) (if m then before else None)) [
            | true ↦ elim (nat_le x.stamp s) as (λ b. otherwise (cond b (Some (held_of x)) None) before ≡ cond b (Some (held_of x)) before) [
              | true ↦ refl
              | false ↦ refl
            ]
            | false ↦ refl
          ] ∙ ap (λ k. cond (passes k && nat_le x.stamp s) (Some (held_of x)) (if passes key then before else None)) (sym (same_text x.version.key key (sym t)))
      | false ↦ λ t. refl
    ] refl

pub seen_then : (passes : List ℕ → Bool) (s : ℕ) (key : List ℕ) (xs : List HeldValue) (i : ℕ) (x : HeldValue) (es fs : List (List ℕ × HeldValue)) → i < length xs → x ≡ get_or xs i x
    → (passes x.version.key && nat_le x.stamp s) ≡ true
    → lookup (is_at (slice_cmp nat_cmp key)) fs ≡ cond (is_at (slice_cmp nat_cmp x.version.key) key) (Some x) (lookup (is_at (slice_cmp nat_cmp key)) es)
    → option_map held_of (lookup (is_at (slice_cmp nat_cmp key)) es) ≡ seen_at passes s key (take i xs)
    → option_map held_of (lookup (is_at (slice_cmp nat_cmp key)) fs) ≡ seen_at passes s key (take (i + 1) xs)
seen_then passes s key xs i x es fs h is fits gives was =
    let old = lookup (is_at (slice_cmp nat_cmp key)) es in
    ap (option_map held_of) (gives ∙ ap (λ b. cond b (Some x) old) (tied x.version.key key))
    ∙ elim (key_eq x.version.key key) as (λ b. option_map held_of (cond b (Some x) old) ≡ cond (b && true) (Some (held_of x)) (seen_at passes s key (take i xs))) [
      | true ↦ refl
      | false ↦ was
    ]
    ∙ ap (λ b. cond (key_eq x.version.key key && b) (Some (held_of x)) (seen_at passes s key (take i xs))) (sym fits)
    ∙ sym (seen_more passes s key xs i x h is)

pub seen_else : (passes : List ℕ → Bool) (s : ℕ) (key : List ℕ) (xs : List HeldValue) (i : ℕ) (x : HeldValue) (es : List (List ℕ × HeldValue)) → i < length xs → x ≡ get_or xs i x
    → (passes x.version.key && nat_le x.stamp s) ≡ false
    → option_map held_of (lookup (is_at (slice_cmp nat_cmp key)) es) ≡ seen_at passes s key (take i xs)
    → option_map held_of (lookup (is_at (slice_cmp nat_cmp key)) es) ≡ seen_at passes s key (take (i + 1) xs)
seen_else passes s key xs i x es h is fits was =
    was
    ∙ elim (key_eq x.version.key key) as (λ b. seen_at passes s key (take i xs) ≡ cond (b && false) (Some (held_of x)) (seen_at passes s key (take i xs))) [
      | true ↦ refl
      | false ↦ refl
    ]
    ∙ ap (λ b. cond (key_eq x.version.key key && b) (Some (held_of x)) (seen_at passes s key (take i xs))) (sym fits)
    ∙ sym (seen_more passes s key xs i x h is)

-- each version is stored under its own key
abbrev pub are_owned : List (List ℕ × HeldValue) → Bool
are_owned es = list_all (λ e. is_of e.0 (held_of e.1)) es

pub are_owned-insert : (es : List (List ℕ × HeldValue)) (x : HeldValue) → are_owned es ≡ true → are_owned (insert_entry (slice_cmp nat_cmp) es x.version.key x) ≡ true
are_owned-insert [] x owned = and_from (key_eq x.version.key x.version.key) true (nat_list_eq_equiv.refl x.version.key) refl
are_owned-insert (e ∷ es) x owned =
    let o = and_parts (is_of e.0 (held_of e.1)) (are_owned es) owned in
    elim (slice_cmp nat_cmp x.version.key e.0) as (λ r. slice_cmp nat_cmp x.version.key e.0 ≡ r
    → are_owned (match_ordering r ((x.version.key, x) ∷ e ∷ es) ((e.0, x) ∷ es) (e ∷ insert_entry (slice_cmp nat_cmp) es x.version.key x)) ≡ true) [
      | Less ↦ λ t. and_from (key_eq x.version.key x.version.key) (are_owned (e ∷ es)) (nat_list_eq_equiv.refl x.version.key) owned
      | Equal ↦ λ t. and_from (key_eq x.version.key e.0) (are_owned es) (sym (tied x.version.key e.0) ∙ ap is_eq t) o.1
      | Greater ↦ λ t. and_from (is_of e.0 (held_of e.1)) (are_owned (insert_entry (slice_cmp nat_cmp) es x.version.key x)) o.0 (are_owned-insert es x o.1)
    ] refl

pub found_values : (q : List ℕ) (es : List (List ℕ × HeldValue)) → are_owned es ≡ true
    → found_in q (map held_of (values_of es)) ≡ option_map held_of (lookup (is_at (slice_cmp nat_cmp q)) es)
found_values q [] owned = refl
found_values q (e ∷ es) owned =
    let o = and_parts (is_of e.0 (held_of e.1)) (are_owned es) owned in
    let test : key_eq e.1.version.key q ≡ is_at (slice_cmp nat_cmp q) e.0 =
    ap (λ k. key_eq k q) (same_text e.1.version.key e.0 (sym o.0)) ∙ nat_list_eq_equiv.symm e.0 q ∙ sym (tied q e.0) in
    ap (λ b. if b then Some (held_of e.1) else found_in q (map held_of (values_of es))) test
    ∙ ap (λ r. if is_at (slice_cmp nat_cmp q) e.0 then Some (held_of e.1) else r) (found_values q es o.1)
    ∙ elim (is_at (slice_cmp nat_cmp q) e.0) as (λ b. (if b then Some (held_of e.1) else option_map held_of (lookup (is_at (slice_cmp nat_cmp q)) es)) ≡ option_map held_of (cond b (Some e.1) (lookup (is_at (slice_cmp nat_cmp q)) es))) [
      | true ↦ refl
      | false ↦ refl
    ]

keys_stored : (es : List (List ℕ × HeldValue)) → are_owned es ≡ true → map key_in (map held_of (values_of es)) ≡ keys_of es
keys_stored [] owned = refl
keys_stored (e ∷ es) owned =
    let o = and_parts (is_of e.0 (held_of e.1)) (are_owned es) owned in
    ap (λ k. k ∷ map key_in (map held_of (values_of es))) (same_text e.1.version.key e.0 (sym o.0)) ∙ ap (λ ks. e.0 ∷ ks) (keys_stored es o.1)

pub keys_rise-from_sorted : (ks : List (List ℕ)) → IsStrictlySortedBy (slice_cmp nat_cmp) ks → keys_rise ks ≡ true
unfolding IsStrictlySortedBy
keys_rise-from_sorted [] sorted = refl
keys_rise-from_sorted (k ∷ []) sorted = refl
keys_rise-from_sorted (k ∷ j ∷ ks) sorted = and_from (key_lt k j) (keys_rise (j ∷ ks)) (ap is_lt sorted.0.0) (keys_rise-from_sorted (j ∷ ks) sorted.1)

pub rising_values : (es : List (List ℕ × HeldValue)) → are_owned es ≡ true → IsStrictlySortedBy (slice_cmp nat_cmp) (keys_of es) → keys_rise (map key_in (map held_of (values_of es))) ≡ true
rising_values es owned sorted = ap keys_rise (keys_stored es owned) ∙ keys_rise-from_sorted (keys_of es) sorted
