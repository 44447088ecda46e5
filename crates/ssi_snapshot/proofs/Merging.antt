-- Own writes over committed versions, key by key.
use Rattle.std.proofs.Common.{◌≡◌, ℕ, ◌<◌, ◌+◌, Bool, true, false, cond, if◌then◌else◌, List, [], ◌∷◌, map, drop, length, get_or, Option, Some, None, refl, ◌∙◌, ap, sym, subst, option_map, Less, Equal, Greater}
use Rattle.std.specs.Map.{lookup, keys_of, values_of}
use Rattle.std.specs.BTreeMap.{is_at, insert_entry}
use Rattle.std.specs.Ordering.{nat_cmp, match_ordering, is_eq, is_lt}
use Rattle.std.specs.List.Sorted.{IsStrictlySortedBy}
use Rattle.std.specs.Cmp.Lexicographic.{slice_cmp, texts_ties, nat_list_eq_equiv}
use Rattle.std.proofs.lemmas.Bool.{and_parts, and_from}
use Rattle.lemmas.proofs.Steps.{drop_step}
use Rattle.lemmas.proofs.Orderings.{bytes_eq-same, bytes_eq-itself}
use Rattle.adya_values.specs.declared.event.Entry.{Entry as EntryValue}
use Rattle.adya_keys.specs.Meaning.Keys.{key_eq, key_lt, keys_rise, lies_in}
use Rattle.adya_values.specs.Meaning.Histories.{Entry}
use Rattle.adya_values.specs.Mirror.Events.{entry_of}
use Rattle.adya_values.specs.Meaning.Events.{listed}
use Rattle.ssi_versions.specs.Meaning.Changes.{Held, otherwise, entry_in}
use Rattle.ssi_versions.specs.Mirror.{write_of}
use Rattle.ssi_snapshot.specs.Clauses.Listings.{keys}
use Rattle.ssi_snapshot.specs.Machinery.Stored.{are_keyed, entry_key, Write, stored_at}

abbrev Stored : Type 0
Stored = List (List ℕ × EntryValue)

-- one entry more
pub stored_put : (key : List ℕ) (x : EntryValue) (es fs : Stored)
    → lookup (is_at (slice_cmp nat_cmp key)) fs ≡ cond (is_at (slice_cmp nat_cmp x.version.key) key) (Some x) (lookup (is_at (slice_cmp nat_cmp key)) es)
    → stored_at key fs ≡ (if key_eq x.version.key key then Some (entry_of x) else stored_at key es)
stored_put key x es fs gives =
    let old = lookup (is_at (slice_cmp nat_cmp key)) es in
    ap (option_map entry_of) (gives ∙ ap (λ b. cond b (Some x) old) (sym (texts_ties x.version.key key)))
    ∙ elim (key_eq x.version.key key) as (λ b. option_map entry_of (cond b (Some x) old) ≡ (if b then Some (entry_of x) else option_map entry_of old)) [
      | true ↦ refl
      | false ↦ refl
    ]

pub keyed_put : (es : Stored) (x : EntryValue) → are_keyed entry_key es ≡ true
    → are_keyed entry_key (insert_entry (slice_cmp nat_cmp) es x.version.key x) ≡ true
keyed_put [] x keyed = and_from (key_eq x.version.key x.version.key) true (bytes_eq-itself x.version.key) refl
keyed_put (e ∷ es) x keyed =
    let o = and_parts (key_eq e.1.version.key e.0) (are_keyed entry_key es) keyed in
    elim (slice_cmp nat_cmp x.version.key e.0) as (λ r. slice_cmp nat_cmp x.version.key e.0 ≡ r
    → are_keyed entry_key (match_ordering r ((x.version.key, x) ∷ e ∷ es) ((e.0, x) ∷ es) (e ∷ insert_entry (slice_cmp nat_cmp) es x.version.key x)) ≡ true) [
      | Less ↦ λ t. and_from (key_eq x.version.key x.version.key) (are_keyed entry_key (e ∷ es)) (bytes_eq-itself x.version.key) keyed
      | Equal ↦ λ t. and_from (key_eq x.version.key e.0) (are_keyed entry_key es) (texts_ties x.version.key e.0 ∙ ap is_eq t) o.1
      | Greater ↦ λ t. and_from (key_eq e.1.version.key e.0) (are_keyed entry_key (insert_entry (slice_cmp nat_cmp) es x.version.key x)) o.0 (keyed_put es x o.1)
    ] refl

-- what the writes show of the key if it lies in the range
abbrev pub own_in : List ℕ → List ℕ → List ℕ → List Write → Option Entry
own_in low high key ws = if lies_in low high key then listed key (map write_of ws) else None

-- one own write more, from the back
pub own_more : (low high key : List ℕ) (ws : List Write) (i j : ℕ) (w : Write) (es fs : Stored) (first : Option Entry)
    → i < length ws → w ≡ get_or ws i w → j ≡ i + 1 → lies_in low high w.0.key ≡ true
    → stored_at key fs ≡ (if key_eq w.0.key key then Some (write_of w) else stored_at key es)
    → stored_at key es ≡ otherwise (own_in low high key (drop j ws)) first
    → stored_at key fs ≡ otherwise (own_in low high key (drop i ws)) first
own_more low high key ws i j w es fs first less is next inside gives was =
    let rest = listed key (map write_of (drop (i + 1) ws)) in
    gives
    ∙ elim (key_eq w.0.key key) as (λ b. key_eq w.0.key key ≡ b → (if b then Some (write_of w) else stored_at key es)
    ≡ otherwise (if lies_in low high key then (if b then Some (write_of w) else rest) else None) first) [
      | true ↦ λ t. ap (λ m. otherwise (if m then Some (write_of w) else None) first) (sym (ap (lies_in low high) (sym (bytes_eq-same w.0.key key t)) ∙ inside))
      | false ↦ λ f. subst (λ n. stored_at key es ≡ otherwise (own_in low high key (drop n ws)) first) next was
    ] refl
    ∙ ap (λ ys. otherwise (own_in low high key ys) first) (sym (drop_step ws i w less is))

-- and one that isn't in the range
pub own_less : (low high key : List ℕ) (ws : List Write) (i j : ℕ) (w : Write) (es : Stored) (first : Option Entry)
    → i < length ws → w ≡ get_or ws i w → j ≡ i + 1 → lies_in low high w.0.key ≡ false
    → stored_at key es ≡ otherwise (own_in low high key (drop j ws)) first
    → stored_at key es ≡ otherwise (own_in low high key (drop i ws)) first
own_less low high key ws i j w es first less is next outside was =
    let rest = listed key (map write_of (drop (i + 1) ws)) in
    let was' : stored_at key es ≡ otherwise (if lies_in low high key then rest else None) first =
    subst (λ n. stored_at key es ≡ otherwise (own_in low high key (drop n ws)) first) next was in
    elim (key_eq w.0.key key) as (λ b. key_eq w.0.key key ≡ b → stored_at key es ≡ otherwise (if lies_in low high key then (if b then Some (write_of w) else rest) else None) first) [
      | true ↦ λ t.
          let out : lies_in low high key ≡ false = ap (lies_in low high) (sym (bytes_eq-same w.0.key key t)) ∙ outside in
          was' ∙ ap (λ m. otherwise (if m then rest else None) first) out ∙ ap (λ m. otherwise (if m then Some (write_of w) else None) first) (sym out)
      | false ↦ λ f. was'
    ] refl
    ∙ ap (λ ys. otherwise (own_in low high key ys) first) (sym (drop_step ws i w less is))

-- the map as a list
pub listed_values : (q : List ℕ) (es : Stored) → are_keyed entry_key es ≡ true → listed q (map entry_of (values_of es)) ≡ stored_at q es
listed_values q [] keyed = refl
listed_values q (e ∷ es) keyed =
    let o = and_parts (key_eq e.1.version.key e.0) (are_keyed entry_key es) keyed in
    let test : key_eq e.1.version.key q ≡ is_at (slice_cmp nat_cmp q) e.0 =
    ap (λ k. key_eq k q) (bytes_eq-same e.1.version.key e.0 o.0) ∙ nat_list_eq_equiv.symm e.0 q ∙ texts_ties q e.0 in
    ap (λ b. if b then Some (entry_of e.1) else listed q (map entry_of (values_of es))) test
    ∙ elim (is_at (slice_cmp nat_cmp q) e.0) as (λ b. (if b then Some (entry_of e.1) else listed q (map entry_of (values_of es))) ≡ option_map entry_of (cond b (Some e.1) (lookup (is_at (slice_cmp nat_cmp q)) es))) [
      | true ↦ refl
      | false ↦ listed_values q es o.1
    ]

keys_stored : (es : Stored) → are_keyed entry_key es ≡ true → keys (map entry_of (values_of es)) ≡ keys_of es
keys_stored [] keyed = refl
keys_stored (e ∷ es) keyed =
    let o = and_parts (key_eq e.1.version.key e.0) (are_keyed entry_key es) keyed in
    ap (λ k. k ∷ keys (map entry_of (values_of es))) (bytes_eq-same e.1.version.key e.0 o.0) ∙ ap (λ ks. e.0 ∷ ks) (keys_stored es o.1)

keys_rise-from_sorted : (ks : List (List ℕ)) → IsStrictlySortedBy (slice_cmp nat_cmp) ks → keys_rise ks ≡ true
unfolding IsStrictlySortedBy
keys_rise-from_sorted [] sorted = refl
keys_rise-from_sorted (k ∷ []) sorted = refl
keys_rise-from_sorted (k ∷ j ∷ ks) sorted = and_from (key_lt k j) (keys_rise (j ∷ ks)) (ap is_lt sorted.0.0) (keys_rise-from_sorted (j ∷ ks) sorted.1)

pub rising_values : (es : Stored) → are_keyed entry_key es ≡ true → IsStrictlySortedBy (slice_cmp nat_cmp) (keys_of es)
    → keys_rise (keys (map entry_of (values_of es))) ≡ true
rising_values es keyed sorted = ap keys_rise (keys_stored es keyed) ∙ keys_rise-from_sorted (keys_of es) sorted

-- both together
pub both_shown : (b : Bool) (own : Option Entry) (held : Option Held)
    → otherwise (if b then own else None) (otherwise (entry_in (if b then held else None)) None) ≡ (if b then otherwise own (entry_in held) else None)
both_shown true own None = refl
both_shown true None (Some h) = refl
both_shown true (Some w) (Some h) = refl
both_shown false own held = refl
