-- What a range of a map of chains shows, and what all of it shows.
use Rattle.std.proofs.Common.{◌≡◌, ℕ, Bool, true, false, cond, ◌&&◌, not, if◌then◌else◌, List, [], ◌∷◌, map, Option, Some, None, refl, ◌∙◌, ap, sym, subst, nat_le}
use Rattle.std.specs.List.{cons_option, filter, filter_map, list_all, AllByRecursion, IsDistinct}
use Rattle.std.specs.Map.{keys_of, values_of}
use Rattle.std.specs.BTreeMap.{is_at}
use Rattle.std.specs.BTreeMap.Range.{range_contains}
use Rattle.std.specs.declared.ops.Bound.TheVariants.{Included}
use Rattle.std.specs.declared.cmp.Ordering.{Ordering}
use Rattle.std.specs.declared.cmp.Ordering.TheVariants.{Less, Equal, Greater}
use Rattle.std.specs.Ordering.{nat_cmp, is_lt, is_le, ordering_reverse, eq_by_cmp}
use Rattle.std.specs.List.Sorted.{IsStrictlySortedBy}
use Rattle.std.specs.Cmp.{eq_by_cmp_equiv}
use Rattle.std.specs.Cmp.Lexicographic.{slice_cmp, same_text, nat_list_eq_equiv, nat_list_cmp_total}
use Rattle.std.proofs.lemmas.Bool.{and_parts}
use Rattle.std.proofs.lemmas.Map.{lookup-none}
use Rattle.std.proofs.lemmas.Option.{same_Some}
use Rattle.std.proofs.lemmas.Map.Keys.{IsDistinct-tail, IsDistinct-from_sorted}
use Rattle.std.proofs.lemmas.Map.Entries.{none_past_head}
use Rattle.adya_keys.specs.Meaning.Keys.{key_eq, key_le, keys_rise, lies_in}
use Rattle.ssi_versions.specs.Meaning.Changes.{Held, otherwise}
use Rattle.ssi_versions.specs.Clauses.ByStamp.{newest_within}
use Rattle.ssi_versions.specs.Mirror.{is_of, chain_of, found_in, key_in}
use Rattle.ssi_versions.specs.Machinery.Keyed.{Chain, held_in, kept_at, held_under, held_at, versions, is_owned, seen_between, seen_in}
use Rattle.ssi_versions.proofs.ByKey.{alone}
use Rattle.ssi_versions.proofs.Ranges.{tied, keys_rise-from_sorted}
use Rattle.ssi_versions.proofs.Entries.{chain_get}

not_above : (o : Ordering) → not (is_lt (ordering_reverse o)) ≡ is_le o
not_above Less = refl
not_above Equal = refl
not_above Greater = refl

same_range : (low high k : List ℕ) → range_contains (slice_cmp nat_cmp) (Included low) (Included high) k ≡ lies_in low high k
same_range low high k = ap (λ b. key_le low k && b) (ap (λ o. not (is_lt o)) (nat_list_cmp_total.antisymm high k) ∙ not_above (slice_cmp nat_cmp k high))

-- the newest of a key's versions is of that key
newest_is_of : (k : List ℕ) (s : ℕ) (hs : List Held) (h : Held) → list_all (is_of k) hs ≡ true → newest_within s hs ≡ Some h → is_of k h ≡ true
newest_is_of k s [] h mine is = cc
newest_is_of k s (g ∷ hs) h mine is =
    let m = and_parts (is_of k g) (list_all (is_of k) hs) mine in
    elim (newest_within s hs) as (λ o. newest_within s hs ≡ o → otherwise o (alone s g) ≡ Some h → is_of k h ≡ true) [
      | None ↦ λ e p. elim (nat_le g.stamp s) as (λ b. cond b (Some g) None ≡ Some h → is_of k h ≡ true) [
        | true ↦ λ r. ap (is_of k) (sym (same_Some g h r)) ∙ m.0
        | false ↦ λ r. cc
      ] p
      | Some x ↦ λ e p. newest_is_of k s hs h m.1 (e ∙ p)
    ] refl is

-- one chain more in front, of the key or of another
abbrev pub before : Option Held → List Held → List Held
before None hs = hs
before (Some h) hs = h ∷ hs

here : (q k : List ℕ) (s : ℕ) (hs rest : List Held) → q ≡ k → list_all (is_of k) hs ≡ true → found_in q rest ≡ None → found_in q (before (newest_within s hs) rest) ≡ newest_within s hs
here q k s hs rest same mine nothing =
    elim (newest_within s hs) as (λ o. newest_within s hs ≡ o → found_in q (before o rest) ≡ o) [
      | None ↦ λ e. nothing
      | Some h ↦ λ e. ap (λ b. if b then Some h else found_in q rest) (subst (λ x. is_of x h ≡ true) (sym same) (newest_is_of k s hs h mine e))
    ] refl

there : (q k : List ℕ) (s : ℕ) (hs rest : List Held) → key_eq k q ≡ false → list_all (is_of k) hs ≡ true → found_in q (before (newest_within s hs) rest) ≡ found_in q rest
there q k s hs rest other mine =
    elim (newest_within s hs) as (λ o. newest_within s hs ≡ o → found_in q (before o rest) ≡ found_in q rest) [
      | None ↦ λ e. refl
      | Some h ↦ λ e. ap (λ b. if b then Some h else found_in q rest) (subst (λ x. key_eq x q ≡ false) (sym (same_text h.entry.version.key k (sym (newest_is_of k s hs h mine e)))) other)
    ] refl

-- of the chains whose keys pass the test, what a snapshot at the stamp sees
abbrev pub seen_of : (List ℕ → Bool) → ℕ → List Chain → List Held
seen_of passes s es = filter_map (λ e. newest_within s (held_in e.1)) (filter (λ e. passes e.0) es)

found_in_seen : (passes : List ℕ → Bool) (s : ℕ) (q : List ℕ) (es : List Chain) → is_owned es ≡ true → IsDistinct (eq_by_cmp (slice_cmp nat_cmp)) (keys_of es)
    → found_in q (seen_of passes s es) ≡ (if passes q then newest_within s (held_at q es) else None)
found_in_seen passes s q [] owned apart =
    elim (passes q) as (λ b. ◌≡◌ {A = Option Held} None (if b then None else None)) [
      | true ↦ refl
      | false ↦ refl
    ]
found_in_seen passes s q (e ∷ es) owned apart =
    let o = and_parts (list_all (is_of e.0) (held_in e.1)) (is_owned es) owned in
    let again = found_in_seen passes s q es o.1 (IsDistinct-tail (eq_by_cmp (slice_cmp nat_cmp)) e.0 (keys_of es) apart) in
    let rest = seen_of passes s es in
    let others = filter (λ (x : Chain). passes x.0) es in
    elim (is_at (slice_cmp nat_cmp q) e.0) as (λ b. is_at (slice_cmp nat_cmp q) e.0 ≡ b → found_in q (seen_of passes s (e ∷ es)) ≡ (if passes q then newest_within s (held_under (cond b (Some e.1) (kept_at q es))) else None)) [
      | true ↦ λ t.
          let same : q ≡ e.0 = same_text q e.0 (sym (sym (tied q e.0) ∙ t)) in
          let gone : kept_at q es ≡ None = lookup-none (is_at (slice_cmp nat_cmp q)) es (none_past_head (eq_by_cmp_equiv nat_list_cmp_total) q e es apart t) in
          let nothing : found_in q rest ≡ None = again ∙ ap (λ k. if passes q then newest_within s (held_under k) else None) gone
          ∙ elim (passes q) as (λ b. ◌≡◌ {A = Option Held} (if b then None else None) None) [ true ↦ refl | false ↦ refl ] in
          elim (passes e.0) as (λ b. found_in q (filter_map (λ x. newest_within s (held_in x.1)) (cond b (e ∷ others) others)) ≡ (if b then newest_within s (held_in e.1) else None)) [
            | true ↦ here q e.0 s (held_in e.1) rest same o.0 nothing
            | false ↦ nothing
          ] ∙ ap (λ k. if passes k then newest_within s (held_in e.1) else None) (sym same)
      | false ↦ λ t.
          let other : key_eq e.0 q ≡ false = nat_list_eq_equiv.symm e.0 q ∙ sym (tied q e.0) ∙ t in
          elim (passes e.0) as (λ b. found_in q (filter_map (λ x. newest_within s (held_in x.1)) (cond b (e ∷ others) others)) ≡ found_in q rest) [
            | true ↦ there q e.0 s (held_in e.1) rest other o.0
            | false ↦ refl
          ] ∙ again
    ] refl

found_seen : (passes : List ℕ → Bool) (s : ℕ) (q : List ℕ) (es : List Chain) → is_owned es ≡ true → IsStrictlySortedBy (slice_cmp nat_cmp) (keys_of es)
    → found_in q (seen_of passes s es) ≡ (if passes q then newest_within s (chain_of q (versions es)) else None)
found_seen passes s q es owned sorted =
    found_in_seen passes s q es owned (IsDistinct-from_sorted (slice_cmp nat_cmp) (keys_of es) sorted)
    ∙ ap (λ hs. if passes q then newest_within s hs else None) (sym (chain_get q es owned sorted))

pub found_between : (low high : List ℕ) (s : ℕ) (q : List ℕ) (es : List Chain) → is_owned es ≡ true → IsStrictlySortedBy (slice_cmp nat_cmp) (keys_of es)
    → found_in q (seen_between low high s es) ≡ (if lies_in low high q then newest_within s (chain_of q (versions es)) else None)
found_between low high s q es owned sorted =
    found_seen (range_contains (slice_cmp nat_cmp) (Included low) (Included high)) s q es owned sorted
    ∙ ap (λ b. if b then newest_within s (chain_of q (versions es)) else None) (same_range low high q)

-- all chains are seen if each key passes
seen_values : (s : ℕ) (es : List Chain) → seen_in s (values_of es) ≡ seen_of (λ k. true) s es
seen_values s [] = refl
seen_values s (e ∷ es) = ap (cons_option (newest_within s (held_in e.1))) (seen_values s es)

pub found_all : (s : ℕ) (q : List ℕ) (es : List Chain) → is_owned es ≡ true → IsStrictlySortedBy (slice_cmp nat_cmp) (keys_of es)
    → found_in q (seen_in s (values_of es)) ≡ newest_within s (chain_of q (versions es))
found_all s q es owned sorted = ap (found_in q) (seen_values s es) ∙ found_seen (λ k. true) s q es owned sorted

-- the listed keys are keys of the map, in its order
all_seen : (P : List ℕ → Type 0) (passes : List ℕ → Bool) (s : ℕ) (es : List Chain) → is_owned es ≡ true → AllByRecursion P (keys_of es) → AllByRecursion P (map key_in (seen_of passes s es))
all_seen P passes s [] owned all = all
all_seen P passes s (e ∷ es) owned all =
    let o = and_parts (list_all (is_of e.0) (held_in e.1)) (is_owned es) owned in
    let again = all_seen P passes s es o.1 all.1 in
    let others = filter (λ (x : Chain). passes x.0) es in
    elim (passes e.0) as (λ b. AllByRecursion P (map key_in (filter_map (λ x. newest_within s (held_in x.1)) (cond b (e ∷ others) others)))) [
      | true ↦ elim (newest_within s (held_in e.1)) as (λ r. newest_within s (held_in e.1) ≡ r → AllByRecursion P (map key_in (before r (seen_of passes s es)))) [
        | None ↦ λ r. again
        | Some h ↦ λ r. (subst P (sym (same_text h.entry.version.key e.0 (sym (newest_is_of e.0 s (held_in e.1) h o.0 r)))) all.0, again)
      ] refl
      | false ↦ again
    ]

sorted_seen : (passes : List ℕ → Bool) (s : ℕ) (es : List Chain) → is_owned es ≡ true → IsStrictlySortedBy (slice_cmp nat_cmp) (keys_of es) → IsStrictlySortedBy (slice_cmp nat_cmp) (map key_in (seen_of passes s es))
unfolding IsStrictlySortedBy
sorted_seen passes s [] owned sorted = sorted
sorted_seen passes s (e ∷ es) owned sorted =
    let o = and_parts (list_all (is_of e.0) (held_in e.1)) (is_owned es) owned in
    let again = sorted_seen passes s es o.1 sorted.1 in
    let others = filter (λ (x : Chain). passes x.0) es in
    elim (passes e.0) as (λ b. IsStrictlySortedBy (slice_cmp nat_cmp) (map key_in (filter_map (λ x. newest_within s (held_in x.1)) (cond b (e ∷ others) others)))) [
      | true ↦ elim (newest_within s (held_in e.1)) as (λ r. newest_within s (held_in e.1) ≡ r → IsStrictlySortedBy (slice_cmp nat_cmp) (map key_in (before r (seen_of passes s es)))) [
        | None ↦ λ r. again
        | Some h ↦ λ r. (
          subst (λ k. AllByRecursion (λ y. slice_cmp nat_cmp k y ≡ Less) (map key_in (seen_of passes s es))) (sym (same_text h.entry.version.key e.0 (sym (newest_is_of e.0 s (held_in e.1) h o.0 r))))
              (all_seen (λ y. slice_cmp nat_cmp e.0 y ≡ Less) passes s es o.1 sorted.0),
          again,
        )
      ] refl
      | false ↦ again
    ]

rising_seen : (passes : List ℕ → Bool) (s : ℕ) (es : List Chain) → is_owned es ≡ true → IsStrictlySortedBy (slice_cmp nat_cmp) (keys_of es) → keys_rise (map key_in (seen_of passes s es)) ≡ true
rising_seen passes s es owned sorted = keys_rise-from_sorted (map key_in (seen_of passes s es)) (sorted_seen passes s es owned sorted)

pub rising_between : (low high : List ℕ) (s : ℕ) (es : List Chain) → is_owned es ≡ true → IsStrictlySortedBy (slice_cmp nat_cmp) (keys_of es) → keys_rise (map key_in (seen_between low high s es)) ≡ true
rising_between low high s es owned sorted = rising_seen (range_contains (slice_cmp nat_cmp) (Included low) (Included high)) s es owned sorted

pub rising_all : (s : ℕ) (es : List Chain) → is_owned es ≡ true → IsStrictlySortedBy (slice_cmp nat_cmp) (keys_of es) → keys_rise (map key_in (seen_in s (values_of es))) ≡ true
rising_all s es owned sorted = ap (λ hs. keys_rise (map key_in hs)) (seen_values s es) ∙ rising_seen (λ k. true) s es owned sorted
