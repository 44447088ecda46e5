-- How many versions are held, and of how many keys: by the keys, one after the other.
use Rattle.std.proofs.Common.{◌≡◌, inl, inr, ℕ, suc, ◌+◌, ◌==◌, Bool, true, false, not, cond, ◌||◌, if◌then◌else◌, List, [], ◌∷◌, ◌++◌, length, refl, ◌∙◌, ap, sym, subst, arith}
use Rattle.std.specs.List.{filter, flat_map, list_any, Contains}
use Rattle.std.specs.Cmp.Lexicographic.{same_text, nat_list_eq_equiv}
use Rattle.std.proofs.lemmas.Bool.{cases_Bool, both_ways, not-true, ne_eqb}
use Rattle.std.proofs.lemmas.List.{length-append}
use Rattle.std.proofs.lemmas.List.Elements.{filter_agree}
use Rattle.lemmas.proofs.Members.{none_contained, Contains-head, Contains-cons, Contains-cases}
use Rattle.lemmas.proofs.Filters.{filter-source, Contains-filter}
use Rattle.adya_keys.specs.Meaning.Keys.{key_eq}
use Rattle.ssi_versions.specs.Meaning.Changes.{Change, Held, held, held_count, key_count, installed_keys}
use Rattle.ssi_versions.specs.Mirror.{is_of, chain_of, key_total}
use Rattle.ssi_versions.specs.Laws.Counts.{Holds}
use Rattle.ssi_versions.specs.Machinery.Keyed.{is_filled}
use Rattle.ssi_versions.proofs.Lists.{pairs_head, pairs_tail}
use Rattle.ssi_versions.proofs.InstalledKeys.{installed_distinct, held_installed, AreDistinct}

-- the versions of the other keys
abbrev others : List ℕ → List Held → List Held
others k hs = filter (λ h. not (is_of k h)) hs

chain-others : (k j : List ℕ) (hs : List Held) → key_eq k j ≡ false → chain_of j (others k hs) ≡ chain_of j hs
chain-others k j [] apart = refl
chain-others k j (h ∷ hs) apart =
    elim (cases_Bool (is_of k h)) [
      | inl t ↦
          let other : is_of j h ≡ false = ap (λ x. key_eq x j) (same_text h.entry.version.key k (sym t)) ∙ apart in
          ap (λ b. chain_of j (cond (not b) (h ∷ others k hs) (others k hs))) t ∙ chain-others k j hs apart
          ∙ sym (ap (λ b. cond b (h ∷ chain_of j hs) (chain_of j hs)) other)
      | inr f ↦
          ap (λ b. chain_of j (cond (not b) (h ∷ others k hs) (others k hs))) f
          ∙ ap (λ xs. cond (is_of j h) (h ∷ xs) xs) (chain-others k j hs apart)
    ]

any-chain : (k : List ℕ) (hs : List Held) → list_any (is_of k) hs ≡ is_filled (chain_of k hs)
any-chain k [] = refl
any-chain k (h ∷ hs) =
    elim (is_of k h) as (λ b. (b || list_any (is_of k) hs) ≡ is_filled (cond b (h ∷ chain_of k hs) (chain_of k hs))) [
      | true ↦ refl
      | false ↦ any-chain k hs
    ]

any-others : (k j : List ℕ) (hs : List Held) → key_eq k j ≡ false → list_any (is_of j) (others k hs) ≡ list_any (is_of j) hs
any-others k j hs apart = any-chain j (others k hs) ∙ ap is_filled (chain-others k j hs apart) ∙ sym (any-chain j hs)

length-parts : (k : List ℕ) (hs : List Held) → length hs ≡ length (chain_of k hs) + length (others k hs)
length-parts k [] = refl
length-parts k (h ∷ hs) =
    let rest = length-parts k hs in
    elim (is_of k h) as (λ b. suc (length hs) ≡ length (cond b (h ∷ chain_of k hs) (chain_of k hs)) + length (cond (not b) (h ∷ others k hs) (others k hs))) [
      | true ↦ omega (arith, rest)
      | false ↦ omega (arith, rest)
    ]

total-parts : (k : List ℕ) (hs : List Held) → key_total hs ≡ cond (list_any (is_of k) hs) 1 0 + key_total (others k hs)
total-parts k [] = refl
total-parts k (h ∷ hs) =
    let rest = key_total (others k hs) in
    elim (cases_Bool (is_of k h)) [
      | inl t ↦
          ap (λ j. if list_any (is_of j) hs then key_total hs else suc (key_total hs)) (same_text h.entry.version.key k (sym t))
          ∙ ap (λ n. if list_any (is_of k) hs then n else suc n) (total-parts k hs)
          ∙ elim (list_any (is_of k) hs) as (λ b. (if b then cond b 1 0 + rest else suc (cond b 1 0 + rest)) ≡ 1 + rest) [
            | true ↦ omega arith
            | false ↦ omega arith
          ]
          ∙ sym (ap (λ b. cond (b || list_any (is_of k) hs) 1 0 + key_total (cond (not b) (h ∷ others k hs) (others k hs))) t)
      | inr f ↦
          let apart : key_eq k h.entry.version.key ≡ false = nat_list_eq_equiv.symm k h.entry.version.key ∙ f in
          let a = cond (list_any (is_of k) hs) 1 0 in
          ap (λ n. if list_any (is_of h.entry.version.key) hs then n else suc n) (total-parts k hs)
          ∙ elim (list_any (is_of h.entry.version.key) hs) as (λ b. (if b then a + rest else suc (a + rest)) ≡ a + (if b then rest else suc rest)) [
            | true ↦ refl
            | false ↦ omega arith
          ]
          ∙ ap (λ b. a + (if b then rest else suc rest)) (sym (any-others k h.entry.version.key hs apart))
          ∙ sym (ap (λ b. cond (b || list_any (is_of k) hs) 1 0 + key_total (cond (not b) (h ∷ others k hs) (others k hs))) f)
    ]

-- each version is of one of these keys
abbrev pub AreWithin : List (List ℕ) → List Held → Type 0
AreWithin ks hs = (h : Held) → Contains hs h → Contains ks h.entry.version.key

within-rest : (k : List ℕ) (ks : List (List ℕ)) (hs : List Held) → AreWithin (k ∷ ks) hs → AreWithin ks (others k hs)
within-rest k ks hs within h c =
    let source = filter-source (λ g. not (is_of k g)) hs h c in
    elim (Contains-cases k ks h.entry.version.key (within h source.0)) [
      | inl e ↦ absurd (both_ways (is_of k h) (not-true (is_of k h) source.1) (ap (λ x. key_eq x k) (sym e) ∙ nat_list_eq_equiv.refl k))
      | inr d ↦ d
    ]

no_version : (hs : List Held) → AreWithin [] hs → hs ≡ []
no_version [] within = refl
no_version (h ∷ hs) within = absurd (none_contained h.entry.version.key (within h (Contains-head h hs)))

flat_map_agree : {X Y : Type 0} (f g : X → List Y) (xs : List X) → ((x : X) → Contains xs x → f x ≡ g x) → flat_map f xs ≡ flat_map g xs
flat_map_agree f g [] h = refl
flat_map_agree f g (x ∷ xs) h = ap (λ ys. ys ++ flat_map f xs) (h x (Contains-head x xs)) ∙ ap (λ ys. g x ++ ys) (flat_map_agree f g xs (λ y c. h y (Contains-cons x xs y c)))

filter_agree_in : {X : Type 0} (p q : X → Bool) (xs : List X) → ((x : X) → Contains xs x → p x ≡ q x) → filter p xs ≡ filter q xs
filter_agree_in p q [] h = refl
filter_agree_in p q (x ∷ xs) h = ap (λ b. cond b (x ∷ filter p xs) (filter p xs)) (h x (Contains-head x xs)) ∙ ap (λ ys. cond (q x) (x ∷ ys) ys) (filter_agree_in p q xs (λ y c. h y (Contains-cons x xs y c)))

counted : (ks : List (List ℕ)) (hs : List Held) → AreDistinct ks → AreWithin ks hs → length hs ≡ length (flat_map (λ k. chain_of k hs) ks)
counted [] hs apart within = ap length (no_version hs within)
counted (k ∷ ks) hs apart within =
    let rest = counted ks (others k hs) (pairs_tail (λ a b. key_eq a b ≡ false) k ks apart) (within-rest k ks hs within) in
    let same = flat_map_agree (λ j. chain_of j (others k hs)) (λ j. chain_of j hs) ks (λ j c. chain-others k j hs (pairs_head (λ a b. key_eq a b ≡ false) k ks j apart c)) in
    omega (arith, length-parts k hs, rest, ap length same, length-append (chain_of k hs) (flat_map (λ j. chain_of j hs) ks))

-- there is a version
abbrev is_some_of : List Held → Bool
is_some_of hs = not (length hs == 0)

filled-length : (hs : List Held) → is_filled hs ≡ is_some_of hs
filled-length [] = refl
filled-length (h ∷ hs) = sym (ap not (ne_eqb (suc (length hs)) 0 (λ e. omega (arith, e))))

keys_counted : (ks : List (List ℕ)) (hs : List Held) → AreDistinct ks → AreWithin ks hs → key_total hs ≡ length (filter (λ k. is_some_of (chain_of k hs)) ks)
keys_counted [] hs apart within = ap key_total (no_version hs within)
keys_counted (k ∷ ks) hs apart within =
    let rest = keys_counted ks (others k hs) (pairs_tail (λ a b. key_eq a b ≡ false) k ks apart) (within-rest k ks hs within) in
    let same = filter_agree_in (λ j. is_some_of (chain_of j (others k hs))) (λ j. is_some_of (chain_of j hs)) ks
    (λ j c. ap is_some_of (chain-others k j hs (pairs_head (λ a b. key_eq a b ≡ false) k ks j apart c))) in
    let behind = filter (λ j. is_some_of (chain_of j hs)) ks in
    total-parts k hs
    ∙ ap (λ n. cond (list_any (is_of k) hs) 1 0 + n) (rest ∙ ap length same)
    ∙ ap {A = Bool} {B = ℕ} (λ b. cond b 1 0 + length behind) (any-chain k hs ∙ filled-length (chain_of k hs))
    ∙ elim (is_some_of (chain_of k hs)) as (λ b. cond {A = ℕ} b 1 0 + length behind ≡ length (cond b (k ∷ behind) behind)) [
      | true ↦ omega arith
      | false ↦ omega arith
    ]

-- a held version is of an installed key
all_within : (hs : List Held) (changes : List Change) → Holds hs changes → AreWithin (installed_keys changes) hs
all_within hs changes holds h c =
    let key = h.entry.version.key in
    elim (held_installed changes key) [
      | inl there ↦ there
      | inr none ↦ absurd (none_contained h (subst (λ xs. Contains xs h) (holds key ∙ none) (Contains-filter (is_of key) hs h c (nat_list_eq_equiv.refl key))))
    ]

pub counts_held : (hs : List Held) (changes : List Change) → Holds hs changes → length hs ≡ held_count changes
counts_held hs changes holds =
    counted (installed_keys changes) hs (installed_distinct changes) (all_within hs changes holds)
    ∙ ap length (flat_map_agree (λ k. chain_of k hs) (λ k. held k changes) (installed_keys changes) (λ k c. holds k))

pub counts_keys : (hs : List Held) (changes : List Change) → Holds hs changes → key_total hs ≡ key_count changes
counts_keys hs changes holds =
    keys_counted (installed_keys changes) hs (installed_distinct changes) (all_within hs changes holds)
    ∙ ap length (filter_agree (λ k. is_some_of (chain_of k hs)) (λ k. is_some_of (held k changes)) (λ k. ap is_some_of (holds k)) (installed_keys changes))
