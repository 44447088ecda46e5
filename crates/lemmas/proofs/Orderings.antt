-- Lists of bytes in order, and what a binary search finds in a list whose keys rise.
use Rattle.std.proofs.Common.{◌≡◌, ◌≢◌, ℕ, ◌<◌, ◌≤◌, Bool, true, false, List, [], ◌∷◌, length, get_or, refl, ◌∙◌, ap, subst, inl, inr, arith}
use Rattle.std.proofs.Common.{Ordering, Less, Equal, Greater}
use Rattle.std.specs.List.{AllPairs, list_any}
use Rattle.std.specs.List.Sorted.{IsNonDecreasingBy, IsPartitionPoint}
use Rattle.std.specs.Ordering.{nat_cmp, is_lt, is_eq, ordering_index}
use Rattle.std.specs.Cmp.Lexicographic.{slice_cmp, pointwise, texts_ties, bytes_decides}
use Rattle.std.specs.Prelude.{nat_eq}
use Rattle.std.proofs.lemmas.Bool.{cases_lt, both_ways, false_from_ne_true}
use Rattle.std.proofs.lemmas.Cmp.{tied_itself, nat_list_cmp_total}
use Rattle.std.proofs.lemmas.List.Elements.{Contains-get_or}
use Rattle.lemmas.proofs.Tests.{list_any-source, list_any_when}

pub less_from_is_lt : (o : Ordering) → is_lt o ≡ true → o ≡ Less
less_from_is_lt Less e = refl
less_from_is_lt Equal e = absurd (cc (e))
less_from_is_lt Greater e = absurd (cc (e))

abbrev pub bytes_cmp : List ℕ → List ℕ → Ordering
bytes_cmp a b = slice_cmp nat_cmp a b

abbrev pub bytes_lt : List ℕ → List ℕ → Bool
bytes_lt a b = is_lt (bytes_cmp a b)

abbrev pub bytes_eq : List ℕ → List ℕ → Bool
bytes_eq a b = pointwise nat_eq a b

pub bytes_eq-same : (a b : List ℕ) → bytes_eq a b ≡ true → a ≡ b
bytes_eq-same a b = (bytes_decides a b).0

pub bytes_eq-from : (a b : List ℕ) → a ≡ b → bytes_eq a b ≡ true
bytes_eq-from a b = (bytes_decides a b).1

pub bytes_eq-itself : (a : List ℕ) → bytes_eq a a ≡ true
bytes_eq-itself a = bytes_eq-from a a refl

pub bytes_eq-other : (a b : List ℕ) → a ≢ b → bytes_eq a b ≡ false
bytes_eq-other a b ne = false_from_ne_true (bytes_eq a b) (λ e. ne (bytes_eq-same a b e))

-- equal in order is equal
pub tied_bytes : (a b : List ℕ) → bytes_cmp a b ≡ Equal → a ≡ b
tied_bytes a b e = bytes_eq-same a b (texts_ties a b ∙ ap is_eq e)

pub bytes_lt-trans : (a b c : List ℕ) → bytes_lt a b ≡ true → bytes_lt b c ≡ true → bytes_lt a c ≡ true
bytes_lt-trans a b c e f = ap is_lt (nat_list_cmp_total.trans a b c (less_from_is_lt _ e) (less_from_is_lt _ f))

pub bytes_lt-apart : (a b : List ℕ) → bytes_lt a b ≡ true → a ≢ b
bytes_lt-apart a b e s =
    both_ways (bytes_lt b b) (ap is_lt (tied_itself nat_list_cmp_total b)) (subst (λ x. bytes_lt x b ≡ true) s e)

-- ---- a binary search

index_most : (o : Ordering) → ordering_index o ≤ 2
index_most Less = omega arith
index_most Equal = omega arith
index_most Greater = omega arith

index_below : (a b k : List ℕ) → bytes_cmp a b ≡ Less → (o : Ordering) → bytes_cmp b k ≡ o
    → ordering_index (bytes_cmp a k) ≤ ordering_index o
index_below a b k l Less e = let less : bytes_cmp a k ≡ Less = nat_list_cmp_total.trans a b k l e in rw less (omega arith)
index_below a b k l Equal e =
    let less : bytes_cmp a k ≡ Less = subst (λ j. bytes_cmp a j ≡ Less) (tied_bytes b k e) l in
    rw less (omega arith)
index_below a b k l Greater e = index_most (bytes_cmp a k)

module _ {Y : Type 0} (key : Y → List ℕ) (ys : List Y) (k : List ℕ) where
  -- the elements compare with a key in order
  pub index_rises : AllPairs (λ a b. bytes_lt (key a) (key b) ≡ true) ys
      → IsNonDecreasingBy (λ y. ordering_index (bytes_cmp (key y) k)) ys
  index_rises rises i j d le m =
      elim (cases_lt i j) [
        | inl l ↦ index_below (key (get_or ys i d)) (key (get_or ys j d)) k (less_from_is_lt _ (rises i j d l m))
            (bytes_cmp (key (get_or ys j d)) k) refl
        | inr g ↦
            let same : i ≡ j = omega (arith, le, g) in
            subst (λ n. ordering_index (bytes_cmp (key (get_or ys i d)) k)
            ≤ ordering_index (bytes_cmp (key (get_or ys n d)) k)) same (omega arith)
      ]

  abbrev Apart : ℕ → Type 0
  Apart n = IsNonDecreasingBy (λ y. ordering_index (bytes_cmp (key y) k)) ys
      → IsPartitionPoint (λ y. bytes_cmp (key y) k ≡ Less) (λ y. bytes_cmp (key y) k ≡ Greater) ys n

  unequal : (a : List ℕ) (o : Ordering) → bytes_cmp a k ≡ o → is_eq o ≡ false → a ≢ k
  unequal a o e f s = both_ways (bytes_eq a k) (texts_ties a k ∙ (ap is_eq e ∙ f)) (bytes_eq-from a k s)

  -- a search that fails: no element has the key
  pub search_misses : (n : ℕ) → AllPairs (λ a b. bytes_lt (key a) (key b) ≡ true) ys → Apart n
      → (i : ℕ) (d : Y) → i < length ys → key (get_or ys i d) ≢ k
  search_misses n rises split i d l =
      let point = split (index_rises rises) in
      elim (cases_lt i n) [
        | inl less ↦ unequal _ Less (point.0 i d (omega arith) less) refl
        | inr more ↦ unequal _ Greater (point.1 i d more l) refl
      ]

  pub search_misses_test : (n : ℕ) → AllPairs (λ a b. bytes_lt (key a) (key b) ≡ true) ys → Apart n
      → list_any (λ y. bytes_eq (key y) k) ys ≡ false
  search_misses_test n rises split =
      false_from_ne_true _ (λ t.
      let found = list_any-source (λ y. bytes_eq (key y) k) ys t in
      let i = found.1.0 in
      search_misses n rises split i found.0 found.1.1
      (ap key found.1.2 ∙ bytes_eq-same (key found.0) k found.2))

  -- a search that succeeds: an element has the key
  pub search_finds : (i : ℕ) → i < length ys → ((d : Y) → bytes_cmp (key (get_or ys i d)) k ≡ Equal)
      → list_any (λ y. bytes_eq (key y) k) ys ≡ true
  search_finds i l h = found ys l h
    where
      found : (zs : List Y) → i < length zs → ((d : Y) → bytes_cmp (key (get_or zs i d)) k ≡ Equal)
          → list_any (λ y. bytes_eq (key y) k) zs ≡ true
      found [] m e = absurd (omega (arith, m))
      found (z ∷ zs) m e =
          list_any_when (λ y. bytes_eq (key y) k) (z ∷ zs) (get_or (z ∷ zs) i z) (Contains-get_or (z ∷ zs) i z m)
          (texts_ties _ k ∙ ap is_eq (e z))
