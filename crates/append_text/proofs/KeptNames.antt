-- Which numbers stand for which names after one name more is kept.
use Rattle.std.proofs.Common.{◌≡◌, ◌⊎◌, ℕ, zero, suc, ◌+◌, ◌*◌, ◌/◌, ◌%◌, ◌==◌, Bool, true, false, List, [], ◌∷◌, ◌++◌, length, Option, Some, None, option_map, refl, sym, ap, subst, ◌∙◌, inl, inr, arith}
use Rattle.std.specs.Prelude.{pos, nat_eq, slice_get, Result, Ok, Err, IfOk, OnErr}
use Rattle.std.specs.List.{list_any}
use Rattle.std.specs.Cmp.Lexicographic.{pointwise, other_text}
use Rattle.std.proofs.lemmas.Bool.{both_ways, cases_Bool, eqb-false}
use Rattle.std.proofs.lemmas.Bool.Decides.{Decides-int_eq}
use Rattle.std.proofs.lemmas.Map.Keys.{any_passes_from_place}
use Rattle.std.proofs.lemmas.Option.{same_Some}
use Rattle.indexmap.specs.IndexSet.{insert_key}
use Rattle.append_text.specs.contracts.name.KeptPartialEq.TheImpl as comparison
use Rattle.append_text.specs.declared.name.Kept.{Kept}
use Rattle.append_text.specs.declared.name.Kept.TheVariants as Held
use Rattle.append_text.specs.Meaning.Names.{Name, integer, is_counted, kept_name}
use Rattle.append_text.specs.Meaning.Numbers.{IsNumber, IsOneToOne, Keeps}

-- the place of what a longer list has
at_push : {X : Type 0} (xs : List X) (x y : X) (i : ℕ) → slice_get (xs ++ x ∷ []) i ≡ Some y
    → (slice_get xs i ≡ Some y) ⊎ ((i ≡ length xs) × (x ≡ y))
at_push [] x y zero is = inr (refl, same_Some x y is)
at_push [] x y (suc i) is = absurd cc
at_push (z ∷ xs) x y zero is = inl is
at_push (z ∷ xs) x y (suc i) is =
    elim (at_push xs x y i is) [ inl old ↦ inl old | inr new ↦ inr (ap suc new.0 ∙ omega arith, new.1) ]

still_at : {X : Type 0} (xs : List X) (x y : X) (i : ℕ) → slice_get xs i ≡ Some y → slice_get (xs ++ x ∷ []) i ≡ Some y
still_at [] x y i is = absurd cc
still_at (z ∷ xs) x y zero is = is
still_at (z ∷ xs) x y (suc i) is = still_at xs x y i is

kept_at : (o : Option Kept) (name : Name) → option_map kept_name o ≡ Some name → (k : Kept) × (o ≡ Some k) × (kept_name k ≡ name)
kept_at None name is = absurd cc
kept_at (Some k) name is = (k, refl, same_Some (kept_name k) name is)

odd_is : (m n : ℕ) → (m % 2 == 0) ≡ false → m / 2 ≡ n → m ≡ 2 * n + 1
odd_is m n odd half = let apart = eqb-false (m % 2) 0 odd in omega (arith, apart)

-- an old number or the new one
number_after : (keys : List Kept) (k : Kept) (name : Name) (m : ℕ) → IsNumber (keys ++ k ∷ []) name m
    → IsNumber keys name m ⊎ ((m ≡ 2 * length keys + 1) × (kept_name k ≡ name))
number_after keys k name m is = elim (cases_Bool (m % 2 == 0)) [
  | inl even ↦ inl (rw even (rw even at is))
  | inr odd ↦ by odd (kept_at (slice_get (keys ++ k ∷ []) (m / 2)) name (rw odd at is))
]
  where
    by : (m % 2 == 0) ≡ false → ((l : Kept) × (slice_get (keys ++ k ∷ []) (m / 2) ≡ Some l) × (kept_name l ≡ name))
        → IsNumber keys name m ⊎ ((m ≡ 2 * length keys + 1) × (kept_name k ≡ name))
    by odd (l, at, is) = elim (at_push keys k l (m / 2) at) [
      | inl old ↦ inl (rw odd (ap (option_map kept_name) old ∙ ap (λ r. Some r) is))
      | inr new ↦ inr (odd_is m (length keys) odd new.0, ap kept_name new.1 ∙ is)
    ]

pushed_keeps : (keys : List Kept) (k : Kept) → Keeps keys (keys ++ k ∷ [])
pushed_keeps keys k name m is = elim (cases_Bool (m % 2 == 0)) [
  | inl even ↦ rw even (rw even at is)
  | inr odd ↦ by odd (kept_at (slice_get keys (m / 2)) name (rw odd at is))
]
  where
    by : (m % 2 == 0) ≡ false → ((l : Kept) × (slice_get keys (m / 2) ≡ Some l) × (kept_name l ≡ name))
        → IsNumber (keys ++ k ∷ []) name m
    by odd (l, at, is) = rw odd (ap (option_map kept_name) (still_at keys k l (m / 2) at) ∙ ap (λ r. Some r) is)

abbrev eq : Kept → Kept → Bool
eq = (comparison.ghosts).eq

same_bytes : (xs ys : List ℕ) → xs ≡ ys → pointwise nat_eq xs ys ≡ true
same_bytes xs ys same = elim (cases_Bool (pointwise nat_eq xs ys)) [
  | inl is ↦ is
  | inr other ↦ absurd (other_text xs ys (sym other) same)
]

-- what is kept of one name is equal
equal : (k l : Kept) → kept_name k ≡ kept_name l → eq k l ≡ true
equal (Held.Integer a) (Held.Integer b) same = let e : a ≡ b = cc in (Decides-int_eq a b).1 e
equal (Held.Integer a) (Held.String b) same = absurd cc
equal (Held.Integer a) (Held.Keyword b) same = absurd cc
equal (Held.String a) (Held.Integer b) same = absurd cc
equal (Held.String a) (Held.String b) same = let e : a.items ≡ b.items = cc in same_bytes a.items b.items e
equal (Held.String a) (Held.Keyword b) same = absurd cc
equal (Held.Keyword a) (Held.Integer b) same = absurd cc
equal (Held.Keyword a) (Held.String b) same = absurd cc
equal (Held.Keyword a) (Held.Keyword b) same = let e : a.items ≡ b.items = cc in same_bytes a.items b.items e

-- a name that isn't kept and is no integer from 0 up has no number
no_number : (keys : List Kept) (k : Kept) → is_counted (kept_name k) ≡ false → list_any (eq k) keys ≡ false
    → (m : ℕ) → IsNumber keys (kept_name k) m → ⊥
no_number keys k counted new m is = elim (cases_Bool (m % 2 == 0)) [
  | inl even ↦ both_ways _ counted (sym (ap is_counted (same_Some (integer (pos (m / 2))) (kept_name k) (rw even at is))))
  | inr odd ↦ by (kept_at (slice_get keys (m / 2)) (kept_name k) (rw odd at is))
]
  where
    by : ((l : Kept) × (slice_get keys (m / 2) ≡ Some l) × (kept_name l ≡ kept_name k)) → ⊥
    by (l, at, is) = both_ways _ new (any_passes_from_place (eq k) keys (m / 2) l at (equal k l (sym is)))

pushed_one_to_one : (keys : List Kept) (k : Kept) → is_counted (kept_name k) ≡ false → list_any (eq k) keys ≡ false
    → IsOneToOne keys → IsOneToOne (keys ++ k ∷ [])
pushed_one_to_one keys k counted new old name m n is_m is_n =
    by (number_after keys k name m is_m) (number_after keys k name n is_n)
  where
    by : IsNumber keys name m ⊎ ((m ≡ 2 * length keys + 1) × (kept_name k ≡ name))
        → IsNumber keys name n ⊎ ((n ≡ 2 * length keys + 1) × (kept_name k ≡ name)) → m ≡ n
    by (inl some) (inl other) = old name m n some other
    by (inl some) (inr other) = absurd (no_number keys k counted new m (some ∙ ap (λ r. Some r) (sym other.1)))
    by (inr some) (inl other) = absurd (no_number keys k counted new n (other ∙ ap (λ r. Some r) (sym some.1)))
    by (inr some) (inr other) = some.0 ∙ sym other.0

one_to_one_after : (keys new : List Kept) (k : Kept) → is_counted (kept_name k) ≡ false → IsOneToOne keys
    → new ≡ insert_key eq keys k → IsOneToOne new
one_to_one_after keys new k counted old is = elim (cases_Bool (list_any (eq k) keys)) [
  | inl known ↦ subst IsOneToOne (sym (is ∙ rw known refl)) old
  | inr fresh ↦ subst IsOneToOne (sym (is ∙ rw fresh refl)) (pushed_one_to_one keys k counted fresh old)
]

pub stays_one_to_one : {T E : Type 0} (result : Result T E) (keys new : List Kept) (k : Kept)
    → is_counted (kept_name k) ≡ false → IsOneToOne keys → IfOk result (λ r. new ≡ insert_key eq keys k)
    → OnErr result (new ≡ keys) → IsOneToOne new
stays_one_to_one (Ok r) keys new k counted old added same = one_to_one_after keys new k counted old added
stays_one_to_one (Err e) keys new k counted old added same = subst IsOneToOne (sym same) old

pub keeps_after : (keys new : List Kept) (k : Kept) → new ≡ insert_key eq keys k → Keeps keys new
keeps_after keys new k is = elim (cases_Bool (list_any (eq k) keys)) [
  | inl known ↦ subst (Keeps keys) (sym (is ∙ rw known refl)) (λ name n same. same)
  | inr fresh ↦ subst (Keeps keys) (sym (is ∙ rw fresh refl)) (pushed_keeps keys k)
]
