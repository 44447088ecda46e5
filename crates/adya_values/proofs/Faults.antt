-- The first of joined lists of faults, and what it says of the tests that there is no fault.
use Rattle.std.proofs.Common.{◌≡◌, ℕ, suc, ◌⊎◌, Bool, true, false, List, [], ◌∷◌, ◌++◌, map, Some, None, refl, sym, ◌∙◌, ap, subst, arith, inl, inr}
use Rattle.std.specs.List.{Contains}
use Rattle.std.proofs.lemmas.Option.{same_Some, none-some}
use Rattle.lemmas.proofs.Members.{none_contained, Contains-cases}
use Rattle.lemmas.proofs.Lists.{nil_left, nil_right}
use Rattle.adya_values.specs.declared.fault.Rule.{Rule}
use Rattle.adya_values.specs.declared.fault.Rule.TheVariants.{M1, M2, M3, M4, M5}
use Rattle.adya_values.specs.Computing.Faults.{Fault, is_open, is_next, was_written, sees_own, is_rising, fault_unless, faults_at, first}
use Rattle.adya_values.specs.Meaning.Histories.{Event}
use Rattle.adya_values.specs.Meaning.Events.{written}

-- ---- the first of a list

pub first_left : {X : Type 0} (xs ys : List X) (x : X) → first xs ≡ Some x → first (xs ++ ys) ≡ Some x
first_left [] ys x e = absurd (none-some x e)
first_left (z ∷ xs) ys x e = e

pub first_right : {X : Type 0} (xs ys : List X) (x : X) → xs ≡ [] → first ys ≡ Some x → first (xs ++ ys) ≡ Some x
first_right xs ys x none e = subst (λ zs. first (zs ++ ys) ≡ Some x) (sym none) e

pub first_append : {X : Type 0} (xs ys : List X) (x : X) → first (xs ++ ys) ≡ Some x
    → (first xs ≡ Some x) ⊎ ((xs ≡ []) × (first ys ≡ Some x))
first_append [] ys x e = inr (refl, e)
first_append (y ∷ xs) ys x e = inl e

pub first_contained : {X : Type 0} (xs : List X) (x : X) → first xs ≡ Some x → Contains xs x
first_contained [] x e = absurd (none-some x e)
first_contained (y ∷ xs) x e = (0, omega arith, same_Some y x e)

pub first_map : {X Y : Type 0} (f : X → Y) (xs : List X) (y : Y) → first (map f xs) ≡ Some y
    → (x : X) × (first xs ≡ Some x) × (f x ≡ y)
first_map f [] y e = absurd (none-some y e)
first_map f (x ∷ xs) y e = (x, refl, same_Some (f x) y e)

pub first_there : {X : Type 0} (xs : List X) (x : X) → Contains xs x → (y : X) × (first xs ≡ Some y)
first_there [] x c = absurd (none_contained x c)
first_there (y ∷ xs) x c = (y, refl)

pub first_cases : {X : Type 0} (xs : List X) → (xs ≡ []) ⊎ ((x : X) × (first xs ≡ Some x))
first_cases [] = inl refl
first_cases (x ∷ xs) = inr (x, refl)

pub nil_from_first : {X : Type 0} (xs : List X) → first xs ≡ None → xs ≡ []
nil_from_first [] e = refl
nil_from_first (x ∷ xs) e = absurd (none-some x (sym e))

-- ---- faults of tests that fail

pub no_fault : (b : Bool) (line : ℕ) (rule : Rule) → fault_unless b line rule ≡ [] → b ≡ true
no_fault true line rule e = refl
no_fault false line rule e = absurd (cc (e))

-- a list of faults that has one for each line whose test fails
abbrev pub HasFaultPerLine : {X : Type 0} → (X → Bool) → Rule → (ℕ → List X → List Fault) → Type 0
HasFaultPerLine {X} test rule faults =
    (line : ℕ) (x : X) (xs : List X) → faults line (x ∷ xs) ≡ fault_unless (test x) line rule ++ faults (suc line) xs

-- if it is empty, each test passes
pub each_passes : {X : Type 0} (test : X → Bool) (rule : Rule) (faults : ℕ → List X → List Fault)
    → HasFaultPerLine test rule faults → (line : ℕ) (xs : List X) (x : X) → faults line xs ≡ [] → Contains xs x
    → test x ≡ true
each_passes test rule faults step line [] x e c = absurd (none_contained x c)
each_passes test rule faults step line (y ∷ xs) x e c =
    let none = sym (step line y xs) ∙ e in
    elim (Contains-cases y xs x c) [
      | inl s ↦ ap test (sym s) ∙ no_fault _ line rule (nil_left _ (faults (suc line) xs) none)
      | inr d ↦ each_passes test rule faults step (suc line) xs x (nil_right _ (faults (suc line) xs) none) d
    ]

-- the tests of an event that has no fault
pub record PassesAll (before : List Event) (e : Event) : Type 0 where
  pub not_ended : is_open before e ≡ true
  pub next : is_next before (written e) ≡ true
  pub was : was_written before e ≡ true
  pub own : sees_own before e ≡ true
  pub rising : is_rising e ≡ true

pub passes_all : (before : List Event) (line : ℕ) (e : Event) → faults_at before line e ≡ [] → PassesAll before e
passes_all before line e none =
    let f1 = fault_unless (is_open before e) line M1 in
    let f2 = fault_unless (is_next before (written e)) line M2 in
    let f3 = fault_unless (was_written before e) line M3 in
    let f4 = fault_unless (sees_own before e) line M4 in
    let f5 = fault_unless (is_rising e) line M5 in
    let from2 = nil_right f1 (f2 ++ (f3 ++ (f4 ++ f5))) none in
    let from3 = nil_right f2 (f3 ++ (f4 ++ f5)) from2 in
    let from4 = nil_right f3 (f4 ++ f5) from3 in
    record {
      not_ended = no_fault _ line M1 (nil_left f1 (f2 ++ (f3 ++ (f4 ++ f5))) none);
      next = no_fault _ line M2 (nil_left f2 (f3 ++ (f4 ++ f5)) from2);
      was = no_fault _ line M3 (nil_left f3 (f4 ++ f5) from3);
      own = no_fault _ line M4 (nil_left f4 f5 from4);
      rising = no_fault _ line M5 (nil_right f4 f5 from4);
    }
