-- The first element of a list, and the others.
use Rattle.std.proofs.Common.{◌≡◌, ◌<◌, ◌==◌, ℕ, Bool, false, List, [], ◌∷◌, length, slice_index_or, Contains, sym, subst, arith, inl, inr}
use Rattle.std.specs.List.{remove}
use Rattle.std.proofs.lemmas.Bool.{cases_eq, eq-eqb}
use Rattle.lemmas.proofs.Members.{none_contained, Contains-head, Contains-cons}

pub some_there : (n m : ℕ) (r : Bool) → n ≡ m → r ≡ (n == 0) → r ≡ false → 0 < m
some_there n m r same is off =
    elim (cases_eq n 0) [
      | inl e ↦ let on = eq-eqb n 0 e in absurd (cc (is, off, on))
      | inr ne ↦ omega (arith, ne, same)
    ]

pub first_contained : {X : Type 0} (xs : List X) (x : X) → 0 < length xs → x ≡ slice_index_or xs 0 x → Contains xs x
first_contained [] x l e = absurd (omega (arith, l))
first_contained (y ∷ ys) x l e = subst (Contains (y ∷ ys)) (sym e) (Contains-head y ys)

pub others_contained : {X : Type 0} (xs : List X) (x : X) → Contains (remove xs 0) x → Contains xs x
others_contained [] x c = absurd (none_contained x c)
others_contained (y ∷ ys) x c = Contains-cons y ys x c
