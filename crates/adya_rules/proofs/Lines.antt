-- Elements of a list by the lines that they are on.
use Rattle.std.proofs.Common.{◌≡◌, ℕ, suc, ◌⊎◌, List, [], ◌∷◌, ◌++◌, refl, sym, ◌∙◌, ap, subst, arith, inl, inr}
use Rattle.std.specs.List.{Contains}
use Rattle.std.proofs.lemmas.List.Elements.{Contains-append_right}
use Rattle.lemmas.proofs.Lists.{same_head, same_tail}
use Rattle.lemmas.proofs.Members.{none_contained, Contains-head, Contains-cases}
use Rattle.adya_rules.specs.Clauses.FirstFaults.{IsOnLine}

pub on_line-head : {X : Type 0} (x : X) (xs : List X) (start : ℕ) → IsOnLine (x ∷ xs) start start [] x
on_line-head x xs start = record { after = xs; splits = refl; counts = omega arith }

pub on_line-cons : {X : Type 0} (y : X) (xs : List X) (start line : ℕ) (before : List X) (x : X)
    → IsOnLine xs (suc start) line before x → IsOnLine (y ∷ xs) start line (y ∷ before) x
on_line-cons y xs start line before x s = record {
  after = s.after;
  splits = ap (λ zs. y ∷ zs) s.splits;
  counts = let c = s.counts in omega (arith, c);
}

pub on_line-empty : {X : Type 0} (start line : ℕ) (before : List X) (x : X) → IsOnLine [] start line before x → ⊥
on_line-empty start line [] x s = let e = s.splits in cc (e)
on_line-empty start line (y ∷ before) x s = let e = s.splits in cc (e)

-- an element on a line is the first of its list, or is in the rest
pub on_line-cases : {X : Type 0} (y : X) (xs : List X) (start line : ℕ) (before : List X) (x : X)
    → IsOnLine (y ∷ xs) start line before x
    → ((before ≡ []) × (y ≡ x) × (line ≡ start)) ⊎
    ((rest : List X) × (before ≡ y ∷ rest) × IsOnLine xs (suc start) line rest x)
on_line-cases y xs start line [] x s =
    let c = s.counts in inl (refl, same_head y x xs s.after s.splits, omega (arith, c))
on_line-cases y xs start line (z ∷ before) x s =
    let c = s.counts in
    inr (
      before,
      ap (λ w. w ∷ before) (sym (same_head y z xs (before ++ x ∷ s.after) s.splits)),
      record {
        after = s.after;
        splits = same_tail y z xs (before ++ x ∷ s.after) s.splits;
        counts = omega (arith, c);
      },
    )

pub on_line-contained : {X : Type 0} (xs : List X) (start line : ℕ) (before : List X) (x : X)
    → IsOnLine xs start line before x → Contains xs x
on_line-contained xs start line before x s =
    subst (λ ys. Contains ys x) (sym s.splits)
    (Contains-append_right before (x ∷ s.after) x (Contains-head x s.after))

pub contained-on_line : {X : Type 0} (xs : List X) (start : ℕ) (x : X) → Contains xs x
    → (line : ℕ) × (before : List X) × IsOnLine xs start line before x
contained-on_line [] start x c = absurd (none_contained x c)
contained-on_line (y ∷ xs) start x c =
    elim (Contains-cases y xs x c) [
      | inl e ↦ (start, [], subst (λ z. IsOnLine (y ∷ xs) start start [] z) e (on_line-head y xs start))
      | inr r ↦
          let s = contained-on_line xs (suc start) x r in
          (s.0, y ∷ s.1, on_line-cons y xs start s.0 s.1 x s.2)
    ]

-- there is one element on a line
pub on_line-same : {X : Type 0} (xs : List X) (start line : ℕ) (before other : List X) (x y : X)
    → IsOnLine xs start line before x → IsOnLine xs start line other y → x ≡ y
on_line-same [] start line before other x y s t = absurd (on_line-empty start line before x s)
on_line-same (z ∷ xs) start line before other x y s t =
    elim (on_line-cases z xs start line before x s) [
      | inl a ↦
          (elim (on_line-cases z xs start line other y t) [
            | inl b ↦ sym a.1 ∙ b.1
            | inr b ↦ let c = b.2.counts in let d = a.2 in absurd (omega (arith, c, d))
          ])
      | inr a ↦
          (elim (on_line-cases z xs start line other y t) [
            | inl b ↦ let c = a.2.counts in let d = b.2 in absurd (omega (arith, c, d))
            | inr b ↦ on_line-same xs (suc start) line a.0 b.0 x y a.2 b.2
          ])
    ]
