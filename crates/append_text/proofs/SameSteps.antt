-- Steps that are the same but for what reads got.
use Rattle.std.proofs.Common.{◌≡◌, ℕ, zero, suc, ◌<◌, true, List, [], ◌∷◌, map, length, refl, ap, ◌∙◌, arith}
use Rattle.std.specs.Prelude.{slice_index_or}
use Rattle.std.proofs.lemmas.Bool.{eq-eqb}
use Rattle.append_values.specs.declared.transaction.Operation.{Operation as OperationValue}
use Rattle.append_values.specs.Meaning.Histories.{Operation, Append, Read, LostRead, operation_of}
use Rattle.append_text.specs.Meaning.Steps.{is_same, without_result}
use Rattle.append_text.specs.Meaning.Pairing.{AreSame}

same_steps : (a b : Operation) → without_result a ≡ without_result b → is_same a b ≡ true
same_steps (Append k x) (Append l y) e = let keys : k ≡ l = cc in let elements : x ≡ y = cc in rw (eq-eqb k l keys, eq-eqb x y elements) refl
same_steps (Append k x) (Read l ys) e = absurd cc
same_steps (Append k x) (LostRead l) e = absurd cc
same_steps (Read k xs) (Append l y) e = absurd cc
same_steps (Read k xs) (Read l ys) e = eq-eqb k l cc
same_steps (Read k xs) (LostRead l) e = eq-eqb k l cc
same_steps (LostRead k) (Append l y) e = absurd cc
same_steps (LostRead k) (Read l ys) e = eq-eqb k l cc
same_steps (LostRead k) (LostRead l) e = eq-eqb k l cc

same_at : (xs ys : List OperationValue) (i : ℕ) (d e : OperationValue) → AreSame (map operation_of xs) (map operation_of ys)
    → i < length xs → is_same (operation_of (slice_index_or xs i d)) (operation_of (slice_index_or ys i e)) ≡ true
same_at [] ys i d e same within = absurd (omega (arith, within))
same_at (x ∷ xs) [] i d e same within = absurd cc
same_at (x ∷ xs) (y ∷ ys) zero d e same within = same_steps (operation_of x) (operation_of y) cc
same_at (x ∷ xs) (y ∷ ys) (suc i) d e same within =
    let tails : AreSame (map operation_of xs) (map operation_of ys) = cc in same_at xs ys i d e tails (omega (arith, within))

pub same_items : (xs ys : List OperationValue) (i : ℕ) (x y : OperationValue)
    → AreSame (map operation_of xs) (map operation_of ys) → i < length xs → x ≡ slice_index_or xs i x
    → y ≡ slice_index_or ys i y → is_same (operation_of x) (operation_of y) ≡ true
same_items xs ys i x y same within at_x at_y =
    ap (λ z. is_same (operation_of z) (operation_of y)) at_x
    ∙ ap (λ z. is_same (operation_of (slice_index_or xs i x)) (operation_of z)) at_y
    ∙ same_at xs ys i x y same within
