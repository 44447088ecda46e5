-- What steps append, one after the other.
use Rattle.std.proofs.Common.{◌≡◌, ℕ, ◌==◌, true, false, cond, List, [], ◌∷◌, ◌++◌, Some, None, map, refl, ap}
use Rattle.std.specs.List.{filter_map, cons_option}
use Rattle.append_values.specs.declared.transaction.Operation.{Operation as OperationValue}
use Rattle.append_values.specs.declared.transaction.Operation.TheVariants as In
use Rattle.append_values.specs.Meaning.Histories.{Operation, Append, Read, LostRead, operation_of}
use Rattle.append_values.specs.Meaning.Reads.{appended}
use Rattle.append_values.specs.Machinery.Appended.{appended_by}

pub appended-append : (k : ℕ) (os ps : List Operation) → appended k (os ++ ps) ≡ appended k os ++ appended k ps
appended-append k [] ps = refl
appended-append k (Append j x ∷ os) ps =
    let rest = appended-append k os ps in
    elim (j == k) as (λ b. cond b (x ∷ appended k (os ++ ps)) (appended k (os ++ ps)) ≡ cond b (x ∷ appended k os) (appended k os) ++ appended k ps) [
      | true ↦ ap (λ ys. x ∷ ys) rest
      | false ↦ rest
    ]
appended-append k (Read j xs ∷ os) ps = appended-append k os ps
appended-append k (LostRead j ∷ os) ps = appended-append k os ps

-- what steps append, one by one
pub appended_each : (k : ℕ) (os : List OperationValue) → filter_map (λ o. appended_by k (operation_of o)) os ≡ appended k (map operation_of os)
appended_each k [] = refl
appended_each k (In.Append j x ∷ os) =
    let rest = appended_each k os in
    let done = filter_map (λ (o : OperationValue). appended_by k (operation_of o)) os in
    let all = appended k (map operation_of os) in
    elim (j == k) as (λ b. cons_option (cond b (Some x) None) done ≡ cond b (x ∷ all) all) [
      | true ↦ ap (λ ys. x ∷ ys) rest
      | false ↦ rest
    ]
appended_each k (In.Read j xs ∷ os) = appended_each k os
appended_each k (In.LostRead j ∷ os) = appended_each k os
