-- What single reads of a history say.
use Rattle.std.specs.Prelude.{◌≡◌, ℕ, ◌==◌, ◌≤◌, if◌then◌else◌, List, [], ◌∷◌, ◌++◌, Contains, count_by}
use Rattle.append_values.specs.declared.transaction.Outcome.TheVariants.{Committed}
use Rattle.append_values.specs.Meaning.Histories.{Operation, Append, Read, LostRead, History, outcome, operations, effects}

-- the elements that these steps append to the list of the key, in order
abbrev pub appended : ℕ → List Operation → List ℕ
appended k [] = []
appended k (Append j x ∷ os) = if j == k then x ∷ appended k os else appended k os
appended k (Read j xs ∷ os) = appended k os
appended k (LostRead j ∷ os) = appended k os

-- what the transaction appends to the list of the key. What an aborted one appended has no effect, so it is none
abbrev pub own : History → ℕ → ℕ → List ℕ
own h k t = appended k (effects h t)

-- the committed transaction read these elements of the key, after those steps of its own
pub record HasRead (h : History) (t k : ℕ) (xs : List ℕ) (before : List Operation) : Type 0 where
  pub committed : outcome h t ≡ Committed
  pub rest : List Operation
  pub splits : operations h t ≡ before ++ Read k xs ∷ rest

-- no two transactions append the same element to the list of a key
abbrev pub AppendersDiffer : History → Type 0
AppendersDiffer h = (k x t u : ℕ) → Contains (own h k t) x → Contains (own h k u) x → t ≡ u

-- no transaction appends an element twice to the list of a key
abbrev pub AppendsOnce : History → Type 0
AppendsOnce h = (k x t : ℕ) → count_by (λ y. y == x) (own h k t) ≤ 1

abbrev pub IsPrefixOf : List ℕ → List ℕ → Type 0
IsPrefixOf xs ys = (rest : List ℕ) × (ys ≡ xs ++ rest)

-- what a transaction leaves in the list of a key, after a read of it: what it read, and what it appended afterwards
abbrev pub left : (h : History) (t k : ℕ) (xs : List ℕ) (before : List Operation) → HasRead h t k xs before → List ℕ
left h t k xs before r = xs ++ appended k r.rest
