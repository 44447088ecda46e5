-- Sets of marks. A set tells of each transaction and each key whether the transaction has a mark over the key.
use Rattle.std.specs.Prelude.{◌≡◌, ℕ, ◌==◌, Bool, false, not, ◌&&◌, ◌||◌}
use Rattle.std.specs.List.{list_any}
use Rattle.adya_keys.specs.Meaning.Keys.{Key, lies_in}
use Rattle.adya_values.specs.Meaning.Histories.{Txns}

-- the set with one more mark: of t, over the keys from low to high
abbrev pub with_mark : ℕ → Key → Key → (ℕ → Key → Bool) → ℕ → Key → Bool
with_mark t low high marked u k = ((u == t) && lies_in low high k) || marked u k

-- the set without the marks of t
abbrev pub without : ℕ → (ℕ → Key → Bool) → ℕ → Key → Bool
without t marked u k = not (u == t) && marked u k

-- both sets have the same marks
abbrev pub IsSame : (ℕ → Key → Bool) → (ℕ → Key → Bool) → Type 0
IsSame f g = (u : ℕ) (k : Key) → f u k ≡ g u k

-- no transaction has a mark over any key
abbrev pub IsEmpty : (ℕ → Key → Bool) → Type 0
IsEmpty marked = (u : ℕ) (k : Key) → marked u k ≡ false

-- the transaction is in the list
abbrev pub has_txn : Txns → ℕ → Bool
has_txn ts t = list_any (λ u. u == t) ts
