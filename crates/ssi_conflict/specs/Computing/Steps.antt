-- Pairs and pivots call by call: the computing twins of `IsPair`, `IsPivot` and `IsOrderedPivot`.
use Rattle.std.specs.Prelude.{ℕ, ◌==◌, Bool, true, false, not, ◌&&◌, ◌||◌, nat_lt, nat_le, List, [], ◌∷◌, Option, Some, None}
use Rattle.std.specs.List.{list_any, find}
use Rattle.adya_keys.specs.Meaning.Keys.{lies_in}
use Rattle.ssi_conflict.specs.Meaning.Calls.{Call, Reads, Commits, stamp_of, keys_of, is_committed, is_aborted, meets, begun, are_concurrent}

-- the call adds the pair: a read, one with each concurrent transaction that has committed and wrote a key of the range;
-- a commit, one with each concurrent transaction, not aborted, that has read a key that is written
abbrev pub adds : Call → List Call → ℕ → ℕ → Bool
adds (Reads t low high) calls r u = (t == r) && (is_committed u calls && (are_concurrent r u calls && list_any (lies_in low high) (keys_of u calls)))
adds (Commits t n ks) calls r u = (t == u) && (not (is_aborted r calls) && (are_concurrent r u (Commits t n ks ∷ calls) && list_any (λ k. meets r k calls) ks))
adds _ calls r u = false

-- pairs stay for good
abbrev pub is_pair : ℕ → ℕ → List Call → Bool
is_pair r u [] = false
is_pair r u (c ∷ calls) = adds c calls r u || is_pair r u calls

-- some pair leads to the transaction, and some pair leads from it
abbrev pub is_pivot : ℕ → List Call → Bool
is_pivot t calls = list_any (λ a. is_pair a t calls) (begun calls) && list_any (λ b. is_pair t b calls) (begun calls)

-- the pivot with the smallest number
abbrev pub smallest_pivot : List Call → Option ℕ
smallest_pivot calls = find (λ t. is_pivot t calls) (begun calls)

-- the first stamp is below the second
abbrev pub is_earlier : Option ℕ → Option ℕ → Bool
is_earlier (Some n) (Some m) = nat_lt n m
is_earlier _ _ = false

-- the first stamp is at most the second; a missing second one counts as later than all
abbrev pub is_no_later : Option ℕ → Option ℕ → Bool
is_no_later None m = false
is_no_later (Some n) None = true
is_no_later (Some n) (Some m) = nat_le n m

-- a pair leads to some b that committed before the transaction, and a pair leads to it from some a that b did not
-- commit after
abbrev pub is_ordered_pivot : ℕ → List Call → Bool
is_ordered_pivot t calls =
    list_any (λ b. (is_pair t b calls && is_earlier (stamp_of b calls) (stamp_of t calls)) &&
    list_any (λ a. is_pair a t calls && is_no_later (stamp_of b calls) (stamp_of a calls)) (begun calls)) (begun calls)

-- the pivot of the commit-order rule with the smallest number
abbrev pub smallest_ordered_pivot : List Call → Option ℕ
smallest_ordered_pivot calls = find (λ t. is_ordered_pivot t calls) (begun calls)
