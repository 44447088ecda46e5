-- Prefixes of keys, and ranges that stand under one.
use Rattle.std.specs.Prelude.{Option, Some, None, ℕ, zero, suc, Bool, ◌==◌, ◌&&◌, cond, List, [], ◌∷◌, length, take}
use Rattle.std.specs.List.{list_any}
use Rattle.std.specs.Option.{option_cmp}
use Rattle.std.specs.Ordering.{nat_cmp, is_eq, ordering_then}
use Rattle.std.specs.Cmp.Lexicographic.{slice_cmp}
use Rattle.std.specs.declared.cmp.Ordering.{Ordering}
use Rattle.adya_keys.specs.Meaning.Keys.{is_key, lies_in}
use Rattle.ssi_reads.specs.declared.span.Span.{Span}
use Rattle.ssi_reads.specs.declared.span.Mark.{Mark}
use Rattle.ssi_reads.specs.declared.place.Place.{Place}

-- these bytes as a prefix; the empty one is none
abbrev pub prefix_of : List ℕ → Option (List ℕ)
prefix_of bytes = cond (is_key bytes) (Some bytes) None

-- the prefixes of a key with less than so many bytes
abbrev pub prefixes : List ℕ → ℕ → List (Option (List ℕ))
prefixes k zero = []
prefixes k (suc n) = prefix_of (take n k) ∷ prefixes k n

-- the longest list that both begin with
abbrev pub shared : List ℕ → List ℕ → List ℕ
shared [] bs = []
shared (a ∷ rest) [] = []
shared (a ∷ rest) (b ∷ bs) = cond (a == b) (a ∷ shared rest bs) []

abbrev pub prefix_cmp : Option (List ℕ) → Option (List ℕ) → Ordering
prefix_cmp q r = option_cmp (slice_cmp nat_cmp) q r

abbrev pub span_cmp : Span → Span → Ordering
span_cmp s r = ordering_then (slice_cmp nat_cmp s.low r.low) (slice_cmp nat_cmp s.high r.high)

abbrev pub mark_cmp : Mark → Mark → Ordering
mark_cmp m n = ordering_then (span_cmp m.span n.span) (nat_cmp m.txn n.txn)

abbrev pub place_cmp : Place → Place → Ordering
place_cmp p q = ordering_then (prefix_cmp p.prefix q.prefix) (span_cmp p.span q.span)

-- the key begins with the prefix
abbrev pub begins : List ℕ → Option (List ℕ) → Bool
begins k q = list_any (λ r. is_eq (prefix_cmp r q)) (prefixes k (suc (length k)))

-- the key begins with the prefix of the place, and lies in its range
abbrev pub covers : Place → List ℕ → Bool
covers p k = begins k p.prefix && lies_in p.span.low p.span.high k
