-- Marks in a list.
use Rattle.std.specs.Prelude.{ℕ, ◌==◌, Bool, not, ◌&&◌, List}
use Rattle.std.specs.List.{list_any}
use Rattle.adya_keys.specs.Meaning.Keys.{lies_in}
use Rattle.ssi_reads.specs.declared.span.Mark.{Mark}

-- the mark is of this transaction and over this key
abbrev pub is_over : ℕ → List ℕ → Mark → Bool
is_over u k m = (u == m.txn) && lies_in m.span.low m.span.high k

abbrev pub is_of_other : ℕ → Mark → Bool
is_of_other t m = not (m.txn == t)

abbrev pub list_marked : List Mark → ℕ → List ℕ → Bool
list_marked ms u k = list_any (is_over u k) ms
