-- Marks of keys in maps: by key and by transaction.
use Rattle.std.specs.Prelude.{Option, Some, None, ℕ, Bool, false, ◌&&◌, List}
use Rattle.std.specs.Ordering.{nat_cmp}
use Rattle.std.specs.Cmp.Lexicographic.{slice_cmp}
use Rattle.std.specs.BTreeMap.{BTreeMap, get}
use Rattle.std.specs.BTreeSet.{BTreeSet, contains}
use Rattle.ssi_reads.specs.declared.key_marks.KeyMarks.{KeyMarks}

abbrev pub txn_in : Option (BTreeSet ℕ) → ℕ → Bool
txn_in None u = false
txn_in (Some s) u = contains nat_cmp s u

abbrev pub key_in : Option (BTreeSet (List ℕ)) → List ℕ → Bool
key_in None k = false
key_in (Some s) k = contains (slice_cmp nat_cmp) s k

-- the transaction stands under the key
abbrev pub indexed : BTreeMap (List ℕ) (BTreeSet ℕ) → List ℕ → ℕ → Bool
indexed m k u = txn_in (get (slice_cmp nat_cmp) m k) u

-- the key stands under the transaction
abbrev pub listed : BTreeMap ℕ (BTreeSet (List ℕ)) → ℕ → List ℕ → Bool
listed m u k = key_in (get nat_cmp m u) k

-- a mark of the key is one that both maps have
abbrev pub key_marked : KeyMarks → ℕ → List ℕ → Bool
key_marked m u k = indexed m.txns k u && listed m.keys u k
