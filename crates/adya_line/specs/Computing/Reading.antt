-- Reading a line from left to right.
use Rattle.std.specs.Prelude.{◌≡◌, ℕ, zero, suc, ◌^◌, Bool, not, ◌&&◌, ◌==◌, nat_lt, nat_le, List, [], ◌∷◌, ◌++◌}
use Rattle.std.specs.Prelude.{length, take, drop, slice_index, Option, Some, None, option_and_then, if◌then◌else◌}
use Rattle.std.specs.List.{prefix_len}
use Rattle.std.specs.Char.{is_ascii_digit}
use Rattle.std.specs.Str.Parse.{digits_value}
use Rattle.adya_values.specs.declared.event.Version.{Version}
use Rattle.adya_keys.specs.Meaning.Keys.{is_key_byte, is_value_byte}
use Rattle.adya_values.specs.Meaning.Histories.{Content, Live, Dead, Entry, Event, Write, Delete, Read, Scan, Commit, Abort}
use Rattle.adya_values.specs.Meaning.Histories.{Order, FinalPair}

-- What a function returned, seen by view, is what reading gives.
abbrev pub Gives : {X Y : Type 0} → (X → Y) → Option X → Option Y → Type 0
Gives view (Some x) read = read ≡ Some (view x)
Gives view None read = read ≡ None

-- What a method returned, and what it left of the line, is what reading gives.
abbrev pub Steps : {X Y : Type 0} → (X → Y) → Option X → List ℕ → Option (Y × List ℕ) → Type 0
Steps view (Some x) rest read = read ≡ Some (view x, rest)
Steps view None rest read = read ≡ None

infixl 10 ◌>>=◌
abbrev pub ◌>>=◌ : {A B : Type 0} → Option A → (A → Option B) → Option B
o >>= f = option_and_then f o

-- what follows the byte at the front
unfoldable pub after : ℕ → List ℕ → Option (List ℕ)
after byte [] = None
after byte (b ∷ bytes) = if b == byte then Some bytes else None

-- the longest front of bytes that may stand there, 1 to limit of them, and what follows
unfoldable pub text_at : ℕ → (ℕ → Bool) → List ℕ → Option (List ℕ × List ℕ)
text_at limit may bytes =
    if nat_lt 0 (prefix_len may bytes) && nat_le (prefix_len may bytes) limit
    then Some (take (prefix_len may bytes) bytes, drop (prefix_len may bytes) bytes)
    else None

-- how many digits stand at the front
abbrev pub digits_len : List ℕ → ℕ
digits_len bytes = prefix_len is_ascii_digit bytes

-- the number at the front, from 1 and below 2 ^ 32, without leading zeros, and what follows
unfoldable pub txn_at : List ℕ → Option (ℕ × List ℕ)
txn_at bytes =
    if nat_lt 0 (digits_len bytes) && not (slice_index bytes 0 == 48) &&
    nat_lt (digits_value 10 (take (digits_len bytes) bytes)) (2 ^ 32)
    then Some (digits_value 10 (take (digits_len bytes) bytes), drop (digits_len bytes) bytes)
    else None

-- the same, below 2 ^ 16
unfoldable pub mod_at : List ℕ → Option (ℕ × List ℕ)
mod_at bytes = do
  n ← txn_at bytes
  if nat_lt n.0 (2 ^ 16) then Some n else None

-- the version at the front, and what follows
unfoldable pub version_at : List ℕ → Option (Version × List ℕ)
version_at bytes = do
  key ← text_at 32 is_key_byte bytes
  dot ← after 46 key.1
  txn ← txn_at dot
  colon ← after 58 txn.1
  m ← mod_at colon
  Some (record { key = key.0; txn = txn.0; m = m.0 }, m.1)

-- what was read, if nothing follows
abbrev pub whole : {A : Type 0} → A → List ℕ → Option A
whole x rest = if length rest == 0 then Some x else None

-- what comes of a part that may be there
abbrev pub none_or : {A B : Type 0} → Option B → A → (B → A) → A
none_or None absent present = absent
none_or (Some part) absent present = present part

-- T(K.T:M,V), both T the same
unfoldable pub write_at : List ℕ → Option Event
write_at bytes = do
  txn ← txn_at bytes
  inner ← after 40 txn.1
  version ← version_at inner
  comma ← after 44 version.1
  value ← text_at 64 is_value_byte comma
  end ← after 41 value.1
  if version.0.txn == txn.0 && length end == 0 then Some (Write txn.0 version.0.key version.0.m value.0) else None

-- T(K.T:M), both T the same
unfoldable pub delete_at : List ℕ → Option Event
delete_at bytes = do
  txn ← txn_at bytes
  inner ← after 40 txn.1
  version ← version_at inner
  end ← after 41 version.1
  if version.0.txn == txn.0 && length end == 0 then Some (Delete txn.0 version.0.key version.0.m) else None

-- T(K.T:M,V)
unfoldable pub read_at : List ℕ → Option Event
read_at bytes = do
  txn ← txn_at bytes
  inner ← after 40 txn.1
  version ← version_at inner
  comma ← after 44 version.1
  value ← text_at 64 is_value_byte comma
  end ← after 41 value.1
  whole (Read txn.0 version.0 value.0) end

-- V or !, and what follows
unfoldable pub content_at : List ℕ → Option (Content × List ℕ)
content_at bytes =
    none_or (after 33 bytes) (text_at 64 is_value_byte bytes >>= λ value. Some (Live value.0, value.1))
    (λ rest. Some (Dead, rest))

-- ;K.T:M,V or ;K.T:M,!, and what follows
unfoldable pub entry_at : List ℕ → Option (Entry × List ℕ)
entry_at bytes = do
  mark ← after 59 bytes
  version ← version_at mark
  comma ← after 44 version.1
  content ← content_at comma
  Some (record { version = version.0; content = content.0 }, content.1)

-- an entry before those that were read
abbrev pub entry_before : Entry → List Entry × List ℕ → List Entry × List ℕ
entry_before e read = (e ∷ read.0, read.1)

-- the entries at the front, at most n of them, and what follows
unfoldable pub entries_at : ℕ → List ℕ → List Entry × List ℕ
entries_at zero bytes = ([], bytes)
entries_at (suc n) bytes = none_or (entry_at bytes) ([], bytes) (λ e. entry_before e.0 (entries_at n e.1))

-- all the entries at the front
abbrev pub entries_of : List ℕ → List Entry
entries_of bytes = (entries_at (length bytes) bytes).0

-- what follows all the entries at the front
abbrev pub after_entries : List ℕ → List ℕ
after_entries bytes = (entries_at (length bytes) bytes).1

-- T(K,K;K.T:M,V;..)
unfoldable pub scan_at : List ℕ → Option Event
scan_at bytes = do
  txn ← txn_at bytes
  inner ← after 40 txn.1
  low ← text_at 32 is_key_byte inner
  comma ← after 44 low.1
  high ← text_at 32 is_key_byte comma
  end ← after 41 (after_entries high.1)
  whole (Scan txn.0 low.0 high.0 (entries_of high.1)) end

-- the number that is all of the line
unfoldable pub txn_at_line : List ℕ → Option ℕ
txn_at_line bytes = txn_at bytes >>= λ txn. whole txn.0 txn.1

-- the event of the line
unfoldable pub event_at : List ℕ → Option Event
event_at [] = None
event_at (b ∷ bytes) =
    if b == 119 then write_at bytes
    else (if b == 100 then delete_at bytes
    else (if b == 114 then read_at bytes
    else (if b == 115 then scan_at bytes
    else (if b == 99 then (txn_at_line bytes >>= λ txn. Some (Commit txn))
    else (if b == 97 then (txn_at_line bytes >>= λ txn. Some (Abort txn))
    else None)))))

-- the unfinished transaction of the line
unfoldable pub unfinished_at : List ℕ → Option ℕ
unfinished_at line = after 117 line >>= txn_at_line

-- the second byte of the mark << and a number, and what follows
unfoldable pub writer_at : List ℕ → Option (ℕ × List ℕ)
writer_at bytes = after 60 bytes >>= txn_at

-- the numbers, each after <<, at most n of them, and what follows
unfoldable pub later_at : ℕ → List ℕ → Option (List ℕ × List ℕ)
later_at zero bytes = Some ([], bytes)
later_at (suc n) bytes =
    none_or (after 60 bytes) (Some ([], bytes)) (λ mark.
    writer_at mark >>= λ t. later_at n t.1 >>= λ ts. Some (t.0 ∷ ts.0, ts.1))

-- what was read, after other numbers
abbrev pub with_front : List ℕ → Option (List ℕ × List ℕ) → Option (List ℕ × List ℕ)
with_front front read = read >>= λ x. Some (front ++ x.0, x.1)

-- T<<T<<.., and what follows
unfoldable pub writers_at : List ℕ → Option (List ℕ × List ℕ)
writers_at bytes = do
  first ← txn_at bytes
  with_front (first.0 ∷ []) (later_at (length first.1) first.1)

-- the key between the two bytes, the first of which is at the front, and what follows
unfoldable pub key_between : ℕ → ℕ → List ℕ → Option (List ℕ × List ℕ)
key_between opening closing bytes = do
  inner ← after opening bytes
  key ← text_at 32 is_key_byte inner
  rest ← after closing key.1
  Some (key.0, rest)

-- the order of the line
unfoldable pub order_at : List ℕ → Option Order
order_at line = do
  key ← key_between 91 58 line
  writers ← writers_at key.1
  end ← after 93 writers.1
  whole (record { key = key.0; writers = writers.0 }) end

-- the final of the line
unfoldable pub final_at : List ℕ → Option FinalPair
final_at line = do
  key ← key_between 123 44 line
  value ← text_at 64 is_value_byte key.1
  end ← after 125 value.1
  whole (record { key = key.0; value = value.0 }) end
