-- The entries that packed entries stand for: lists of keys and of bytes say the rest.
use Rattle.std.specs.Prelude.{◌≡◌, ℕ, zero, suc, ◌+◌, Bool, true, ◌&&◌, nat_le, nat_lt, List, length}
use Rattle.adya_keys.specs.Meaning.Keys.{Bytes, Key, is_value}
use Rattle.adya_keys.specs.Machinery.Within.{key_at, part}
use Rattle.adya_values.specs.Meaning.Histories.{Content, Entry, Live, Dead}
use Rattle.adya_values.specs.declared.seen.Seen.{Seen}

-- the value of so many bytes from this place on; dead if there are none
abbrev pub content_in : Bytes → ℕ → ℕ → Content
content_in bs at zero = Dead
content_in bs at (suc n) = Live (part at (suc n) bs)

abbrev pub entry_in : List Key → Bytes → Seen → Entry
entry_in ks bs s = record {
  version = record { key = key_at ks s.key; txn = s.txn; m = s.m };
  content = content_in bs s.at s.len;
}

-- so many bytes from this place on are there, and make a value
abbrev pub is_part : Bytes → ℕ → ℕ → Bool
is_part bs at n = nat_le (at + n) (length bs) && is_value (part at n bs)

abbrev pub is_content : Bytes → ℕ → ℕ → Bool
is_content bs at zero = true
is_content bs at (suc n) = is_part bs at (suc n)

-- what the packed entry names is there, with so many keys
abbrev pub is_seen : ℕ → Bytes → Seen → Bool
is_seen n bs s = nat_lt s.key n && is_content bs s.at s.len

-- the value is in the bytes at this place, and has so many
pub record IsKept (bs v : Bytes) (at n : ℕ) : Type 0 where
  pub there : is_part bs at n ≡ true
  pub value : part at n bs ≡ v
