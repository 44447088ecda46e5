-- No line has a line feed in it.
use Rattle.std.proofs.Common.{◌≡◌, ◌≢◌, ℕ, ◌<◌, ◌^◌, Bool, true, false, List, [], ◌∷◌, ◌++◌, length, refl, ap, ◌∙◌}
use Rattle.std.proofs.Common.{arith}
use Rattle.std.specs.Prelude.{decimal, codes, nat_lt, nat_le, ◌&&◌, not, ◌==◌}
use Rattle.std.specs.List.{list_all, flat_map, AllByRecursion}
use Rattle.std.specs.Char.{is_ascii_digit}
use Rattle.std.proofs.lemmas.Bool.{both_ways, and_parts}
use Rattle.std.proofs.lemmas.List.Elements.{All-append, All-from_recursion}
use Rattle.std.proofs.lemmas.List.Concat.{flat_map-cons}
use Rattle.std.proofs.lemmas.Fmt.{digits_decimal}
use Rattle.adya_values.specs.declared.event.Version.{Version}
use Rattle.adya_keys.specs.Meaning.Keys.{is_key, is_value, is_key_byte, is_value_byte, IsTxn}
use Rattle.adya_values.specs.Meaning.Histories.{Content, Live, Dead, Entry, Write, Delete, Read, Scan, Commit, Abort}
use Rattle.adya_line.specs.Meaning.Spelling.{history_head, second_head, serial_head, tail, version_text, content_text}
use Rattle.adya_line.specs.Meaning.Spelling.{entry_text, event_text, unfinished_text, later_text, writers_text, order_text}
use Rattle.adya_line.specs.Meaning.Spelling.{final_text}
use Rattle.adya_line.specs.Meaning.Limits.{IsVersion, IsContent, IsEntry, IsEvent, IsOrder, IsFinal}
use Rattle.adya_line.specs.Laws.{HasPlainTexts}
use Rattle.adya_line.specs.Meaning.Lines.{IsPlain}
use Rattle.adya_line.proofs.Digits.{model, list_all-is}

-- a record, so that antt finds the bytes
record Plain (bytes : List ℕ) : Type 0 where
  holds : IsPlain bytes

-- bytes that pass a test that a line feed does not
passed : (may : ℕ → Bool) → may 10 ≡ false → (bytes : List ℕ) → list_all may bytes ≡ true
    → AllByRecursion (λ b. b ≢ 10) bytes
passed may stop [] all = tt
passed may stop (b ∷ bytes) all =
    let g = and_parts (may b) (list_all may bytes) all in
    (λ e. both_ways (may b) (ap may e ∙ stop) g.0, passed may stop bytes g.1)

by_test : (may : ℕ → Bool) → may 10 ≡ false → (bytes : List ℕ) → list_all may bytes ≡ true → Plain bytes
by_test may stop bytes all = record { holds = All-from_recursion (λ b. b ≢ 10) bytes (passed may stop bytes all) }

abbrev is_other : ℕ → Bool
is_other b = not (b == 10)

fixed : (bytes : List ℕ) → list_all is_other bytes ≡ true → Plain bytes
fixed bytes all = by_test is_other refl bytes all

with_text : {x y : List ℕ} → Plain x → Plain y → Plain (x ++ y)
with_text {x = x} {y = y} p q = record { holds = All-append (λ b. b ≢ 10) x y p.holds q.holds }

key_plain : (k : List ℕ) → is_key k ≡ true → Plain k
unfolding is_key_byte
key_plain k good = by_test is_key_byte refl k (and_parts (nat_lt 0 (length k) && nat_le (length k) 32)
    (list_all is_key_byte k) good).1

value_plain : (v : List ℕ) → is_value v ≡ true → Plain v
unfolding is_value_byte
value_plain v good = by_test is_value_byte refl v (and_parts (nat_lt 0 (length v) && nat_le (length v) 64)
    (list_all is_value_byte v) good).1

decimal_plain : (n : ℕ) → n < 2 ^ 64 → Plain (decimal n)
decimal_plain n small = by_test is_ascii_digit refl (decimal n) (list_all-is (decimal n) ∙ digits_decimal model n small)

txn_plain : (t : ℕ) → IsTxn t → Plain (decimal t)
txn_plain t is = decimal_plain t (omega (arith, is.1))

version_plain : (v : Version) → IsVersion v → Plain (version_text v)
unfolding version_text
version_plain v is =
    with_text (with_text (with_text (with_text (key_plain v.key is.key) (fixed (codes ".") refl))
    (txn_plain v.txn is.txn)) (fixed (codes ":") refl)) (decimal_plain v.m (omega (arith, is.m.1)))

access_plain : (letter : List ℕ) (t : ℕ) (v : Version) (value : List ℕ) → Plain letter → IsTxn t → IsVersion v
    → is_value value ≡ true
    → Plain (letter ++ decimal t ++ codes "(" ++ version_text v ++ codes "," ++ value ++ codes ")")
access_plain letter t v value l is_t is_v good =
    with_text (with_text (with_text (with_text (with_text (with_text l (txn_plain t is_t)) (fixed (codes "(") refl))
    (version_plain v is_v)) (fixed (codes ",") refl)) (value_plain value good)) (fixed (codes ")") refl)

content_plain : (c : Content) → IsContent c → Plain (content_text c)
content_plain (Live value) is = value_plain value is
content_plain Dead is = fixed (codes "!") refl

entries_plain : (es : List Entry) → AllByRecursion IsEntry es → Plain (flat_map entry_text es)
entries_plain [] is = fixed [] refl
entries_plain (e ∷ es) is =
    rw (flat_map-cons entry_text e es) (with_text (with_text (with_text (with_text (fixed (codes ";") refl)
    (version_plain e.version is.0.version)) (fixed (codes ",") refl)) (content_plain e.content is.0.content))
    (entries_plain es is.1))

scan_plain : (t : ℕ) (low high : List ℕ) (es : List Entry) → IsTxn t → is_key low ≡ true → is_key high ≡ true
    → AllByRecursion IsEntry es
    → Plain (codes "s" ++ decimal t ++ codes "(" ++ low ++ codes "," ++ high ++ flat_map entry_text es ++ codes ")")
scan_plain t low high es is_t is_low is_high are =
    with_text (with_text (with_text (with_text (with_text (with_text (with_text (fixed (codes "s") refl)
    (txn_plain t is_t)) (fixed (codes "(") refl)) (key_plain low is_low)) (fixed (codes ",") refl))
    (key_plain high is_high))
    (entries_plain es are)) (fixed (codes ")") refl)

pub events_plain : HasPlainTexts IsEvent event_text
unfolding event_text
events_plain (Write t k m v) is = (access_plain (codes "w") t (record { key = k; txn = t; m = m }) v
    (fixed (codes "w") refl) is.0.txn is.0 is.1).holds
events_plain (Delete t k m) is = (with_text (with_text (with_text (with_text (fixed (codes "d") refl)
    (txn_plain t is.txn)) (fixed (codes "(") refl)) (version_plain (record { key = k; txn = t; m = m }) is))
    (fixed (codes ")") refl)).holds
events_plain (Read t r v) is = (access_plain (codes "r") t r v (fixed (codes "r") refl) is.0 is.1 is.2).holds
events_plain (Scan t low high es) is = (scan_plain t low high es is.0 is.1 is.2 is.3).holds
events_plain (Commit t) is = (with_text (fixed (codes "c") refl) (txn_plain t is)).holds
events_plain (Abort t) is = (with_text (fixed (codes "a") refl) (txn_plain t is)).holds

later_plain : (ts : List ℕ) → AllByRecursion IsTxn ts → Plain (flat_map later_text ts)
later_plain [] is = fixed [] refl
later_plain (t ∷ ts) is = rw (flat_map-cons later_text t ts)
    (with_text (with_text (fixed (codes "<<") refl) (txn_plain t is.0)) (later_plain ts is.1))

writers_plain : (ts : List ℕ) → AllByRecursion IsTxn ts → Plain (writers_text ts)
writers_plain [] is = fixed [] refl
writers_plain (t ∷ ts) is = with_text (txn_plain t is.0) (later_plain ts is.1)

pub orders_plain : HasPlainTexts IsOrder order_text
unfolding order_text
orders_plain o is =
    (with_text (with_text (with_text (with_text (fixed (codes "[") refl) (key_plain o.key is.key))
    (fixed (codes ":") refl)) (writers_plain o.writers is.writers)) (fixed (codes "]") refl)).holds

pub finals_plain : HasPlainTexts IsFinal final_text
unfolding final_text
finals_plain f is =
    (with_text (with_text (with_text (with_text (fixed (codes "{") refl) (key_plain f.key is.key))
    (fixed (codes ",") refl)) (value_plain f.value is.value)) (fixed (codes "}") refl)).holds

pub unfinished_plain : HasPlainTexts IsTxn unfinished_text
unfinished_plain t is = (with_text (fixed (codes "u") refl) (txn_plain t is)).holds

pub txns_plain : HasPlainTexts IsTxn decimal
txns_plain t is = (txn_plain t is).holds

pub history_head_plain : IsPlain history_head
history_head_plain = (fixed history_head refl).holds

pub second_head_plain : IsPlain second_head
second_head_plain = (fixed second_head refl).holds

pub serial_head_plain : IsPlain serial_head
serial_head_plain = (fixed serial_head refl).holds

pub tail_plain : IsPlain tail
tail_plain = (fixed tail refl).holds
