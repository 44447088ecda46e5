-- What the line of a command is made of.
use Rattle.std.proofs.Common.{◌≡◌, ℕ, ◌+◌, ◌≤◌, List, [], ◌∷◌, ◌++◌, Bool, true, refl, sym, subst, length, arith}
use Rattle.std.specs.Prelude.{nat_le, nat_lt, ◌&&◌, codes, decimal, map}
use Rattle.std.specs.List.{list_all, All, AllByRecursion}
use Rattle.std.specs.Int.Digits.{digits_of}
use Rattle.std.proofs.lemmas.Bool.{leb-true, and_parts}
use Rattle.std.proofs.lemmas.Bool.Decides.{nat_tests}
use Rattle.std.proofs.lemmas.List.{length-append}
use Rattle.std.proofs.lemmas.List.Elements.{All-from_recursion}
use Rattle.std.proofs.lemmas.Fmt.{length-decimal-le, decimal-digits_of}
use Rattle.adya_keys.specs.Meaning.Keys.{is_text, is_key_byte, is_value_byte, IsMod}
use Rattle.ssi_store.specs.Meaning.Sessions.{is_session_byte}
use Rattle.ssi_store.specs.Meaning.Courses.{Command, Begin, Get, Put, Del, Scan, ScanFirst, Commit, Abort, Collect, Stat}
use Rattle.ssi_line.specs.Meaning.Spelling.{Do, IsCommand, IsLineOf, command_text, spaced}

-- ---- no command is too long

text_fits : (limit : ℕ) (may : ℕ → Bool) (bytes : List ℕ) → is_text limit may bytes ≡ true → length bytes ≤ limit
text_fits limit may bytes good =
    leb-true (length bytes) limit (and_parts (nat_lt 0 (length bytes)) (nat_le (length bytes) limit)
    (and_parts (nat_lt 0 (length bytes) && nat_le (length bytes) limit) (list_all may bytes) good).0).1

session_fits : (s : List ℕ) → is_text 16 is_session_byte s ≡ true → length s ≤ 64
session_fits s good = omega (arith, text_fits 16 is_session_byte s good)

key_fits : (k : List ℕ) → is_text 32 is_key_byte k ≡ true → length k ≤ 64
key_fits k good = omega (arith, text_fits 32 is_key_byte k good)

-- words of at most 64 bytes
more : (n : ℕ) (a b : List ℕ) (ws : List (List ℕ)) → length a ≤ 64 → length (spaced (b ∷ ws)) ≤ n
    → length (spaced (a ∷ b ∷ ws)) ≤ n + 65
more n a b ws first rest = omega (arith, length-append a (32 ∷ spaced (b ∷ ws)), first, rest)

few_digits : (n : ℕ) → IsMod n → length (decimal n) ≤ 5
few_digits n is = let (some, below) = is in length-decimal-le 5 n (omega arith) (omega (arith, below)) (omega (arith, below))

short_command : (c : Command) → IsCommand c → length (command_text c) ≤ 4096
short_command (Begin s) good = omega (arith, more 64 (codes "begin") s [] (omega arith) (session_fits s good))
short_command (Get s k) good =
    omega (
      arith,
      more 129 (codes "get") s (k ∷ []) (omega arith)
          (more 64 s k [] (session_fits s good.0) (key_fits k good.1)),
    )
short_command (Put s k v) good =
    omega (
      arith,
      more 194 (codes "put") s (k ∷ v ∷ []) (omega arith)
          (more 129 s k (v ∷ []) (session_fits s good.0)
          (more 64 k v [] (key_fits k good.1) (text_fits 64 is_value_byte v good.2))),
    )
short_command (Del s k) good =
    omega (
      arith,
      more 129 (codes "del") s (k ∷ []) (omega arith)
          (more 64 s k [] (session_fits s good.0) (key_fits k good.1)),
    )
short_command (Scan s low high) good =
    omega (
      arith,
      more 194 (codes "scan") s (low ∷ high ∷ []) (omega arith)
          (more 129 s low (high ∷ []) (session_fits s good.0)
          (more 64 low high [] (key_fits low good.1) (key_fits high good.2))),
    )
short_command (ScanFirst s low high n) good =
    let (of, from, to, is) = good in
    let digits = few_digits n is in
    omega (
      arith,
      more 259 (codes "scan") s (low ∷ high ∷ decimal n ∷ []) (omega arith)
          (more 194 s low (high ∷ decimal n ∷ []) (session_fits s of)
          (more 129 low high (decimal n ∷ []) (key_fits low from)
          (more 64 high (decimal n) [] (key_fits high to) (omega (arith, digits))))),
    )
short_command (Commit s) good = omega (arith, more 64 (codes "commit") s [] (omega arith) (session_fits s good))
short_command (Abort s) good = omega (arith, more 64 (codes "abort") s [] (omega arith) (session_fits s good))
short_command Collect good = omega arith
short_command Stat good = omega arith

pub short_line : (c : Command) (text : List ℕ) → IsLineOf (Do c) text → length text ≤ 4096
short_line c text is = subst (λ (l : List ℕ). length l ≤ 4096) (sym is.same) (short_command c is.good)

-- ---- no byte of it is a control character

abbrev pub ArePrinted : List ℕ → Type 0
ArePrinted bytes = AllByRecursion (λ b. 32 ≤ b) bytes

key_printed : (b : ℕ) → is_key_byte b ≡ true → 32 ≤ b
unfolding is_key_byte
key_printed b e = grind (arith, nat_tests)

value_printed : (b : ℕ) → is_value_byte b ≡ true → 32 ≤ b
unfolding is_value_byte
value_printed b e = grind (arith, nat_tests)

session_printed : (b : ℕ) → is_session_byte b ≡ true → 32 ≤ b
unfolding is_session_byte
session_printed b e = grind (arith, nat_tests)

tested : (may : ℕ → Bool) → ((b : ℕ) → may b ≡ true → 32 ≤ b) → (bytes : List ℕ) → list_all may bytes ≡ true → ArePrinted bytes
tested may low [] e = tt
tested may low (b ∷ bytes) e =
    let both = and_parts (may b) (list_all may bytes) e in
    (low b both.0, tested may low bytes both.1)

of_text : (limit : ℕ) (may : ℕ → Bool) → ((b : ℕ) → may b ≡ true → 32 ≤ b) → (bytes : List ℕ) → is_text limit may bytes ≡ true
    → ArePrinted bytes
of_text limit may low bytes good =
    tested may low bytes (and_parts (nat_lt 0 (length bytes) && nat_le (length bytes) limit) (list_all may bytes) good).1

of_digits : (ds : List ℕ) → ArePrinted (map (λ d. 48 + d) ds)
of_digits [] = tt
of_digits (d ∷ ds) = (omega arith, of_digits ds)

of_number : (n : ℕ) → IsMod n → ArePrinted (decimal n)
of_number n is =
    let (some, below) = is in
    subst ArePrinted (sym (decimal-digits_of n some (omega (arith, below)))) (of_digits (digits_of 10 n))

-- a word and what follows it
followed : (a b : List ℕ) → ArePrinted a → ArePrinted b → ArePrinted (a ++ (32 ∷ b))
followed [] b p q = (omega arith, q)
followed (x ∷ a) b p q = (p.0, followed a b p.1 q)

word : (w : List ℕ) → list_all (nat_le 32) w ≡ true → ArePrinted w
word w e = tested (nat_le 32) (λ b low. leb-true 32 b low) w e

session : (s : List ℕ) → is_text 16 is_session_byte s ≡ true → ArePrinted s
session s good = of_text 16 is_session_byte session_printed s good

key : (k : List ℕ) → is_text 32 is_key_byte k ≡ true → ArePrinted k
key k good = of_text 32 is_key_byte key_printed k good

value : (v : List ℕ) → is_text 64 is_value_byte v ≡ true → ArePrinted v
value v good = of_text 64 is_value_byte value_printed v good

printed_command : (c : Command) → IsCommand c → ArePrinted (command_text c)
printed_command (Begin s) good = followed (codes "begin") s (word (codes "begin") refl) (session s good)
printed_command (Get s k) good =
    followed (codes "get") (spaced (s ∷ k ∷ [])) (word (codes "get") refl) (followed s k (session s good.0) (key k good.1))
printed_command (Put s k v) good =
    followed (codes "put") (spaced (s ∷ k ∷ v ∷ [])) (word (codes "put") refl)
    (followed s (spaced (k ∷ v ∷ [])) (session s good.0) (followed k v (key k good.1) (value v good.2)))
printed_command (Del s k) good =
    followed (codes "del") (spaced (s ∷ k ∷ [])) (word (codes "del") refl) (followed s k (session s good.0) (key k good.1))
printed_command (Scan s low high) good =
    followed (codes "scan") (spaced (s ∷ low ∷ high ∷ [])) (word (codes "scan") refl)
    (followed s (spaced (low ∷ high ∷ [])) (session s good.0) (followed low high (key low good.1) (key high good.2)))
printed_command (ScanFirst s low high n) good =
    let (of, from, to, is) = good in
    followed (codes "scan") (spaced (s ∷ low ∷ high ∷ decimal n ∷ [])) (word (codes "scan") refl)
    (followed s (spaced (low ∷ high ∷ decimal n ∷ [])) (session s of)
    (followed low (spaced (high ∷ decimal n ∷ [])) (key low from) (followed high (decimal n) (key high to) (of_number n is))))
printed_command (Commit s) good = followed (codes "commit") s (word (codes "commit") refl) (session s good)
printed_command (Abort s) good = followed (codes "abort") s (word (codes "abort") refl) (session s good)
printed_command Collect good = word (codes "collect") refl
printed_command Stat good = word (codes "stat") refl

pub printed_line : (c : Command) (text : List ℕ) → IsLineOf (Do c) text → All (λ b. 32 ≤ b) text
printed_line c text is =
    All-from_recursion _ text (subst ArePrinted (sym is.same) (printed_command c is.good))

-- ---- it begins with a letter

after_first : List ℕ → List ℕ
after_first [] = []
after_first (b ∷ bytes) = bytes

abbrev pub IsLettered : List ℕ → Type 0
IsLettered text = (b : ℕ) × (rest : List ℕ) × (text ≡ b ∷ rest) × (97 ≤ b)

lettered_command : (c : Command) → IsLettered (command_text c)
unfolding after_first
lettered_command (Begin s) = (98, after_first (command_text (Begin s)), refl, omega arith)
lettered_command (Get s k) = (103, after_first (command_text (Get s k)), refl, omega arith)
lettered_command (Put s k v) = (112, after_first (command_text (Put s k v)), refl, omega arith)
lettered_command (Del s k) = (100, after_first (command_text (Del s k)), refl, omega arith)
lettered_command (Scan s low high) = (115, after_first (command_text (Scan s low high)), refl, omega arith)
lettered_command (ScanFirst s low high n) = (115, after_first (command_text (ScanFirst s low high n)), refl, omega arith)
lettered_command (Commit s) = (99, after_first (command_text (Commit s)), refl, omega arith)
lettered_command (Abort s) = (97, after_first (command_text (Abort s)), refl, omega arith)
lettered_command Collect = (99, after_first (command_text Collect), refl, omega arith)
lettered_command Stat = (115, after_first (command_text Stat), refl, omega arith)

pub lettered_line : (c : Command) (text : List ℕ) → IsLineOf (Do c) text → IsLettered text
lettered_line c text is = subst IsLettered (sym is.same) (lettered_command c)
