-- How long an escape is hangs on its bytes and the next one.
use Rattle.std.proofs.Common.{◌≡◌, ℕ, zero, suc, ◌+◌, ◌≤◌, ◌<◌, ◌==◌, Bool, true, false, cond, List, [], ◌∷◌, ◌++◌, length, take, refl, sym, ◌∙◌, arith}
use Rattle.std.specs.Prelude.{◌&&◌}
use Rattle.std.specs.List.{prefix_len}
use Rattle.std.specs.Char.{is_ascii_hexdigit}
use Rattle.std.specs.Char.Utf16.{is_high_surrogate}
use Rattle.std.proofs.lemmas.Bool.{and_parts}
use Rattle.edn.specs.Meaning.Strings.{begins_pair, escape_len, hex_len, is_octal, second_len, unit, unit_len, units_len}

-- ---- bytes that pass a test

-- a length up to a byte is the same whatever follows that byte
abbrev pub Stops : (List ℕ → ℕ) → Type 0
Stops len =
    (front : List ℕ) (b : ℕ) (x y : List ℕ) → len (front ++ b ∷ x) ≡ length front → len (front ++ b ∷ y) ≡ length front

none_first : (v : Bool) (m n : ℕ) → cond v (1 + m) 0 ≡ 0 → cond v (1 + n) 0 ≡ 0
none_first true m n e = absurd (omega (arith, e))
none_first false m n e = refl

one_first : (v : Bool) (m n k : ℕ) → (m ≡ k → n ≡ k) → cond v (1 + m) 0 ≡ suc k → cond v (1 + n) 0 ≡ suc k
one_first true m n k f e = let is = f (omega (arith, e)) in omega (arith, is)
one_first false m n k f e = absurd (omega (arith, e))

few_stop : (p : ℕ → Bool) (most : ℕ) → Stops (λ text. prefix_len p (take most text))
few_stop p zero [] b x y e = refl
few_stop p zero (a ∷ front) b x y e = absurd (omega (arith, e))
few_stop p (suc most) [] b x y e = none_first (p b) _ _ e
few_stop p (suc most) (a ∷ front) b x y e = one_first (p a) _ _ (length front) (few_stop p most front b x y) e

few_within : (p : ℕ → Bool) (most : ℕ) (text : List ℕ) → prefix_len p (take most text) ≤ length text
few_within p zero text = omega arith
few_within p (suc most) [] = omega arith
few_within p (suc most) (a ∷ text) =
    let less = few_within p most text in
    elim (p a) as (λ v. cond v (1 + prefix_len p (take most text)) 0 ≤ length (a ∷ text)) [
      | true ↦ omega (arith, less)
      | false ↦ omega arith
    ]

-- ---- the parts of an escape

hex_stops : Stops hex_len
hex_stops front b x y e = few_stop is_ascii_hexdigit 4 front b x y e

unit_stops : Stops unit_len
unit_stops [] b x y e = none_first (b == 117) _ _ e
unit_stops (a ∷ front) b x y e = one_first (a == 117) _ _ (length front) (hex_stops front b x y) e

second_stops : Stops second_len
second_stops [] b x y e = none_first (b == 92) _ _ e
second_stops (a ∷ front) b x y e = one_first (a == 92) _ _ (length front) (unit_stops front b x y) e

four_digits : (a b c d : ℕ) (text : List ℕ) → begins_pair a b c d ≡ true → hex_len (a ∷ b ∷ c ∷ d ∷ text) ≡ 4
four_digits a b c d text e =
    let digits = (and_parts (is_ascii_hexdigit a && is_ascii_hexdigit b && is_ascii_hexdigit c && is_ascii_hexdigit d) (is_high_surrogate (unit a b c d)) e).0 in
    let (front, four) = and_parts (is_ascii_hexdigit a && is_ascii_hexdigit b && is_ascii_hexdigit c) (is_ascii_hexdigit d) digits in
    let (both, three) = and_parts (is_ascii_hexdigit a && is_ascii_hexdigit b) (is_ascii_hexdigit c) front in
    let (one, two) = and_parts (is_ascii_hexdigit a) (is_ascii_hexdigit b) both in
    rw (one, two, three, four) refl

-- fewer than four digits are all that belongs to a unit
few_units_from : (v : Bool) (long short n : ℕ) → (v ≡ true → short ≡ 4) → short ≡ n → n < 4 → cond v long short ≡ n
few_units_from true long short n f e less = absurd (let four = f refl in omega (arith, four, e, less))
few_units_from false long short n f e less = e

few_units : (text : List ℕ) (n : ℕ) → hex_len text ≡ n → n < 4 → units_len text ≡ n
few_units [] n e less = e
few_units (a ∷ []) n e less = e
few_units (a ∷ b ∷ []) n e less = e
few_units (a ∷ b ∷ c ∷ []) n e less = e
few_units (a ∷ b ∷ c ∷ d ∷ text) n e less = few_units_from (begins_pair a b c d) _ _ n (four_digits a b c d text) e less

few_digits_from : (v : Bool) (m short n : ℕ) → cond v (4 + m) short ≡ n → n < 4 → short ≡ n
few_digits_from true m short n e less = absurd (omega (arith, e, less))
few_digits_from false m short n e less = e

few_digits : (text : List ℕ) (n : ℕ) → units_len text ≡ n → n < 4 → hex_len text ≡ n
few_digits [] n e less = e
few_digits (a ∷ []) n e less = e
few_digits (a ∷ b ∷ []) n e less = e
few_digits (a ∷ b ∷ c ∷ []) n e less = e
few_digits (a ∷ b ∷ c ∷ d ∷ text) n e less = few_digits_from (begins_pair a b c d) _ _ n e less

short_stops : (front : List ℕ) (b : ℕ) (x y : List ℕ) → length front < 4 → units_len (front ++ b ∷ x) ≡ length front
    → units_len (front ++ b ∷ y) ≡ length front
short_stops front b x y less e =
    few_units (front ++ b ∷ y) (length front) (hex_stops front b x y (few_digits (front ++ b ∷ x) (length front) e less)) less

long_from : (v : Bool) (m n short k : ℕ) → (m ≡ k → n ≡ k) → cond v (4 + m) short ≡ 4 + k → cond v (4 + n) short ≡ 4 + k
long_from true m n short k f e = let is = f (omega (arith, e)) in omega (arith, is)
long_from false m n short k f e = e

four_more : (n : ℕ) → suc (suc (suc (suc n))) ≡ 4 + n
four_more n = omega arith

units_stop : Stops units_len
units_stop [] b x y e = short_stops [] b x y (omega arith) e
units_stop (a1 ∷ []) b x y e = short_stops (a1 ∷ []) b x y (omega arith) e
units_stop (a1 ∷ a2 ∷ []) b x y e = short_stops (a1 ∷ a2 ∷ []) b x y (omega arith) e
units_stop (a1 ∷ a2 ∷ a3 ∷ []) b x y e = short_stops (a1 ∷ a2 ∷ a3 ∷ []) b x y (omega arith) e
units_stop (a1 ∷ a2 ∷ a3 ∷ a4 ∷ front) b x y e =
    long_from (begins_pair a1 a2 a3 a4) _ _ _ (length front) (second_stops front b x y) (e ∙ four_more (length front))
    ∙ sym (four_more (length front))

-- ---- an escape

other_from : (v : Bool) (m n k : ℕ) → (m ≡ k → n ≡ k) → cond v (1 + m) 1 ≡ suc k → cond v (1 + n) 1 ≡ suc k
other_from true m n k f e = let is = f (omega (arith, e)) in omega (arith, is)
other_from false m n k f e = e

escape_from : (v w : Bool) (m1 m2 n1 n2 k : ℕ) → (m1 ≡ k → n1 ≡ k) → (m2 ≡ k → n2 ≡ k)
    → cond v (1 + m1) (cond w (1 + m2) 1) ≡ suc k → cond v (1 + n1) (cond w (1 + n2) 1) ≡ suc k
escape_from true w m1 m2 n1 n2 k f g e = let is = f (omega (arith, e)) in omega (arith, is)
escape_from false w m1 m2 n1 n2 k f g e = other_from w m2 n2 k g e

some_from : (v w : Bool) (m n : ℕ) → cond v (1 + m) (cond w (1 + n) 1) ≡ 0 → ⊥
some_from true w m n e = omega (arith, e)
some_from false true m n e = omega (arith, e)
some_from false false m n e = omega (arith, e)

pub escape_stops : Stops escape_len
escape_stops [] b x y e = absurd (some_from (b == 117) (is_octal b) _ _ e)
escape_stops (a ∷ front) b x y e =
    escape_from (a == 117) (is_octal a) _ _ _ _ (length front) (units_stop front b x y) (few_stop is_octal 2 front b x y) e

-- ---- it is no longer than what it begins

hex_within : (text : List ℕ) → hex_len text ≤ length text
hex_within text = few_within is_ascii_hexdigit 4 text

guarded_within : (v : Bool) (m n : ℕ) → m ≤ n → cond v (1 + m) 0 ≤ suc n
guarded_within true m n less = omega (arith, less)
guarded_within false m n less = omega arith

unit_within : (text : List ℕ) → unit_len text ≤ length text
unit_within [] = omega arith
unit_within (b ∷ text) = guarded_within (b == 117) _ _ (hex_within text)

second_within : (text : List ℕ) → second_len text ≤ length text
second_within [] = omega arith
second_within (b ∷ text) = guarded_within (b == 92) _ _ (unit_within text)

long_within : (v : Bool) (m short n : ℕ) → m ≤ n → short ≤ suc (suc (suc (suc n))) → cond v (4 + m) short ≤ suc (suc (suc (suc n)))
long_within true m short n less other = omega (arith, less)
long_within false m short n less other = other

units_within : (text : List ℕ) → units_len text ≤ length text
units_within [] = hex_within []
units_within (a ∷ []) = hex_within (a ∷ [])
units_within (a ∷ b ∷ []) = hex_within (a ∷ b ∷ [])
units_within (a ∷ b ∷ c ∷ []) = hex_within (a ∷ b ∷ c ∷ [])
units_within (a ∷ b ∷ c ∷ d ∷ text) =
    long_within (begins_pair a b c d) _ _ (length text) (second_within text) (hex_within (a ∷ b ∷ c ∷ d ∷ text))

escape_within_from : (v w : Bool) (m1 m2 n : ℕ) → m1 ≤ n → m2 ≤ n → cond v (1 + m1) (cond w (1 + m2) 1) ≤ suc n
escape_within_from true w m1 m2 n f g = omega (arith, f)
escape_within_from false true m1 m2 n f g = omega (arith, g)
escape_within_from false false m1 m2 n f g = omega arith

pub escape_within : (text : List ℕ) → escape_len text ≤ length text
escape_within [] = omega arith
escape_within (b ∷ text) = escape_within_from (b == 117) (is_octal b) _ _ (length text) (units_within text) (few_within is_octal 2 text)
