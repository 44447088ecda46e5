-- Words that are read in one pass.
use Rattle.std.proofs.Common.{◌≡◌, ℕ, ℤ, zero, suc, ◌+◌, ◌≤◌, ◌<◌, ◌==◌, nat_lt, None, inl, inr, rules, Bool, true, false, cond, List, [], ◌∷◌, ◌++◌, length, take, drop, Some, refl, sym, ap, ◌∙◌, subst, take-append-drop, arith}
use Rattle.std.specs.List.{prefix_len, list_all}
use Rattle.std.specs.Char.{is_ascii_digit, is_digit}
use Rattle.std.specs.Prelude.{not, ◌&&◌, ◌||◌}
use Rattle.std.proofs.lemmas.Bool.{and_parts, eqb-true}
use Rattle.std.proofs.lemmas.Bool.{cases_order}
use Rattle.std.proofs.lemmas.Grind.{common_steps}
use Rattle.edn.specs.declared.token.Beyond.{Beyond}
use Rattle.edn.specs.declared.token.Beyond.TheVariants.{Unread, Nothing}
use Rattle.edn.specs.Meaning.Bytes.{is_space, is_end, is_word_byte, is_symbol_byte}
use Rattle.edn.specs.Meaning.Forms.{Form, nil, integer, keyword}
use Rattle.edn.specs.Meaning.Lexing.{IsWord}
use Rattle.edn.specs.Meaning.Names.{begins_keyword, is_no_slash, is_keyword_name, is_keyword_at, is_keyword}
use Rattle.edn.specs.Meaning.Numbers.{is_sign, begins_number, after_sign, are_digits, integer_form, radix_of, after_digits, magnitude, positive, number_of, number_parts}
use Rattle.edn.specs.Meaning.Tokens.{leaf}
use Rattle.edn.specs.Meaning.Words.{named, word_of}
use Rattle.edn.specs.Computing.Plain.{begins_plain, after_byte, begins_with_end}
use Rattle.edn.specs.Computing.Tokens.{token, may_go_on, word_at, word_token, token_at}
use Rattle.edn.proofs.Choices.{chosen}
use Rattle.edn.proofs.Spans.{word_parts}

one_more : (n : ℕ) → suc n ≡ 1 + n
one_more n = omega arith

-- the bytes of a prefix pass its test
front_all : (p : ℕ → Bool) (xs : List ℕ) → list_all p (take (prefix_len p xs) xs) ≡ true
front_all p [] = refl
front_all p (x ∷ xs) =
    elim (p x) as (λ v. p x ≡ v → list_all p (take (cond v (1 + prefix_len p xs) 0) (x ∷ xs)) ≡ true) [
      | true ↦ λ e. subst (λ n. list_all p (take n (x ∷ xs)) ≡ true) (one_more (prefix_len p xs))
          (ap (λ v. v && list_all p (take (prefix_len p xs) xs)) e ∙ front_all p xs)
      | false ↦ λ e. refl
    ] refl

all_pass : (p q : ℕ → Bool) → ((b : ℕ) → p b ≡ true → q b ≡ true) → (xs : List ℕ) → list_all p xs ≡ true → list_all q xs ≡ true
all_pass p q h [] e = refl
all_pass p q h (x ∷ xs) e =
    let both = and_parts (p x) (list_all p xs) e in
    rw (h x both.0) (all_pass p q h xs both.1)

all_len : (p : ℕ → Bool) (xs : List ℕ) → list_all p xs ≡ true → prefix_len p xs ≡ length xs
all_len p [] e = refl
all_len p (x ∷ xs) e =
    let both = and_parts (p x) (list_all p xs) e in
    let len = all_len p xs both.1 in
    rw both.0 (omega (arith, len))

whole_front : (xs : List ℕ) → take (length xs) xs ≡ xs
whole_front xs = grind (arith, common_steps)

nothing_after : (xs : List ℕ) → drop (length xs) xs ≡ []
nothing_after xs = grind (arith, common_steps)

-- ---- bytes

-- each of so many numbers from the first on passes the test
abbrev check : (ℕ → Bool) → ℕ → ℕ → Bool
check p low zero = true
check p low (suc n) = p low && check p (suc low) n

within_all : (p : ℕ → Bool) (n low b : ℕ) → check p low n ≡ true → low ≤ b → b < low + n → p b ≡ true
within_all p zero low b e h k = absurd (omega arith)
within_all p (suc n) low b e h k =
    let both = and_parts (p low) (check p (suc low) n) e in
    elim (cases_order low b) [
      | inl same ↦ subst (λ x. p x ≡ true) same both.0
      | inr w ↦ elim w [
        | inl less ↦ within_all p n (suc low) b both.1 (omega arith) (omega arith)
        | inr more ↦ absurd (omega arith)
      ]
    ]

digit_bounds : (b : ℕ) → is_ascii_digit b ≡ true → (48 ≤ b) × (b < 58)
digit_bounds b e = (grind arith, grind arith)

by_digits : (p : ℕ → Bool) (b : ℕ) → check p 48 10 ≡ true → is_ascii_digit b ≡ true → p b ≡ true
by_digits p b e h = let (low, high) = digit_bounds b h in within_all p 10 48 b e low high

digit_word : (b : ℕ) → is_ascii_digit b ≡ true → is_word_byte b ≡ true
unfolding is_end is_space
digit_word b e = by_digits is_word_byte b refl e

not_true : (b : Bool) → not b ≡ true → b ≡ false
not_true true e = absurd (cc)
not_true false e = refl

digit_no_sign : (b : ℕ) → is_ascii_digit b ≡ true → is_sign b ≡ false
digit_no_sign b e = not_true (is_sign b) (by_digits (λ x. not (is_sign x)) b refl e)

digit_no_minus : (b : ℕ) → is_ascii_digit b ≡ true → (b == 45) ≡ false
digit_no_minus b e = not_true (b == 45) (by_digits (λ x. not (x == 45)) b refl e)

digit_no_colon : (b : ℕ) → is_ascii_digit b ≡ true → (b == 58) ≡ false
digit_no_colon b e = not_true (b == 58) (by_digits (λ x. not (x == 58)) b refl e)

symbol_word : (b : ℕ) → is_symbol_byte b ≡ true → is_word_byte b ≡ true
unfolding is_symbol_byte
symbol_word b e = (and_parts (is_word_byte b) (not (b == 47 || b == 64 || b == 96 || b == 126)) e).0

no_slash_from : (b : ℕ) (v : Bool) → (b == 47) ≡ v → is_symbol_byte b ≡ true → not v ≡ true
unfolding is_symbol_byte is_end is_space
no_slash_from b false h e = refl
no_slash_from b true h e =
    let at : is_symbol_byte 47 ≡ true = subst (λ x. is_symbol_byte x ≡ true) (eqb-true b 47 h) e in absurd (cc)

symbol_no_slash : (b : ℕ) → is_symbol_byte b ≡ true → is_no_slash b ≡ true
symbol_no_slash b e = no_slash_from b (b == 47) refl e

-- ---- words

stays : (beyond : Beyond) (c : ℕ) (cs : List ℕ) → may_go_on (c ∷ cs) beyond ≡ false
stays Unread c cs = search rules
stays Nothing c cs = refl

-- the word at the front, and what follows it
front_word : (beyond : Beyond) (name rest : List ℕ) (f : Form) → IsWord name → begins_with_end rest ≡ true → word_of name ≡ Some f
    → word_token beyond (name ++ rest) ≡ token (leaf f) rest
front_word beyond name [] f w e is = absurd (cc)
front_word beyond name (c ∷ cs) f w e is =
    word_parts (word_at beyond) name (c ∷ cs) w e ∙ rw (stays beyond c cs, is) refl

begins_with_digit : (b : ℕ) (ds : List ℕ) → is_ascii_digit b ≡ true → begins_number (b ∷ ds) ≡ true
begins_with_digit b [] e = e
begins_with_digit b (c ∷ cs) e = rw e refl

some_bytes : (b : ℕ) (bs : List ℕ) → nat_lt 0 (length (b ∷ bs)) ≡ true
some_bytes b bs = search rules

digit_decimal : (b : ℕ) → is_ascii_digit b ≡ true → is_digit b 10 ≡ true
digit_decimal b e = by_digits (λ x. is_digit x 10) b refl e

are_decimal : (b : ℕ) (ds : List ℕ) → list_all is_ascii_digit (b ∷ ds) ≡ true → are_digits 10 (b ∷ ds) ≡ true
are_decimal b ds all = rw (some_bytes b ds, all_pass is_ascii_digit (λ x. is_digit x 10) digit_decimal (b ∷ ds) all) refl

no_octal : (b : ℕ) (ds : List ℕ) → (b == 48) ≡ false → radix_of (b ∷ ds) ≡ 10
no_octal b [] e = refl
no_octal b (c ∷ cs) e = rw e refl

digits_number : (b : ℕ) (ds : List ℕ) (m : ℕ) (z : ℤ) → is_ascii_digit b ≡ true → (b == 48) ≡ false
    → list_all is_ascii_digit (b ∷ ds) ≡ true → magnitude 10 (b ∷ ds) ≡ Some m → positive m ≡ Some z
    → number_parts (b ∷ ds) (b ∷ ds) [] ≡ Some (integer z)
digits_number b ds m z e first all is fits =
    ap (λ radix. integer_form (b ∷ ds) radix (b ∷ ds)) (no_octal b ds first)
    ∙ rw (are_decimal b ds all, digit_no_minus b e, is, fits) refl

number_is : (b : ℕ) (ds : List ℕ) → is_ascii_digit b ≡ true → list_all is_ascii_digit (b ∷ ds) ≡ true
    → number_of (b ∷ ds) ≡ number_parts (b ∷ ds) (b ∷ ds) []
unfolding number_of
number_is b ds e all =
    let n = prefix_len is_ascii_digit (b ∷ ds) in
    let len = all_len is_ascii_digit (b ∷ ds) all in
    let front : take n (b ∷ ds) ≡ b ∷ ds = subst (λ m. take m (b ∷ ds) ≡ b ∷ ds) (sym len) (whole_front (b ∷ ds)) in
    let after : drop n (b ∷ ds) ≡ [] = subst (λ m. drop m (b ∷ ds) ≡ []) (sym len) (nothing_after (b ∷ ds)) in
    let here : after_sign (b ∷ ds) ≡ b ∷ ds = rw (digit_no_sign b e) refl in
    ap (λ t. number_parts (b ∷ ds) (take (prefix_len is_ascii_digit t) t) (after_digits t)) here
    ∙ ap (λ t. number_parts (b ∷ ds) t (after_digits (b ∷ ds))) front
    ∙ ap (λ t. number_parts (b ∷ ds) (b ∷ ds) t) after

digits_word : (b : ℕ) (ds : List ℕ) (m : ℕ) (z : ℤ) → is_ascii_digit b ≡ true → (b == 48) ≡ false
    → list_all is_ascii_digit (b ∷ ds) ≡ true → magnitude 10 (b ∷ ds) ≡ Some m → positive m ≡ Some z
    → word_of (b ∷ ds) ≡ Some (integer z)
digits_word b ds m z e first all is fits =
    rw (digit_no_colon b e, begins_with_digit b ds e) (number_is b ds e all ∙ digits_number b ds m z e first all is fits)

digits_front : (b : ℕ) (bs : List ℕ) → is_ascii_digit b ≡ true
    → take (prefix_len is_ascii_digit (b ∷ bs)) (b ∷ bs) ≡ b ∷ take (prefix_len is_ascii_digit bs) bs
digits_front b bs e = rw e (ap (λ n. take n (b ∷ bs)) (sym (one_more (prefix_len is_ascii_digit bs))))

integer_read : (beyond : Beyond) (b : ℕ) (bs rest : List ℕ) (m : ℕ) (z : ℤ) → is_ascii_digit b ≡ true → (b == 48) ≡ false
    → magnitude 10 (take (prefix_len is_ascii_digit (b ∷ bs)) (b ∷ bs)) ≡ Some m → rest ≡ after_digits (b ∷ bs)
    → begins_with_end rest ≡ true → positive m ≡ Some z → word_token beyond (b ∷ bs) ≡ token (leaf (integer z)) rest
integer_read beyond b bs rest m z e first is after end fits =
    let n = prefix_len is_ascii_digit (b ∷ bs) in
    let name = take n (b ∷ bs) in
    let all = front_all is_ascii_digit (b ∷ bs) in
    let same = digits_front b bs e in
    let word = subst (λ x. word_of x ≡ Some (integer z)) (sym same)
    (digits_word b _ m z e first (subst (λ x. list_all is_ascii_digit x ≡ true) same all) (subst (λ x. magnitude 10 x ≡ Some m) same is) fits) in
    let read = front_word beyond name rest (integer z) (all_pass is_ascii_digit is_word_byte digit_word name all) end word in
    subst (λ x. word_token beyond x ≡ token (leaf (integer z)) rest)
    (subst (λ r. name ++ r ≡ b ∷ bs) (sym after) (take-append-drop n (b ∷ bs))) read

keyword_is : (name : List ℕ) → list_all is_symbol_byte name ≡ true → begins_keyword name ≡ true → is_keyword name ≡ true
keyword_is [] all e = absurd (cc)
keyword_is (b ∷ bs) all e =
    let slash = all_len is_no_slash (b ∷ bs) (all_pass is_symbol_byte is_no_slash symbol_no_slash (b ∷ bs) all) in
    let n = prefix_len is_no_slash (b ∷ bs) in
    let front : take n (b ∷ bs) ≡ b ∷ bs = subst (λ m. take m (b ∷ bs) ≡ b ∷ bs) (sym slash) (whole_front (b ∷ bs)) in
    let after : drop n (b ∷ bs) ≡ [] = subst (λ m. drop m (b ∷ bs) ≡ []) (sym slash) (nothing_after (b ∷ bs)) in
    let name : is_keyword_name (b ∷ bs) ≡ true = rw (e, some_bytes b bs, all) refl in
    ap (λ t. is_keyword_at t (drop n (b ∷ bs))) front ∙ ap (λ t. is_keyword_at (b ∷ bs) t) after ∙ name

colon_word : (name : List ℕ) → IsWord name → IsWord (58 ∷ name)
unfolding is_end is_space
colon_word name w = w

keyword_word : (name : List ℕ) → is_keyword name ≡ true → word_of (58 ∷ name) ≡ Some (keyword name)
keyword_word name e = ap (λ v. cond v (Some (keyword name)) None) e

keyword_read : (beyond : Beyond) (bs name rest : List ℕ) → name ≡ take (prefix_len is_symbol_byte bs) bs
    → rest ≡ drop (prefix_len is_symbol_byte bs) bs → begins_keyword name ≡ true → begins_with_end rest ≡ true
    → word_token beyond (58 ∷ bs) ≡ token (leaf (keyword name)) rest
keyword_read beyond bs name rest front after e end =
    let all = subst (λ x. list_all is_symbol_byte x ≡ true) (sym front) (front_all is_symbol_byte bs) in
    let word = front_word beyond (58 ∷ name) rest (keyword name)
    (colon_word name (all_pass is_symbol_byte is_word_byte symbol_word name all)) end (keyword_word name (keyword_is name all e)) in
    let whole : name ++ rest ≡ bs = rw (front, after) (take-append-drop (prefix_len is_symbol_byte bs) bs) in
    subst (λ x. word_token beyond (58 ∷ x) ≡ token (leaf (keyword name)) rest) whole word

byte_before : (byte : ℕ) (text rest : List ℕ) → Some rest ≡ after_byte byte text → text ≡ byte ∷ rest
byte_before byte [] rest is = absurd (cc)
byte_before byte (b ∷ bs) rest is =
    elim (chosen (b == byte) _ _ _ (sym is)) [
      | inl w ↦
          let here = eqb-true b byte w.0 in
          let same : Some bs ≡ Some rest = w.1 in
          rw here (ap (λ x. byte ∷ x) (let e : bs ≡ rest = cc in e))
      | inr w ↦ absurd (let none : None ≡ Some rest = w.1 in cc)
    ]

pub plain_keyword_read : (beyond : Beyond) (text bs name rest : List ℕ) → Some bs ≡ after_byte 58 text
    → name ≡ take (prefix_len is_symbol_byte bs) bs → rest ≡ drop (prefix_len is_symbol_byte bs) bs
    → begins_keyword name ≡ true → begins_with_end rest ≡ true → word_token beyond text ≡ token (leaf (keyword name)) rest
plain_keyword_read beyond text bs name rest is front after e end =
    subst (λ x. word_token beyond x ≡ token (leaf (keyword name)) rest) (sym (byte_before 58 text bs is))
    (keyword_read beyond bs name rest front after e end)

nil_word : IsWord (110 ∷ 105 ∷ 108 ∷ [])
unfolding is_end is_space
nil_word = refl

nil_is : word_of (110 ∷ 105 ∷ 108 ∷ []) ≡ Some nil
unfolding is_symbol_byte is_end is_space named
nil_is = refl

pub plain_nil_read : (beyond : Beyond) (text after_n after_ni rest : List ℕ) → Some after_n ≡ after_byte 110 text
    → Some after_ni ≡ after_byte 105 after_n → Some rest ≡ after_byte 108 after_ni → begins_with_end rest ≡ true
    → word_token beyond text ≡ token (leaf nil) rest
plain_nil_read beyond text after_n after_ni rest n i l end =
    let is : text ≡ 110 ∷ 105 ∷ 108 ∷ rest =
    byte_before 110 text after_n n ∙ ap (λ x. 110 ∷ x) (byte_before 105 after_n after_ni i ∙ ap (λ x. 105 ∷ x) (byte_before 108 after_ni rest l)) in
    subst (λ x. word_token beyond x ≡ token (leaf nil) rest) (sym is)
    (front_word beyond (110 ∷ 105 ∷ 108 ∷ []) rest nil nil_word end nil_is)

digit_not : (n b : ℕ) → check (λ x. not (x == n)) 48 10 ≡ true → is_ascii_digit b ≡ true → (b == n) ≡ false
digit_not n b e h = not_true (b == n) (by_digits (λ x. not (x == n)) b e h)

digit_token : (beyond : Beyond) (b : ℕ) (bs : List ℕ) → is_ascii_digit b ≡ true → token_at beyond (b ∷ bs) ≡ word_token beyond (b ∷ bs)
unfolding token_at
digit_token beyond b bs e =
    rw (
      digit_not 59 b refl e,
      digit_not 34 b refl e,
      digit_not 92 b refl e,
      digit_not 35 b refl e,
      digit_not 40 b refl e,
      digit_not 91 b refl e,
      digit_not 123 b refl e,
      digit_not 41 b refl e,
      digit_not 93 b refl e,
      digit_not 125 b refl e,
      digit_not 94 b refl e,
    ) refl

pub plain_integer_read : (beyond : Beyond) (text rest : List ℕ) (m : ℕ) (z : ℤ) → begins_plain text ≡ true
    → magnitude 10 (take (prefix_len is_ascii_digit text) text) ≡ Some m → rest ≡ after_digits text
    → begins_with_end rest ≡ true → positive m ≡ Some z → token_at beyond text ≡ token (leaf (integer z)) rest
plain_integer_read beyond [] rest m z e is after end fits = absurd (cc)
plain_integer_read beyond (b ∷ bs) rest m z e is after end fits =
    let both = and_parts (is_ascii_digit b) (not (b == 48)) e in
    digit_token beyond b bs both.0 ∙ integer_read beyond b bs rest m z both.0 (not_true (b == 48) both.1) is after end fits
