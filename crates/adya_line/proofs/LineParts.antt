-- Each part of a line: what is read is spelled so, and what is spelled so is read.
use Rattle.std.proofs.Common.{◌≡◌, ℕ, ◌<◌, ◌≤◌, ◌^◌, ◌≢◌, Bool, true, false, cond, eqb, List, [], ◌∷◌, ◌++◌, length}
use Rattle.std.proofs.Common.{get_or, Option, Some, None, refl, sym, ap, ◌∙◌, append_assoc, arith, inl, inr}
use Rattle.std.specs.Prelude.{decimal, IfSome, ◌&&◌, not, nat_lt, nat_le}
use Rattle.std.specs.List.{prefix_len, list_all, take_while}
use Rattle.std.specs.Char.{is_ascii_digit}
use Rattle.std.specs.Str.{all_ascii_digits}
use Rattle.std.specs.Str.Parse.{digits_value}
use Rattle.std.specs.Cmp.Derive.{both_true}
use Rattle.std.proofs.lemmas.Bool.{eqb-true, eq-eqb, ltb-true, lt-ltb, le-leb, and_parts, not-true}
use Rattle.std.proofs.lemmas.Bool.Decides.{eqb_tells}
use Rattle.std.proofs.lemmas.List.{take_at, drop_at, take-append-drop, append-nil, nil_from_length}
use Rattle.std.proofs.lemmas.List.{get_or_append_left, get_or-take}
use Rattle.std.proofs.lemmas.List.Folds.{length-prefix_len}
use Rattle.std.proofs.lemmas.Fmt.{decimal-digits_value, digits_decimal, digits_value-decimal, decimal_nonempty}
use Rattle.std.proofs.lemmas.Fmt.{first_decimal}
use Rattle.adya_values.specs.declared.event.Version.{Version}
use Rattle.adya_keys.specs.Meaning.Keys.{is_text, is_key, is_key_byte, IsTxn, IsMod}
use Rattle.adya_line.specs.Meaning.Spelling.{version_text}
use Rattle.adya_line.specs.Meaning.Limits.{IsVersion}
use Rattle.adya_line.specs.Computing.Reading.{Gives, ◌>>=◌, after, text_at, txn_at, mod_at, version_at, txn_at_line, none_or}
use Rattle.adya_line.specs.Computing.Reading.{key_between}
use Rattle.adya_line.proofs.Digits.{model, front_passes, digits_front, list_all-is, positive_front}

-- ---- steps

-- what holds of the value of an option, if it has one: a record, so that antt finds its arguments
pub record Only {A : Type 0} (o : Option A) (P : A → Type 0) : Type 0 where
  pub holds : IfSome o P

pub found : {A : Type 0} (x : A) {P : A → Type 0} → P x → Only (Some x) P
found x h = record { holds = h }

-- what follows from what a first step found
pub then : {A B : Type 0} {o : Option A} {f : A → Option B} {P : A → Type 0} {Q : B → Type 0} → Only o P
    → ((x : A) → P x → Only (f x) Q) → Only (o >>= f) Q
then {o = Some x} h more = more x h.holds
then {o = None} h more = record { holds = tt }

-- what was found, with more said of it
pub weaken : {A : Type 0} {o : Option A} {P Q : A → Type 0} → Only o P → ((x : A) → P x → Q x) → Only o Q
weaken {o = Some x} h more = record { holds = more x h.holds }
weaken {o = None} h more = record { holds = tt }

-- what a test leaves
pub if_then : {A : Type 0} (b : Bool) (x : A) {Q : A → Type 0} → (b ≡ true → Q x) → Only (cond b (Some x) None) Q
if_then true x h = record { holds = h refl }
if_then false x h = record { holds = tt }

eqb_above : (a b : ℕ) → b < a → eqb a b ≡ false
eqb_above a b above = elim (eqb_tells a b) [ inl p ↦ absurd (omega (arith, p.1)) | inr p ↦ p.0 ]

-- ---- a byte

pub after_takes : (byte : ℕ) (bytes : List ℕ) → Only (after byte bytes) (λ rest. bytes ≡ byte ∷ rest)
unfolding after
after_takes byte [] = record { holds = tt }
after_takes byte (b ∷ bytes) = if_then (eqb b byte) bytes (λ e. ap (λ (x : ℕ). x ∷ bytes) (eqb-true b byte e))

-- ---- a text

pub front_len : (p : ℕ → Bool) (text rest : List ℕ) → list_all p text ≡ true → p (get_or rest 0 0) ≡ false
    → prefix_len p (text ++ rest) ≡ length text
front_len p [] [] all stop = refl
front_len p [] (r ∷ rest) all stop = rw stop refl
front_len p (c ∷ cs) rest all stop =
    let g = and_parts (p c) (list_all p cs) all in
    let more = front_len p cs rest g.1 stop in
    rw g.0 (omega arith)

pub text_takes : (limit : ℕ) (may : ℕ → Bool) (bytes : List ℕ)
    → Only (text_at limit may bytes) (λ x. (bytes ≡ x.0 ++ x.1) × (is_text limit may x.0 ≡ true))
unfolding text_at
text_takes limit may bytes =
    if_then _ _ (λ e.
    let limits : (nat_lt 0 (length (take_while may bytes)) && nat_le (length (take_while may bytes)) limit) ≡ true =
    rw (length-prefix_len may bytes) e in
    (sym (take-append-drop (prefix_len may bytes) bytes), both_true limits (front_passes may bytes)))

pub front_good : (limit : ℕ) (may : ℕ → Bool) (bytes : List ℕ) → 0 < prefix_len may bytes → prefix_len may bytes ≤ limit
    → is_text limit may (take_while may bytes) ≡ true
front_good limit may bytes some few =
    let limits : (nat_lt 0 (prefix_len may bytes) && nat_le (prefix_len may bytes) limit) ≡ true = both_true
    (lt-ltb 0 (prefix_len may bytes) some) (le-leb (prefix_len may bytes) limit few) in
    both_true (rw (length-prefix_len may bytes) limits) (front_passes may bytes)

pub text_again : (limit : ℕ) (may : ℕ → Bool) (text rest : List ℕ) → is_text limit may text ≡ true
    → may (get_or rest 0 0) ≡ false → text_at limit may (text ++ rest) ≡ Some (text, rest)
unfolding text_at
text_again limit may text rest good stop =
    let g = and_parts (nat_lt 0 (length text) && nat_le (length text) limit) (list_all may text) good in
    let n : prefix_len may (text ++ rest) ≡ length text = front_len may text rest g.1 stop in
    rw (n, g.0, take_at text rest (length text) refl, drop_at text rest (length text) refl) refl

-- ---- a number

number_spelled : (bytes : List ℕ) → 0 < prefix_len is_ascii_digit bytes → get_or bytes 0 0 ≢ 48
    → digits_value 10 (take_while is_ascii_digit bytes) < 2 ^ 32
    → decimal (digits_value 10 (take_while is_ascii_digit bytes)) ≡ take_while is_ascii_digit bytes
number_spelled bytes some nonzero fits =
    let front = take_while is_ascii_digit bytes in
    let same : get_or front 0 0 ≡ get_or bytes 0 0 = get_or-take (prefix_len is_ascii_digit bytes) bytes 0 0 some in
    decimal-digits_value model front (digits_front bytes) (omega (arith, length-prefix_len is_ascii_digit bytes))
    (λ h. absurd (nonzero (sym same ∙ h))) (omega arith)

pub txn_takes : (bytes : List ℕ) → Only (txn_at bytes) (λ x. (bytes ≡ decimal x.0 ++ x.1) × IsTxn x.0)
unfolding txn_at
txn_takes bytes =
    if_then _ _ (λ e.
    let tests = and_parts (nat_lt 0 (prefix_len is_ascii_digit bytes) && not (eqb (get_or bytes 0 0) 48)) _ e in
    let first = and_parts (nat_lt 0 (prefix_len is_ascii_digit bytes)) (not (eqb (get_or bytes 0 0) 48)) tests.0 in
    let some : 0 < prefix_len is_ascii_digit bytes = ltb-true 0 (prefix_len is_ascii_digit bytes) first.0 in
    let nonzero : get_or bytes 0 0 ≢ 48 = λ h. cc (not-true _ first.1, eq-eqb _ _ h) in
    let fits : digits_value 10 (take_while is_ascii_digit bytes) < 2 ^ 32 = ltb-true _ (2 ^ 32) tests.1 in (
      rw (number_spelled bytes some nonzero fits) (sym (take-append-drop (prefix_len is_ascii_digit bytes) bytes)),
      (positive_front bytes some nonzero fits, fits),
    ))

pub txn_good : {R : Type 0} (view : R → ℕ × List ℕ) (bytes : List ℕ) (r : Option R) → Gives view r (txn_at bytes)
    → IfSome r (λ x. IsTxn (view x).0)
txn_good view bytes (Some x) is = let h = (txn_takes bytes).holds in let g = rw is at h in g.1
txn_good view bytes None is = tt

pub txn_again : (v : ℕ) (rest : List ℕ) → IsTxn v → is_ascii_digit (get_or rest 0 0) ≡ false
    → txn_at (decimal v ++ rest) ≡ Some (v, rest)
unfolding txn_at
txn_again v rest is stop =
    let ds = decimal v in
    let digits : all_ascii_digits ds ≡ true = digits_decimal model v (omega arith) in
    let n : prefix_len is_ascii_digit (ds ++ rest) ≡ length ds = front_len is_ascii_digit ds rest
    (list_all-is ds ∙ digits) stop in
    let some : 0 < length ds = decimal_nonempty v (omega arith) in
    let head : get_or (ds ++ rest) 0 0 ≡ get_or ds 0 0 = get_or_append_left ds rest 0 0 some in
    let first : eqb (get_or ds 0 0) 48 ≡ false = eqb_above _ 48 (first_decimal v is.0 (omega arith)) in
    let value : digits_value 10 ds ≡ v = digits_value-decimal model v (omega arith) in
    let fits : nat_lt v (2 ^ 32) ≡ true = lt-ltb v (2 ^ 32) is.1 in
    rw (
      n,
      lt-ltb 0 (length ds) some,
      head,
      first,
      take_at ds rest (length ds) refl,
      drop_at ds rest (length ds) refl,
      value,
      fits,
    ) refl

pub mod_takes : (bytes : List ℕ) → Only (mod_at bytes) (λ x. (bytes ≡ decimal x.0 ++ x.1) × IsMod x.0)
unfolding mod_at
mod_takes bytes =
    then (txn_takes bytes) (λ (n : ℕ × List ℕ) h. if_then _ n (λ e. (h.0, (h.1.0, ltb-true n.0 (2 ^ 16) e))))

pub mod_again : (v : ℕ) (rest : List ℕ) → IsMod v → is_ascii_digit (get_or rest 0 0) ≡ false
    → mod_at (decimal v ++ rest) ≡ Some (v, rest)
unfolding mod_at
mod_again v rest is stop =
    let fits : nat_lt v (2 ^ 16) ≡ true = lt-ltb v (2 ^ 16) is.1 in
    rw (txn_again v rest (is.0, omega arith) stop, fits) refl

-- ---- a version

-- the text of a version, with what follows
abbrev pub version_then : Version → List ℕ → List ℕ
version_then v rest = v.key ++ (46 ∷ (decimal v.txn ++ (58 ∷ (decimal v.m ++ rest))))

pub version_then-is : (v : Version) (rest : List ℕ) → version_text v ++ rest ≡ version_then v rest
unfolding version_text
version_then-is v rest = simp append_assoc

pub version_takes : (bytes : List ℕ) → Only (version_at bytes) (λ x. (bytes ≡ version_then x.0 x.1) × IsVersion x.0)
unfolding version_at
version_takes bytes =
    then (text_takes 32 is_key_byte bytes) (λ (key : List ℕ × List ℕ) k.
    then (after_takes 46 key.1) (λ (dot : List ℕ) d.
    then (txn_takes dot) (λ (txn : ℕ × List ℕ) t.
    then (after_takes 58 txn.1) (λ (colon : List ℕ) c.
    then (mod_takes colon) (λ (m : ℕ × List ℕ) n.
    found (record { key = key.0; txn = txn.0; m = m.0 }, m.1)
    (rw (k.0, d, t.0, c, n.0) refl, record { key = k.1; txn = t.1; m = n.1 }))))))

pub version_again : (v : Version) (rest : List ℕ) → IsVersion v → is_ascii_digit (get_or rest 0 0) ≡ false
    → version_at (version_then v rest) ≡ Some (v, rest)
unfolding version_at after is_key_byte
version_again v rest is stop =
    rw (
      text_again 32 is_key_byte v.key (46 ∷ (decimal v.txn ++ (58 ∷ (decimal v.m ++ rest)))) is.key refl,
      txn_again v.txn (58 ∷ (decimal v.m ++ rest)) is.txn refl,
      mod_again v.m rest is.m stop,
    ) refl

-- ---- choices

-- a choice by the first byte
pick : {A : Type 0} (t : Bool) {x y : Option A} {P : A → Type 0} → (t ≡ true → Only x P) → Only y P
    → Only (cond t x y) P
pick true here other = here refl
pick false here other = other

pub by_byte : {A : Type 0} (b byte : ℕ) {x y : Option A} {P : A → Type 0} → (b ≡ byte → Only x P) → Only y P
    → Only (cond (eqb b byte) x y) P
by_byte b byte here other = pick (eqb b byte) (λ e. here (eqb-true b byte e)) other

pub nothing : {A : Type 0} {P : A → Type 0} → Only None P
nothing = record { holds = tt }

-- ---- the end of a line

pub ended : (n : List ℕ) → eqb (length n) 0 ≡ true → n ≡ []
ended n e = nil_from_length n (eqb-true _ _ e)

-- a line that is all of a number
pub line_takes : (bytes : List ℕ) → Only (txn_at_line bytes) (λ t. (bytes ≡ decimal t) × IsTxn t)
unfolding txn_at_line
line_takes bytes =
    then (txn_takes bytes) (λ (txn : ℕ × List ℕ) t.
    if_then _ txn.0 (λ e. (rw (t.0, ended txn.1 e) (append-nil (decimal txn.0)), t.1)))

pub line_again : (t : ℕ) → IsTxn t → txn_at_line (decimal t) ≡ Some t
unfolding txn_at_line
line_again t is =
    let alone : txn_at (decimal t) ≡ Some (t, []) = ap txn_at (sym (append-nil (decimal t))) ∙ txn_again t [] is refl in
    rw alone refl

-- ---- what follows a byte, if it is there

if_after_at : {A : Type 0} (byte : ℕ) (bytes : List ℕ) (o : Option
    (List ℕ)) {absent : Option A} {present : List ℕ → Option A} {P : A → Type 0}
    → Only o (λ rest. bytes ≡ byte ∷ rest) → Only absent P →
    ((rest : List ℕ) → bytes ≡ byte ∷ rest → Only (present rest) P) → Only (none_or o absent present) P
if_after_at byte bytes None is here there = here
if_after_at byte bytes (Some rest) is here there = there rest is.holds

-- what holds whether a byte is there or not
pub if_after : {A : Type 0} (byte : ℕ) (bytes : List ℕ) {absent : Option A} {present : List ℕ → Option A} {P : A
    → Type 0}
    → Only absent P → ((rest : List ℕ) → bytes ≡ byte ∷ rest → Only (present rest) P) → Only
    (none_or (after byte bytes) absent present) P
if_after byte bytes here there = if_after_at byte bytes (after byte bytes) (after_takes byte bytes) here there

-- ---- a key between two bytes

pub key_between_takes : (opening closing : ℕ) (bytes : List ℕ)
    → Only (key_between opening closing bytes) (λ x. (bytes ≡ opening ∷ (x.0 ++ (closing ∷ x.1))) × (is_key x.0 ≡ true))
unfolding key_between
key_between_takes opening closing bytes =
    then (after_takes opening bytes) (λ (inner : List ℕ) a.
    then (text_takes 32 is_key_byte inner) (λ (key : List ℕ × List ℕ) k.
    then (after_takes closing key.1) (λ (rest : List ℕ) c.
    found (key.0, rest) (rw (a, k.0, c) refl, k.1))))

pub key_between_again : (opening closing : ℕ) (key rest : List ℕ) → is_key key ≡ true → is_key_byte closing ≡ false
    → key_between opening closing (opening ∷ (key ++ (closing ∷ rest))) ≡ Some (key, rest)
unfolding key_between after
key_between_again opening closing key rest good stop =
    rw (
      eq-eqb opening opening refl,
      text_again 32 is_key_byte key (closing ∷ rest) good stop,
      eq-eqb closing closing refl,
    ) refl
