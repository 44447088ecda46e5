-- Texts that are cut at their spaces.
use Rattle.std.proofs.Common.{◌≡◌, ℕ, suc, zero, ◌<◌, Bool, true, false, eqb, List, [], ◌∷◌, ◌++◌, length, take, drop}
use Rattle.std.proofs.Common.{Option, Some, None, refl, sym, ap, ◌∙◌, arith, slice_index, zero-le}
use Rattle.std.specs.Prelude.{nat_eq, nat_lt, nat_le, ◌&&◌}
use Rattle.std.specs.List.{list_all}
use Rattle.std.specs.Cmp.Lexicographic.{pointwise}
use Rattle.std.proofs.lemmas.Bool.{eqb-true, and_parts}
use Rattle.memchr.specs.Find.{Nowhere, Passes, is_byte}
use Rattle.adya_keys.specs.Meaning.Keys.{is_text, is_key, is_key_byte}
use Rattle.ssi_store.specs.Meaning.Sessions.{is_session, is_session_byte}
use Rattle.ssi_line.specs.Computing.Reading.{cut, is_word}

-- a word that passes the test is that word
pub same_word : (xs ys : List ℕ) → is_word xs ys ≡ true → xs ≡ ys
same_word [] [] e = refl
same_word [] (y ∷ ys) e = cc
same_word (x ∷ xs) [] e = cc
same_word (x ∷ xs) (y ∷ ys) e =
    let both = and_parts (nat_eq x y) (pointwise nat_eq xs ys) e in
    rw (eqb-true x y both.0, same_word xs ys both.1) refl

-- the word and what follows it, with the space between them
abbrev pub joined : List ℕ → Option (List ℕ) → List ℕ
joined word None = word
joined word (Some rest) = word ++ (32 ∷ rest)

longer : (b : ℕ) (word : List ℕ) (rest : Option (List ℕ)) → joined (b ∷ word) rest ≡ b ∷ joined word rest
longer b word None = refl
longer b word (Some rest) = refl

cut_joins_at : (b : ℕ) (bs : List ℕ) (is_space : Bool) → eqb b 32 ≡ is_space → bs ≡ joined (cut bs).0 (cut bs).1
    → b ∷ bs ≡ joined (cut (b ∷ bs)).0 (cut (b ∷ bs)).1
unfolding cut
cut_joins_at b bs true e rest = rw (e, eqb-true b 32 e) refl
cut_joins_at b bs false e rest =
    rw e (ap (λ (l : List ℕ). b ∷ l) rest ∙ sym (longer b (cut bs).0 (cut bs).1))

pub cut_joins : (text : List ℕ) → text ≡ joined (cut text).0 (cut text).1
unfolding cut
cut_joins [] = refl
cut_joins (b ∷ bs) = cut_joins_at b bs (eqb b 32) refl (cut_joins bs)

-- ---- where the first space is

refuted : (b : Bool) → (b ≡ true → ⊥) → b ≡ false
refuted true wrong = absurd (wrong refl)
refuted false wrong = refl

pub cut_at : (text : List ℕ) (at : ℕ) → Nowhere (Passes (is_byte 32) text) 0 at → at < length text
    → eqb (slice_index text at) 32 ≡ true → cut text ≡ (take at text, Some (drop (suc at) text))
unfolding cut
cut_at [] at none within is = absurd (omega arith)
cut_at (b ∷ bs) zero none within is = rw is refl
cut_at (b ∷ bs) (suc at) none within is =
    let no_space : eqb b 32 ≡ false = refuted (eqb b 32) (none 0 zero-le (omega arith)) in
    let rest : cut bs ≡ (take at bs, Some (drop (suc at) bs)) =
    cut_at bs at (λ k low below. none (suc k) zero-le (omega arith)) (omega arith) is in
    rw (no_space, rest) refl

pub cut_nowhere : (text : List ℕ) → Nowhere (Passes (is_byte 32) text) 0 (length text) → cut text ≡ (text, None)
unfolding cut
cut_nowhere [] none = refl
cut_nowhere (b ∷ bs) none =
    let no_space : eqb b 32 ≡ false = refuted (eqb b 32) (none 0 zero-le (omega arith)) in
    let rest : cut bs ≡ (bs, None) = cut_nowhere bs (λ k low below. none (suc k) zero-le (omega arith)) in
    rw (no_space, rest) refl

-- ---- words without a space

not_space : (may : ℕ → Bool) (b : ℕ) → may b ≡ true → may 32 ≡ false → eqb b 32 ≡ false
not_space may b is no_space =
    refuted (eqb b 32) (λ e. let same : b ≡ 32 = eqb-true b 32 e in cc (is, no_space, ap may same))

pub cut_word : (may : ℕ → Bool) (word rest : List ℕ) → list_all may word ≡ true → may 32 ≡ false
    → cut (word ++ (32 ∷ rest)) ≡ (word, Some rest)
unfolding cut
cut_word may [] rest all no_space = refl
cut_word may (b ∷ bs) rest all no_space =
    let both = and_parts (may b) (list_all may bs) all in
    rw (not_space may b both.0 no_space, cut_word may bs rest both.1 no_space) refl

pub cut_last : (may : ℕ → Bool) (word : List ℕ) → list_all may word ≡ true → may 32 ≡ false → cut word ≡ (word, None)
unfolding cut
cut_last may [] all no_space = refl
cut_last may (b ∷ bs) all no_space =
    let both = and_parts (may b) (list_all may bs) all in
    rw (not_space may b both.0 no_space, cut_last may bs both.1 no_space) refl

-- ---- the names of sessions and keys

all_of : (limit : ℕ) (may : ℕ → Bool) (text : List ℕ) → is_text limit may text ≡ true → list_all may text ≡ true
all_of limit may text good =
    (and_parts (nat_lt 0 (length text) && nat_le (length text) limit) (list_all may text) good).1

pub session_cut : (s rest : List ℕ) → is_session s ≡ true → cut (s ++ (32 ∷ rest)) ≡ (s, Some rest)
unfolding is_session_byte
session_cut s rest good = cut_word is_session_byte s rest (all_of 16 is_session_byte s good) refl

pub session_last : (s : List ℕ) → is_session s ≡ true → cut s ≡ (s, None)
unfolding is_session_byte
session_last s good = cut_last is_session_byte s (all_of 16 is_session_byte s good) refl

pub key_cut : (k rest : List ℕ) → is_key k ≡ true → cut (k ++ (32 ∷ rest)) ≡ (k, Some rest)
unfolding is_key_byte
key_cut k rest good = cut_word is_key_byte k rest (all_of 32 is_key_byte k good) refl

pub key_last : (k : List ℕ) → is_key k ≡ true → cut k ≡ (k, None)
unfolding is_key_byte
key_last k good = cut_last is_key_byte k (all_of 32 is_key_byte k good) refl
