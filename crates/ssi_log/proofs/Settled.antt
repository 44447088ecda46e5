-- A text that is written again, with zeros in place of what follows it.
use Rattle.std.proofs.Common.{◌≡◌, ◌≢◌, inl, inr, ℕ, zero, suc, ◌+◌, ◌<◌, ◌≤◌, List, [], ◌∷◌, ◌++◌, length, get_or, slice_index, refl, sym, ◌∙◌, ap, subst, arith, length-append}
use Rattle.std.proofs.lemmas.Bool.{cases_eq, cases_lt}
use Rattle.std.proofs.lemmas.Bool.Decides.{nat_tests}
use Rattle.std.proofs.lemmas.List.{get_or_append_left}
use Rattle.sqlite_disk.specs.Disk.{Follows, Holds, Mixed}
use Rattle.ssi_log.specs.Meaning.Texts.{HasNoZero, text_of}
use Rattle.ssi_log.specs.Meaning.Crashes.{Finds}
use Rattle.ssi_log.specs.Machinery.Zeros.{HasZeros, IsOver, IsSameBelow, IsZeroed, LeavesOver}

-- ---- the text of a file stands there, and a zero behind it

text_there : (file : List ℕ) (i : ℕ) → i < length (text_of file) → slice_index file i ≡ slice_index (text_of file) i
text_there [] i low = absurd (omega (arith, low))
text_there (b ∷ file) i low = elim (cases_eq b 0) [
  | inl is_zero ↦
      let none : text_of (b ∷ file) ≡ [] = grind (arith, nat_tests) in
      absurd (omega (arith, low, ap length none))
  | inr is_not ↦
      let some : text_of (b ∷ file) ≡ b ∷ text_of file = grind (arith, nat_tests) in
      one b file (text_of file) (text_there file) i (omega (arith, low, ap length some)) ∙ ap (λ t. slice_index t i) (sym some)
]
  where
    one : (b : ℕ) (file text : List ℕ) → ((i : ℕ) → i < length text → slice_index file i ≡ slice_index text i)
        → (i : ℕ) → i < length (b ∷ text) → slice_index (b ∷ file) i ≡ slice_index (b ∷ text) i
    one b file text there zero low = refl
    one b file text there (suc i) low = there i (omega (arith, low))

-- none of its bytes is zero
pub plain_text : (file : List ℕ) → HasNoZero (text_of file)
plain_text [] = λ k d low. absurd (omega (arith, low))
plain_text (b ∷ file) = elim (cases_eq b 0) [
  | inl is_zero ↦
      let none : text_of (b ∷ file) ≡ [] = grind (arith, nat_tests) in
      subst HasNoZero (sym none) (λ k d low. absurd (omega (arith, low)))
  | inr is_not ↦
      let some : text_of (b ∷ file) ≡ b ∷ text_of file = grind (arith, nat_tests) in
      subst HasNoZero (sym some) (one b (text_of file) is_not (plain_text file))
]
  where
    one : (b : ℕ) (text : List ℕ) → (b ≡ 0 → ⊥) → HasNoZero text → HasNoZero (b ∷ text)
    one b text is_not plain = λ k d low. by k d low
      where
        by : (k d : ℕ) → k < length (b ∷ text) → get_or (b ∷ text) k d ≡ 0 → ⊥
        by zero d low = is_not
        by (suc k) d low = plain k d (omega (arith, low))

zero_there : (file : List ℕ) → length (text_of file) < length file → slice_index file (length (text_of file)) ≡ 0
zero_there [] short = absurd (omega (arith, short))
zero_there (b ∷ file) short = elim (cases_eq b 0) [
  | inl is_zero ↦
      let none : text_of (b ∷ file) ≡ [] = grind (arith, nat_tests) in
      ap (λ t. slice_index (b ∷ file) (length t)) none ∙ is_zero
  | inr is_not ↦
      let some : text_of (b ∷ file) ≡ b ∷ text_of file = grind (arith, nat_tests) in
      ap (λ t. slice_index (b ∷ file) (length t)) some ∙ zero_there file (omega (arith, short, ap length some))
]

pub found_over : (seen : List ℕ) (text : List ℕ) (sure : ℕ) → text_of seen ≡ text → length text < length seen → sure ≤ length text
    → IsOver text sure (length text + 1) seen
found_over seen text sure is ended within = subst (λ t. IsOver t sure (length t + 1) seen) is (record {
  size = omega (arith, ended, ap length is);
  first = λ i low. text_there seen i (omega (arith, low, within, ap length is));
  each = λ i low. inl (text_there seen i low);
  zeros = λ i high low.
      let same : i ≡ length (text_of seen) = omega (arith, high, low) in
      ap (slice_index seen) same ∙ zero_there seen (omega (arith, ended, ap length is));
})

here : (i : ℕ) → i ≡ 0 + i
here i = omega arith

-- ---- a file that is over a longer text

module _ (text torn : List ℕ) (d c : List ℕ) (was : IsOver (text ++ torn) (length text) (length (text ++ torn) + 1) d) where
  inside : (i : ℕ) → i < length text → slice_index (text ++ torn) i ≡ slice_index text i
  inside i low = get_or_append_left text torn 0 i low

  shorter : length text ≤ length (text ++ torn)
  shorter = omega (arith, length-append text torn)

  written_again : Mixed 0 text d c → IsOver (text ++ torn) (length text) (length (text ++ torn) + 1) c
  written_again m = record {
    size = omega (arith, was.size, m.torn.no_shorter);
    first = again;
    each = λ i low. elim (cases_lt i (length text)) [
      | inl early ↦ inl (again i early)
      | inr late ↦
          let same = m.torn.above i (omega (arith, low, was.size)) (omega (arith, late)) in
          elim (was.each i low) [ inl is ↦ inl (same ∙ is) | inr none ↦ inr (same ∙ none) ]
    ];
    zeros = λ i high low. m.torn.above i (omega (arith, low, was.size)) (omega (arith, high, shorter)) ∙ was.zeros i high low;
  }
    where
      again : (i : ℕ) → i < length text → slice_index c i ≡ slice_index (text ++ torn) i
      again i low = elim (m.each i low (omega (arith, low, shorter, was.size))) [
        | inl old ↦ ap (slice_index c) (here i) ∙ old ∙ sym (ap (slice_index d) (here i)) ∙ was.first i low
        | inr new ↦ ap (slice_index c) (here i) ∙ new ∙ sym (inside i low)
      ]

  zeroed_behind : IsZeroed (length text) d c → IsOver (text ++ torn) (length text) (length (text ++ torn) + 1) c
  zeroed_behind z = record {
    size = omega (arith, was.size, z.same.no_shorter);
    first = again;
    each = λ i low. elim (cases_lt i (length text)) [
      | inl early ↦ inl (again i early)
      | inr late ↦ elim (z.behind i (omega (arith, low, was.size)) late) [
        | inl old ↦ elim (was.each i low) [ inl is ↦ inl (old ∙ is) | inr none ↦ inr (old ∙ none) ]
        | inr none ↦ inr none
      ]
    ];
    zeros = λ i high low. elim (z.behind i (omega (arith, low, was.size)) (omega (arith, high, shorter))) [
      | inl old ↦ old ∙ was.zeros i high low
      | inr none ↦ none
    ];
  }
    where
      again : (i : ℕ) → i < length text → slice_index c i ≡ slice_index (text ++ torn) i
      again i low = z.same.below i (omega (arith, low, shorter, was.size)) low ∙ was.first i low

-- a front of what has no zero has none
pub plain_front : (text torn : List ℕ) → HasNoZero (text ++ torn) → HasNoZero text
plain_front text torn plain = λ k d low z. plain k d (omega (arith, low, length-append text torn)) (get_or_append_left text torn d k low ∙ z)

-- ---- step by step

module _ (seen : List ℕ) (old : List ℕ → Type 0) (text torn : List ℕ) (finds : Finds seen old (text ++ torn)) where
  pub found_left : LeavesOver old (text ++ torn) (length text) (length (text ++ torn) + 1)
  found_left = λ c left. subst (IsOver (text ++ torn) (length text) (length (text ++ torn) + 1)) (sym (finds.only c left))
      (found_over seen (text ++ torn) (length text) finds.text_is finds.ended (omega (arith, length-append text torn)))

  pub written_left : (mid : List ℕ → Type 0) → Follows (Mixed 0 text) old mid
      → LeavesOver mid (text ++ torn) (length text) (length (text ++ torn) + 1)
  written_left mid follows = λ c left. let (d, in_old, m) = follows c left in written_again text torn d c (found_left d in_old) m

  pub zeroed_left : (mid new : List ℕ → Type 0) → Follows (Mixed 0 text) old mid → Follows (IsZeroed (length text)) mid new
      → LeavesOver new (text ++ torn) (length text) (length (text ++ torn) + 1)
  zeroed_left mid new written zeroed = λ c left.
      let (d, in_mid, z) = zeroed c left in zeroed_behind text torn d c (written_left mid written d in_mid) z

-- what a read returns then
pub settled_over : (text mid seen : List ℕ) (room : ℕ) → (0 < length text → Holds mid 0 text) → IsSameBelow (length text) mid seen
    → HasZeros (length text) room seen → IsOver text (length text) room seen
settled_over text mid seen room holds same zeros = record {
  size = zeros.size;
  first = there;
  each = λ i low. inl (there i low);
  zeros = zeros.zeros;
}
  where
    there : (i : ℕ) → i < length text → slice_index seen i ≡ slice_index text i
    there i low = let h = holds (omega (arith, low)) in
        same.below i (omega (arith, low, h.within)) low ∙ ap (slice_index mid) (here i) ∙ h.each i low

-- ---- what is read, up to a zero

pub text_is : (text file : List ℕ) → HasNoZero text → ((i : ℕ) → i < length text → slice_index file i ≡ slice_index text i)
    → length text < length file → slice_index file (length text) ≡ 0 → text_of file ≡ text
text_is text [] plain there short end = absurd (omega (arith, short))
text_is [] (b ∷ file) plain there short end = let none : text_of (b ∷ file) ≡ [] = grind (arith, nat_tests) in none
text_is (t ∷ text) (b ∷ file) plain there short end =
    let same : b ≡ t = there 0 (omega arith) in
    let is_not : b ≢ 0 = λ z. plain 0 0 (omega arith) (sym same ∙ z) in
    let some : text_of (b ∷ file) ≡ b ∷ text_of file = grind (arith, nat_tests) in
    some ∙ (λ i. same i ∷ text_is text file (λ k d low. plain (suc k) d (omega (arith, low))) (λ k low. there (suc k) (omega (arith, low)))
    (omega (arith, short)) end i)
