-- The text of a file that was written over zeros.
use Rattle.std.proofs.Common.{◌≡◌, ◌≢◌, ◌⊎◌, inl, inr, ⊎_elim, ℕ, zero, suc, ◌+◌, ◌-◌, ◌<◌, ◌≤◌, List, [], ◌∷◌, ◌++◌, length, slice_index, sym, ◌∙◌, ap, subst, arith, length-append}
use Rattle.std.proofs.lemmas.Bool.{cases_eq, cases_lt}
use Rattle.std.proofs.lemmas.Bool.Decides.{nat_tests}
use Rattle.std.proofs.lemmas.List.{get_or_append_left, get_or-append_right}
use Rattle.std.proofs.lemmas.List.Elements.{All-append}
use Rattle.sqlite_disk.specs.Disk.{Follows, Holds, Mixed, Only, Torn}
use Rattle.ssi_log.specs.Meaning.Texts.{HasNoZero, IsFrontOf, text_of}
use Rattle.ssi_log.specs.Meaning.Crashes.{Keeps}
use Rattle.ssi_log.specs.Machinery.Zeros.{IsOver, LeavesOver}

-- ---- what stands before the first zero

front : (text c : List ℕ) → ((i : ℕ) → i < length text → (slice_index c i ≡ slice_index text i) ⊎ (slice_index c i ≡ 0))
    → length text < length c → slice_index c (length text) ≡ 0 → (rest : List ℕ) × (text ≡ text_of c ++ rest)
front text [] each there end = absurd (omega (arith, there))
front [] (x ∷ c) each there end =
    let none : text_of (x ∷ c) ≡ [] = grind (arith, nat_tests) in
    ([], sym (ap (λ (l : List ℕ). l ++ []) none))
front (t ∷ text) (x ∷ c) each there end = elim (cases_eq x 0) [
  | inl is_zero ↦
      let none : text_of (x ∷ c) ≡ [] = grind (arith, nat_tests) in
      (t ∷ text, sym (ap (λ (l : List ℕ). l ++ t ∷ text) none))
  | inr is_not ↦
      let rest = front text c (λ i low. each (suc i) (omega (arith, low))) (omega (arith, there)) end in
      let here : (x ≡ t) ⊎ (x ≡ 0) = each 0 (omega arith) in
      let same : x ≡ t = ⊎_elim (λ e. e) (λ z. absurd (is_not z)) here in
      let some : text_of (x ∷ c) ≡ x ∷ text_of c = grind (arith, nat_tests) in
      (rest.0, (λ i. sym same i ∷ rest.1 i) ∙ sym (ap (λ (l : List ℕ). l ++ rest.0) some))
]

kept : (n : ℕ) (text c : List ℕ) → HasNoZero text → n ≤ length text → n ≤ length c
    → ((i : ℕ) → i < n → slice_index c i ≡ slice_index text i) → n ≤ length (text_of c)
kept zero text c none short here sure = omega arith
kept (suc n) [] c none short here sure = absurd (omega (arith, short))
kept (suc n) (t ∷ text) [] none short here sure = absurd (omega (arith, here))
kept (suc n) (t ∷ text) (x ∷ c) none short here sure =
    let same : x ≡ t = sure 0 (omega arith) in
    let rest = kept n text c (λ k d low. none (suc k) d (omega (arith, low))) (omega (arith, short)) (omega (arith, here)) (λ i low. sure (suc i) (omega (arith, low))) in
    let is_not : x ≢ 0 = λ z. none 0 0 (omega arith) (sym same ∙ z) in
    let some : text_of (x ∷ c) ≡ x ∷ text_of c = grind (arith, nat_tests) in
    omega (arith, ap length some, rest)

pub front_of : (text : List ℕ) (sure room : ℕ) (c : List ℕ) → HasNoZero text → sure ≤ length text → length text < room
    → IsOver text sure room c → IsFrontOf text sure (text_of c)
front_of text sure room c none short ends over =
    let there : length text < length c = omega (arith, ends, over.size) in
    let f = front text c over.each there (over.zeros (length text) (omega arith) ends) in
    record { rest = f.0; whole = f.1; kept = kept sure text c none short (omega (arith, short, there)) over.first }

pub keeps : (may_leave : List ℕ → Type 0) (text : List ℕ) (sure room : ℕ) → HasNoZero text → sure ≤ length text → length text < room
    → LeavesOver may_leave text sure room → Keeps may_leave text sure
keeps may_leave text sure room none short ends leaves = λ c left. front_of text sure room c none short ends (leaves c left)

pub no_zero_more : (text bytes : List ℕ) → HasNoZero text → HasNoZero bytes → HasNoZero (text ++ bytes)
no_zero_more text bytes none more = All-append (λ b. b ≢ 0) text bytes none more

-- ---- bytes more

module _ (at : ℕ) (text bytes : List ℕ) (here : length text ≡ at) where
  before : (i : ℕ) → i < at → slice_index (text ++ bytes) i ≡ slice_index text i
  before i low = get_or_append_left text bytes 0 i (omega (arith, low, here))

  behind : (i : ℕ) → at ≤ i → slice_index (text ++ bytes) i ≡ slice_index bytes (i - at)
  behind i high = get_or-append_right text bytes at i 0 here high

  module _ (sure room : ℕ) (within : sure ≤ at) (fits : at + length bytes ≤ room) (d c : List ℕ) (was : IsOver text sure room d)
      (torn : Torn at (length bytes) d c) where
    same : (i : ℕ) → i < at → slice_index c i ≡ slice_index d i
    same i low = torn.below i (omega (arith, was.size, low, fits)) low

    -- what is written in place of the zeros, wherever it is the new byte or still zero
    more : ((i : ℕ) → i < length bytes → (slice_index c (at + i) ≡ slice_index d (at + i)) ⊎ (slice_index c (at + i) ≡ slice_index bytes i))
        → IsOver (text ++ bytes) sure room c
    more new = record {
      size = omega (arith, was.size, torn.no_shorter);
      first = λ i low.
          let early : i < at = omega (arith, low, within) in
          same i early ∙ was.first i low ∙ sym (before i early);
      each = λ i low. elim (cases_lt i at) [
        | inl early ↦
            let old = was.each i (omega (arith, early, here)) in
            elim old [ inl is ↦ inl (same i early ∙ is ∙ sym (before i early)) | inr none ↦ inr (same i early ∙ none) ]
        | inr late ↦
            let inside : i - at < length bytes = omega (arith, late, low, here, length-append text bytes) in
            let there : at + (i - at) ≡ i = omega (arith, late) in
            elim (new (i - at) inside) [
              | inl kept ↦ inr (ap (slice_index c) (sym there) ∙ kept ∙ ap (slice_index d) there
                  ∙ was.zeros i (omega (arith, late, here)) (omega (arith, inside, late, fits)))
              | inr put ↦ inl (ap (slice_index c) (sym there) ∙ put ∙ sym (behind i late))
            ]
      ];
      zeros = λ i high low.
          let past : at + length bytes ≤ i = omega (arith, high, here, length-append text bytes) in
          torn.above i (omega (arith, was.size, low)) past ∙ was.zeros i (omega (arith, past, here)) low;
    }

  -- a write that is whole is there for sure
  pub whole_more : (room : ℕ) → at + length bytes ≤ room → (d c : List ℕ) → IsOver text at room d → Torn at (length bytes) d c
      → (0 < length bytes → Holds c at bytes) → IsOver (text ++ bytes) (at + length bytes) room c
  whole_more room fits d c was torn holds =
      let some = more at room (omega arith) fits d c was torn (λ i within. inr ((holds (omega (arith, within))).each i within)) in
      record {
        size = some.size;
        first = λ i low. elim (cases_lt i at) [
          | inl early ↦ some.first i early
          | inr late ↦
              let inside : i - at < length bytes = omega (arith, late, low) in
              ap (slice_index c) (omega (arith, late)) ∙ (holds (omega (arith, inside))).each (i - at) inside ∙ sym (behind i late)
        ];
        each = some.each;
        zeros = some.zeros;
      }

  pub left_more : (sure room : ℕ) → sure ≤ at → at + length bytes ≤ room → (old new : List ℕ → Type 0) → LeavesOver old text sure room
      → Follows (Mixed at bytes) old new → LeavesOver new (text ++ bytes) sure room
  left_more sure room within fits old new was follows = λ c now.
      let (d, in_old, m) = follows c now in
      let over = was d in_old in
      more sure room within fits d c over m.torn (λ i inside. m.each i inside (omega (arith, inside, fits, over.size)))

-- ---- syncs

pub left_synced : (seen : List ℕ) (new : List ℕ → Type 0) (text : List ℕ) (sure room : ℕ) → IsOver text sure room seen → Only seen new
    → LeavesOver new text sure room
left_synced seen new text sure room over only = λ c now. subst (IsOver text sure room) (sym (only c now)) over

pub left_same : (old new : List ℕ → Type 0) (text : List ℕ) (sure room : ℕ) → LeavesOver old text sure room
    → ((c : List ℕ) → new c → old c) → LeavesOver new text sure room
left_same old new text sure room was fewer = λ c now. was c (fewer c now)
