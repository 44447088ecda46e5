-- A text that is read piece by piece, up to a zero.
use Rattle.std.proofs.Common.{◌≡◌, ℕ, ◌==◌, ◌+◌, ◌-◌, ◌<◌, ◌≤◌, true, inl, inr, List, ◌++◌, length, take, slice_index, refl, sym, ◌∙◌, ap, subst, arith, length-append, zero-le}
use Rattle.std.proofs.lemmas.Bool.{cases_lt, eqb-true}
use Rattle.std.proofs.lemmas.List.{get_or_append_left, get_or-append_right, get_or-take, get_or_default, length-take-le}
use Rattle.std.proofs.lemmas.List.Elements.{All-append}
use Rattle.memchr.specs.Find.{NoneBefore, Nowhere, Passes, is_byte}
use Rattle.sqlite_disk.specs.Disk.{Holds}
use Rattle.ssi_log.specs.Meaning.Texts.{HasNoZero}
use Rattle.ssi_log.specs.Machinery.Pieces.{BeginsWith, IsTextOf}
use Rattle.ssi_log.proofs.Settled.{text_is}

pub plain_piece : (piece : List ℕ) → Nowhere (Passes (is_byte 0) piece) 0 (length piece) → HasNoZero piece
plain_piece piece none = λ k d below e. none k zero-le below (ap (λ b. b == 0) (get_or_default piece k 0 d below ∙ e))

pub plain_before : (piece : List ℕ) (at : ℕ) → at ≤ length piece → Nowhere (Passes (is_byte 0) piece) 0 at → HasNoZero (take at piece)
plain_before piece at fits none = λ k d below e.
    let under : k < at = subst (λ n. k < n) (length-take-le at piece fits) below in
    let within : k < length piece = omega arith in
    none k zero-le under (ap (λ b. b == 0) (get_or_default piece k 0 d within ∙ sym (get_or-take at piece k d under) ∙ e))

module _ (file text piece : List ℕ) (begins : BeginsWith file text) (holds : Holds file (length text) piece) where
  pub begins_more : BeginsWith file (text ++ piece)
  begins_more = record {
    within = omega (arith, holds.within, length-append text piece);
    there = λ i low. elim (cases_lt i (length text)) [
      | inl early ↦ begins.there i early ∙ sym (get_or_append_left text piece 0 i early)
      | inr late ↦
          let inside : i - length text < length piece = omega (arith, late, low, length-append text piece) in
          let back : i ≡ length text + (i - length text) = omega (arith, late) in
          ap (slice_index file) back ∙ holds.each (i - length text) inside
          ∙ sym (get_or-append_right text piece (length text) i 0 refl late)
    ];
  }

  module _ (plain : HasNoZero text) (end : ℕ) (none : NoneBefore (Passes (is_byte 0) piece) 0 (length piece) end) where
    abbrev front : List ℕ
    front = take end piece

    size : length front ≡ end
    size = length-take-le end piece (omega (arith, none.high))

    pub read_text : (slice_index piece end == 0) ≡ true → IsTextOf file (text ++ front)
    read_text is_end = (
      text_is (text ++ front) file (All-append (λ b. b ≡ 0 → ⊥) text front plain (plain_before piece end (omega (arith, none.high)) none.before))
          (λ i low. elim (cases_lt i (length text)) [
            | inl early ↦ begins.there i early ∙ sym (get_or_append_left text front 0 i early)
            | inr late ↦
                let k = i - length text in
                let inside : i - length text < end = omega (arith, late, low, length-append text front, size) in
                let back : i ≡ length text + (i - length text) = omega (arith, late) in
                ap (slice_index file) back ∙ holds.each k (omega (arith, inside, none.high)) ∙ sym (get_or-take end piece k 0 inside)
                ∙ sym (get_or-append_right text front (length text) i 0 refl late)
          ])
          short
          (ap (slice_index file) there ∙ holds.each end none.high ∙ eqb-true (slice_index piece end) 0 is_end),
      short,
    )
      where
        short : length (text ++ front) < length file
        short = omega (arith, length-append text front, size, none.high, holds.within)

        there : length (text ++ front) ≡ length text + end
        there = omega (arith, length-append text front, size)
