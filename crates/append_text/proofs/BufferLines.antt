-- Lines of a text that is read piece by piece.
use Rattle.std.proofs.Common.{◌≡◌, ◌==◌, ℕ, suc, Bool, true, false, not, ◌+◌, ◌-◌, ◌<◌, ◌≤◌, List, [], ◌∷◌, ◌++◌, length, take, drop, Option, Some, None, refl, sym, ap, subst, ◌∙◌, inl, inr, append_assoc, arith, zero-le}
use Rattle.std.specs.Prelude.{◌≢◌, slice_index, slice_range}
use Rattle.std.specs.Io.KnownBytes.{IsAtEnd, prepend_known}
use Rattle.std.proofs.Math.Seq.{take-suc}
use Rattle.std.proofs.lemmas.Bool.{cases_Bool, eqb-true}
use Rattle.std.proofs.lemmas.List.{append-nil, drop-drop, drop-take, get_or-take, get_or_default, length-take-le, take-append-drop}
use Rattle.std.proofs.lemmas.List.Elements.{All-append, All-head, All-nil, All-tail}
use Rattle.memchr.specs.Find.{Nowhere, Passes, is_byte}
use Rattle.append_text.specs.Meaning.Lines.{lines, with_byte}
use Rattle.append_text.specs.Machinery.BufferTexts.{AddsFront, IsPlain, TakesLine}
use Rattle.append_text.proofs.FirstBytes.{known_text}

-- ---- lines

other_byte : (x : ℕ) (xs : List ℕ) → IsPlain (x ∷ xs) → (x == 10) ≡ false
other_byte x xs plain = elim (cases_Bool (x == 10)) [
  | inl same ↦ absurd (All-head (λ b. b ≢ 10) x xs plain (eqb-true x 10 same))
  | inr other ↦ other
]

-- a line that ends at a line feed
pub ended_line : (line rest : List ℕ) → IsPlain line → lines (line ++ 10 ∷ rest) ≡ line ∷ lines rest
ended_line [] rest plain = refl
ended_line (x ∷ xs) rest plain = rw (other_byte x xs plain)
    (ap (with_byte x) (ended_line xs rest (All-tail (λ b. b ≢ 10) x xs plain)))

-- the last line, which lacks it
pub last_line : (x : ℕ) (xs : List ℕ) → IsPlain (x ∷ xs) → lines (x ∷ xs) ≡ (x ∷ xs) ∷ []
last_line x [] plain = rw (other_byte x [] plain) refl
last_line x (y ∷ ys) plain = rw (other_byte x (y ∷ ys) plain)
    (ap (with_byte x) (last_line y ys (All-tail (λ b. b ≢ 10) x (y ∷ ys) plain)))

-- ---- a part of the bytes, cut at its first line feed

plain_all : (bytes : List ℕ) → Nowhere (Passes (is_byte 10) bytes) 0 (length bytes) → IsPlain bytes
plain_all bytes none = λ k d below e.
    none k zero-le below (ap (λ b. b == 10) (get_or_default bytes k 0 d below ∙ e))

plain_before : (bytes : List ℕ) (at : ℕ) → at ≤ length bytes → Nowhere (Passes (is_byte 10) bytes) 0 at → IsPlain (take at bytes)
plain_before bytes at fits none = λ k d below e.
    let under : k < at = subst (λ n. k < n) (length-take-le at bytes fits) below in
    let within : k < length bytes = omega arith in
    none k zero-le under (ap (λ b. b == 10) (get_or_default bytes k 0 d within ∙ sym (get_or-take at bytes k d under) ∙ e))

drop_range : (bytes : List ℕ) (start end n : ℕ) → start + n ≤ end → drop n (slice_range bytes start end) ≡ slice_range bytes (start + n) end
drop_range bytes start end n within =
    let sum : end - start ≡ n + (end - (start + n)) = omega arith in
    ap (λ k. drop n (take k (drop start bytes))) sum ∙ drop-take n (end - (start + n)) (drop start bytes)
    ∙ ap (take (end - (start + n))) (drop-drop n start bytes)

feed_split : (bytes : List ℕ) (start end at : ℕ) → at < length (slice_range bytes start end) → start + (at + 1) ≤ end
    → slice_index (slice_range bytes start end) at ≡ 10
    → slice_range bytes start end ≡ (take at (slice_range bytes start end) ++ 10 ∷ []) ++ slice_range bytes (start + (at + 1)) end
feed_split bytes start end at within fits feed =
    let pending : List ℕ = slice_range bytes start end in
    let one : suc at ≡ at + 1 = omega arith in
    sym (take-append-drop (suc at) pending)
    ∙ ap (λ l. l ++ drop (suc at) pending) (take-suc pending at 0 within ∙ ap (λ b. take at pending ++ b ∷ []) feed)
    ∙ ap (λ l. (take at pending ++ 10 ∷ []) ++ l) (ap (λ n. drop n pending) one ∙ drop_range bytes start end (at + 1) fits)

pub adds_line : (bytes : List ℕ) (start end at : ℕ) (before after : List ℕ) → at < length (slice_range bytes start end)
    → start + (at + 1) ≤ end → Nowhere (Passes (is_byte 10) (slice_range bytes start end)) 0 at
    → (slice_index (slice_range bytes start end) at == 10) ≡ true → after ≡ before ++ take at (slice_range bytes start end)
    → AddsFront true (slice_range bytes start end) (slice_range bytes (start + (at + 1)) end) before after
adds_line bytes start end at before after within fits none feed is =
    let pending = slice_range bytes start end in (
      take at pending,
      is,
      feed_split bytes start end at within fits (eqb-true _ 10 feed),
      plain_before pending at (omega arith) none,
    )

pub adds_all : (pending new before after : List ℕ) → Nowhere (Passes (is_byte 10) pending) 0 (length pending)
    → after ≡ before ++ pending → new ≡ [] → AddsFront false pending new before after
adds_all pending new before after none is empty = (
  pending,
  is,
  sym (ap (λ r. (pending ++ []) ++ r) empty ∙ append-nil (pending ++ []) ∙ append-nil pending),
  plain_all pending none,
)

pub no_range : (bytes : List ℕ) (end : ℕ) → slice_range bytes end end ≡ []
no_range bytes end = let none : end - end ≡ 0 = omega arith in ap (λ n. take n (drop end bytes)) none

-- ---- texts

-- the text is the line so far, and then what is pending and left
pub record HasBegun (text line pending : List ℕ) (left : Option (List ℕ)) : Type 0 where
  pub rest : List ℕ
  pub left_is : prepend_known pending left ≡ Some rest
  pub split : text ≡ line ++ rest
  pub plain : IsPlain line

pub begun_none : (text pending : List ℕ) (left : Option (List ℕ)) → prepend_known pending left ≡ Some text → HasBegun text [] pending left
begun_none text pending left is = record { rest = text; left_is = is; split = refl; plain = All-nil (λ b. b ≢ 10) }

pub taken_line : (text line new old after : List ℕ) (left : Option (List ℕ)) → HasBegun text line old left
    → AddsFront true old new line after
    → (rest : List ℕ) × (prepend_known new left ≡ Some rest) × TakesLine true text after rest
taken_line text line new old after left begun (front, is, split, plain) = by (known_text old left begun.rest begun.left_is)
  where
    by : ((more : List ℕ) × (left ≡ Some more) × (begun.rest ≡ old ++ more))
        → (rest : List ℕ) × (prepend_known new left ≡ Some rest) × TakesLine true text after rest
    by (more, goes_on, all) = (
      new ++ more,
      ap (prepend_known new) goes_on,
      ap lines (begun.split ∙ ap (λ r. line ++ r) (all ∙ ap (λ p. p ++ more) split
          ∙ append_assoc (front ++ 10 ∷ []) new more ∙ append_assoc front (10 ∷ []) (new ++ more))
          ∙ sym (append_assoc line front (10 ∷ (new ++ more))) ∙ ap (λ l. l ++ 10 ∷ (new ++ more)) (sym is))
          ∙ ended_line after (new ++ more) (subst IsPlain (sym is) (All-append (λ b. b ≢ 10) line front begun.plain plain)),
    )

-- all that was pending is in the line
pub record HasAll (text line : List ℕ) (left : Option (List ℕ)) : Type 0 where
  pub rest : List ℕ
  pub left_is : left ≡ Some rest
  pub split : text ≡ line ++ rest
  pub plain : IsPlain line

pub taken_all : (text line new old after : List ℕ) (left : Option (List ℕ)) → HasBegun text line old left
    → AddsFront false old new line after → new ≡ [] → HasAll text after left
taken_all text line new old after left begun (front, is, split, plain) none = by (known_text old left begun.rest begun.left_is)
  where
    by : ((more : List ℕ) × (left ≡ Some more) × (begun.rest ≡ old ++ more)) → HasAll text after left
    by (more, goes_on, all) = record {
      rest = more;
      left_is = goes_on;
      split = begun.split ∙ ap (λ r. line ++ r) (all ∙ ap (λ p. p ++ more) (split ∙ ap (λ r. (front ++ []) ++ r) none
          ∙ append-nil (front ++ []) ∙ append-nil front)) ∙ sym (append_assoc line front more) ∙ ap (λ l. l ++ more) (sym is);
      plain = subst IsPlain (sym is) (All-append (λ b. b ≢ 10) line front begun.plain plain);
    }

-- what was left is pending now
pub begun_more : (text line pending : List ℕ) (old new : Option (List ℕ)) → HasAll text line old
    → ((rest : List ℕ) → old ≡ Some rest → prepend_known pending new ≡ Some rest) → HasBegun text line pending new
begun_more text line pending old new all kept = record {
  rest = all.rest;
  left_is = kept all.rest all.left_is;
  split = all.split;
  plain = all.plain;
}

nothing_more : (pending : List ℕ) (left : Option (List ℕ)) (rest : List ℕ) → prepend_known pending left ≡ Some rest → pending ≡ []
    → IsAtEnd left → rest ≡ []
nothing_more pending None rest is none at_end = absurd cc
nothing_more pending (Some xs) rest is none at_end =
    let e : rest ≡ pending ++ xs = cc in e ∙ ap (λ p. p ++ xs) none ∙ at_end

-- the text ends behind the line
pub ended_text : (text line pending : List ℕ) (left : Option (List ℕ)) (empty : Bool) → HasBegun text line pending left
    → pending ≡ [] → IsAtEnd left → empty ≡ (length line == 0)
    → (rest : List ℕ) × (prepend_known pending left ≡ Some rest) × TakesLine (not empty) text line rest
ended_text text [] pending left true begun none at_end is =
    (begun.rest, begun.left_is, ap lines (begun.split ∙ nothing_more pending left begun.rest begun.left_is none at_end))
ended_text text [] pending left false begun none at_end is = absurd cc
ended_text text (x ∷ xs) pending left true begun none at_end is =
    absurd (let e = eqb-true (length (x ∷ xs)) 0 (sym is) in omega (arith, e))
ended_text text (x ∷ xs) pending left false begun none at_end is =
    let rest = nothing_more pending left begun.rest begun.left_is none at_end in
    let all : text ≡ x ∷ xs = begun.split ∙ ap (λ r. (x ∷ xs) ++ r) rest ∙ append-nil (x ∷ xs) in
    (begun.rest, begun.left_is, ap lines all ∙ last_line x xs begun.plain ∙ ap (λ r. (x ∷ xs) ∷ lines r) (sym rest))

-- what is pending was added to what was read before
pub all_added : (before pending after more whole : List ℕ) (left : Option (List ℕ)) → prepend_known pending left ≡ Some more
    → before ++ more ≡ whole → after ≡ before ++ pending → (rest : List ℕ) × (left ≡ Some rest) × (after ++ rest ≡ whole)
all_added before pending after more whole left is all added = by (known_text pending left more is)
  where
    by : ((rest : List ℕ) × (left ≡ Some rest) × (more ≡ pending ++ rest)) → (rest : List ℕ) × (left ≡ Some rest) × (after ++ rest ≡ whole)
    by (rest, goes_on, split) = (
      rest,
      goes_on,
      ap (λ r. r ++ rest) added ∙ append_assoc before pending rest ∙ ap (λ r. before ++ r) (sym split) ∙ all,
    )

-- and nothing more came
pub all_read : (after pending rest whole : List ℕ) (left : Option (List ℕ)) → prepend_known pending left ≡ Some rest → pending ≡ []
    → IsAtEnd left → after ++ rest ≡ whole → after ≡ whole
all_read after pending rest whole left is none at_end all =
    sym (ap (λ r. after ++ r) (nothing_more pending left rest is none at_end) ∙ append-nil after) ∙ all
