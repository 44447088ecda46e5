-- The place at which the history text of a stream ends, by the lines of the stream.
use Rattle.std.proofs.Common.{◌≡◌, ◌≢◌, ◌==◌, ℕ, suc, ◌+◌, ◌-◌, ◌≤◌, Bool, true, false, if◌then◌else◌, List, [], ◌∷◌}
use Rattle.std.proofs.Common.{◌++◌, All, length, take, drop, refl, sym, ap, ◌∙◌, arith, append_assoc, append-nil, zero-le}
use Rattle.std.specs.Prelude.{codes}
use Rattle.std.proofs.lemmas.Bool.{eqb-true, ne_eqb, and_parts, false_from_ne_true}
use Rattle.std.proofs.lemmas.List.{length-append}
use Rattle.std.proofs.lemmas.List.Elements.{All-tail}
use Rattle.std.proofs.Math.Seq.{take-append-add, drop-append-add, take-length, drop-length}
use Rattle.adya_line.specs.Meaning.Spelling.{tail}
use Rattle.adya_text.specs.Meaning.Texts.{with_ends}
use Rattle.adya_line.specs.Meaning.Lines.{IsPlain}
use Rattle.adya_text.specs.Clauses.Faults.{IsCut, HasFront}
use Rattle.adya_text.specs.Clauses.Streams.{history_part, serial_part}
use Rattle.adya_text.specs.Laws.{HasNoEnd, IsCutAfterEnd, IsWholeWithoutEnd}
use Rattle.adya_text.specs.Machinery.LongLines.{HasStart}
use Rattle.adya_text.specs.Computing.Streams.{begins_with, end_of_history}
use Rattle.adya_text.proofs.LineLists.{ends_append}

no_feed : (b : ℕ) (l : List ℕ) → IsPlain (b ∷ l) → (b == 10) ≡ false
no_feed b l plain = ne_eqb b 10 (plain 0 b (omega arith))

-- within a line that goes on
on_to_feed : (line rest : List ℕ) → IsPlain line
    → end_of_history false (line ++ 10 ∷ rest) ≡ length (line ++ 10 ∷ []) + end_of_history true rest
on_to_feed [] rest plain = omega arith
on_to_feed (b ∷ l) rest plain =
    let here = ap (λ t. end_of_history t (l ++ 10 ∷ rest)) (no_feed b l plain) in
    omega (arith, here, on_to_feed l rest (All-tail (λ x. x ≢ 10) b l plain))

on_to_end : (line : List ℕ) → IsPlain line → end_of_history false line ≡ length line
on_to_end [] plain = refl
on_to_end (b ∷ l) plain =
    ap (λ t. suc (end_of_history t l)) (no_feed b l plain) ∙ ap (λ (n : ℕ). suc n) (on_to_end l (All-tail (λ x. x ≢ 10) b l plain))

-- a line with its line feed is the line `end`
is_end_line : (line rest : List ℕ) → IsPlain line → begins_with (codes "end\n") (line ++ 10 ∷ rest) ≡ true
    → line ≡ tail
is_end_line [] rest plain is = absurd cc
is_end_line (a ∷ []) rest plain is =
    let more = (and_parts (101 == a) _ is).1 in absurd cc
is_end_line (a ∷ b ∷ []) rest plain is =
    let more = (and_parts (110 == b) _ (and_parts (101 == a) _ is).1).1 in absurd cc
is_end_line (a ∷ b ∷ d ∷ []) rest plain is =
    let first = and_parts (101 == a) _ is in
    let second = and_parts (110 == b) _ first.1 in
    let third = and_parts (100 == d) _ second.1 in
    sym (cc (eqb-true 101 a first.0, eqb-true 110 b second.0, eqb-true 100 d third.0))
is_end_line (a ∷ b ∷ d ∷ e ∷ l) rest plain is =
    let third = and_parts (100 == d) _ (and_parts (110 == b) _ (and_parts (101 == a) _ is).1).1 in
    let fourth = and_parts (10 == e) _ third.1 in
    absurd (plain 3 e (omega arith) (sym (eqb-true 10 e fourth.0)))

-- bytes without a line feed don't hold the line `end`
no_end_line : (line : List ℕ) → IsPlain line → begins_with (codes "end\n") line ≡ true → ⊥
no_end_line [] plain is = cc
no_end_line (a ∷ []) plain is = let more = (and_parts (101 == a) _ is).1 in cc
no_end_line (a ∷ b ∷ []) plain is =
    let more = (and_parts (110 == b) _ (and_parts (101 == a) _ is).1).1 in cc
no_end_line (a ∷ b ∷ d ∷ []) plain is =
    let more = (and_parts (100 == d) _ (and_parts (110 == b) _ (and_parts (101 == a) _ is).1).1).1 in cc
no_end_line (a ∷ b ∷ d ∷ e ∷ l) plain is =
    let third = and_parts (100 == d) _ (and_parts (110 == b) _ (and_parts (101 == a) _ is).1).1 in
    let fourth = and_parts (10 == e) _ third.1 in
    plain 3 e (omega arith) (sym (eqb-true 10 e fourth.0))

-- past a line that is not `end`
past_line : (line rest : List ℕ) → IsPlain line → line ≢ tail
    → end_of_history true (line ++ 10 ∷ rest) ≡ length (line ++ 10 ∷ []) + end_of_history true rest
past_line [] rest plain other = omega arith
past_line (b ∷ l) rest plain other =
    let goes_on : begins_with (codes "end\n") ((b ∷ l) ++ 10 ∷ rest) ≡ false =
    false_from_ne_true _ (λ is. other (is_end_line (b ∷ l) rest plain is)) in
    ap (λ t. if t then 4 else suc (end_of_history (b == 10) (l ++ 10 ∷ rest))) goes_on
    ∙ on_to_feed (b ∷ l) rest plain

at_last : (line : List ℕ) → IsPlain line → end_of_history true line ≡ length line
at_last [] plain = refl
at_last (b ∷ l) plain =
    ap (λ t. if t then 4 else suc (end_of_history (b == 10) l)) (false_from_ne_true _ (no_end_line (b ∷ l) plain))
    ∙ on_to_end (b ∷ l) plain

past_lines : (past : List (List ℕ)) (rest : List ℕ) → All IsPlain past → All (λ l. l ≢ tail) past
    → end_of_history true (with_ends past ++ rest) ≡ length (with_ends past) + end_of_history true rest
past_lines [] rest plain other = omega arith
past_lines (l ∷ ls) rest plain other =
    let whole = ap (end_of_history true) (append_assoc l (10 ∷ with_ends ls) rest) in
    let first = past_line l (with_ends ls ++ rest) (plain 0 l (omega arith)) (other 0 l (omega arith)) in
    let later = past_lines ls rest (λ k d below. plain (suc k) d (omega arith))
    (λ k d below. other (suc k) d (omega arith)) in
    omega (arith, whole, first, later, length-append l (10 ∷ []), length-append l (10 ∷ with_ends ls))

-- ---- bytes without a line feed

on_through : (line more : List ℕ) → IsPlain line → length line ≤ end_of_history false (line ++ more)
on_through [] more plain = zero-le
on_through (b ∷ l) more plain =
    let here = ap (λ t. end_of_history t (l ++ more)) (no_feed b l plain) in
    omega (arith, here, on_through l more (All-tail (λ x. x ≢ 10) b l plain))

short_of_end : (line more : List ℕ) → IsPlain line → begins_with (codes "end\n") (line ++ more) ≡ true
    → length line ≤ 4
short_of_end [] more plain is = omega arith
short_of_end (a ∷ []) more plain is = omega arith
short_of_end (a ∷ b ∷ []) more plain is = omega arith
short_of_end (a ∷ b ∷ d ∷ []) more plain is = omega arith
short_of_end (a ∷ b ∷ d ∷ e ∷ l) more plain is =
    let third = and_parts (100 == d) _ (and_parts (110 == b) _ (and_parts (101 == a) _ is).1).1 in
    let fourth = and_parts (10 == e) _ third.1 in
    absurd (plain 3 e (omega arith) (sym (eqb-true 10 e fourth.0)))

-- they are the history's if a line starts with them
through : (line more : List ℕ) → IsPlain line → length line ≤ end_of_history true (line ++ more)
through [] more plain = zero-le
through (b ∷ l) more plain = by_end (begins_with (codes "end\n") ((b ∷ l) ++ more)) refl
  where
    by_end : (t : Bool) → begins_with (codes "end\n") ((b ∷ l) ++ more) ≡ t
        → length (b ∷ l) ≤ end_of_history true ((b ∷ l) ++ more)
    by_end true is =
        let end = ap (λ t. if t then 4 else suc (end_of_history (b == 10) (l ++ more))) is in
        omega (arith, end, short_of_end (b ∷ l) more plain is)
    by_end false is =
        let goes_on = ap (λ t. if t then 4 else suc (end_of_history (b == 10) (l ++ more))) is in
        omega (arith, goes_on, on_through (b ∷ l) more plain)

-- ---- the two parts

history_after : (past : List (List ℕ)) (rest : List ℕ) → All IsPlain past → HasNoEnd past
    → history_part (with_ends past ++ rest) ≡ with_ends past ++ history_part rest
history_after past rest plain other =
    ap (λ n. take n (with_ends past ++ rest)) (past_lines past rest plain other)
    ∙ take-append-add (with_ends past) rest (end_of_history true rest)

serial_after : (past : List (List ℕ)) (rest : List ℕ) → All IsPlain past → HasNoEnd past
    → serial_part (with_ends past ++ rest) ≡ serial_part rest
serial_after past rest plain other =
    ap (λ n. drop n (with_ends past ++ rest)) (past_lines past rest plain other)
    ∙ drop-append-add (with_ends past) rest (end_of_history true rest)

-- lines of which none is `end` are a front of the history's part
pub part_front : (stream : List ℕ) (lines : List (List ℕ)) → HasNoEnd lines → HasFront stream lines
    → HasFront (history_part stream) lines
part_front stream lines other front = record {
  plain = front.plain;
  rest = history_part front.rest;
  whole = ap history_part front.whole ∙ history_after lines front.rest front.plain other;
}

-- so is the start of the next line
pub part_start : (stream : List ℕ) (lines : List (List ℕ)) (bytes : List ℕ) → HasNoEnd lines
    → HasStart stream lines bytes → HasStart (history_part stream) lines bytes
part_start stream lines bytes other start =
    let n = end_of_history true (bytes ++ start.rest) - length bytes in
    let far : end_of_history true (bytes ++ start.rest) ≡ length bytes + n =
    omega (arith, through bytes start.rest start.plain_bytes) in
    record {
      plain = start.plain;
      plain_bytes = start.plain_bytes;
      rest = take n start.rest;
      whole = ap history_part start.whole ∙ history_after lines (bytes ++ start.rest) start.plain other
          ∙ ap (λ (l : List ℕ). with_ends lines ++ l)
          (ap (λ k. take k (bytes ++ start.rest)) far ∙ take-append-add bytes start.rest n);
    }

-- the first line `end` ends the history's part
pub cut_after_end : IsCutAfterEnd
cut_after_end before rest plain other =
    let lines : with_ends (before ++ tail ∷ []) ≡ with_ends before ++ (tail ++ 10 ∷ []) =
    ends_append before (tail ∷ []) in
    let stream : with_ends (before ++ tail ∷ []) ++ rest ≡ with_ends before ++ (tail ++ 10 ∷ rest) =
    ap (λ (l : List ℕ). l ++ rest) lines ∙ append_assoc (with_ends before) (tail ++ 10 ∷ []) rest in (
      ap history_part stream ∙ history_after before (tail ++ 10 ∷ rest) plain other ∙ sym lines,
      ap serial_part stream ∙ serial_after before (tail ++ 10 ∷ rest) plain other,
    )

-- the same of a line that is `end`
pub part_at_end : (past : List (List ℕ)) (line rest : List ℕ) → HasNoEnd past → line ≡ tail
    → All IsPlain (past ++ line ∷ []) → All IsPlain past
    → IsCut (history_part (with_ends (past ++ line ∷ []) ++ rest)) (past ++ line ∷ []) []
    × (serial_part (with_ends (past ++ line ∷ []) ++ rest) ≡ rest)
part_at_end past line rest other is plain before =
    let parts = cut_after_end past rest before other in (
      record {
        plain = plain;
        plain_rest = λ k d below. absurd (omega arith);
        whole = ap (λ l. history_part (with_ends (past ++ l ∷ []) ++ rest)) is ∙ parts.0
            ∙ ap (λ (l : List ℕ). with_ends (past ++ l ∷ [])) (sym is)
            ∙ sym (append-nil (with_ends (past ++ line ∷ [])));
      },
      ap (λ l. serial_part (with_ends (past ++ l ∷ []) ++ rest)) is ∙ parts.1,
    )

-- if no line is `end`, all is the history's
pub part_of_all : IsWholeWithoutEnd
part_of_all stream past line other cut = (
  ap history_part cut.whole ∙ history_after past line cut.plain other
      ∙ ap (λ (l : List ℕ). with_ends past ++ l)
      (ap (λ n. take n line) (at_last line cut.plain_rest) ∙ take-length line) ∙ sym cut.whole,
  ap serial_part cut.whole ∙ serial_after past line cut.plain other
      ∙ ap (λ n. drop n line) (at_last line cut.plain_rest) ∙ drop-length line,
)
