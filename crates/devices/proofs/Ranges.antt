-- A part of a list of bytes, cut at its first line feed.
use Rattle.std.proofs.Common.{◌≡◌, ◌≢◌, ◌==◌, ℕ, suc, ◌+◌, ◌-◌, ◌<◌, ◌≤◌, List, [], ◌∷◌, ◌++◌, All, arith}
use Rattle.std.proofs.Common.{rules, length, take, drop, slice_range, slice_index, sym, ap, ◌∙◌, subst, zero-le, Bool, length-append, take-append-drop, length-take-le}
use Rattle.std.proofs.lemmas.List.{drop-take, drop-drop, get_or-take, get_or_default}
use Rattle.std.proofs.Math.Seq.{take-suc, drop-append_seam}
use Rattle.std.proofs.lemmas.Grind.{common_steps}
use Rattle.memchr.specs.Find.{Nowhere, Passes, is_byte}
use Rattle.devices.specs.Clauses.Lines.{line_end}

pub drop_range : (bytes : List ℕ) (start end n : ℕ) → start + n ≤ end
    → drop n (slice_range bytes start end) ≡ slice_range bytes (start + n) end
drop_range bytes start end n within =
    let sum : end - start ≡ n + (end - (start + n)) = omega arith in
    ap (λ k. drop n (take k (drop start bytes))) sum ∙ drop-take n (end - (start + n)) (drop start bytes)
    ∙ ap (take (end - (start + n))) (drop-drop n start bytes)

pub range_split : (bytes : List ℕ) (start end at : ℕ) → at < length (slice_range bytes start end)
    → start + (at + 1) ≤ end → slice_index (slice_range bytes start end) at ≡ 10
    → slice_range bytes start end ≡ (take at (slice_range bytes start end) ++ 10 ∷ [])
    ++ slice_range bytes (start + (at + 1)) end
range_split bytes start end at within fits feed =
    let pending : List ℕ = slice_range bytes start end in
    let one : suc at ≡ at + 1 = omega arith in
    sym (take-append-drop (suc at) pending)
    ∙ ap (λ (l : List ℕ). l ++ drop (suc at) pending)
    (take-suc pending at 0 within ∙ ap (λ (b : ℕ). take at pending ++ b ∷ []) feed)
    ∙ ap (λ (l : List ℕ). (take at pending ++ 10 ∷ []) ++ l)
    (ap (λ n. drop n pending) one ∙ drop_range bytes start end (at + 1) fits)

pub plain_all : (bytes : List ℕ) → Nowhere (Passes (is_byte 10) bytes) 0 (length bytes) → All (λ b. b ≢ 10) bytes
plain_all bytes none = λ k d below e.
    none k zero-le below (ap (λ b. b == 10) (get_or_default bytes k 0 d below ∙ e))

pub plain_before : (bytes : List ℕ) (at : ℕ) → at ≤ length bytes → Nowhere (Passes (is_byte 10) bytes) 0 at
    → All (λ b. b ≢ 10) (take at bytes)
plain_before bytes at fits none = λ k d below e.
    let under : k < at = subst (λ n. k < n) (length-take-le at bytes fits) below in
    let within : k < length bytes = omega arith in
    none k zero-le under (ap (λ b. b == 10)
    (get_or_default bytes k 0 d within ∙ sym (get_or-take at bytes k d under) ∙ e))

pub length_range : (bytes : List ℕ) (start end : ℕ) → length (slice_range bytes start end) ≤ end - start
length_range bytes start end = search (rules, common_steps)

pub empty_range : (bytes : List ℕ) (end : ℕ) → slice_range bytes end end ≡ []
empty_range bytes end = let none : end - end ≡ 0 = omega arith in ap (λ n. take n (drop end bytes)) none

-- what is left after the front of a list was taken, with the line feed behind it
pub after_front : (old front rest : List ℕ) (feed : Bool) → old ≡ front ++ line_end feed ++ rest
    → drop (length front + length (line_end feed)) old ≡ rest
after_front old front rest feed parts =
    ap (drop (length front + length (line_end feed))) parts
    ∙ ap (λ n. drop n (front ++ line_end feed ++ rest)) (sym (length-append front (line_end feed)))
    ∙ drop-append_seam (front ++ line_end feed) rest

-- what is left of a part after so many bytes were taken, with a line feed behind them
pub range_taken : (bytes old : List ℕ) (start end count : ℕ) (feed : Bool) (next : ℕ) → old ≡ slice_range bytes start end → start ≤ end
    → count + length (line_end feed) ≤ length old → next ≡ start + (count + length (line_end feed))
    → slice_range bytes next end ≡ drop (count + length (line_end feed)) old
range_taken bytes old start end count feed next is up within at =
    let size : length old ≤ end - start = subst (λ l. length l ≤ end - start) (sym is) (length_range bytes start end) in
    let fits : start + (count + length (line_end feed)) ≤ end = omega (arith, within, size, up) in
    ap (λ n. slice_range bytes n end) at
    ∙ sym (drop_range bytes start end (count + length (line_end feed)) fits)
    ∙ ap (drop (count + length (line_end feed))) (sym is)
