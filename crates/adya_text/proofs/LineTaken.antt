-- A line that is taken out of a buffer, piece by piece.
use Rattle.std.proofs.Common.{◌≡◌, ℕ, ◌+◌, ◌<◌, ◌≤◌, List, [], ◌∷◌, ◌++◌, length, Bool, true, false, Option, None, Some, IfSome}
use Rattle.std.proofs.Common.{Result, Ok, Err, refl, sym, ap, ◌∙◌, append_assoc, append-nil, arith}
use Rattle.std.specs.Prelude.{MatchResult, is_ok}
use Rattle.std.specs.Io.KnownBytes.{Consumes, prepend_known}
use Rattle.std.proofs.lemmas.Bool.{false≢true}

-- the value, where the error alone was mapped
pub unmapped : {T E F : Type 0} (r : Result T E) (s : Result T F) (Q : E → Type 0) {v : T}
    → MatchResult r (λ x. s ≡ Ok x) Q → is_ok s ≡ is_ok r → s ≡ Ok v → r ≡ Ok v
unmapped (Ok x) s Q cases same is = cc
unmapped (Err e) s Q cases same is = absurd (false≢true (sym same ∙ ap is_ok is))

regroup : (a b c d e : List ℕ) → a ++ (((b ++ c) ++ d) ++ e) ≡ ((a ++ b) ++ c) ++ (d ++ e)
regroup a b c d e = simp append_assoc

-- one piece more was taken, and what ends it
pub piece_taken : (a r : Option (List ℕ)) (line taken ends left buffer new : List ℕ)
    → Consumes a (prepend_known buffer r) line → buffer ≡ (taken ++ ends) ++ left → new ≡ line ++ taken
    → Consumes a (prepend_known left r) (new ++ ends)
piece_taken None r line taken ends left buffer new eaten is grown = tt
piece_taken (Some xs) None line taken ends left buffer new eaten is grown = absurd eaten
piece_taken (Some xs) (Some ys) line taken ends left buffer new eaten is grown =
    eaten ∙ ap (λ (l : List ℕ). line ++ (l ++ ys)) is ∙ regroup line taken ends left ys
    ∙ ap (λ (l : List ℕ). (l ++ ends) ++ (left ++ ys)) (sym grown)

-- the buffer was filled anew
pub filled : (a r s : Option (List ℕ)) (line left bytes : List ℕ) → Consumes a (prepend_known left r) (line ++ [])
    → left ≡ [] → Consumes r s bytes → Consumes a (prepend_known bytes s) line
filled None r s line left bytes eaten none more = tt
filled (Some xs) None s line left bytes eaten none more = absurd eaten
filled (Some xs) (Some ys) None line left bytes eaten none more = absurd more
filled (Some xs) (Some ys) (Some zs) line left bytes eaten none more =
    eaten ∙ ap (λ (l : List ℕ). l ++ (left ++ ys)) (append-nil line) ∙ ap (λ (l : List ℕ). line ++ (l ++ ys)) none
    ∙ ap (λ (l : List ℕ). line ++ l) more

pub some_taken : (left buffer : List ℕ) → length left < length buffer → buffer ≡ [] → ⊥
some_taken left [] less empty = omega (arith, less)
some_taken left (x ∷ buffer) less empty = absurd cc

pub still_short : (longest : Option ℕ) (old new : List ℕ) → IfSome longest (λ most. length old ≤ most)
    → length new ≤ length old + 8192 → IfSome longest (λ most. length new ≤ most + 8192)
still_short None old new short more = tt
still_short (Some most) old new short more = omega (arith, short, more)

pub not_failed : (failed : Bool) → (failed ≡ true → false ≡ true) → failed ≡ false
not_failed true is = absurd (false≢true (is refl))
not_failed false is = refl

pub as_before : (old new : Bool) → new ≡ false → (old ≡ true → new ≡ true) → new ≡ old
as_before true new is kept = absurd (false≢true (sym is ∙ kept refl))
as_before false new is kept = is
