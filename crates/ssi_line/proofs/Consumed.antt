-- Bytes that were taken of those that are known.
use Rattle.std.proofs.Common.{◌≡◌, ◌≢◌, ℕ, List, [], ◌∷◌, ◌++◌, Bool, true, false, Option, None, Some, Result, Ok, Err}
use Rattle.std.proofs.Common.{refl, sym, ap, subst, ◌∙◌, append_assoc, append-nil}
use Rattle.std.specs.Prelude.{IsErr}
use Rattle.std.specs.Io.KnownBytes.{Consumes, prepend_known}
use Rattle.std.proofs.lemmas.List.Elements.{All-append}
use Rattle.adya_line.specs.Meaning.Lines.{IsPlain}
use Rattle.devices.specs.Clauses.Lines.{line_end}
use Rattle.ssi_line.specs.Machinery.Lines.{has_ended}

regroup : (a b c d : List ℕ) → a ++ ((b ++ c) ++ d) ≡ (a ++ b) ++ (c ++ d)
regroup a b c d = simp append_assoc

-- what is taken of the pending bytes
pub took_front : (a r : Option (List ℕ)) (past front rest pending : List ℕ) → pending ≡ front ++ rest
    → Consumes a (prepend_known pending r) past → Consumes a (prepend_known rest r) (past ++ front)
took_front None r past front rest pending is eaten = tt
took_front (Some xs) None past front rest pending is eaten = absurd eaten
took_front (Some xs) (Some ys) past front rest pending is eaten =
    eaten ∙ ap (λ (l : List ℕ). past ++ (l ++ ys)) is ∙ regroup past front rest ys

-- what is read after all pending bytes were taken
pub read_more : (a r s : Option (List ℕ)) (past bytes pending : List ℕ) → pending ≡ []
    → Consumes a (prepend_known pending r) past → Consumes r s bytes → Consumes a (prepend_known bytes s) past
read_more None r s past bytes pending is eaten more = tt
read_more (Some xs) None s past bytes pending is eaten more = absurd eaten
read_more (Some xs) (Some ys) None past bytes pending is eaten more = absurd more
read_more (Some xs) (Some ys) (Some zs) past bytes pending is eaten more =
    eaten ∙ ap (λ (l : List ℕ). past ++ (l ++ ys)) is ∙ ap (λ (l : List ℕ). past ++ l) more

pub same_bytes : (a b : Option (List ℕ)) (xs ys : List ℕ) → xs ≡ ys → Consumes a b xs → Consumes a b ys
same_bytes a b xs ys is eaten = subst (λ l. Consumes a b l) is eaten

-- the part of a line that was taken, with its line feed
pub with_feed : (past taken : List ℕ) (ended : Bool) → ended ≡ true
    → past ++ (taken ++ line_end ended) ≡ (past ++ taken) ++ (10 ∷ [])
with_feed past taken true is = simp append_assoc
with_feed past taken false is = cc

-- and without one
pub without_feed : (past taken : List ℕ) (ended : Bool) → ended ≡ false
    → past ++ (taken ++ line_end ended) ≡ past ++ taken
without_feed past taken true is = cc
without_feed past taken false is = ap (λ (l : List ℕ). past ++ l) (append-nil taken)

no_end : {E : Type 0} (r : Result Bool E) → IsErr r → line_end (has_ended r) ≡ []
no_end (Ok b) is = cc
no_end (Err e) is = refl

-- a fault is no line feed
pub fault_ends : {E : Type 0} (r : Result Bool E) (line : List ℕ) → IsErr r → line ≡ line ++ line_end (has_ended r)
fault_ends r line is = sym (ap (λ (l : List ℕ). line ++ l) (no_end r is) ∙ append-nil line)

pub plain_both : (xs ys : List ℕ) → IsPlain xs → IsPlain ys → IsPlain (xs ++ ys)
plain_both xs ys p q = All-append (λ b. b ≢ 10) xs ys p q
