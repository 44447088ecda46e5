-- Runs over one store, one after the other.
use Rattle.std.proofs.Common.{◌≡◌, List, [], ◌∷◌, ◌++◌, Result, Ok, Err, IfOk, refl, sym, subst}
use Rattle.ssi_store.specs.Meaning.Courses.{Course}
use Rattle.ssi_line.specs.Meaning.Steps.{Step, AllMayFollow, course_with, course_after}
use Rattle.ssi_line.specs.Clauses.Ends.{WentOn}

after_both : (course : Course) (some more : List Step)
    → course_after course (some ++ more) ≡ course_after (course_after course some) more
after_both course [] more = refl
after_both course (s ∷ ss) more = after_both (course_with course s) ss more

follow_both : (course : Course) (some more : List Step) → AllMayFollow course some
    → AllMayFollow (course_after course some) more → AllMayFollow course (some ++ more)
follow_both course [] more first then = then
follow_both course (s ∷ ss) more first then = (first.0, follow_both (course_with course s) ss more first.1 then)

pub went_on_both : {T : Type 0} (is_at : T → Course → Type 0) (old mid new : T) (some more : List Step)
    → WentOn is_at old some mid → WentOn is_at mid more new → WentOn is_at old (some ++ more) new
went_on_both is_at old mid new some more before now = λ course at.
    let first = before course at in
    let last = now (course_after course some) first.1 in (
      follow_both course some more first.0 last.0,
      subst (λ (c : Course). is_at new c) (sym (after_both course some more)) last.1,
    )

pub if_ok : {T E : Type 0} {P Q : T → Type 0} (r : Result T E) → ((x : T) → P x → Q x) → IfOk r P → IfOk r Q
if_ok (Ok x) more is = more x is
if_ok (Err e) more is = tt

pub both_ok : {T E P Q R : Type 0} (r : Result T E) → (P → Q → R) → IfOk r (λ _. P) → IfOk r (λ _. Q) → IfOk r (λ _. R)
both_ok (Ok x) more p q = more p q
both_ok (Err e) more p q = tt
