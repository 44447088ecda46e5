-- Lists of lines and of steps, one after the other.
use Rattle.std.proofs.Common.{◌≡◌, ℕ, Bool, List, [], ◌∷◌, ◌++◌, true, refl, sym, ap, subst, ◌∙◌, append_assoc}
use Rattle.adya_text.specs.Meaning.Texts.{with_ends}
use Rattle.ssi_store.specs.Meaning.Courses.{Course}
use Rattle.ssi_line.specs.Meaning.Steps.{Step, Given, Dumped, NotDumped, Stopped, NotRead, TooLong, AreStepsOf, is_stop}
use Rattle.ssi_line.specs.Meaning.Steps.{step_text, steps_text, course_with, course_after, MayFollow, AllMayFollow}
use Rattle.ssi_line.specs.Clauses.Ends.{WentOn}

pub ends_append : (xs ys : List (List ℕ)) → with_ends (xs ++ ys) ≡ with_ends xs ++ with_ends ys
ends_append [] ys = refl
ends_append (x ∷ xs) ys =
    ap (λ (r : List ℕ). x ++ (10 ∷ r)) (ends_append xs ys) ∙ sym (append_assoc x (10 ∷ with_ends xs) (with_ends ys))

pub text_append : (xs ys : List Step) → steps_text (xs ++ ys) ≡ steps_text xs ++ steps_text ys
text_append [] ys = refl
text_append (s ∷ ss) ys =
    ap (λ (l : List ℕ). step_text s ++ l) (text_append ss ys) ∙ sym (append_assoc (step_text s) (steps_text ss) (steps_text ys))

pub steps_append : (keeps : Bool) (ls ms : List (List ℕ)) (ss ts : List Step) → AreStepsOf keeps ls ss → AreStepsOf keeps ms ts
    → AreStepsOf keeps (ls ++ ms) (ss ++ ts)
steps_append keeps [] ms [] ts p q = q
steps_append keeps [] ms (s ∷ ss) ts p q = absurd p
steps_append keeps (l ∷ ls) ms [] ts p q = absurd p
steps_append keeps (l ∷ ls) ms (s ∷ ss) ts p q = (p.0, steps_append keeps ls ms ss ts p.1 q)

after_more : (course : Course) (steps : List Step) (step : Step)
    → course_after course (steps ++ step ∷ []) ≡ course_with (course_after course steps) step
after_more course [] step = refl
after_more course (s ∷ ss) step = after_more (course_with course s) ss step

follow_more : (course : Course) (steps : List Step) (step : Step) → AllMayFollow course steps
    → MayFollow (course_after course steps) step → AllMayFollow course (steps ++ step ∷ [])
follow_more course [] step all is = (is, tt)
follow_more course (s ∷ ss) step all is = (all.0, follow_more (course_with course s) ss step all.1 is)

pub went_on_more : {T : Type 0} (is_at : T → Course → Type 0) (old mid new : T) (steps : List Step) (step : Step)
    → WentOn is_at old steps mid → WentOn is_at mid (step ∷ []) new → WentOn is_at old (steps ++ step ∷ []) new
went_on_more is_at old mid new steps step before now = λ course at.
    let first = before course at in
    let last = now (course_after course steps) first.1 in (
      follow_more course steps step first.0 last.0.0,
      subst (λ (c : Course). is_at new c) (sym (after_more course steps step)) last.1,
    )

-- a step that ends a run is the stop
pub stopped : (step : Step) → is_stop step ≡ true → step ≡ Stopped
stopped (Given c a) is = cc
stopped (Dumped h ts) is = cc
stopped NotDumped is = cc
stopped Stopped is = refl
stopped NotRead is = cc
stopped TooLong is = cc
