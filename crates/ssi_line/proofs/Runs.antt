-- One step more of a run.
use Rattle.std.proofs.Common.{◌≡◌, ℕ, List, [], ◌∷◌, ◌++◌, Bool, true, false, Option, None, Some, Result, Ok, Err}
use Rattle.std.proofs.Common.{refl, sym, ap, subst, ◌∙◌, append_assoc, append-nil, arith}
use Rattle.std.specs.Result.{result_and}
use Rattle.std.specs.Io.KnownBytes.{Consumes, Appends, prepend_known}
use Rattle.std.proofs.KnownBytes.{Consumes-trans, Consumes-nil, Appends-nil, Appends-trans, prepend_known-nil}
use Rattle.std.proofs.lemmas.List.Elements.{All-push}
use Rattle.devices.specs.declared.watched.Watched.{Watched}
use Rattle.devices.specs.Mirror.{watched_contents}
use Rattle.devices.specs.Clauses.Writing.{Grew, Broke}
use Rattle.adya_line.specs.Meaning.Lines.{IsPlain}
use Rattle.adya_text.specs.Meaning.Texts.{with_ends}
use Rattle.ssi_line.specs.Meaning.Steps.{Step, IsStep, EndsWith}
use Rattle.ssi_line.specs.Meaning.Steps.{step_text, steps_text, is_stop, AllGoOn}
use Rattle.ssi_line.specs.Clauses.Ends.{Took, EndsBroken}
use Rattle.devices.specs.Clauses.Lines.{line_end}
use Rattle.ssi_line.specs.Machinery.Lines.{has_ended}
use Rattle.ssi_line.specs.Clauses.Answers.{Said}
use Rattle.ssi_line.specs.Clauses.Answers.{Told}
use Rattle.ssi_line.proofs.StepLists.{ends_append, text_append, steps_append}

-- ---- lists of steps

text_more : (steps : List Step) (step : Step) → steps_text (steps ++ step ∷ []) ≡ steps_text steps ++ step_text step
text_more steps step = text_append steps (step ∷ []) ∙ ap (λ (l : List ℕ). steps_text steps ++ l) (append-nil (step_text step))

pub go_on_more : (steps : List Step) (step : Step) → AllGoOn steps → is_stop step ≡ false
    → AllGoOn (steps ++ step ∷ [])
go_on_more steps step all is = All-push (λ s. is_stop s ≡ false) steps step all is

-- ---- what was taken

took_none : (a : Option (List ℕ)) → Took a [] [] [] a
took_none a = record { plain = λ k d below. absurd (omega arith); made = tt; consumed = Consumes-nil a }

pub took_start : (a : Option (List ℕ)) (pending : List ℕ) → pending ≡ [] → Took a [] [] [] (prepend_known pending a)
took_start a pending none =
    subst (λ (p : List ℕ). Took a [] [] [] (prepend_known p a)) (sym none)
    (subst (λ (o : Option (List ℕ)). Took a [] [] [] o) (sym (prepend_known-nil a)) (took_none a))

pub took_more : (a b c : Option (List ℕ)) (lines : List (List ℕ)) (steps : List Step) (line : List ℕ) (step : Step)
    (ended : Bool) → Took a lines steps [] b → ended ≡ true → IsPlain line → Consumes b c (line ++ line_end ended)
    → IsStep line step → Took a (lines ++ line ∷ []) (steps ++ step ∷ []) [] c
took_more a b c lines steps line step ended took is plain eaten made =
    let whole : Consumes b c (line ++ 10 ∷ []) = subst (λ e. Consumes b c (line ++ line_end e)) is eaten in
    let all : with_ends (lines ++ line ∷ []) ++ [] ≡ (with_ends lines ++ []) ++ (line ++ 10 ∷ []) =
    append-nil (with_ends (lines ++ line ∷ [])) ∙ ends_append lines (line ∷ [])
    ∙ ap (λ (l : List ℕ). l ++ (line ++ 10 ∷ [])) (sym (append-nil (with_ends lines))) in
    record {
      plain = All-push IsPlain lines line took.plain plain;
      made = steps_append true lines (line ∷ []) steps (step ∷ []) took.made (made, tt);
      consumed = subst (λ (l : List ℕ). Consumes a c l) (sym all)
          (Consumes-trans a b c (with_ends lines ++ []) (line ++ 10 ∷ []) took.consumed whole);
    }

-- what follows the last line feed
pub took_rest : (a b c : Option (List ℕ)) (lines : List (List ℕ)) (steps : List Step) (rest pending : List ℕ)
    (ended : Bool) → Took a lines steps [] b → ended ≡ false → pending ≡ []
    → Consumes b (prepend_known pending c) (rest ++ line_end ended) → Took a lines steps rest c
took_rest a b c lines steps rest pending ended took is none eaten =
    let rest_only : Consumes b (prepend_known [] c) (rest ++ []) =
    subst (λ (p : List ℕ). Consumes b (prepend_known p c) (rest ++ [])) none
    (subst (λ e. Consumes b (prepend_known pending c) (rest ++ line_end e)) is eaten) in
    let plain_rest : Consumes b c rest =
    subst (λ (l : List ℕ). Consumes b c l) (append-nil rest)
    (subst (λ (o : Option (List ℕ)). Consumes b o (rest ++ [])) (prepend_known-nil c) rest_only) in
    record {
      plain = took.plain;
      made = took.made;
      consumed = subst (λ (l : List ℕ). Consumes a c (l ++ rest)) (append-nil (with_ends lines))
          (Consumes-trans a b c (with_ends lines ++ []) rest took.consumed plain_rest);
    }

pending_after : (a c : Option (List ℕ)) (front pending : List ℕ) → Consumes a (prepend_known pending c) (front ++ [])
    → Consumes a c (front ++ pending)
pending_after None c front pending eaten = tt
pending_after (Some xs) None front pending eaten = absurd eaten
pending_after (Some xs) (Some ys) front pending eaten =
    eaten ∙ ap (λ (l : List ℕ). l ++ (pending ++ ys)) (append-nil front) ∙ sym (append_assoc front pending ys)

-- what was read and not taken
pub took_pending : (a c : Option (List ℕ)) (lines : List (List ℕ)) (steps : List Step) (pending : List ℕ)
    → Took a lines steps [] (prepend_known pending c) → Took a lines steps pending c
took_pending a c lines steps pending took = record {
  plain = took.plain;
  made = took.made;
  consumed = pending_after a c (with_ends lines) pending took.consumed;
}

-- ---- what was written

pub wrote_none : {D : Type 0} (contents : D → Option (List ℕ)) (w : Watched D) → Grew contents w w []
wrote_none contents w = record { appends = Appends-nil (watched_contents contents w); works = refl }

pub wrote_more : {D : Type 0} (contents : D → Option (List ℕ)) (a b c : Watched D) (steps : List Step) (step : Step)
    → Grew contents a b (steps_text steps) → Grew contents b c (step_text step)
    → Grew contents a c (steps_text (steps ++ step ∷ []))
wrote_more contents a b c steps step before now = record {
  appends =
      subst (λ (l : List ℕ). Appends (watched_contents contents a) (watched_contents contents c) l)
      (sym (text_more steps step))
      (Appends-trans (watched_contents contents a) (watched_contents contents b) (watched_contents contents c)
      (steps_text steps) (step_text step) before.appends now.appends);
  works = now.works ∙ before.works;
}

-- ---- the turns of a run

pub ended_so : {E : Type 0} (r : Result Bool E) (b c : Bool) → r ≡ Ok b → b ≡ c → has_ended r ≡ c
ended_so r b c is same = ap has_ended is ∙ same

-- the answer was written
pub told_so : {D E : Type 0} (contents : D → Option (List ℕ)) (r : Result Bool E) (b c : Bool) (step : Step)
    (old new : Watched D) → r ≡ Ok b → b ≡ c → Told contents r step old new
    → (is_stop step ≡ c) × Grew contents old new (step_text step)
told_so {E = E} contents r b c step old new is same told =
    let written : Told {E = E} contents (Ok b) step old new = subst
    (λ (x : Result Bool E). Told contents x step old new) is told in
    (written.0 ∙ same, written.1)

-- a front of the answer was written
pub told_broken : {D E : Type 0} (contents : D → Option (List ℕ)) (r : Result Bool E) (e : E) (step : Step)
    (old new : Watched D) → r ≡ Err e → Told contents r step old new → Broke contents old new (step_text step)
told_broken {E = E} contents r e step old new is told =
    subst (λ (x : Result Bool E). Told contents x step old new) is told

-- the answer was written, or a front of it
pub told_and : {D T E : Type 0} (contents : D → Option (List ℕ)) (r : Result T E) (q : Result Bool E) (stops : Bool)
    (step : Step) (old new : Watched D) → q ≡ result_and r (Ok stops) → is_stop step ≡ stops
    → Said contents old new (step_text step) r → Told contents q step old new
told_and {E = E} contents (Ok t) q stops step old new is stop said =
    subst (λ (x : Result Bool E). Told contents x step old new) (sym is) (stop, said)
told_and {E = E} contents (Err e) q stops step old new is stop said =
    subst (λ (x : Result Bool E). Told contents x step old new) (sym is) said

pub ends_with : (steps : List Step) (step last : Step) → AllGoOn steps → step ≡ last
    → EndsWith (steps ++ step ∷ []) last
ends_with steps step last all is = record {
  before = steps;
  go_on = all;
  is = ap (λ (s : Step). steps ++ (s ∷ [])) is;
}

-- a front of the last step's text was written
pub ends_broken : {D : Type 0} (contents : D → Option (List ℕ)) (a b c : Watched D) (steps : List Step) (step : Step)
    → AllGoOn steps → Grew contents a b (steps_text steps) → Broke contents b c (step_text step)
    → EndsBroken contents (steps ++ step ∷ []) a c
ends_broken contents a b c steps step all before now = record {
  last = step;
  ends = record { before = steps; go_on = all; is = refl };
  front = now.front;
  rest = now.rest;
  parts = now.parts;
  more = now.more;
  written = Appends-trans (watched_contents contents a) (watched_contents contents b) (watched_contents contents c)
      (steps_text steps) now.front before.appends now.appends;
}
