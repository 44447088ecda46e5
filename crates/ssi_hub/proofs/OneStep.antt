-- What a hub stands for after one line.
use Rattle.std.proofs.Common.{◌≡◌, ◌≢◌, ℕ, List, [], ◌∷◌, ◌++◌, Bool, true, false, Option, Some, None}
use Rattle.std.proofs.Common.{refl, sym, ap, subst, ◌∙◌}
use Rattle.std.specs.Prelude.{IfSome, IfNone, MatchOption, is_some, not, ◌&&◌}
use Rattle.std.proofs.lemmas.Option.{same_Some}
use Rattle.ssi_store.specs.Meaning.Courses.{Course}
use Rattle.ssi_line.specs.Meaning.Steps.{Step, course_after}
use Rattle.ssi_hub.specs.Clauses.Clipping.{clipped}
use Rattle.ssi_hub.specs.Clauses.Buffers.{Buffers}
use Rattle.ssi_hub.specs.Clauses.Runs.{CarriedOut, left_by}
use Rattle.ssi_hub.specs.Clauses.Outcomes.{stops_by, lost_by}
use Rattle.ssi_hub.specs.Clauses.Stepping.{is_ready, may_step, IsLineStep}
use Rattle.ssi_hub.specs.Clauses.Calls.{Call, all_steps, with_run, is_open}
use Rattle.ssi_hub.specs.Clauses.Serving.{StandsFor}
use Rattle.ssi_hub.specs.Machinery.Changes.{SteppedAt}
use Rattle.ssi_hub.specs.Machinery.Outcomes.{Stepped}
use Rattle.ssi_hub.specs.Mirror.{buffers_of, next_token, is_stopped, IsSame, Stands, Serves}
use Rattle.ssi_hub.specs.declared.hub.Hub.{Hub}
use Rattle.ssi_hub.specs.declared.outcome.CarriedLine.{CarriedLine}
use Rattle.ssi_hub.proofs.Carrying.{carried_one}
use Rattle.ssi_hub.proofs.Ran.{opened_by, carried_stands, run_adds, course_goes_on}
use Rattle.ssi_hub.proofs.Standing.{stands_same}

-- no line may be carried out after `stop`
pub idle_after_stop : (stopped : Bool) (had : Option Buffers) → stopped ≡ true → may_step stopped had ≡ false
idle_after_stop stopped None is = refl
idle_after_stop stopped (Some b) is = ap (λ s. not s && is_ready b) is

pub idle_before_stop : (stopped : Bool) (had : Option Buffers) → stopped ≡ false → may_step false had ≡ false
    → may_step stopped had ≡ false
idle_before_stop stopped had is none = ap (λ s. may_step s had) is ∙ none

line_step : {T : Type 0} (keeps : Bool) (is_at : T → Course → Type 0) (had : Option Buffers) (before now : Buffers) (bytes left : List ℕ)
    (store after : T) (carried : CarriedLine) (line : List ℕ) (step : Step) → had ≡ Some before
    → Stepped keeps is_at before bytes store carried line step left now after
    → IsLineStep keeps is_at had store carried line step after
line_step keeps is_at had before now bytes left store after carried line step has so = record {
  made = so.made;
  first = λ x front rest is waits plain.
      so.first front rest (ap (λ (b : Buffers). b.waiting) (same_Some before x (sym has ∙ is)) ∙ waits) plain;
  stops = so.replied.stops;
  counted = so.replied.counted;
  went = so.went;
  logged = so.logged;
}

stepped_stands : {T : Type 0} (keeps : Bool) (is_at : T → Course → Type 0) (b new : ℕ → Option Buffers) (next t : ℕ) (store after : T)
    (carried : CarriedLine) (calls : List Call) → StandsFor keeps b next false calls → SteppedAt keeps is_at b t store carried new after
    → (line : List ℕ) × (step : Step) × IsLineStep keeps is_at (b t) store carried line step after
    × StandsFor keeps new next (stops_by carried.outcome) (with_run (lost_by carried.outcome) t (line ∷ []) (step ∷ []) calls)
    × (all_steps (with_run (lost_by carried.outcome) t (line ∷ []) (step ∷ []) calls) ≡ all_steps calls ++ step ∷ [])
stepped_stands keeps is_at b new next t store after carried calls s at =
    let (bytes, unsent, served, has) = s.served t in
    let (opened, is) = opened_by (is_open t calls) bytes unsent at.before (sym at.has ∙ has) in
    let waits : at.before.waiting ≡ clipped bytes = ap (λ (x : Buffers). x.waiting) is in
    let (line, step, left, so) = at.steps bytes waits in (
      line,
      step,
      line_step keeps is_at (b t) at.before at.now bytes left store after carried line step at.has so,
      carried_stands keeps is_at b new next t (stops_by carried.outcome) (lost_by carried.outcome) at.before at.now bytes unsent
          left (line ∷ []) (step ∷ []) store after calls s opened served is
          (carried_one keeps is_at at.before at.now bytes left store after carried line step waits so) at.changes,
      run_adds (lost_by carried.outcome) t (line ∷ []) (step ∷ []) calls opened,
    )

-- what is known of a step that was made
abbrev pub IsMade : {T : Type 0} → (keeps : Bool) → (T → Course → Type 0) → (old new : Hub) → ℕ → T → T → CarriedLine → Type 0
IsMade keeps is_at old new t store after carried = (is_stopped old ≡ false) × (is_stopped new ≡ stops_by carried.outcome)
    × SteppedAt keeps is_at (buffers_of old) t store carried (buffers_of new) after

module _ {T : Type 0} (keeps : Bool) (is_at : T → Course → Type 0) (old new : Hub) (t : ℕ) (store after : T) where
  -- whether a line was carried out
  pub step_when : (r : Option CarriedLine) → IfNone r (may_step (is_stopped old) (buffers_of old t) ≡ false)
      → IfSome r (IsMade keeps is_at old new t store after) → is_some r ≡ may_step (is_stopped old) (buffers_of old t)
  step_when None none made = sym none
  step_when (Some carried) none (goes, ended, at) =
      sym (ap (λ s. may_step s (buffers_of old t)) goes ∙ ap (λ (o : Option Buffers). may_step false o) at.has ∙ at.ready)

  -- which line was carried out
  pub step_carried : (r : Option CarriedLine) → IfSome r (IsMade keeps is_at old new t store after)
      → IfSome r (λ carried. (b : Buffers) (bytes : List ℕ) → buffers_of old t ≡ Some b → b.waiting ≡ clipped bytes
      → (line : List ℕ) × (step : Step) × (left : List ℕ) × (now : Buffers)
      × IsLineStep keeps is_at (buffers_of old t) store carried line step after
      × CarriedOut keeps is_at b bytes store (stops_by carried.outcome) (lost_by carried.outcome) (line ∷ []) (step ∷ []) left now
      after
      × (buffers_of new t ≡ left_by (lost_by carried.outcome) now))
  step_carried None made = tt
  step_carried (Some carried) (goes, ended, at) = λ b bytes has waits.
      let same : at.before ≡ b = same_Some at.before b (sym at.has ∙ has) in
      let here : at.before.waiting ≡ clipped bytes = ap (λ (x : Buffers). x.waiting) same ∙ waits in
      let (line, step, left, so) = at.steps bytes here in (
        line,
        step,
        left,
        at.now,
        line_step keeps is_at (buffers_of old t) at.before at.now bytes left store after carried line step at.has so,
        subst
            (λ (x : Buffers). CarriedOut keeps is_at x bytes store (stops_by carried.outcome) (lost_by carried.outcome) (line ∷ [])
            (step ∷ []) left at.now after) same
            (carried_one keeps is_at at.before at.now bytes left store after carried line step here so),
        at.changes.own,
      )

  -- whether it was stopped
  pub step_stopped : (r : Option CarriedLine) → IfSome r (IsMade keeps is_at old new t store after)
      → IfSome r (λ carried. is_stopped new ≡ stops_by carried.outcome)
  step_stopped None made = tt
  step_stopped (Some carried) (goes, ended, at) = ended

  -- the other connections are as they were
  pub step_others : (r : Option CarriedLine) → IfNone r (IsSame old new × (after ≡ store))
      → IfSome r (IsMade keeps is_at old new t store after) → (u : ℕ) → u ≢ t → buffers_of new u ≡ buffers_of old u
  step_others None (same, same_store) made u apart = same.buffers u
  step_others (Some carried) none (goes, ended, at) u apart = at.changes.others u apart

  pub step_stands : (r : Option CarriedLine) → IfNone r (IsSame old new × (after ≡ store))
      → IfSome r (IsMade keeps is_at old new t store after) → next_token new ≡ next_token old → (calls : List Call)
      → Stands keeps old calls → MatchOption r (Stands keeps new calls) (λ carried. (line : List ℕ) × (step : Step)
      × IsLineStep keeps is_at (buffers_of old t) store carried line step after
      × Stands keeps new (with_run (lost_by carried.outcome) t (line ∷ []) (step ∷ []) calls)
      × (all_steps (with_run (lost_by carried.outcome) t (line ∷ []) (step ∷ []) calls) ≡ all_steps calls ++ step ∷ []))
  step_stands None (same, same_store) made next_is calls s =
      stands_same keeps (buffers_of old) (buffers_of new) (next_token old) (next_token new) (is_stopped old) (is_stopped new) calls
      same.buffers same.next same.stopped s
  step_stands (Some carried) none (goes, ended, at) next_is calls s =
      let (line, step, one, stands, more) =
      stepped_stands keeps is_at (buffers_of old) (buffers_of new) (next_token old) t store after carried calls
      (subst (λ e. StandsFor keeps (buffers_of old) (next_token old) e calls) goes s) at in
      let later = with_run (lost_by carried.outcome) t (line ∷ []) (step ∷ []) calls in (
        line,
        step,
        one,
        subst (λ n. StandsFor keeps (buffers_of new) n (is_stopped new) later) (sym next_is)
            (subst (λ e. StandsFor keeps (buffers_of new) (next_token old) e later) (sym ended) stands),
        more,
      )

  -- the course of the store goes on by the step
  pub step_serves : (r : Option CarriedLine) → IfNone r (IsSame old new × (after ≡ store)) → (start : Course)
      → (calls : List Call) → Serves keeps is_at start old store calls
      → MatchOption r (Stands keeps new calls) (λ carried. (line : List ℕ) × (step : Step)
      × IsLineStep keeps is_at (buffers_of old t) store carried line step after
      × Stands keeps new (with_run (lost_by carried.outcome) t (line ∷ []) (step ∷ []) calls)
      × (all_steps (with_run (lost_by carried.outcome) t (line ∷ []) (step ∷ []) calls) ≡ all_steps calls ++ step ∷ []))
      → MatchOption r (Serves keeps is_at start new after calls) (λ carried. (line : List ℕ) × (step : Step)
      × IsLineStep keeps is_at (buffers_of old t) store carried line step after
      × Serves keeps is_at start new after (with_run (lost_by carried.outcome) t (line ∷ []) (step ∷ []) calls))
  step_serves None (same, same_store) start calls s stands = record {
    stands = stands;
    follow = s.follow;
    at = subst (λ x. is_at x (course_after start (all_steps calls))) (sym same_store) s.at;
  }
  step_serves (Some carried) none start calls s (line, step, one, stands, more) =
      let both =
      course_goes_on is_at start calls (with_run (lost_by carried.outcome) t (line ∷ []) (step ∷ []) calls) (step ∷ []) store
      after s.follow s.at one.went more in
      (line, step, one, record { stands = stands; follow = both.0; at = both.1 })
