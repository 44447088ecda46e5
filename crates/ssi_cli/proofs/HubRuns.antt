-- Calls of a hub, one after the other.
use Rattle.std.proofs.Common.{◌≡◌, ℕ, Bool, true, false, cond, List, [], ◌∷◌, ◌++◌, Option, Result, Ok, Err, OnOk, OnErr, MatchResult, refl, sym, ap, subst, ◌∙◌, append_assoc, append-nil}
use Rattle.ssi_store.specs.Meaning.Courses.{Course}
use Rattle.ssi_line.specs.Meaning.Steps.{Step}
use Rattle.ssi_line.specs.Clauses.Ends.{WentOn}
use Rattle.ssi_hub.specs.declared.hub.Hub.{Hub}
use Rattle.ssi_hub.specs.Clauses.Calls.{Call, Opened, Received, token_of, is_open, with_call, all_steps}
use Rattle.ssi_hub.specs.Clauses.Buffers.{Buffers}
use Rattle.ssi_hub.specs.Mirror.{is_stopped, Stands, IsSame, Changed}
use Rattle.ssi_cli.specs.Machinery.HubRuns.{WasCalled, HasRun}
use Rattle.ssi_cli.proofs.ScriptRuns.{went_on_both}

-- a call that carries nothing out adds no step, also if no open connection has its token
quiet_call : (c : Call) → ((calls : List Call) → all_steps (c ∷ calls) ≡ all_steps calls) → (calls : List Call)
    → all_steps (with_call c calls) ≡ all_steps calls
quiet_call c quiet calls = by_open (is_open (token_of c) calls)
  where
    by_open : (o : Bool) → all_steps (cond o (c ∷ calls) calls) ≡ all_steps calls
    by_open true = quiet calls
    by_open false = refl

pub called_with : (old new : Hub) (c : Call) → ((calls : List Call) → all_steps (c ∷ calls) ≡ all_steps calls)
    → is_stopped new ≡ is_stopped old → ((calls : List Call) → Stands true old calls → Stands true new (with_call c calls))
    → WasCalled old new
called_with old new c quiet stopped stands = record {
  stopped = stopped;
  stands = λ calls s. (with_call c calls, stands calls s, quiet_call c quiet calls);
}

pub called_opened : (old new : Hub) (t : ℕ) → is_stopped new ≡ is_stopped old
    → ((calls : List Call) → Stands true old calls → Stands true new (Opened t ∷ calls)) → WasCalled old new
called_opened old new t stopped stands = record {
  stopped = stopped;
  stands = λ calls s. (Opened t ∷ calls, stands calls s, refl);
}

pub called_received : {T E : Type 0} (old new : Hub) (t : ℕ) (bytes : List ℕ) (now : Option Buffers) (result : Result T E)
    → OnOk result (Changed old new t now) → OnErr result (IsSame old new) → ((calls : List Call) → Stands true old calls
    → MatchResult result (λ _. Stands true new (with_call (Received t bytes) calls)) (λ _. Stands true new calls)) → WasCalled old new
called_received old new t bytes now (Ok x) changed same stands =
    called_with old new (Received t bytes) (λ calls. refl) changed.stopped stands
called_received old new t bytes now (Err e) changed same stands = record {
  stopped = same.stopped;
  stands = λ calls s. (calls, stands calls s, refl);
}

pub not_opened : (old new : Hub) → is_stopped new ≡ is_stopped old
    → ((calls : List Call) → Stands true old calls → Stands true new calls) → WasCalled old new
not_opened old new stopped stands = record { stopped = stopped; stands = λ calls s. (calls, stands calls s, refl) }

pub not_called : (hub : Hub) → WasCalled hub hub
not_called hub = record { stopped = refl; stands = λ calls s. (calls, s, refl) }

pub called_both : (old mid new : Hub) → WasCalled old mid → WasCalled mid new → WasCalled old new
called_both old mid new first then = record {
  stopped = then.stopped ∙ first.stopped;
  stands = λ calls s.
      let (some, stands, same) = first.stands calls s in
      let (more, now, still) = then.stands some stands in
      (more, now, still ∙ same);
}

pub not_run : {T : Type 0} (is_at : T → Course → Type 0) (hub : Hub) (store : T) → HasRun is_at hub store hub store
not_run is_at hub store = λ calls s. (calls, [], s, sym (append-nil (all_steps calls)), λ course at. (tt, at))

pub called_then_run : {T : Type 0} (is_at : T → Course → Type 0) (old mid new : Hub) (store after : T) → WasCalled old mid
    → HasRun is_at mid store new after → HasRun is_at old store new after
called_then_run is_at old mid new store after first then = λ calls s.
    let (some, stands, same) = first.stands calls s in
    let (more, steps, now, grew, went) = then some stands in
    (more, steps, now, grew ∙ ap (λ (l : List Step). l ++ steps) same, went)

pub run_then_called : {T : Type 0} (is_at : T → Course → Type 0) (old mid new : Hub) (store after : T)
    → HasRun is_at old store mid after → WasCalled mid new → HasRun is_at old store new after
run_then_called is_at old mid new store after first then = λ calls s.
    let (some, steps, stands, grew, went) = first calls s in
    let (more, now, same) = then.stands some stands in
    (more, steps, now, same ∙ grew, went)

pub run_both : {T : Type 0} (is_at : T → Course → Type 0) (old mid new : Hub) (store between after : T)
    → HasRun is_at old store mid between → HasRun is_at mid between new after → HasRun is_at old store new after
run_both is_at old mid new store between after first then = λ calls s.
    let (some, steps, stands, grew, went) = first calls s in
    let (more, later, now, grew_more, went_more) = then some stands in (
      more,
      steps ++ later,
      now,
      grew_more ∙ ap (λ (l : List Step). l ++ later) grew ∙ append_assoc (all_steps calls) steps later,
      went_on_both is_at store between after steps later went went_more,
    )

-- the calls of a hub that began with none
pub all_called : {T : Type 0} (is_at : T → Course → Type 0) (old new : Hub) (store after : T) → Stands true old []
    → HasRun is_at old store new after
    → (calls : List Call) × Stands true new calls × WentOn is_at store (all_steps calls) after
all_called is_at old new store after none run =
    let (calls, steps, stands, grew, went) = run [] none in
    (calls, stands, subst (λ (ss : List Step). WentOn is_at store ss after) (sym grew) went)
