-- Aborts of sessions whose last user is gone.
use Rattle.std.proofs.Common.{◌≡◌, ℕ, ◌<◌, Bool, true, false, cond, List, [], ◌∷◌, ◌++◌, Option, Some, None, refl, sym, ap, subst, ◌∙◌, append_assoc, inl, inr, Result, Ok, Err}
use Rattle.std.specs.Prelude.{◌==◌, ◌≢◌, not, ◌&&◌, ◌||◌, nat_eq, is_err, MatchResult}
use Rattle.std.specs.List.{AllByRecursion}
use Rattle.std.specs.Cmp.Lexicographic.{pointwise}
use Rattle.std.proofs.lemmas.Bool.{eq-eqb, eqb-true, eqb-false}
use Rattle.std.proofs.lemmas.Option.{none-some}
use Rattle.ssi_store.specs.Meaning.Courses.{Course, Abort}
use Rattle.ssi_line.specs.Meaning.Spelling.{command_text}
use Rattle.ssi_line.specs.Meaning.Steps.{Step}
use Rattle.ssi_line.specs.Clauses.Ends.{WentOn}
use Rattle.ssi_hub.specs.declared.hub.Hub.{Hub}
use Rattle.ssi_hub.specs.Clauses.Calls.{Call, Opened, Received, Ran, Closed, token_of, is_open, with_call, with_run, all_steps}
use Rattle.ssi_hub.specs.Mirror.{Stands, next_token, buffers_of}
use Rattle.ssi_cli.specs.Machinery.HubRuns.{HasRun}
use Rattle.ssi_cli.specs.Clauses.Leaving.{IsAbort, HasAborted, abort_calls}
use Rattle.ssi_cli.proofs.Exchanges.{steps_both}
use Rattle.ssi_cli.proofs.ScriptRuns.{went_on_both}

own : (t : ℕ) → (t == t) ≡ true
own t = eq-eqb t t refl

-- ---- one abort

-- a session of which nothing is carried out
pub no_abort : (hub : Hub) (session : List ℕ) (calls : List Call) → Stands true hub calls → IsAbort session [] calls
no_abort hub session calls s = record { token = next_token hub; new = s.given; own = tt; sent = inl refl }

open_now : (t : ℕ) (calls : List Call) → is_open t (Opened t ∷ calls) ≡ true
open_now t calls = ap (λ b. b || is_open t calls) (own t)

-- it was opened, and closed before anything was carried out
pub only_opened : (hub opened new : Hub) (session : List ℕ) (t : ℕ) → t ≡ next_token hub
    → ((calls : List Call) → Stands true hub calls → Stands true opened (Opened t ∷ calls))
    → ((calls : List Call) → Stands true opened calls → Stands true new (with_call (Closed t) calls))
    → (calls : List Call) → Stands true hub calls
    → (made : List Call) × Stands true new (made ++ calls) × (all_steps made ≡ []) × IsAbort session made calls
only_opened hub opened new session t is opens closes calls s = (
  Closed t ∷ Opened t ∷ [],
  subst (Stands true new) (ap (λ o. cond o (Closed t ∷ Opened t ∷ calls) (Opened t ∷ calls)) (open_now t calls))
      (closes (Opened t ∷ calls) (opens calls s)),
  refl,
  record {
    token = t;
    new = subst (λ n. AllByRecursion (λ c. token_of c < n) calls) (sym is) s.given;
    own = (refl, (refl, tt));
    sent = inl refl;
  },
)

-- lines of an open connection were carried out, and it was closed
run_closed : (lost : Bool) (t : ℕ) (lines : List (List ℕ)) (steps : List Step) (calls : List Call)
    → is_open t calls ≡ true
    → with_call (Closed t) (with_run lost t lines steps calls) ≡ Closed t ∷ Ran t lines steps ∷ calls
run_closed lost t lines steps calls opened = by_loss lost
  where
    ran : with_call (Ran t lines steps) calls ≡ Ran t lines steps ∷ calls
    ran = ap (λ o. cond o (Ran t lines steps ∷ calls) calls) opened

    once : with_call (Closed t) (with_call (Ran t lines steps) calls) ≡ Closed t ∷ Ran t lines steps ∷ calls
    once =
        ap (with_call (Closed t)) ran
        ∙ ap (λ o. cond o (Closed t ∷ Ran t lines steps ∷ calls) (Ran t lines steps ∷ calls)) opened

    gone : is_open t (Closed t ∷ Ran t lines steps ∷ calls) ≡ false
    gone = ap (λ b. not b && is_open t calls) (own t)

    by_loss : (o : Bool) → with_call (Closed t) (with_run o t lines steps calls) ≡ Closed t ∷ Ran t lines steps ∷ calls
    by_loss false = once
    by_loss true =
        ap (with_call (Closed t)) once
        ∙ ap (λ o. cond o (Closed t ∷ Closed t ∷ Ran t lines steps ∷ calls) (Closed t ∷ Ran t lines steps ∷ calls)) gone

-- its line was carried out, or nothing was
pub carried_out : {T : Type 0} (is_at : T → Course → Type 0) (hub opened sent run new : Hub) (store after : T)
    (session line : List ℕ) (t : ℕ) → line ≡ command_text (Abort session) ++ (10 ∷ [])
    → t ≡ next_token hub → ((calls : List Call) → Stands true hub calls → Stands true opened (Opened t ∷ calls))
    → ((calls : List Call) → Stands true opened calls → Stands true sent (with_call (Received t line) calls))
    → ((calls : List Call) → Stands true sent calls → (lost : Bool) × (lines : List (List ℕ)) × (steps : List Step)
    × Stands true run (with_run lost t lines steps calls) × WentOn is_at store steps after
    × (all_steps (with_run lost t lines steps calls) ≡ all_steps calls ++ steps))
    → ((calls : List Call) → Stands true run calls → Stands true new (with_call (Closed t) calls))
    → (calls : List Call) → Stands true hub calls
    → (made : List Call) × Stands true new (made ++ calls) × WentOn is_at store (all_steps made) after × IsAbort session made calls
carried_out is_at hub opened sent run new store after session line t line_is is opens sends runs closes calls s =
    let (lost, lines, steps, ran, went, grew) = runs (Received t line ∷ Opened t ∷ calls) received in
    let now : Stands true new (Closed t ∷ Ran t lines steps ∷ Received t line ∷ Opened t ∷ calls) =
    subst (Stands true new) (run_closed lost t lines steps (Received t line ∷ Opened t ∷ calls) (open_now t calls))
    (closes (with_run lost t lines steps (Received t line ∷ Opened t ∷ calls)) ran) in (
      Closed t ∷ Ran t lines steps ∷ Received t line ∷ Opened t ∷ [],
      now,
      went,
      record {
        token = t;
        new = new_here;
        own = (refl, (refl, (refl, (refl, tt))));
        sent = inr (ap (λ (o : Bool). cond o line []) (own t) ∙ line_is);
      },
    )
  where
    new_here : AllByRecursion (λ c. token_of c < t) calls
    new_here = subst (λ n. AllByRecursion (λ c. token_of c < n) calls) (sym is) s.given

    received : Stands true sent (Received t line ∷ Opened t ∷ calls)
    received =
        subst (Stands true sent) (ap (λ o. cond o (Received t line ∷ Opened t ∷ calls) (Opened t ∷ calls)) (open_now t calls))
        (sends (Opened t ∷ calls) (opens calls s))

pub when_ok : {T E P : Type 0} (Q : Type 0) (r : Result T E) → is_err r ≡ false → MatchResult r (λ _. P) (λ _. Q) → P
when_ok Q (Ok x) is m = m
when_ok Q (Err e) is m = absurd (cc is)

pub when_err : {T E Q : Type 0} (P : Type 0) (r : Result T E) → is_err r ≡ true → MatchResult r (λ _. P) (λ _. Q) → Q
when_err P (Ok x) is m = absurd (cc is)
when_err P (Err e) is m = m

-- ---- one abort after the other

pub none_aborted : {T : Type 0} (is_at : T → Course → Type 0) (May : List ℕ → Type 0) (hub : Hub) (store : T)
    → HasAborted is_at May hub store hub store
none_aborted is_at May hub store = λ calls s. ([], s, λ course at. (tt, at), tt)

pub one_more : {T : Type 0} (is_at : T → Course → Type 0) (May : List ℕ → Type 0) (old mid new : Hub)
    (store between after : T) (session : List ℕ) → May session → HasAborted is_at May old store mid between
    → ((calls : List Call) → Stands true mid calls → (made : List Call) × Stands true new (made ++ calls)
    × WentOn is_at between (all_steps made) after × IsAbort session made calls)
    → HasAborted is_at May old store new after
one_more is_at May old mid new store between after session may first then = λ calls s.
    let (rest, stands, went, are) = first calls s in
    let (made, now, gone, is) = then (abort_calls rest ++ calls) stands in (
      (session, made) ∷ rest,
      subst (Stands true new) (sym (append_assoc made (abort_calls rest) calls)) now,
      subst (λ (ss : List Step). WentOn is_at store ss after) (sym (steps_both made (abort_calls rest)))
          (went_on_both is_at store between after (all_steps (abort_calls rest)) (all_steps made) went gone),
      (may, is, are),
    )

pub aborted_runs : {T : Type 0} (is_at : T → Course → Type 0) (May : List ℕ → Type 0) (old new : Hub) (store after : T)
    → HasAborted is_at May old store new after → HasRun is_at old store new after
aborted_runs is_at May old new store after has = λ calls s.
    let (rest, stands, went, are) = has calls s in
    (abort_calls rest ++ calls, all_steps (abort_calls rest), stands, steps_both (abort_calls rest) calls, went)

-- a session that is forgotten has no user, and the others have theirs
pub still_last : (was now first : List ℕ → Option ℕ) (t : ℕ) (session : List ℕ)
    → ((s : List ℕ) → was s ≡ Some t → first s ≡ Some t)
    → ((s : List ℕ) → now s ≡ cond (pointwise nat_eq session s) None (was s))
    → (s : List ℕ) → now s ≡ Some t → first s ≡ Some t
still_last was now first t session kept forgot s is = by_name (pointwise nat_eq session s) (sym (forgot s) ∙ is)
  where
    by_name : (b : Bool) → cond b None (was s) ≡ Some t → first s ≡ Some t
    by_name true e = absurd (none-some t e)
    by_name false e = kept s e

-- a connection that isn't open stays so while another one comes and goes
pub still_none : (old new : Hub) (t : ℕ) → ((u : ℕ) → u ≢ t → buffers_of new u ≡ buffers_of old u) → buffers_of new t ≡ None
    → (u : ℕ) → buffers_of old u ≡ None → buffers_of new u ≡ None
still_none old new t others own u none = by_token (u == t) refl
  where
    by_token : (same : Bool) → (u == t) ≡ same → buffers_of new u ≡ None
    by_token true is = ap (λ v. buffers_of new v) (eqb-true u t is) ∙ own
    by_token false is = others u (eqb-false u t is) ∙ none
