-- What is done in turns.
use Rattle.std.proofs.Common.{◌≡◌, ◌≢◌, ℕ, ◌<◌, ◌≤◌, Bool, true, false, cond, List, [], ◌∷◌, ◌++◌, length, Option, Some, None, refl, sym, ap, subst, ◌∙◌, append_assoc, append-nil, Result, Ok, Err, OnOk, IfErr, arith, inl, inr}
use Rattle.std.specs.Prelude.{not, ◌&&◌, ◌||◌, is_some}
use Rattle.std.specs.List.{AllByRecursion}
use Rattle.std.proofs.lemmas.Bool.{ne_eqb, both_ways, false≢true}
use Rattle.std.proofs.lemmas.Option.{same_Some, none-some}
use Rattle.std.proofs.lemmas.List.Elements.{All-head, All-tail}
use Rattle.ssi_store.specs.Meaning.Courses.{Course}
use Rattle.ssi_line.specs.Meaning.Steps.{Step, Stopped, AllGoOn, is_stop}
use Rattle.ssi_line.specs.Clauses.Ends.{WentOn}
use Rattle.ssi_hub.specs.declared.hub.Hub.{Hub}
use Rattle.ssi_hub.specs.Clauses.Buffers.{Buffers}
use Rattle.ssi_hub.specs.Clauses.Clipping.{clipped, has_line}
use Rattle.ssi_hub.specs.Clauses.Calls.{Call, Opened, Received, Ran, Wrote, Closed, token_of, is_open, with_call, all_steps}
use Rattle.ssi_hub.specs.Clauses.Runs.{EndsSo}
use Rattle.ssi_hub.specs.Clauses.Serving.{IsServed}
use Rattle.ssi_hub.specs.Mirror.{Stands, buffers_of, is_stopped}
use Rattle.ssi_cli.specs.declared.closing.Closing.{Closing}
use Rattle.ssi_cli.specs.declared.closing.Closing.TheVariants.{Ended, Broken}
use Rattle.ssi_cli.specs.declared.users.Users.{Users}
use Rattle.ssi_cli.specs.Meaning.Users.{Deed, Called, Aborted, calls_in, is_used, last_by, last_after, last_user}
use Rattle.ssi_cli.specs.Clauses.Leaving.{IsAbort, AreAborts, abort_calls, HasAborted, HasUsed, HasForgotten, HasNoted}
use Rattle.ssi_cli.specs.Clauses.Turns.{Makes, Exchanged, HasUnsent, Carried, IsFinished, IsClosedFor, with_end, called, aborted, AreDue, IsCalled, AreDone, NoneUnsent, HasAllSent, MayRun, Did, Turned}
use Rattle.ssi_cli.specs.Mirror.{last_at}
use Rattle.ssi_cli.proofs.Exchanges.{none_exchanged}
use Rattle.ssi_cli.proofs.Makings.{served_at}
use Rattle.ssi_cli.proofs.ScriptRuns.{went_on_both}
use Rattle.ssi_cli.proofs.Turning.{last_with, noted_end, all_written_by, did_both, did_receive, did_carry, did_send}

-- ---- the end of a connection

goes_to_end : (before : List Step) → AllGoOn (before ++ (Stopped ∷ [])) → ⊥
goes_to_end [] all = absurd (false≢true (sym (All-head (λ s. is_stop s ≡ false) Stopped [] all)))
goes_to_end (s ∷ before) all = goes_to_end before (All-tail (λ s. is_stop s ≡ false) s (before ++ (Stopped ∷ [])) all)

not_stopped : (stopped : Bool) (steps : List Step) → EndsSo stopped steps → AllGoOn steps → stopped ≡ false
not_stopped false steps ends all = refl
not_stopped true steps ends all = absurd (goes_to_end ends.before (subst (λ (l : List Step). AllGoOn l) ends.is all))

none_waits : (stopped has : Bool) (unsent : List ℕ) → stopped ≡ false → unsent ≡ []
    → ((stopped ≡ false) × (has ≡ true) × (length unsent ≤ 65536) → ⊥) → has ≡ false
none_waits stopped false unsent goes none cant = refl
none_waits stopped true unsent goes none cant =
    absurd (cant (goes, refl, omega (arith, ap (λ (l : List ℕ). length l) none)))

has_sent : (o : Option Buffers) → HasAllSent o → (b : Buffers) × (o ≡ Some b) × (b.unsent ≡ [])
has_sent None sent = absurd sent
has_sent (Some b) sent = (b, refl, sent)

pub finishes : (hub new : Hub) (t : ℕ) → HasAllSent (buffers_of hub t) → (MayRun (is_stopped hub) (buffers_of hub t) → ⊥)
    → ((calls : List Call) → Stands true hub calls → Stands true new (with_call (Closed t) calls))
    → (calls : List Call) → Stands true hub calls → IsFinished true t calls × Stands true new (Closed t ∷ calls)
finishes hub new t sent idle closes calls s =
    let (b, has, none) = has_sent (buffers_of hub t) sent in
    let (left, served, so, there) = served_at (buffers_of hub) hub.next (is_stopped hub) calls t b s has in
    let cant = subst (λ (o : Option Buffers). MayRun (is_stopped hub) o → ⊥) has idle in (
      (
        left,
        subst (λ (l : List ℕ). IsServed true t calls left l) none served,
        λ all. ap (λ (l : List ℕ). has_line l) (sym so)
            ∙ none_waits (is_stopped hub) (has_line b.waiting) b.unsent
            (not_stopped (is_stopped hub) (all_steps calls) s.ends all) none cant,
      ),
      subst (Stands true new) (ap (λ o. cond o (Closed t ∷ calls) calls) there) (closes calls s),
    )

pub did_end : {S T A : Type 0} (remaining contents : S → Option (List ℕ)) (is_at : T → Course → Type 0) (t : ℕ)
    (Sure : Type 0) (r : Result A Closing) (users : Option Users) (old new : Hub) (start left : S) (store : T)
    → left ≡ start → (Sure → NoneUnsent (buffers_of old t)) → OnOk r (new ≡ old) → (P : Type 0)
    → IfErr r (λ why. (why ≡ Ended) × P
    × ((calls : List Call) → Stands true old calls → IsFinished true t calls × Stands true new (Closed t ∷ calls)))
    → Did remaining contents is_at t ⊥ Sure r users old start store users new left store
did_end remaining contents is_at t Sure (Ok x) users old new start left store same written ok P err = λ calls s. (
  [],
  [],
  subst (λ (h : Hub). Stands true h calls) (sym ok) s,
  λ course at. (tt, at),
  subst (λ z. Exchanged remaining contents t start z [] []) (sym same) (none_exchanged remaining contents t start),
  refl,
  λ s u e. e,
  λ may. absurd may,
  λ sure. all_written_by old t calls s (written sure),
)
did_end remaining contents is_at t Sure (Err why) users old new start left store same written ok P err = λ calls s.
    let (finished, stands) = err.2 calls s in (
      [],
      [],
      stands,
      λ course at. (tt, at),
      subst (λ z. Exchanged remaining contents t start z [] []) (sym same) (none_exchanged remaining contents t start),
      subst (λ w. IsClosedFor true t [] calls [] w) (sym err.0) (refl, finished),
      λ s u e. e,
      λ may. absurd may,
      λ sure. tt,
    )

-- ---- a turn, up to each of its ends

still_may : (old hub : Hub) (t : ℕ) → (MayRun (is_stopped old) (buffers_of old t) → hub ≡ old)
    → MayRun (is_stopped old) (buffers_of old t) → MayRun (is_stopped hub) (buffers_of hub t)
still_may old hub t same may = subst (λ (h : Hub). MayRun (is_stopped h) (buffers_of h t)) (sym (same may)) may

module _ {S T : Type 0} (remaining contents : S → Option (List ℕ)) (is_at : T → Course → Type 0) (t : ℕ)
    (was now : Option Users) (old hub ran : Hub) (start read : S) (store after : T)
    (received : Makes old hub (λ _ made. Exchanged remaining contents t start read made []))
    (idle : MayRun (is_stopped old) (buffers_of old t) → hub ≡ old) where
  pub did_carried : {A : Type 0} (Sure : Type 0) (r : Result A Closing) → (Sure → OnOk r ⊥)
      → Carried is_at t (MayRun (is_stopped hub) (buffers_of hub t)) r was hub store now ran after
      → Did remaining contents is_at t (MayRun (is_stopped old) (buffers_of old t)) Sure r was old start store now ran read after
  did_carried Sure r sure carried =
      did_both remaining contents is_at t {A = Unit {0}} (MayRun (is_stopped old) (buffers_of old t)) ⊥
      (MayRun (is_stopped hub) (buffers_of hub t)) ⊥ Sure tt r was was now old hub ran start read read store store after
      (λ may. inr (still_may old hub t idle may))
      (did_receive remaining contents is_at t {A = Unit {0}} ⊥ ⊥ (Ok tt) was old hub start read store (λ h. h) (λ h. h) received tt)
      (did_carry remaining contents is_at t (MayRun (is_stopped hub) (buffers_of hub t)) Sure r was now hub ran read store after
      sure carried)

  pub did_sent : {A : Type 0} (Sure : Type 0) (r : Result A Closing) (sent : Hub) (left : S)
      → Carried {A = Unit {0}} is_at t (MayRun (is_stopped hub) (buffers_of hub t)) (Ok tt) was hub store now ran after
      → OnOk r (Makes ran sent (λ _ made. Exchanged remaining contents t read left made []))
      → IfErr r (λ why. (why ≡ Broken) × Makes ran sent (λ calls made. (earlier : List Call)
      × (made ≡ Closed t ∷ earlier) × HasUnsent true t (earlier ++ calls)
      × Exchanged remaining contents t read left earlier []))
      → OnOk r (Sure → NoneUnsent (buffers_of sent t))
      → Did remaining contents is_at t (MayRun (is_stopped old) (buffers_of old t)) Sure r was old start store now sent left after
  did_sent Sure r sent left carried ok err written =
      did_both remaining contents is_at t {A = Unit {0}} (MayRun (is_stopped old) (buffers_of old t))
      (MayRun (is_stopped old) (buffers_of old t)) ⊥ ⊥ Sure tt r was now now old ran sent start read left store after after
      (λ may. inl may) (did_carried {A = Unit {0}} ⊥ (Ok tt) (λ h. h) carried)
      (did_send remaining contents is_at t Sure r now ran sent read left after ok err written)

  pub did_all : {A : Type 0} (Sure : Type 0) (r : Result A Closing) (sent new : Hub) (left end : S)
      → Carried {A = Unit {0}} is_at t (MayRun (is_stopped hub) (buffers_of hub t)) (Ok tt) was hub store now ran after
      → Makes ran sent (λ _ made. Exchanged remaining contents t read left made [])
      → (Sure → NoneUnsent (buffers_of sent t)) → end ≡ left → OnOk r (new ≡ sent) → (P : Type 0)
      → IfErr r (λ why. (why ≡ Ended) × P
      × ((calls : List Call) → Stands true sent calls → IsFinished true t calls × Stands true new (Closed t ∷ calls)))
      → Did remaining contents is_at t (MayRun (is_stopped old) (buffers_of old t)) Sure r was old start store now new end after
  did_all Sure r sent new left end carried ok written same kept P closed =
      did_both remaining contents is_at t {A = Unit {0}} (MayRun (is_stopped old) (buffers_of old t))
      (MayRun (is_stopped old) (buffers_of old t)) ⊥ ⊥ Sure tt r was now now old sent new start left end store after after
      (λ may. inl may) (did_sent {A = Unit {0}} ⊥ (Ok tt) sent left carried ok tt (λ h. absurd h))
      (did_end remaining contents is_at t Sure r now sent new left end after same written kept P closed)

-- ---- the deeds

calls_called : (made : List Call) (deeds : List Deed) → calls_in (called made deeds) ≡ made ++ calls_in deeds
calls_called [] deeds = refl
calls_called (c ∷ made) deeds = ap (λ (l : List Call). c ∷ l) (calls_called made deeds)

calls_aborted : (aborts : List (List ℕ × List Call)) (deeds : List Deed)
    → calls_in (aborted aborts deeds) ≡ abort_calls aborts ++ calls_in deeds
calls_aborted [] deeds = refl
calls_aborted (a ∷ rest) deeds =
    ap (λ (l : List Call). a.1 ++ l) (calls_aborted rest deeds) ∙ sym (append_assoc a.1 (abort_calls rest) (calls_in deeds))

user_called : (s : List ℕ) (made : List Call) (deeds : List Deed)
    → last_user s (called made deeds) ≡ last_after s made (last_user s deeds)
user_called s [] deeds = refl
user_called s (c ∷ made) deeds = ap (last_by s c) (user_called s made deeds)

user_aborted : (s : List ℕ) (aborts : List (List ℕ × List Call)) (deeds : List Deed)
    → last_user s (aborted aborts deeds) ≡ last_user s deeds
user_aborted s [] deeds = refl
user_aborted s (a ∷ rest) deeds = user_aborted s rest deeds

due_called : (made : List Call) (deeds : List Deed) → AreDue deeds → AreDue (called made deeds)
due_called [] deeds due = due
due_called (c ∷ made) deeds due = due_called made deeds due

all_called : (made : List Call) (deeds : List Deed) → AllByRecursion IsCalled deeds
    → AllByRecursion IsCalled (called made deeds)
all_called [] deeds all = all
all_called (c ∷ made) deeds all = (tt, all_called made deeds all)

pub called_done : (keeps : Bool) (was now : Option Users) (old new : Hub) (made : List Call) (deeds : List Deed) → AreDone keeps was old deeds
    → is_some now ≡ is_some was → HasNoted was now made → Stands keeps new (made ++ calls_in deeds)
    → AreDone keeps now new (called made deeds)
called_done keeps was now old new made deeds done same noted stands = record {
  stands = subst (Stands keeps new) (sym (calls_called made deeds)) stands;
  due = due_called made deeds done.due;
  none = λ e. all_called made deeds (done.none (sym same ∙ e));
  known = λ s t e.
      user_called s made deeds
      ∙ last_with s made (last_at was s) (last_user s deeds) t (λ u k. done.known s u k) (noted s t e);
}

-- ---- aborts of sessions of a connection that is gone

all_right : {A : Type 0} (P : A → Type 0) (xs ys : List A) → AllByRecursion P (xs ++ ys) → AllByRecursion P ys
all_right P [] ys all = all
all_right P (x ∷ xs) ys all = all_right P xs ys all.1

user_given : (s : List ℕ) (deeds : List Deed) (t n : ℕ) → AllByRecursion (λ c. token_of c < n) (calls_in deeds)
    → last_user s deeds ≡ Some t → t < n
user_given s [] t n all e = absurd (none-some t e)
user_given s (Called (Opened u) ∷ deeds) t n all e = user_given s deeds t n all.1 e
user_given s (Called (Received u bytes) ∷ deeds) t n all e = user_given s deeds t n all.1 e
user_given s (Called (Ran u lines steps) ∷ deeds) t n all e =
    by_use (user_given s deeds t n all.1) (is_used s steps) e
  where
    by_use : (last_user s deeds ≡ Some t → t < n) → (used : Bool) → cond used (Some u) (last_user s deeds) ≡ Some t → t < n
    by_use before true is = subst (λ (v : ℕ). v < n) (same_Some u t is) all.0
    by_use before false is = before is
user_given s (Called (Wrote u bytes) ∷ deeds) t n all e = user_given s deeds t n all.1 e
user_given s (Called (Closed u) ∷ deeds) t n all e = user_given s deeds t n all.1 e
user_given s (Aborted v calls ∷ deeds) t n all e =
    user_given s deeds t n (all_right (λ c. token_of c < n) calls (calls_in deeds) all) e

-- calls of another connection
others_open : (t u : ℕ) (calls before : List Call) → u ≢ t → AllByRecursion (λ c. token_of c ≡ u) calls
    → is_open t (calls ++ before) ≡ is_open t before
others_open t u [] before apart own = refl
others_open t u (Opened v ∷ calls) before apart own =
    ap (λ o. o || is_open t (calls ++ before)) (ne_eqb v t (λ e. apart (sym own.0 ∙ e)))
    ∙ others_open t u calls before apart own.1
others_open t u (Received v bytes ∷ calls) before apart own = others_open t u calls before apart own.1
others_open t u (Ran v lines steps ∷ calls) before apart own = others_open t u calls before apart own.1
others_open t u (Wrote v bytes ∷ calls) before apart own = others_open t u calls before apart own.1
others_open t u (Closed v ∷ calls) before apart own =
    ap (λ o. not o && is_open t (calls ++ before)) (ne_eqb v t (λ e. apart (sym own.0 ∙ e)))
    ∙ others_open t u calls before apart own.1

still_gone : (May : List ℕ → Type 0) (t : ℕ) (aborts : List (List ℕ × List Call)) (before : List Call)
    → ((s : List ℕ) (n : ℕ) → May s → AllByRecursion (λ c. token_of c < n) before → t < n)
    → AreAborts May aborts before → is_open t before ≡ false → is_open t (abort_calls aborts ++ before) ≡ false
still_gone May t [] before given are gone = gone
still_gone May t (a ∷ rest) before given are gone =
    let one = are.1 in
    let below : t < one.token =
    given a.0 one.token are.0 (all_right (λ c. token_of c < one.token) (abort_calls rest) before one.new) in
    ap (λ (l : List Call). is_open t l) (append_assoc a.1 (abort_calls rest) before)
    ∙ others_open t one.token a.1 (abort_calls rest ++ before) (λ e. absurd (omega (arith, below, e))) one.own
    ∙ still_gone May t rest before given are.2 gone

nobody : (users : Option Users) (s : List ℕ) → is_some users ≡ false → last_at users s ≡ None
nobody None s none = refl
nobody (Some users) s none = absurd (false≢true (sym none))

due_aborted : (keeps : Bool) (users : Option Users) (hub : Hub) (t : ℕ) (aborts : List (List ℕ × List Call)) (deeds : List Deed)
    → AreDone keeps users hub deeds → AreAborts (HasUsed users t) aborts (calls_in deeds) → is_open t (calls_in deeds) ≡ false
    → AreDue (aborted aborts deeds)
due_aborted keeps users hub t [] deeds done are gone = done.due
due_aborted keeps users hub t (a ∷ rest) deeds done are gone =
    let known = done.known a.0 t are.0 in (
      subst (IsAbort a.0 a.1) (sym (calls_aborted rest deeds)) are.1,
      (
        t,
        user_aborted a.0 rest deeds ∙ known,
        ap (λ (l : List Call). is_open t l) (calls_aborted rest deeds)
            ∙ still_gone (HasUsed users t) t rest (calls_in deeds)
            (λ s n may all. user_given s deeds t n all (done.known s t may)) are.2 gone,
      ),
      due_aborted keeps users hub t rest deeds done are.2 gone,
    )

pub aborted_done : (keeps : Bool) (was now : Option Users) (old new : Hub) (t : ℕ) (aborts : List (List ℕ × List Call)) (deeds : List Deed)
    → AreDone keeps was old deeds → is_some now ≡ is_some was → HasForgotten was now
    → Stands keeps new (abort_calls aborts ++ calls_in deeds) → AreAborts (HasUsed was t) aborts (calls_in deeds)
    → is_open t (calls_in deeds) ≡ false → AreDone keeps now new (aborted aborts deeds)
aborted_done keeps was now old new t aborts deeds done same forgot stands are gone = record {
  stands = subst (Stands keeps new) (sym (calls_aborted aborts deeds)) stands;
  due = due_aborted keeps was old t aborts deeds done are gone;
  none = λ e. by_aborts aborts are (sym same ∙ e);
  known = λ s u e. user_aborted s aborts deeds ∙ done.known s u (forgot s u e);
}
  where
    by_aborts : (aborts : List (List ℕ × List Call)) → AreAborts (HasUsed was t) aborts (calls_in deeds)
        → is_some was ≡ false → AllByRecursion IsCalled (aborted aborts deeds)
    by_aborts [] are none = done.none none
    by_aborts (a ∷ rest) are none = absurd (none-some t (sym (nobody was a.0 none) ∙ are.0))

-- ---- a turn

closed_at : (hub : Hub) (t : ℕ) (opened : Bool) → opened ≡ is_some (buffers_of hub t) → opened ≡ false
    → (calls : List Call) → Stands true hub calls → is_open t calls ≡ false
closed_at hub t opened is gone calls s =
    let (left, unsent, served, has) = s.served t in by_open left unsent (is_open t calls) has
  where
    by_open : (left unsent : List ℕ) (o : Bool)
        → buffers_of hub t ≡ cond o (Some (record { waiting = clipped left; unsent = unsent })) None → o ≡ false
    by_open left unsent false has = refl
    by_open left unsent true has = absurd (both_ways opened gone (is ∙ ap (λ (b : Option Buffers). is_some b) has))

module _ {S T A : Type 0} (remaining contents : S → Option (List ℕ)) (is_at : T → Course → Type 0) (t : ℕ)
    (Sure : Type 0) (r : Result A Closing) (was is now : Option Users) (old hub new : Hub) (start left : S) (store mid after : T) where
  pub turned_open : is_some is ≡ is_some was → Did remaining contents is_at t (MayRun (is_stopped old) (buffers_of old t)) Sure r was old start store is hub left mid
      → Turned remaining contents is_at t Sure r was old start store is hub left mid
  turned_open same did = λ deeds done.
      let (made, dropped, stands, went, one, why, noted, begins, written) = did (calls_in deeds) done.stands in (
        made,
        dropped,
        [],
        called_done true was is old hub (with_end r t made) deeds done same (noted_end r t was is made noted) stands,
        subst (λ (ss : List Step). WentOn is_at store ss mid) (sym (append-nil (all_steps made))) went,
        one,
        why,
        begins,
        written,
      )

  pub turned_gone : is_some is ≡ is_some was → is_some now ≡ is_some is → (opened : Bool)
      → opened ≡ is_some (buffers_of hub t) → opened ≡ false
      → Did remaining contents is_at t (MayRun (is_stopped old) (buffers_of old t)) Sure r was old start store is hub left mid
      → HasAborted is_at (HasUsed is t) hub mid new after → HasForgotten is now
      → Turned remaining contents is_at t Sure r was old start store now new left after
  turned_gone same still opened opened_if gone did aborts forgot = λ deeds done.
      let (made, dropped, stands, went, one, why, noted, begins, written) = did (calls_in deeds) done.stands in
      let half = called_done true was is old hub (with_end r t made) deeds done same (noted_end r t was is made noted) stands in
      let (list, on, goes, are) = aborts (calls_in (called (with_end r t made) deeds)) half.stands in (
        made,
        dropped,
        list,
        aborted_done true is now hub new t list (called (with_end r t made) deeds) half still forgot on are
            (closed_at hub t opened opened_if gone (calls_in (called (with_end r t made) deeds)) half.stands),
        went_on_both is_at store mid after (all_steps made) (all_steps (abort_calls list)) went goes,
        one,
        why,
        begins,
        written,
      )
