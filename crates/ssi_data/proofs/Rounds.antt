-- How a server and the table of users go on, one part after the other.
use Rattle.std.proofs.Common.{◌≡◌, ℕ, Bool, true, false, cond, List, [], ◌∷◌, ◌++◌, Option, Some, None, refl, sym, ap, subst, ◌∙◌, append_assoc, Result, Ok, Err, OnOk, OnErr, IfErr}
use Rattle.std.specs.Prelude.{◌||◌, is_some}
use Rattle.std.specs.List.{AllByRecursion}
use Rattle.std.proofs.lemmas.Bool.{eq-eqb, false≢true}
use Rattle.std.proofs.lemmas.Option.{none-some}
use Rattle.sqlite_disk.specs.declared.Disk.{Ghosts}
use Rattle.ssi_store.specs.Meaning.Courses.{Course}
use Rattle.ssi_hub.specs.declared.hub.Hub.{Hub}
use Rattle.ssi_hub.specs.Clauses.Buffers.{Buffers}
use Rattle.ssi_hub.specs.Clauses.Clipping.{clipped}
use Rattle.ssi_hub.specs.Clauses.Calls.{Call, Opened, Closed, is_open, with_call, all_steps}
use Rattle.ssi_hub.specs.Mirror.{Stands, buffers_of}
use Rattle.ssi_durable.specs.declared.server.Server.{Server}
use Rattle.ssi_durable.specs.Clauses.Journals.{is_full}
use Rattle.ssi_durable.specs.Clauses.Serving.{Began}
use Rattle.ssi_durable.specs.Mirror.Servers.{Serves, hub_of, has_failed}
use Rattle.ssi_log.specs.declared.fault.LogFault.{LogFault}
use Rattle.ssi_cli.specs.declared.users.Users.{Users}
use Rattle.ssi_cli.specs.Meaning.Users.{Deed, Called, Aborted, calls_in}
use Rattle.ssi_cli.specs.Clauses.Leaving.{AreAborts, HasForgotten, HasNoted, HasUsed, abort_calls}
use Rattle.ssi_cli.specs.Clauses.Turns.{AreDone, AreDue, IsCalled, aborted, called}
use Rattle.ssi_cli.specs.Mirror.{last_at}
use Rattle.ssi_data.specs.declared.tables.Tables.{Tables}
use Rattle.ssi_data.specs.Clauses.Calls.{Makes, MakesQuietly}
use Rattle.ssi_data.specs.Clauses.Turns.{HasCarriedOut}
use Rattle.ssi_data.specs.Clauses.Leaving.{HasAborted}
use Rattle.ssi_data.specs.Clauses.Rounds.{HasDone, GoesOn}
use Rattle.ssi_data.specs.declared.clients.Clients.{Clients}
use Rattle.ssi_data.specs.Mirror.{GoOn, server_of, users_of}

-- ---- deeds, and the calls of them

called_before : (made : List Call) (deeds : List Deed) → called made [] ++ deeds ≡ called made deeds
called_before [] deeds = refl
called_before (c ∷ made) deeds = ap (λ (l : List Deed). Called c ∷ l) (called_before made deeds)

pub calls_called : (made : List Call) (deeds : List Deed) → calls_in (called made deeds) ≡ made ++ calls_in deeds
calls_called [] deeds = refl
calls_called (c ∷ made) deeds = ap (λ (l : List Call). c ∷ l) (calls_called made deeds)

aborted_before : (aborts : List (List ℕ × List Call)) (deeds : List Deed) → aborted aborts [] ++ deeds ≡ aborted aborts deeds
aborted_before [] deeds = refl
aborted_before (a ∷ rest) deeds = ap (λ (l : List Deed). Aborted a.0 a.1 ∷ l) (aborted_before rest deeds)

calls_aborted : (aborts : List (List ℕ × List Call)) (deeds : List Deed)
    → calls_in (aborted aborts deeds) ≡ abort_calls aborts ++ calls_in deeds
calls_aborted [] deeds = refl
calls_aborted (a ∷ rest) deeds =
    ap (λ (l : List Call). a.1 ++ l) (calls_aborted rest deeds) ∙ sym (append_assoc a.1 (abort_calls rest) (calls_in deeds))

-- ---- the laws that are cited

-- calls that the table has noted are deeds
abbrev pub CallsAreDeeds : Type 0
CallsAreDeeds = (dumps : Bool) (was now : Option Users) (old new : Hub) (made : List Call) (deeds : List Deed) → AreDone dumps was old deeds
    → is_some now ≡ is_some was → HasNoted was now made → Stands dumps new (made ++ calls_in deeds) → AreDone dumps now new (called made deeds)

abbrev pub QuietAreNoted : Type 0
QuietAreNoted = (users : Option Users) (made : List Call) → all_steps made ≡ [] → HasNoted users users made

abbrev pub AbortsAreDeeds : Type 0
AbortsAreDeeds = (dumps : Bool) (was now : Option Users) (old new : Hub) (t : ℕ) (aborts : List (List ℕ × List Call)) (deeds : List Deed)
    → AreDone dumps was old deeds → is_some now ≡ is_some was → HasForgotten was now
    → AreAborts (HasUsed was t) aborts (calls_in deeds) → is_open t (calls_in deeds) ≡ false
    → Stands dumps new (abort_calls aborts ++ calls_in deeds) → AreDone dumps now new (aborted aborts deeds)

-- ---- a connection that isn't open

pub closed_at : (dumps : Bool) (hub : Hub) (t : ℕ) → is_some (buffers_of hub t) ≡ false → (calls : List Call) → Stands dumps hub calls
    → is_open t calls ≡ false
closed_at dumps hub t gone calls s =
    let (left, unsent, served, has) = s.served t in by_open left unsent (is_open t calls) has
  where
    by_open : (left unsent : List ℕ) (o : Bool)
        → buffers_of hub t ≡ cond o (Some (record { waiting = clipped left; unsent = unsent })) None → o ≡ false
    by_open left unsent false has = refl
    by_open left unsent true has = absurd (false≢true (sym gone ∙ ap (λ (b : Option Buffers). is_some b) has))

-- ---- the first deeds

due_called : (made : List Call) → AreDue (called made [])
due_called [] = tt
due_called (c ∷ made) = due_called made

all_called : (made : List Call) → AllByRecursion IsCalled (called made [])
all_called [] = tt
all_called (c ∷ made) = (tt, all_called made)

calls_first : (calls : List Call) → calls_in (called calls []) ≡ calls
calls_first [] = refl
calls_first (c ∷ calls) = ap (λ (l : List Call). c ∷ l) (calls_first calls)

module _ {T D : Type 0} {disk : Ghosts D} (dumps : Bool) (is_at : T → Course → Type 0) where
  pub first_done : (n : ℕ) (began : Began) (users : Option Users) (server : Server T D disk) (calls : List Call)
      → ((s : List ℕ) → last_at users s ≡ None) → Serves dumps is_at n began server calls
      → HasDone dumps is_at n began users server (called calls [])
  first_done n began users server calls nobody s = record {
    serves = subst (λ (l : List Call). Serves dumps is_at n began server l) (sym (calls_first calls)) s;
    done = record {
      stands = subst (λ (l : List Call). Stands dumps (hub_of server) l) (sym (calls_first calls)) s.stands;
      due = due_called calls;
      none = λ e. all_called calls;
      known = λ s t e. absurd (none-some t (sym (nobody s) ∙ e));
    };
  }

  -- ---- one part after the other

  pub stays : (users : Option Users) (server : Server T D disk) → GoesOn dumps is_at users server users server
  stays users server = record { serves = λ n began calls s. ([], s); deeds = λ n began deeds d. ([], d) }

  pub both : (a b c : Option Users) (old mid new : Server T D disk) → GoesOn dumps is_at a old b mid → GoesOn dumps is_at b mid c new
      → GoesOn dumps is_at a old c new
  both a b c old mid new first then = record {
    serves = λ n began calls s.
        let (made, on) = first.serves n began calls s in
        let (later, goes) = then.serves n began (made ++ calls) on in
        (later ++ made, subst (λ (l : List Call). Serves dumps is_at n began new l) (sym (append_assoc later made calls)) goes);
    deeds = λ n began deeds d.
        let (more, on) = first.deeds n began deeds d in
        let (later, goes) = then.deeds n began (more ++ deeds) on in
        (later ++ more, subst (λ (l : List Deed). HasDone dumps is_at n began c new l) (sym (append_assoc later more deeds)) goes);
  }

  -- what was changed since isn't seen
  pub unseen : (was is now : Option Users) (old mid new : Server T D disk) → now ≡ is → new ≡ mid
      → GoesOn dumps is_at was old is mid → GoesOn dumps is_at was old now new
  unseen was is now old mid new same kept first =
      subst (λ (u : Option Users). GoesOn dumps is_at was old u new) (sym same)
      (subst (λ (s : Server T D disk). GoesOn dumps is_at was old is s) (sym kept) first)

  -- calls were made, and the table has noted them
  by_calls : CallsAreDeeds → (was now : Option Users) (old new : Server T D disk) → is_some now ≡ is_some was
      → ((n : ℕ) (began : Began) (calls : List Call) → Serves dumps is_at n began old calls
      → (made : List Call) × Serves dumps is_at n began new (made ++ calls) × HasNoted was now made)
      → GoesOn dumps is_at was old now new
  by_calls law was now old new table makes = record {
    serves = λ n began calls s. let (made, on, noted) = makes n began calls s in (made, on);
    deeds = λ n began deeds d.
        let (made, on, noted) = makes n began (calls_in deeds) d.serves in (
          called made [],
          subst (λ (l : List Deed). HasDone dumps is_at n began now new l) (sym (called_before made deeds))
              (record {
                serves = subst (λ (l : List Call). Serves dumps is_at n began new l) (sym (calls_called made deeds)) on;
                done = law dumps was now (hub_of old) (hub_of new) made deeds d.done table noted on.stands;
              }),
        );
  }

  -- nothing was done that calls show
  pub same_calls : CallsAreDeeds → QuietAreNoted → (users : Option Users) (old new : Server T D disk)
      → ((n : ℕ) (began : Began) (calls : List Call) → Serves dumps is_at n began old calls → Serves dumps is_at n began new calls)
      → GoesOn dumps is_at users old users new
  same_calls law quiet users old new same =
      by_calls law users users old new refl (λ n began calls s. ([], same n began calls s, quiet users [] refl))

  pub quietly : CallsAreDeeds → QuietAreNoted → (users : Option Users) (old new : Server T D disk)
      (P : List Call → List Call → Type 0) → MakesQuietly dumps is_at old new P → GoesOn dumps is_at users old users new
  quietly law quiet users old new P makes =
      by_calls law users users old new refl
      (λ n began calls s.
      let (made, on, still, is) = makes n began calls s in (made, on, quiet users made still))

  -- the same, whatever is returned
  pub quietly_either : {A E : Type 0} → CallsAreDeeds → QuietAreNoted → (r : Result A E) (users : Option Users)
      (old new : Server T D disk) (P Q : List Call → List Call → Type 0) (Why : E → Type 0)
      → OnOk r (MakesQuietly dumps is_at old new P) → IfErr r (λ e. Why e × MakesQuietly dumps is_at old new Q)
      → GoesOn dumps is_at users old users new
  quietly_either law quiet (Ok x) users old new P Q Why ok err = quietly law quiet users old new P ok
  quietly_either law quiet (Err e) users old new P Q Why ok err = quietly law quiet users old new Q err.1

  pub carries : CallsAreDeeds → (t : ℕ) (was now : Tables) (old new : Server T D disk)
      (R : List Call → List Call → Type 0) → is_some now.users ≡ is_some was.users
      → Makes dumps is_at old new (λ calls made. HasCarriedOut dumps t was now calls made × R calls made)
      → GoesOn dumps is_at was.users old now.users new
  carries law t was now old new R table makes =
      by_calls law was.users now.users old new table
      (λ n began calls s.
      let (made, on, (carried, more)) = makes n began calls s in (made, on, carried.noted))

  pub aborts : AbortsAreDeeds → (t : ℕ) (was now : Option Users) (old new : Server T D disk) → is_some now ≡ is_some was
      → HasForgotten was now → is_some (buffers_of (hub_of old) t) ≡ false → HasAborted dumps is_at (HasUsed was t) old new
      → GoesOn dumps is_at was old now new
  aborts law t was now old new table forgot gone has = record {
    serves = λ n began calls s. let (list, on, are) = has n began calls s in (abort_calls list, on);
    deeds = λ n began deeds d.
        let (list, on, are) = has n began (calls_in deeds) d.serves in (
          aborted list [],
          subst (λ (l : List Deed). HasDone dumps is_at n began now new l) (sym (aborted_before list deeds))
              (record {
                serves = subst (λ (l : List Call). Serves dumps is_at n began new l) (sym (calls_aborted list deeds)) on;
                done = law dumps was now (hub_of old) (hub_of new) t list deeds d.done table forgot are
                    (closed_at dumps (hub_of old) t gone (calls_in deeds) d.serves.stands) on.stands;
              }),
        );
  }

  -- more is known of the calls
  pub by_noted : CallsAreDeeds → (was now : Option Users) (old new : Server T D disk) (P : List Call → List Call → Type 0)
      → is_some now ≡ is_some was → Makes dumps is_at old new (λ calls made. P calls made × HasNoted was now made)
      → GoesOn dumps is_at was old now new
  by_noted law was now old new P table makes =
      by_calls law was now old new table
      (λ n began calls s. let (made, on, (is, noted)) = makes n began calls s in (made, on, noted))

  -- a connection was opened, or memory ran out
  pub opens : CallsAreDeeds → QuietAreNoted → (t : ℕ) (users : Option Users) (old new : Server T D disk)
      → ((n : ℕ) (began : Began) (calls : List Call) → Serves dumps is_at n began old calls
      → Serves dumps is_at n began new (Opened t ∷ calls))
      → GoesOn dumps is_at users old users new
  opens law quiet t users old new opened =
      by_calls law users users old new refl
      (λ n began calls s. (Opened t ∷ [], opened n began calls s, quiet users (Opened t ∷ []) refl))

  -- it was closed at once
  pub opens_and_closes : CallsAreDeeds → QuietAreNoted → (t : ℕ) (users : Option Users) (old mid new : Server T D disk)
      → ((n : ℕ) (began : Began) (calls : List Call) → Serves dumps is_at n began old calls
      → Serves dumps is_at n began mid (Opened t ∷ calls))
      → ((n : ℕ) (began : Began) (calls : List Call) → Serves dumps is_at n began mid calls
      → Serves dumps is_at n began new (with_call (Closed t) calls))
      → GoesOn dumps is_at users old users new
  opens_and_closes law quiet t users old mid new opened closed =
      by_calls law users users old new refl
      (λ n began calls s. (
        Closed t ∷ Opened t ∷ [],
        subst (λ (l : List Call). Serves dumps is_at n began new l)
            (ap (λ o. cond o (Closed t ∷ Opened t ∷ calls) (Opened t ∷ calls)) (open_now calls))
            (closed n began (Opened t ∷ calls) (opened n began calls s)),
        quiet users (Closed t ∷ Opened t ∷ []) refl,
      ))
    where
      open_now : (calls : List Call) → is_open t (Opened t ∷ calls) ≡ true
      open_now calls = ap (λ b. b || is_open t calls) (eq-eqb t t refl)

-- ---- what a fault says

-- a fault that isn't that of a full file is one of the log
pub fails : {A B : Type 0} (P Q : Type 0) (done : Result A LogFault) (r : Result B LogFault) → (P → Q)
    → IfErr r (λ fault. (done ≡ Err fault) × (is_full fault ≡ false)) → IfErr done (λ fault. is_full fault ≡ false → P)
    → OnErr r Q
fails P Q done (Ok x) more passed failed = tt
fails {A} P Q done (Err e) more passed failed =
    more ((subst (λ (d : Result A LogFault). IfErr d (λ fault. is_full fault ≡ false → P)) passed.0 failed) passed.1)

pub failed_still : {T D : Type 0} {disk : Ghosts D} {old new : Server T D disk}
    → new ≡ old → has_failed old ≡ true → has_failed new ≡ true
failed_still {T} {D} {disk} same failed =
    ap (λ (s : Server T D disk). has_failed s) same ∙ failed

-- ---- the same of clients

module _ {T D : Type 0} {disk : Ghosts D} (dumps : Bool) (is_at : T → Course → Type 0) where
  pub then_on : (a b c : Clients T D disk) → GoOn dumps is_at a b → GoOn dumps is_at b c → GoOn dumps is_at a c
  then_on a b c first then =
      both dumps is_at (users_of a) (users_of b) (users_of c) (server_of a) (server_of b) (server_of c) first then

  pub then_unseen : (a b c : Clients T D disk) → users_of c ≡ users_of b → server_of c ≡ server_of b → GoOn dumps is_at a b
      → GoOn dumps is_at a c
  then_unseen a b c same kept first =
      unseen dumps is_at (users_of a) (users_of b) (users_of c) (server_of a) (server_of b) (server_of c) same kept first
