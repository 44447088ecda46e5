-- The calls of a connection that the server makes for a line of its own.
use Rattle.std.proofs.Common.{◌≡◌, ◌<◌, ℕ, Bool, true, false, cond, List, [], ◌∷◌, ◌++◌, length, Option, None, Some, refl, sym, ap, subst, ◌∙◌, append_assoc, ◌⊎◌, inl, inr, arith}
use Rattle.std.specs.Prelude.{◌==◌, not, ◌&&◌, ◌||◌, MatchOption, IfNone, IfSome}
use Rattle.std.specs.List.{AllByRecursion}
use Rattle.std.proofs.lemmas.Bool.Decides.{nat_tests}
use Rattle.sqlite_disk.specs.declared.Disk.{Ghosts}
use Rattle.ssi_store.specs.Meaning.Courses.{Course}
use Rattle.ssi_line.specs.Meaning.Steps.{Step}
use Rattle.ssi_hub.specs.declared.outcome.CarriedLine.{CarriedLine}
use Rattle.ssi_hub.specs.Clauses.Calls.{Call, Opened, Received, Ran, Wrote, Closed, token_of, is_open, sent_by, all_steps, with_call, with_run}
use Rattle.ssi_hub.specs.Clauses.Outcomes.{lost_by}
use Rattle.ssi_hub.specs.Mirror.{next_token}
use Rattle.ssi_durable.specs.declared.server.Server.{Server}
use Rattle.ssi_durable.specs.Clauses.Serving.{Began}
use Rattle.ssi_durable.specs.Mirror.Servers.{Serves, HasStepped, hub_of}
use Rattle.ssi_cli.specs.declared.users.Users.{Users}
use Rattle.ssi_cli.specs.Meaning.Users.{last_after}
use Rattle.ssi_cli.specs.Clauses.Leaving.{HasNoted}
use Rattle.ssi_cli.specs.Clauses.Turns.{IsRunOf}
use Rattle.ssi_cli.specs.Mirror.{last_at}
use Rattle.ssi_data.specs.declared.tables.Tables.{Tables}
use Rattle.ssi_data.specs.Clauses.Calls.{IsOwn, Makes, MakesQuietly}
use Rattle.ssi_data.specs.Clauses.Turns.{HasCarriedOut}
use Rattle.ssi_data.proofs.Makings.{own}
use Rattle.ssi_data.proofs.Turning.{last_both}

closed_now : (t : ℕ) (calls : List Call) → is_open t (Closed t ∷ calls) ≡ false
closed_now t calls = ap (λ b. not b && is_open t calls) (own t)

open_now : (t : ℕ) (calls : List Call) → is_open t (Opened t ∷ calls) ≡ true
open_now t calls = ap (λ b. b || is_open t calls) (own t)

-- a line of an open connection was carried out, and it was closed
run_closed : (lost : Bool) (t : ℕ) (lines : List (List ℕ)) (steps : List Step) (calls : List Call)
    → is_open t calls ≡ true
    → with_call (Closed t) (with_run lost t lines steps calls) ≡ Closed t ∷ Ran t lines steps ∷ calls
run_closed lost t lines steps calls opened = by_loss lost
  where
    ran : with_call (Ran t lines steps) calls ≡ Ran t lines steps ∷ calls
    ran = ap (λ o. cond o (Ran t lines steps ∷ calls) calls) opened

    once : with_call (Closed t) (with_call (Ran t lines steps) calls) ≡ Closed t ∷ Ran t lines steps ∷ calls
    once =
        ap (with_call (Closed t)) ran
        ∙ ap (λ o. cond o (Closed t ∷ Ran t lines steps ∷ calls) (Ran t lines steps ∷ calls)) opened

    by_loss : (o : Bool) → with_call (Closed t) (with_run o t lines steps calls) ≡ Closed t ∷ Ran t lines steps ∷ calls
    by_loss false = once
    by_loss true =
        ap (with_call (Closed t)) once
        ∙ ap (λ o. cond o (Closed t ∷ Closed t ∷ Ran t lines steps ∷ calls) (Closed t ∷ Ran t lines steps ∷ calls))
        (closed_now t (Ran t lines steps ∷ calls))

-- ---- calls by which the connection sends nothing

-- lines of the connection were carried out, or it was closed
abbrev IsSilent : ℕ → Call → Type 0
IsSilent t (Ran u lines steps) = u ≡ t
IsSilent t (Closed u) = u ≡ t
IsSilent t _ = ⊥

runs_are_silent : (t : ℕ) (runs : List Call) → AllByRecursion (IsRunOf t) runs → AllByRecursion (IsSilent t) runs
runs_are_silent t [] are = tt
runs_are_silent t (Ran u lines steps ∷ runs) are = (are.0, runs_are_silent t runs are.1)
runs_are_silent t (Opened u ∷ runs) are = absurd are.0
runs_are_silent t (Received u bytes ∷ runs) are = absurd are.0
runs_are_silent t (Wrote u bytes ∷ runs) are = absurd are.0
runs_are_silent t (Closed u ∷ runs) are = absurd are.0

silent_own : (t : ℕ) (made rest : List Call) → AllByRecursion (IsSilent t) made → AllByRecursion (λ c. token_of c ≡ t) rest
    → AllByRecursion (λ c. token_of c ≡ t) (made ++ rest)
silent_own t [] rest are its = its
silent_own t (Ran u lines steps ∷ made) rest are its = (are.0, silent_own t made rest are.1 its)
silent_own t (Closed u ∷ made) rest are its = (are.0, silent_own t made rest are.1 its)
silent_own t (Opened u ∷ made) rest are its = absurd are.0
silent_own t (Received u bytes ∷ made) rest are its = absurd are.0
silent_own t (Wrote u bytes ∷ made) rest are its = absurd are.0

silent_sent : (t : ℕ) (made rest : List Call) → AllByRecursion (IsSilent t) made → sent_by t (made ++ rest) ≡ sent_by t rest
silent_sent t [] rest are = refl
silent_sent t (Ran u lines steps ∷ made) rest are = silent_sent t made rest are.1
silent_sent t (Closed u ∷ made) rest are = silent_sent t made rest are.1
silent_sent t (Opened u ∷ made) rest are = absurd are.0
silent_sent t (Received u bytes ∷ made) rest are = absurd are.0
silent_sent t (Wrote u bytes ∷ made) rest are = absurd are.0

-- ---- a connection that isn't open

other : (u t : ℕ) → u < t → (u == t) ≡ false
other u t below = grind (arith, nat_tests)

-- a token that is greater than all isn't that of an open connection
not_open : (t : ℕ) (calls : List Call) → AllByRecursion (λ c. token_of c < t) calls → is_open t calls ≡ false
not_open t [] new = refl
not_open t (Opened u ∷ calls) new = ap (λ b. b || is_open t calls) (other u t new.0) ∙ not_open t calls new.1
not_open t (Closed u ∷ calls) new = ap (λ b. not b && is_open t calls) (other u t new.0) ∙ not_open t calls new.1
not_open t (Received u bytes ∷ calls) new = not_open t calls new.1
not_open t (Ran u lines steps ∷ calls) new = not_open t calls new.1
not_open t (Wrote u bytes ∷ calls) new = not_open t calls new.1

-- the calls before don't matter if it wasn't open after them
open_alone : (t : ℕ) (calls before : List Call) → is_open t before ≡ false → is_open t (calls ++ before) ≡ is_open t calls
open_alone t [] before none = none
open_alone t (Opened u ∷ calls) before none = ap (λ b. (u == t) || b) (open_alone t calls before none)
open_alone t (Closed u ∷ calls) before none = ap (λ b. not (u == t) && b) (open_alone t calls before none)
open_alone t (Received u bytes ∷ calls) before none = open_alone t calls before none
open_alone t (Ran u lines steps ∷ calls) before none = open_alone t calls before none
open_alone t (Wrote u bytes ∷ calls) before none = open_alone t calls before none

-- ---- calls that are closed by one more, if they left the connection open

abbrev closing : Bool → ℕ → List Call → List Call
closing b t made = cond b (Closed t ∷ made) made

closing_is_silent : (b : Bool) (t : ℕ) (made : List Call) → AllByRecursion (IsSilent t) made
    → AllByRecursion (IsSilent t) (closing b t made)
closing_is_silent true t made are = (refl, are)
closing_is_silent false t made are = are

closing_all : (b : Bool) (t : ℕ) (made first calls : List Call)
    → cond b (Closed t ∷ (made ++ (first ++ calls))) (made ++ (first ++ calls)) ≡ (closing b t made ++ first) ++ calls
closing_all true t made first calls = ap (λ (l : List Call). Closed t ∷ l) (sym (append_assoc made first calls))
closing_all false t made first calls = sym (append_assoc made first calls)

closing_gone : (b : Bool) (t : ℕ) (made first calls : List Call) → is_open t (made ++ (first ++ calls)) ≡ b
    → is_open t calls ≡ false → is_open t (closing b t made ++ first) ≡ false
closing_gone true t made first calls is none = closed_now t (made ++ first)
closing_gone false t made first calls is none =
    sym (open_alone t (made ++ first) calls none) ∙ ap (is_open t) (append_assoc made first calls) ∙ is

closing_last : (b : Bool) (s : List ℕ) (t : ℕ) (made : List Call) (was : Option ℕ)
    → last_after s (closing b t made) was ≡ last_after s made was
closing_last true s t made was = refl
closing_last false s t made was = refl

module _ {T D : Type 0} {disk : Ghosts D} (dumps : Bool) (is_at : T → Course → Type 0) where
  -- nothing was done
  pub none_opened : (old new : Server T D disk) (bytes : List ℕ)
      → ((n : ℕ) (began : Began) (calls : List Call) → Serves dumps is_at n began old calls → Serves dumps is_at n began new calls)
      → MakesQuietly dumps is_at old new (λ calls made. IsOwn bytes made calls)
  none_opened old new bytes same = λ n began calls s. (
    [],
    same n began calls s,
    refl,
    record { token = next_token (hub_of old); new = s.stands.given; own = tt; sent = inl refl; gone = refl },
  )

  -- it was opened, and closed before anything was carried out
  pub only_opened : (old opened new : Server T D disk) (bytes : List ℕ) (t : ℕ) → t ≡ next_token (hub_of old)
      → ((n : ℕ) (began : Began) (calls : List Call) → Serves dumps is_at n began old calls
      → Serves dumps is_at n began opened (Opened t ∷ calls))
      → ((n : ℕ) (began : Began) (calls : List Call) → Serves dumps is_at n began opened calls
      → Serves dumps is_at n began new (with_call (Closed t) calls))
      → MakesQuietly dumps is_at old new (λ calls made. IsOwn bytes made calls)
  only_opened old opened new bytes t is opens closes = λ n began calls s. (
    Closed t ∷ Opened t ∷ [],
    subst (λ (l : List Call). Serves dumps is_at n began new l)
        (ap (λ o. cond o (Closed t ∷ Opened t ∷ calls) (Opened t ∷ calls)) (open_now t calls))
        (closes n began (Opened t ∷ calls) (opens n began calls s)),
    refl,
    record {
      token = t;
      new = subst (λ m. AllByRecursion (λ c. token_of c < m) calls) (sym is) s.stands.given;
      own = (refl, (refl, tt));
      sent = inl refl;
      gone = closed_now t (Opened t ∷ []);
    },
  )

  module _ (old opened sent stepped new : Server T D disk) (bytes : List ℕ) (t : ℕ) (is : t ≡ next_token (hub_of old))
      (opens : (n : ℕ) (began : Began) (calls : List Call) → Serves dumps is_at n began old calls
      → Serves dumps is_at n began opened (Opened t ∷ calls))
      (sends : (n : ℕ) (began : Began) (calls : List Call) → Serves dumps is_at n began opened calls
      → Serves dumps is_at n began sent (with_call (Received t bytes) calls))
      (closes : (n : ℕ) (began : Began) (calls : List Call) → Serves dumps is_at n began stepped calls
      → Serves dumps is_at n began new (with_call (Closed t) calls)) where
    received : (n : ℕ) (began : Began) (calls : List Call) → Serves dumps is_at n began old calls
        → Serves dumps is_at n began sent (Received t bytes ∷ Opened t ∷ calls)
    received n began calls s =
        subst (λ (l : List Call). Serves dumps is_at n began sent l)
        (ap (λ o. cond o (Received t bytes ∷ Opened t ∷ calls) (Opened t ∷ calls)) (open_now t calls))
        (sends n began (Opened t ∷ calls) (opens n began calls s))

    new_here : (n : ℕ) (began : Began) (calls : List Call) → Serves dumps is_at n began old calls
        → AllByRecursion (λ c. token_of c < t) calls
    new_here n began calls s = subst (λ m. AllByRecursion (λ c. token_of c < m) calls) (sym is) s.stands.given

    -- nothing was carried out
    pub sent_only : ((n : ℕ) (began : Began) (calls : List Call) → Serves dumps is_at n began sent calls
        → Serves dumps is_at n began stepped calls)
        → MakesQuietly dumps is_at old new (λ calls made. IsOwn bytes made calls)
    sent_only same = λ n began calls s. (
      Closed t ∷ Received t bytes ∷ Opened t ∷ [],
      subst (λ (l : List Call). Serves dumps is_at n began new l)
          (ap (λ o. cond o (Closed t ∷ Received t bytes ∷ Opened t ∷ calls) (Received t bytes ∷ Opened t ∷ calls)) (open_now t calls))
          (closes n began (Received t bytes ∷ Opened t ∷ calls)
          (same n began (Received t bytes ∷ Opened t ∷ calls) (received n began calls s))),
      refl,
      record {
        token = t;
        new = new_here n began calls s;
        own = (refl, (refl, (refl, tt)));
        sent = inr (ap (λ (o : Bool). cond o bytes []) (own t));
        gone = closed_now t (Received t bytes ∷ Opened t ∷ []);
      },
    )

    -- its line was carried out
    pub one_ran : (carried : CarriedLine)
        → ((n : ℕ) (began : Began) (calls : List Call) → Serves dumps is_at n began sent calls
        → HasStepped dumps is_at n began t calls sent stepped carried)
        → Makes dumps is_at old new (λ calls made. IsOwn bytes made calls × (0 < length (all_steps made)))
    one_ran carried steps = λ n began calls s.
        let before = Received t bytes ∷ Opened t ∷ calls in
        let (text, step, made, serves) = steps n began before (received n began calls s) in (
          Closed t ∷ Ran t (text ∷ []) (step ∷ []) ∷ Received t bytes ∷ Opened t ∷ [],
          subst (λ (l : List Call). Serves dumps is_at n began new l)
              (run_closed (lost_by carried.outcome) t (text ∷ []) (step ∷ []) before (open_now t calls))
              (closes n began (with_run (lost_by carried.outcome) t (text ∷ []) (step ∷ []) before) serves),
          (
            record {
              token = t;
              new = new_here n began calls s;
              own = (refl, (refl, (refl, (refl, tt))));
              sent = inr (ap (λ (o : Bool). cond o bytes []) (own t));
              gone = closed_now t (Ran t (text ∷ []) (step ∷ []) ∷ Received t bytes ∷ Opened t ∷ []);
            },
            omega arith,
          ),
        )

    -- its line was carried out, if it might be
    pub none_ran : (o : Option CarriedLine)
        → ((n : ℕ) (began : Began) (calls : List Call) → Serves dumps is_at n began sent calls
        → MatchOption o (Serves dumps is_at n began stepped calls) (λ carried. HasStepped dumps is_at n began t calls sent stepped carried))
        → IfNone o (MakesQuietly dumps is_at old new (λ calls made. IsOwn bytes made calls))
    none_ran None serves = sent_only serves
    none_ran (Some carried) serves = tt

    pub if_one_ran : (o : Option CarriedLine)
        → ((n : ℕ) (began : Began) (calls : List Call) → Serves dumps is_at n began sent calls
        → MatchOption o (Serves dumps is_at n began stepped calls) (λ carried. HasStepped dumps is_at n began t calls sent stepped carried))
        → IfSome o (λ carried. Makes dumps is_at old new (λ calls made. IsOwn bytes made calls × (0 < length (all_steps made))))
    if_one_ran None serves = tt
    if_one_ran (Some carried) serves = one_ran carried serves

    -- lines of it were carried out, and the table has noted them
    pub some_ran : (was now : Tables) (R : List Call → List Call → Type 0)
        → Makes dumps is_at sent stepped (λ calls made. HasCarriedOut dumps t was now calls made × R calls made)
        → Makes dumps is_at old new (λ calls made. IsOwn bytes made calls × HasNoted was.users now.users made)
    some_ran was now R makes = λ n began calls s.
        let first = Received t bytes ∷ Opened t ∷ [] in
        let (made, serves, (has, more)) = makes n began (first ++ calls) (received n began calls s) in
        let left_open = is_open t (made ++ (first ++ calls)) in
        let silent = closing_is_silent left_open t made (silent_if made has.runs has.are has.ends) in (
          closing left_open t made ++ first,
          subst (λ (l : List Call). Serves dumps is_at n began new l) (closing_all left_open t made first calls)
              (closes n began (made ++ (first ++ calls)) serves),
          (
            record {
              token = t;
              new = new_here n began calls s;
              own = silent_own t (closing left_open t made) first silent (refl, (refl, tt));
              sent = inr (silent_sent t (closing left_open t made) first silent ∙ ap (λ (o : Bool). cond o bytes []) (own t));
              gone = closing_gone left_open t made first calls refl (not_open t calls (new_here n began calls s));
            },
            (λ u user e.
                last_both u (closing left_open t made) first (last_at was.users u)
                ∙ closing_last left_open u t made (last_at was.users u) ∙ has.noted u user e),
          ),
        )
      where
        silent_if : {A : Type 0} (made runs : List Call) → AllByRecursion (IsRunOf t) runs
            → (made ≡ runs) ⊎ ((made ≡ Closed t ∷ runs) × A) → AllByRecursion (IsSilent t) made
        silent_if made runs are (inl e) = subst (AllByRecursion (IsSilent t)) (sym e) (runs_are_silent t runs are)
        silent_if made runs are (inr e) =
            subst (AllByRecursion (IsSilent t)) (sym e.0) (refl, runs_are_silent t runs are)

  -- ---- what the table has noted of them

  -- nothing, if nothing was carried out
  pub none_noted : ((users : Option Users) (made : List Call) → all_steps made ≡ [] → HasNoted users users made)
      → (users : Option Users) (old new : Server T D disk) (bytes : List ℕ)
      → MakesQuietly dumps is_at old new (λ calls made. IsOwn bytes made calls)
      → Makes dumps is_at old new (λ calls made. IsOwn bytes made calls × HasNoted users users made)
  none_noted law users old new bytes makes = λ n began calls s.
      let (made, serves, quiet, is) = makes n began calls s in (made, serves, (is, law users made quiet))

  -- nothing was done before, and nothing after, that calls show
  pub made_between : (a b c d : Server T D disk) (P : List Call → List Call → Type 0)
      → ((n : ℕ) (began : Began) (calls : List Call) → Serves dumps is_at n began a calls → Serves dumps is_at n began b calls)
      → Makes dumps is_at b c P
      → ((n : ℕ) (began : Began) (calls : List Call) → Serves dumps is_at n began c calls → Serves dumps is_at n began d calls)
      → Makes dumps is_at a d P
  made_between a b c d P before makes after = λ n began calls s.
      let (made, serves, is) = makes n began calls (before n began calls s) in
      (made, after n began (made ++ calls) serves, is)
