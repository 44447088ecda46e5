-- Aborts of sessions that had no command for long.
use Rattle.std.proofs.Common.{◌≡◌, ◌+◌, ◌-◌, ◌<◌, arith, ℕ, List, [], ◌∷◌, ◌++◌, Option, Bool, refl, sym, ap, subst, ◌∙◌, append_assoc, append-nil}
use Rattle.sqlite_disk.specs.declared.Disk.{Ghosts}
use Rattle.ssi_store.specs.Meaning.Courses.{Course, Abort}
use Rattle.ssi_line.specs.Meaning.Spelling.{command_text}
use Rattle.ssi_hub.specs.Clauses.Calls.{Call}
use Rattle.ssi_durable.specs.declared.server.Server.{Server}
use Rattle.ssi_durable.specs.Mirror.Servers.{Serves}
use Rattle.ssi_cli.specs.declared.users.Users.{Users}
use Rattle.ssi_cli.specs.Clauses.Leaving.{AreAborts, HasNoted, IsAbort, abort_calls}
use Rattle.ssi_data.specs.Clauses.Calls.{IsOwn, Makes}
use Rattle.ssi_data.specs.Clauses.Idling.{HasAbortedIdle}
use Rattle.ssi_data.proofs.Aborts.{as_abort}
use Rattle.ssi_data.proofs.Turning.{noted_both}

-- more seconds than so many have passed
pub below : (swept limit second passed : ℕ) → passed ≡ second - swept → limit < passed → swept + limit < second
below swept limit second passed is more = omega (arith, is, more)

calls_both : (later first : List (List ℕ × List Call)) (calls : List Call)
    → abort_calls (later ++ first) ++ calls ≡ abort_calls later ++ (abort_calls first ++ calls)
calls_both [] first calls = refl
calls_both (a ∷ later) first calls =
    sym_assoc a.1 (abort_calls (later ++ first)) calls
    ∙ ap (λ (l : List Call). a.1 ++ l) (calls_both later first calls)
    ∙ sym (append_assoc a.1 (abort_calls later) (abort_calls first ++ calls))
  where
    sym_assoc : (x y z : List Call) → (x ++ y) ++ z ≡ x ++ (y ++ z)
    sym_assoc x y z = append_assoc x y z

aborts_both : (May Other : List ℕ → Type 0) → ((s : List ℕ) → Other s → May s) → (later first : List (List ℕ × List Call))
    (calls : List Call) → AreAborts May first calls → AreAborts Other later (abort_calls first ++ calls)
    → AreAborts May (later ++ first) calls
aborts_both May Other may [] first calls are more = are
aborts_both May Other may (a ∷ later) first calls are more = (
  may a.0 more.0,
  subst (λ (l : List Call). IsAbort a.0 a.1 l) (sym (calls_both later first calls)) more.1,
  aborts_both May Other may later first calls are more.2,
)

noted_calls : (was now : Option Users) (later first : List (List ℕ × List Call))
    → HasNoted was now (abort_calls later ++ abort_calls first) → HasNoted was now (abort_calls (later ++ first))
noted_calls was now later first noted =
    subst (HasNoted was now)
    (sym (sym (append-nil (abort_calls (later ++ first))) ∙ calls_both later first []
    ∙ ap (λ (l : List Call). abort_calls later ++ l) (append-nil (abort_calls first)))) noted

module _ {T D : Type 0} {disk : Ghosts D} (dumps : Bool) (is_at : T → Course → Type 0) where
  pub none_idle : (May : List ℕ → Type 0) (users : Option Users) (server : Server T D disk)
      → HasAbortedIdle dumps is_at May users users server server
  none_idle May users server = λ n began calls s. ([], s, tt, λ u t e. e)

  pub one_idle : (session bytes : List ℕ) (was now : Option Users) (old new : Server T D disk)
      → bytes ≡ command_text (Abort session) ++ (10 ∷ [])
      → Makes dumps is_at old new (λ calls made. IsOwn bytes made calls × HasNoted was now made)
      → HasAbortedIdle dumps is_at (λ s. s ≡ session) was now old new
  one_idle session bytes was now old new line makes = λ n began calls s.
      let (made, serves, (own, noted)) = makes n began calls s in (
        (session, made) ∷ [],
        subst (λ (l : List Call). Serves dumps is_at n began new (l ++ calls)) (sym (append-nil made)) serves,
        (refl, as_abort session bytes made calls line own, tt),
        subst (HasNoted was now) (sym (append-nil made)) noted,
      )

  pub more_idle : (May Other : List ℕ → Type 0) (was is now : Option Users) (old mid new : Server T D disk)
      → ((s : List ℕ) → Other s → May s) → HasAbortedIdle dumps is_at May was is old mid
      → HasAbortedIdle dumps is_at Other is now mid new → HasAbortedIdle dumps is_at May was now old new
  more_idle May Other was is now old mid new may first then = λ n began calls s.
      let (done, on, are, noted) = first n began calls s in
      let (later, goes, others, more) = then n began (abort_calls done ++ calls) on in (
        later ++ done,
        subst (λ (l : List Call). Serves dumps is_at n began new l) (sym (calls_both later done calls)) goes,
        aborts_both May Other may later done calls are others,
        noted_calls was now later done (noted_both was is now (abort_calls done) (abort_calls later) noted more),
      )

  -- what was done, as calls that the table of users has noted
  pub idle_calls : (May : List ℕ → Type 0) (was now : Option Users) (old new : Server T D disk)
      → HasAbortedIdle dumps is_at May was now old new
      → Makes dumps is_at old new (λ calls made. ((aborts : List (List ℕ × List Call)) × (made ≡ abort_calls aborts)
      × AreAborts May aborts calls) × HasNoted was now made)
  idle_calls May was now old new has = λ n began calls s.
      let (aborts, serves, are, noted) = has n began calls s in
      (abort_calls aborts, serves, ((aborts, refl, are), noted))
