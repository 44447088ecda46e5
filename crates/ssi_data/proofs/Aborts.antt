-- Aborts of sessions whose last user is gone, and of those that have a transaction.
use Rattle.std.proofs.Common.{◌≡◌, ℕ, ◌<◌, ◌⊎◌, Bool, true, false, cond, List, [], ◌∷◌, ◌++◌, length, Option, Some, None, refl, sym, subst, ◌∙◌, append_assoc, Result, Ok, Err, IfOk}
use Rattle.std.specs.Prelude.{nat_eq, is_err, is_some, IsTrue, IfNone, IfSome, MatchResult}
use Rattle.std.specs.Cmp.Lexicographic.{pointwise}
use Rattle.std.proofs.lemmas.Bool.{false≢true}
use Rattle.std.proofs.lemmas.Option.{none-some}
use Rattle.sqlite_disk.specs.declared.Disk.{Ghosts}
use Rattle.ssi_store.specs.Meaning.Courses.{Course, Abort, txn_in}
use Rattle.ssi_line.specs.Meaning.Spelling.{command_text}
use Rattle.ssi_hub.specs.declared.outcome.CarriedLine.{CarriedLine}
use Rattle.ssi_hub.specs.Clauses.Calls.{Call, sent_by, all_steps}
use Rattle.ssi_durable.specs.declared.server.Server.{Server}
use Rattle.ssi_durable.specs.Clauses.Serving.{Began}
use Rattle.ssi_durable.specs.Mirror.Servers.{Serves, store_of}
use Rattle.ssi_cli.specs.Clauses.Leaving.{IsAbort, abort_calls}
use Rattle.ssi_data.specs.Clauses.Calls.{IsOwn, Makes, MakesQuietly}
use Rattle.ssi_data.specs.Clauses.Leaving.{HasAborted, HasTried}
use Rattle.ssi_data.specs.Clauses.Aborting.{HadTransaction, HasAbortedOpen, HasCarriedOutAborts}

-- the own line is `abort` of the session
pub as_abort : (session bytes : List ℕ) (made calls : List Call) → bytes ≡ command_text (Abort session) ++ (10 ∷ [])
    → IsOwn bytes made calls → IsAbort session made calls
as_abort session bytes made calls is o = record {
  token = o.token;
  new = o.new;
  own = o.own;
  sent = subst (λ (b : List ℕ). (sent_by o.token made ≡ []) ⊎ (sent_by o.token made ≡ b)) is o.sent;
}

module _ {T D : Type 0} {disk : Ghosts D} (dumps : Bool) (is_at : T → Course → Type 0) where
  -- the result says that nothing was carried out
  pub not_done : {E : Type 0} (old new : Server T D disk) (session bytes : List ℕ) (r : Result Bool E)
      → bytes ≡ command_text (Abort session) ++ (10 ∷ []) → IfOk r (λ done. IsTrue done → ⊥)
      → MakesQuietly dumps is_at old new (λ calls made. IsOwn bytes made calls)
      → Makes dumps is_at old new (λ calls made. HasTried session r calls made)
  not_done old new session bytes (Ok done) line none makes = λ n began calls s.
      let (made, serves, quiet, is) = makes n began calls s in
      (made, serves, record { abort = as_abort session bytes made calls line is; done = λ h. absurd (none h) })
  not_done old new session bytes (Err e) line none makes = λ n began calls s.
      let (made, serves, quiet, is) = makes n began calls s in
      (made, serves, record { abort = as_abort session bytes made calls line is; done = tt })

  -- its line was carried out
  pub is_done : {E : Type 0} {done : Bool} (old new : Server T D disk) (session bytes : List ℕ)
      → bytes ≡ command_text (Abort session) ++ (10 ∷ [])
      → Makes dumps is_at old new (λ calls made. IsOwn bytes made calls × (0 < length (all_steps made)))
      → Makes dumps is_at old new (λ calls made. HasTried {E = E} session (Ok done) calls made)
  is_done old new session bytes line makes = λ n began calls s.
      let (made, serves, (is, some)) = makes n began calls s in
      (made, serves, record { abort = as_abort session bytes made calls line is; done = λ h. some })

  -- its line was carried out, if it might be
  pub carried_maybe : (E : Type 0) (old new : Server T D disk) (session bytes : List ℕ) (o : Option CarriedLine) (done : Bool)
      → bytes ≡ command_text (Abort session) ++ (10 ∷ []) → done ≡ is_some o
      → IfNone o (MakesQuietly dumps is_at old new (λ calls made. IsOwn bytes made calls))
      → IfSome o (λ carried. Makes dumps is_at old new (λ calls made. IsOwn bytes made calls × (0 < length (all_steps made))))
      → Makes dumps is_at old new (λ calls made. HasTried {E = E} session (Ok done) calls made)
  carried_maybe E old new session bytes None done line is none some =
      not_done old new session bytes (Ok done) line (λ h. absurd (false≢true (sym is ∙ h))) none
  carried_maybe E old new session bytes (Some carried) done line is none some = is_done old new session bytes line some

  -- ---- one abort after the other

  pub none_aborted : (May : List ℕ → Type 0) (server : Server T D disk) → HasAborted dumps is_at May server server
  none_aborted May server = λ n began calls s. ([], s, tt)

  pub one_more : {E : Type 0} (May : List ℕ → Type 0) (old mid new : Server T D disk) (session : List ℕ)
      (r : Result Bool E) → May session → HasAborted dumps is_at May old mid
      → Makes dumps is_at mid new (λ calls made. HasTried session r calls made) → HasAborted dumps is_at May old new
  one_more May old mid new session r may first then = λ n began calls s.
      let (rest, serves, are) = first n began calls s in
      let (made, now, is) = then n began (abort_calls rest ++ calls) serves in (
        (session, made) ∷ rest,
        subst (λ (l : List Call). Serves dumps is_at n began new l) (sym (append_assoc made (abort_calls rest) calls)) now,
        (may, is.abort, are),
      )

  -- ---- one abort of an open session after the other

  -- a session that each course has open for which the store stands had a transaction
  had_one : (n : ℕ) (began : Began) (calls : List Call) (server : Server T D disk) (session : List ℕ)
      → ((c : Course) → is_at (store_of server) c → is_some (txn_in session c) ≡ true) → Serves dumps is_at n began server calls
      → HadTransaction began calls session
  had_one n began calls server session one s = record {
    course = s.gone.end;
    come = record {
      since = s.since;
      parts = s.parts;
      start = s.gone.start;
      replayed = s.gone.replayed;
      led = s.gone.led;
    };
    had = one s.gone.end s.gone.at;
  }

  pub none_carried_out : (server : Server T D disk) → HasCarriedOutAborts dumps is_at server server
  none_carried_out server = λ n began calls s. ([], s, tt, tt)

  pub carried_out_aborts : (old new : Server T D disk) → HasCarriedOutAborts dumps is_at old new → HasAbortedOpen dumps is_at old new
  carried_out_aborts old new has = λ n began calls s.
      let (list, serves, are, done) = has n began calls s in (list, serves, are)

  pub one_more_open : {E : Type 0} (old mid new : Server T D disk) (session : List ℕ) (r : Result Bool E)
      → ((c : Course) → is_at (store_of mid) c → is_some (txn_in session c) ≡ true) → HasCarriedOutAborts dumps is_at old mid
      → Makes dumps is_at mid new (λ calls made. HasTried session r calls made) → HasAbortedOpen dumps is_at old new
  one_more_open old mid new session r one first then = λ n began calls s.
      let (rest, serves, are, done) = first n began calls s in
      let (made, now, is) = then n began (abort_calls rest ++ calls) serves in (
        (session, made) ∷ rest,
        subst (λ (l : List Call). Serves dumps is_at n began new l) (sym (append_assoc made (abort_calls rest) calls)) now,
        (had_one n began (abort_calls rest ++ calls) mid session one serves, is.abort, are),
      )

  pub one_more_carried_out : {E : Type 0} (old mid new : Server T D disk) (session : List ℕ)
      → ((c : Course) → is_at (store_of mid) c → is_some (txn_in session c) ≡ true) → HasCarriedOutAborts dumps is_at old mid
      → Makes dumps is_at mid new (λ calls made. HasTried {E = E} session (Ok true) calls made) → HasCarriedOutAborts dumps is_at old new
  one_more_carried_out old mid new session one first then = λ n began calls s.
      let (rest, serves, are, done) = first n began calls s in
      let (made, now, is) = then n began (abort_calls rest ++ calls) serves in (
        (session, made) ∷ rest,
        subst (λ (l : List Call). Serves dumps is_at n began new l) (sym (append_assoc made (abort_calls rest) calls)) now,
        (had_one n began (abort_calls rest ++ calls) mid session one serves, is.abort, are),
        (is.done refl, done),
      )

  -- and nothing was done since that calls show
  pub open_still : (old mid new : Server T D disk) → HasAbortedOpen dumps is_at old mid
      → ((n : ℕ) (began : Began) (calls : List Call) → Serves dumps is_at n began mid calls → Serves dumps is_at n began new calls)
      → HasAbortedOpen dumps is_at old new
  open_still old mid new has same = λ n began calls s.
      let (list, serves, are) = has n began calls s in (list, same n began (abort_calls list ++ calls) serves, are)

  pub carried_out_still : (old mid new : Server T D disk) → HasCarriedOutAborts dumps is_at old mid
      → ((n : ℕ) (began : Began) (calls : List Call) → Serves dumps is_at n began mid calls → Serves dumps is_at n began new calls)
      → HasCarriedOutAborts dumps is_at old new
  carried_out_still old mid new has same = λ n began calls s.
      let (list, serves, are, done) = has n began calls s in
      (list, same n began (abort_calls list ++ calls) serves, are, done)

-- a session that is forgotten has no user, and the others have theirs
pub still_last : (was now first : List ℕ → Option ℕ) (t : ℕ) (session : List ℕ)
    → ((s : List ℕ) → was s ≡ Some t → first s ≡ Some t)
    → ((s : List ℕ) → now s ≡ cond (pointwise nat_eq session s) None (was s))
    → (s : List ℕ) → now s ≡ Some t → first s ≡ Some t
still_last was now first t session kept forgot s is = by_name (pointwise nat_eq session s) (sym (forgot s) ∙ is)
  where
    by_name : (b : Bool) → cond b None (was s) ≡ Some t → first s ≡ Some t
    by_name true e = absurd (none-some t e)
    by_name false e = kept s e

pub when_ok : {T E P : Type 0} (Q : Type 0) (r : Result T E) → is_err r ≡ false → MatchResult r (λ _. P) (λ _. Q) → P
when_ok Q (Ok x) is m = m
when_ok Q (Err e) is m = absurd (cc is)

pub when_err : {T E Q : Type 0} (P : Type 0) (r : Result T E) → is_err r ≡ true → MatchResult r (λ _. P) (λ _. Q) → Q
when_err P (Ok x) is m = absurd (cc is)
when_err P (Err e) is m = m
