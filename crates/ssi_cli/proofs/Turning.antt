-- A turn of a connection, part by part.
use Rattle.std.proofs.Common.{◌≡◌, ◌≢◌, ℕ, suc, ◌+◌, ◌<◌, ◌≤◌, Bool, true, false, cond, List, [], ◌∷◌, ◌++◌, length, Option, Some, None, refl, sym, ap, subst, ◌∙◌, append_assoc, append-nil, length-append, Result, Ok, Err, OnOk, OnErr, IfErr, arith, ◌⊎◌, inl, inr}
use Rattle.std.specs.Prelude.{◌==◌, not, ◌&&◌, ◌||◌, is_err, MatchOption, MatchResult, nat_le}
use Rattle.std.specs.List.{AllByRecursion}
use Rattle.std.specs.Result.{IsErrAnd}
use Rattle.std.specs.Io.KnownBytes.{Consumes, Appends, IsAtEnd}
use Rattle.std.proofs.KnownBytes.{Consumes-nil, Appends-nil}
use Rattle.std.proofs.lemmas.Bool.{eq-eqb, both_ways, false≢true, and_parts, leb-true, le-leb}
use Rattle.std.proofs.lemmas.Option.{same_Some, none-some}
use Rattle.adya_line.specs.Meaning.Lines.{IsPlain}
use Rattle.ssi_store.specs.Meaning.Courses.{Course}
use Rattle.ssi_line.specs.Meaning.Steps.{Step, IsStep, IsStepOf, AreSteps}
use Rattle.ssi_line.specs.Clauses.Ends.{WentOn}
use Rattle.ssi_line.specs.Clauses.Answers.{kept}
use Rattle.ssi_hub.specs.declared.hub.Hub.{Hub}
use Rattle.ssi_hub.specs.Clauses.Buffers.{Buffers}
use Rattle.ssi_hub.specs.Clauses.Clipping.{clipped, has_line}
use Rattle.ssi_hub.specs.Clauses.Calls.{Call, Opened, Received, Ran, Wrote, Closed, is_open, with_call, with_run, sent_by, lines_of, written_to, all_steps}
use Rattle.ssi_hub.specs.Clauses.Runs.{IsTaken}
use Rattle.ssi_hub.specs.Clauses.Serving.{IsServed}
use Rattle.ssi_hub.specs.Mirror.{Stands, buffers_of, is_stopped}
use Rattle.ssi_cli.specs.declared.closing.Closing.{Closing}
use Rattle.ssi_cli.specs.declared.closing.Closing.TheVariants.{Ended, Broken, Memory, Stopped}
use Rattle.ssi_cli.specs.declared.peer.Input.{Input}
use Rattle.ssi_cli.specs.declared.users.Users.{Users}
use Rattle.ssi_cli.specs.Meaning.Users.{session_in, is_it, is_used, last_by, last_after}
use Rattle.ssi_cli.specs.Clauses.Leaving.{HasNoted}
use Rattle.ssi_cli.specs.Clauses.Peers.{HasRead}
use Rattle.ssi_cli.specs.Clauses.Turns.{Makes, IsUseOf, IsRunOf, Exchanged, HasUnsent, IsFinished, IsClosedFor, HasBegun, IsAllWritten, NoneUnsent, IsLeft, MayRun, WantsMore, with_end, Did, Carried}
use Rattle.ssi_cli.specs.Machinery.HubRuns.{HasRun}
use Rattle.ssi_cli.specs.Mirror.{last_in, last_at}
use Rattle.ssi_cli.proofs.Exchanges.{all_both, steps_both, exchanged_both}
use Rattle.ssi_cli.proofs.Makings.{served_at, open_at}
use Rattle.ssi_cli.proofs.ScriptRuns.{went_on_both}

own : (t : ℕ) → (t == t) ≡ true
own t = eq-eqb t t refl

nil_both : {A : Type 0} (xs ys : List A) → xs ++ ys ≡ [] → (xs ≡ []) × (ys ≡ [])
nil_both [] ys e = (refl, e)
nil_both (x ∷ xs) ys e = cc

-- ---- the last user of a session

pub last_both : (s : List ℕ) (later calls : List Call) (was : Option ℕ)
    → last_after s (later ++ calls) was ≡ last_after s later (last_after s calls was)
last_both s [] calls was = refl
last_both s (c ∷ later) calls was = ap (last_by s c) (last_both s later calls was)

pub last_with : (s : List ℕ) (made : List Call) (was now : Option ℕ) (t : ℕ) → ((u : ℕ) → was ≡ Some u → now ≡ Some u)
    → last_after s made was ≡ Some t → last_after s made now ≡ Some t
last_with s [] was now t more is = more t is
last_with s (Opened u ∷ made) was now t more is = last_with s made was now t more is
last_with s (Received u bytes ∷ made) was now t more is = last_with s made was now t more is
last_with s (Ran u lines steps ∷ made) was now t more is =
    by_use (last_with s made was now t more) (is_used s steps) is
  where
    by_use : (last_after s made was ≡ Some t → last_after s made now ≡ Some t) → (used : Bool)
        → cond used (Some u) (last_after s made was) ≡ Some t → cond used (Some u) (last_after s made now) ≡ Some t
    by_use before true e = e
    by_use before false e = before e
last_with s (Wrote u bytes ∷ made) was now t more is = last_with s made was now t more is
last_with s (Closed u ∷ made) was now t more is = last_with s made was now t more is

quiet_last : (s : List ℕ) (made : List Call) (was : Option ℕ) → all_steps made ≡ [] → last_after s made was ≡ was
quiet_last s [] was quiet = refl
quiet_last s (Opened u ∷ made) was quiet = quiet_last s made was quiet
quiet_last s (Received u bytes ∷ made) was quiet = quiet_last s made was quiet
quiet_last s (Ran u lines steps ∷ made) was quiet =
    let (before, none) = nil_both (all_steps made) steps quiet in
    ap (λ (l : List Step). cond (is_used s l) (Some u) (last_after s made was)) none ∙ quiet_last s made was before
quiet_last s (Wrote u bytes ∷ made) was quiet = quiet_last s made was quiet
quiet_last s (Closed u ∷ made) was quiet = quiet_last s made was quiet

pub quiet_noted : (users : Option Users) (made : List Call) → all_steps made ≡ [] → HasNoted users users made
quiet_noted users made quiet = λ s t is. quiet_last s made (last_at users s) quiet ∙ is

pub noted_both : (old mid new : Option Users) (calls later : List Call) → HasNoted old mid calls → HasNoted mid new later
    → HasNoted old new (later ++ calls)
noted_both old mid new calls later first then = λ s t is.
    last_both s later calls (last_at old s)
    ∙ last_with s later (last_at mid s) (last_after s calls (last_at old s)) t (λ u e. first s u e) (then s t is)

pub noted_end : {A : Type 0} (r : Result A Closing) (t : ℕ) (old new : Option Users) (made : List Call)
    → HasNoted old new made → HasNoted old new (with_end r t made)
noted_end (Ok x) t old new made noted = noted
noted_end (Err why) t old new made noted = noted

-- ---- why a connection was closed

lines_both : (t : ℕ) (later calls : List Call) → lines_of t (later ++ calls) ≡ lines_of t calls ++ lines_of t later
lines_both t [] calls = sym (append-nil (lines_of t calls))
lines_both t (Opened u ∷ later) calls = lines_both t later calls
lines_both t (Received u bytes ∷ later) calls = lines_both t later calls
lines_both t (Ran u lines steps ∷ later) calls = by_token (lines_both t later calls) (u == t)
  where
    by_token : lines_of t (later ++ calls) ≡ lines_of t calls ++ lines_of t later → (o : Bool)
        → cond o (lines_of t (later ++ calls) ++ lines) (lines_of t (later ++ calls))
        ≡ lines_of t calls ++ cond o (lines_of t later ++ lines) (lines_of t later)
    by_token both true = ap (λ l. l ++ lines) both ∙ append_assoc (lines_of t calls) (lines_of t later) lines
    by_token both false = both
lines_both t (Wrote u bytes ∷ later) calls = lines_both t later calls
lines_both t (Closed u ∷ later) calls = lines_both t later calls

closed_more : (t : ℕ) (made later calls : List Call) (dropped : List ℕ) (why : Closing)
    → IsClosedFor true t later (made ++ calls) dropped why → IsClosedFor true t (later ++ made) calls dropped why
closed_more t made later calls dropped Ended is =
    (is.0, subst (λ l. IsFinished true t l) (sym (append_assoc later made calls)) is.1)
closed_more t made later calls dropped Broken is =
    (is.0, subst (λ l. HasUnsent true t l) (sym (append_assoc later made calls)) is.1)
closed_more t made later calls dropped Memory (inl some) = inl some
closed_more t made later calls dropped Memory (inr (inl waits)) =
    let (left, unsent, served, has) = waits in
    inr (inl (left, unsent, subst (λ l. IsServed true t l left unsent) (sym (append_assoc later made calls)) served, has))
closed_more t made later calls dropped Memory (inr (inr some)) =
    let both : length (lines_of t (later ++ made)) ≡ length (lines_of t made) + length (lines_of t later) =
    ap (λ (l : List (List ℕ)). length l) (lines_both t later made) ∙ length-append (lines_of t made) (lines_of t later) in
    inr (inr (omega (arith, some, both)))
closed_more t made later calls dropped Stopped is = is

left_more : {A : Type 0} (t : ℕ) (made later calls : List Call) (dropped : List ℕ) (r : Result A Closing)
    → IsLeft true t later (made ++ calls) dropped r → IsLeft true t (later ++ made) calls dropped r
left_more t made later calls dropped (Ok x) is = is
left_more t made later calls dropped (Err why) is = closed_more t made later calls dropped why is

end_more : {A : Type 0} (t : ℕ) (made later calls : List Call) (r : Result A Closing)
    → with_end r t later ++ (made ++ calls) ≡ with_end r t (later ++ made) ++ calls
end_more t made later calls (Ok x) = sym (append_assoc later made calls)
end_more t made later calls (Err why) = ap (λ (l : List Call). Closed t ∷ l) (sym (append_assoc later made calls))

end_steps : {A : Type 0} (t : ℕ) (made calls : List Call) (r : Result A Closing)
    → all_steps (with_end r t made ++ calls) ≡ all_steps calls ++ all_steps made
end_steps t made calls (Ok x) = steps_both made calls
end_steps t made calls (Err why) = steps_both made calls

-- ---- one part after the other

never : {P : Type 0} → ⊥ → P
never h = absurd h

none_ok : {A E : Type 0} (P : Type 0) (r : Result A E) → OnOk r ⊥ → OnOk r P
none_ok P (Ok x) none = absurd none
none_ok P (Err e) none = tt

memory_begun : (A : Type 0) (t : ℕ) (made : List Call) (why : Closing) → why ≡ Memory → HasBegun {A = A} t made (Err why)
memory_begun A t made Ended is = cc
memory_begun A t made Broken is = cc
memory_begun A t made Stopped is = cc
memory_begun A t made Memory is = tt

begun_later : {A : Type 0} (t : ℕ) (made later : List Call) (r : Result A Closing)
    → (0 < length (lines_of t made)) ⊎ HasBegun t later r → HasBegun t (later ++ made) r
begun_later t made later r some =
    more r some
    (ap (λ (l : List (List ℕ)). length l) (lines_both t later made) ∙ length-append (lines_of t made) (lines_of t later))
  where
    more : {A : Type 0} (r : Result A Closing) → (0 < length (lines_of t made)) ⊎ HasBegun t later r
        → length (lines_of t (later ++ made)) ≡ length (lines_of t made) + length (lines_of t later)
        → HasBegun t (later ++ made) r
    more (Ok x) (inl some) both = omega (arith, some, both)
    more (Ok x) (inr some) both = omega (arith, some, both)
    more (Err Ended) (inl some) both = omega (arith, some, both)
    more (Err Ended) (inr some) both = omega (arith, some, both)
    more (Err Broken) (inl some) both = omega (arith, some, both)
    more (Err Broken) (inr some) both = omega (arith, some, both)
    more (Err Stopped) (inl some) both = omega (arith, some, both)
    more (Err Stopped) (inr some) both = omega (arith, some, both)
    more (Err Memory) some both = tt

begun_both : {A : Type 0} (t : ℕ) (made later : List Call) (r : Result A Closing) (First Then : Type 0) → First ⊎ Then
    → (First → 0 < length (lines_of t made)) → (Then → HasBegun t later r) → HasBegun t (later ++ made) r
begun_both t made later r First Then (inl is) first then = begun_later t made later r (inl (first is))
begun_both t made later r First Then (inr is) first then = begun_later t made later r (inr (then is))

all_written_more : {A : Type 0} (t : ℕ) (made later calls : List Call) (r : Result A Closing)
    → OnOk r (IsAllWritten true t (later ++ (made ++ calls))) → OnOk r (IsAllWritten true t ((later ++ made) ++ calls))
all_written_more t made later calls (Ok x) is =
    subst (λ (l : List Call). IsAllWritten true t l) (sym (append_assoc later made calls)) is
all_written_more t made later calls (Err why) is = tt

pub all_written_by : (hub : Hub) (t : ℕ) (calls : List Call) → Stands true hub calls → NoneUnsent (buffers_of hub t)
    → IsAllWritten true t calls
all_written_by hub t calls s none opened =
    let (left, unsent, served, is) = s.served t in
    let b : Buffers = record { waiting = clipped left; unsent = unsent } in
    let has : buffers_of hub t ≡ Some b = is ∙ ap (λ o. cond o (Some b) None) opened in
    let empty : unsent ≡ [] = subst (λ (o : Option Buffers). NoneUnsent o) has none in
    (left, subst (λ (u : List ℕ). IsServed true t calls left u) empty served)

module _ {S T : Type 0} (remaining contents : S → Option (List ℕ)) (is_at : T → Course → Type 0) (t : ℕ) where
  pub did_both : {A B : Type 0} (May First Then Never Sure : Type 0) (x : A) (r : Result B Closing)
      (was is now : Option Users) (old hub new : Hub) (start stream left : S) (store mid after : T)
      → (May → First ⊎ Then)
      → Did remaining contents is_at t First Never (Ok x) was old start store is hub stream mid
      → Did remaining contents is_at t Then Sure r is hub stream mid now new left after
      → Did remaining contents is_at t May Sure r was old start store now new left after
  did_both May First Then Never Sure x r was is now old hub new start stream left store mid after which first then = λ calls s.
      let (made, none, stands, went, one, kept, noted, begun, sure) = first calls s in
      let (later, dropped, on, goes, two, why, notes, begins, written) = then (made ++ calls) stands in (
        later ++ made,
        dropped,
        subst (Stands true new) (end_more t made later calls r) on,
        subst (λ (ss : List Step). WentOn is_at store ss after) (sym (steps_both later made))
            (went_on_both is_at store mid after (all_steps made) (all_steps later) went goes),
        exchanged_both remaining contents t start stream left made later dropped
            (subst (λ l. Exchanged remaining contents t start stream made l) kept one) two,
        left_more t made later calls dropped r why,
        noted_both was is now made later noted notes,
        λ may. begun_both t made later r First Then (which may) begun begins,
        λ is. all_written_more t made later calls r (written is),
      )

  pub did_run : {A : Type 0} (May Sure : Type 0) (r : Result A Closing) (was now : Option Users) (old new : Hub)
      (start left : S) (store after : T)
      → Did remaining contents is_at t May Sure r was old start store now new left after → HasRun is_at old store new after
  did_run May Sure r was now old new start left store after did = λ calls s.
      let (made, dropped, stands, went, one, why, noted, begins, written) = did calls s in
      (with_end r t made ++ calls, all_steps made, stands, end_steps t made calls r, went)

  quiet_went : (store : T) (steps : List Step) → steps ≡ [] → WentOn is_at store steps store
  quiet_went store steps quiet = subst (λ (ss : List Step). WentOn is_at store ss store) (sym quiet) (λ course at. (tt, at))

  pub did_receive : {A : Type 0} (May Sure : Type 0) (r : Result A Closing) (users : Option Users) (old new : Hub)
      (start left : S) (store : T) → (May → OnOk r ⊥) → (Sure → OnOk r ⊥) → OnOk r (Makes old new (λ _ made. Exchanged remaining contents t start left made []))
      → IfErr r (λ why. (why ≡ Memory) × Makes old new (λ _ made. (made ≡ Closed t ∷ [])
      × ((dropped : List ℕ) × (0 < length dropped) × Exchanged remaining contents t start left [] dropped)))
      → Did remaining contents is_at t May Sure r users old start store users new left store
  did_receive May Sure (Ok x) users old new start left store may sure ok err = λ calls s.
      let (made, stands, quiet, one) = ok calls s in (
        made,
        [],
        stands,
        quiet_went store (all_steps made) quiet,
        one,
        refl,
        quiet_noted users made quiet,
        λ h. absurd (may h),
        λ h. absurd (sure h),
      )
  did_receive May Sure (Err why) users old new start left store may sure ok err = λ calls s.
      let (made, stands, quiet, (is, (dropped, some, one))) = err.1 calls s in (
        [],
        dropped,
        subst (λ (l : List Call). Stands true new (l ++ calls)) is stands,
        λ course at. (tt, at),
        one,
        subst (λ w. IsClosedFor true t [] calls dropped w) (sym err.0) (inl some),
        λ s u e. e,
        λ h. memory_begun (Unit {0}) t [] why err.0,
        λ h. tt,
      )

  pub did_send : {A : Type 0} (Sure : Type 0) (r : Result A Closing) (users : Option Users) (old new : Hub) (start left : S)
      (store : T) → OnOk r (Makes old new (λ _ made. Exchanged remaining contents t start left made []))
      → IfErr r (λ why. (why ≡ Broken) × Makes old new (λ calls made. (earlier : List Call)
      × (made ≡ Closed t ∷ earlier) × HasUnsent true t (earlier ++ calls)
      × Exchanged remaining contents t start left earlier []))
      → OnOk r (Sure → NoneUnsent (buffers_of new t))
      → Did remaining contents is_at t ⊥ Sure r users old start store users new left store
  did_send Sure (Ok x) users old new start left store ok err written = λ calls s.
      let (made, stands, quiet, one) = ok calls s in (
        made,
        [],
        stands,
        quiet_went store (all_steps made) quiet,
        one,
        refl,
        quiet_noted users made quiet,
        never,
        λ sure. all_written_by new t (made ++ calls) stands (written sure),
      )
  did_send Sure (Err why) users old new start left store ok err written = λ calls s.
      let (made, stands, quiet, (earlier, is, unsent, one)) = err.1 calls s in
      let still : all_steps earlier ≡ [] = ap (λ (l : List Call). all_steps l) (sym is) ∙ quiet in (
        earlier,
        [],
        subst (λ (l : List Call). Stands true new (l ++ calls)) is stands,
        quiet_went store (all_steps earlier) still,
        one,
        subst (λ w. IsClosedFor true t earlier calls [] w) (sym err.0) (refl, unsent),
        quiet_noted users earlier still,
        never,
        λ sure. tt,
      )

  runs_uses : (made : List Call) → AllByRecursion (IsRunOf t) made → AllByRecursion (IsUseOf t) made
  runs_uses [] all = tt
  runs_uses (Opened u ∷ made) all = absurd all.0
  runs_uses (Received u bytes ∷ made) all = absurd all.0
  runs_uses (Ran u lines steps ∷ made) all = (all.0, runs_uses made all.1)
  runs_uses (Wrote u bytes ∷ made) all = absurd all.0
  runs_uses (Closed u ∷ made) all = absurd all.0

  runs_sent : (made : List Call) → AllByRecursion (IsRunOf t) made → sent_by t made ≡ []
  runs_sent [] all = refl
  runs_sent (Opened u ∷ made) all = absurd all.0
  runs_sent (Received u bytes ∷ made) all = absurd all.0
  runs_sent (Ran u lines steps ∷ made) all = runs_sent made all.1
  runs_sent (Wrote u bytes ∷ made) all = absurd all.0
  runs_sent (Closed u ∷ made) all = absurd all.0

  runs_written : (made : List Call) → AllByRecursion (IsRunOf t) made → written_to t made ≡ []
  runs_written [] all = refl
  runs_written (Opened u ∷ made) all = absurd all.0
  runs_written (Received u bytes ∷ made) all = absurd all.0
  runs_written (Ran u lines steps ∷ made) all = runs_written made all.1
  runs_written (Wrote u bytes ∷ made) all = absurd all.0
  runs_written (Closed u ∷ made) all = absurd all.0

  pub did_carry : {A : Type 0} (May Sure : Type 0) (r : Result A Closing) (was now : Option Users) (old new : Hub)
      (stream : S) (store after : T) → (Sure → OnOk r ⊥) → Carried is_at t May r was old store now new after
      → Did remaining contents is_at t May Sure r was old stream store now new stream after
  did_carry May Sure r was now old new stream store after sure carried = λ calls s.
      let (made, stands, went, runs, why, noted, begins) = carried calls s in (
        made,
        [],
        stands,
        went,
        record {
          uses = runs_uses made runs;
          read = subst (λ (l : List ℕ). Consumes (remaining stream) (remaining stream) (l ++ [])) (sym (runs_sent made runs))
              (Consumes-nil (remaining stream));
          written = subst (λ (l : List ℕ). Appends (contents stream) (contents stream) l) (sym (runs_written made runs))
              (Appends-nil (contents stream));
        },
        why,
        noted,
        begins,
        λ h. none_ok _ r (sure h),
      )

-- ---- a connection that wants to run

pub may_run : (stopped : Bool) (o : Option Buffers) (r : Bool)
    → MatchOption o (r ≡ false) (λ b. r ≡ (not stopped && (has_line b.waiting && nat_le (length b.unsent) 65536))) → r ≡ true
    → MayRun stopped o
may_run stopped None r m is = absurd (both_ways r m is)
may_run stopped (Some b) r m is =
    let parts = and_parts (not stopped) (has_line b.waiting && nat_le (length b.unsent) 65536) (sym m ∙ is) in
    let more = and_parts (has_line b.waiting) (nat_le (length b.unsent) 65536) parts.1 in
    (goes stopped parts.0, more.0, leb-true (length b.unsent) 65536 more.1)
  where
    goes : (o : Bool) → not o ≡ true → o ≡ false
    goes false e = refl
    goes true e = absurd (false≢true e)

pub has_run : (stopped : Bool) (o : Option Buffers) → MayRun stopped o
    → (b : Buffers) × (o ≡ Some b) × (stopped ≡ false) × (has_line b.waiting ≡ true) × (length b.unsent ≤ 65536)
has_run stopped None may = absurd may
has_run stopped (Some b) may = (b, refl, may.0, may.1, may.2)

pub cant_run : (stopped : Bool) (o : Option Buffers) (r : Bool)
    → MatchOption o (r ≡ false) (λ b. r ≡ (not stopped && (has_line b.waiting && nat_le (length b.unsent) 65536)))
    → r ≡ false → MayRun stopped o → ⊥
cant_run stopped None r m is may = may
cant_run stopped (Some b) r m is may =
    let (goes, waits, short) = may in
    false≢true
    (sym is ∙ m
    ∙ ap (λ o. not o && (has_line b.waiting && nat_le (length b.unsent) 65536)) goes
    ∙ ap (λ o. o && nat_le (length b.unsent) 65536) waits
    ∙ le-leb (length b.unsent) 65536 short)

pub cant_want : (stopped : Bool) (o : Option Buffers) (r : Bool)
    → MatchOption o (r ≡ false) (λ b. r ≡ (not stopped && (not (has_line b.waiting) && nat_le (length b.unsent) 65536)))
    → r ≡ false → WantsMore stopped o → ⊥
cant_want stopped None r m is wants = wants
cant_want stopped (Some b) r m is wants =
    let (goes, none, short) = wants in
    false≢true
    (sym is ∙ m
    ∙ ap (λ o. not o && (not (has_line b.waiting) && nat_le (length b.unsent) 65536)) goes
    ∙ ap (λ o. not o && nat_le (length b.unsent) 65536) none
    ∙ le-leb (length b.unsent) 65536 short)

pub none_run : (stopped : Bool) (o : Option Buffers) → ((b : Buffers) → o ≡ Some b → has_line b.waiting ≡ false)
    → MayRun stopped o → ⊥
none_run stopped None none may = may
none_run stopped (Some b) none may = false≢true (sym (none b refl) ∙ may.1)

-- ---- lines that are carried out

module _ {T : Type 0} (is_at : T → Course → Type 0) (t : ℕ) where
  pub carried_none : {A : Type 0} (May : Type 0) (x : A) (users : Option Users) (hub : Hub) (store : T) → (May → ⊥)
      → Carried is_at t May (Ok x) users hub store users hub store
  carried_none May x users hub store idle = λ calls s.
      ([], s, λ course at. (tt, at), tt, refl, λ s u e. e, λ may. absurd (idle may))

  pub carried_if : {A : Type 0} (May More : Type 0) (r : Result A Closing) (was now : Option Users) (old new : Hub)
      (store after : T) → (May → More) → Carried is_at t More r was old store now new after
      → Carried is_at t May r was old store now new after
  carried_if May More r was now old new store after more carried = λ calls s.
      let (made, stands, went, runs, why, noted, begins) = carried calls s in
      (made, stands, went, runs, why, noted, λ may. begins (more may))

  pub carried_both : {A B : Type 0} (May First Then : Type 0) (x : A) (r : Result B Closing) (was is now : Option Users)
      (old hub new : Hub) (store mid after : T) → (May → First ⊎ Then)
      → Carried is_at t First (Ok x) was old store is hub mid → Carried is_at t Then r is hub mid now new after
      → Carried is_at t May r was old store now new after
  carried_both May First Then x r was is now old hub new store mid after which first then = λ calls s.
      let (made, stands, went, runs, none, noted, begun) = first calls s in
      let (later, on, goes, more, why, notes, begins) = then (made ++ calls) stands in (
        later ++ made,
        subst (Stands true new) (end_more t made later calls r) on,
        subst (λ (ss : List Step). WentOn is_at store ss after) (sym (steps_both later made))
            (went_on_both is_at store mid after (all_steps made) (all_steps later) went goes),
        all_both (IsRunOf t) later made more runs,
        left_more t made later calls [] r why,
        noted_both was is now made later noted notes,
        λ may. begun_both t made later r First Then (which may) begun begins,
      )

  with_ran : (lines : List (List ℕ)) (steps : List Step) (calls : List Call) → is_open t calls ≡ true
      → with_call (Ran t lines steps) calls ≡ Ran t lines steps ∷ calls
  with_ran lines steps calls opened = ap (λ o. cond o (Ran t lines steps ∷ calls) calls) opened

  with_closed : (lines : List (List ℕ)) (steps : List Step) (calls : List Call) → is_open t calls ≡ true
      → with_run true t lines steps calls ≡ Closed t ∷ Ran t lines steps ∷ calls
  with_closed lines steps calls opened =
      ap (λ (l : List Call). with_call (Closed t) l) (with_ran lines steps calls opened)
      ∙ ap (λ o. cond o (Closed t ∷ Ran t lines steps ∷ calls) (Ran t lines steps ∷ calls)) opened

  ran_some : (lines : List (List ℕ)) (steps : List Step) → 0 < length lines
      → 0 < length (lines_of t (Ran t lines steps ∷ []))
  ran_some lines steps some = subst (λ (l : List (List ℕ)). 0 < length l) (sym (ap (λ o. cond o lines []) (own t))) some

  -- a line waits, so one at least is carried out if one may be
  begins_with : (stopped lost : Bool) (most : ℕ) (had : Option Buffers) (b : Buffers) (line rest : List ℕ)
      (lines : List (List ℕ)) (steps : List Step) → had ≡ Some b → b.waiting ≡ line ++ (10 ∷ rest) → IsPlain line
      → 0 < most → IsTaken true stopped lost most had lines steps → MayRun stopped had
      → 0 < length (lines_of t (Ran t lines steps ∷ []))
  begins_with stopped lost most had b line rest lines steps has waits plain some taken may =
      let (x, same, goes, whole, short) = has_run stopped had may in
      let is : x ≡ b = same_Some x b (sym same ∙ has) in
      let (text, others, first, kept) =
      taken.first b line rest goes has waits plain (subst (λ (y : Buffers). length y.unsent ≤ 65536) is short) some in
      let counted : length lines ≡ suc (length others) = ap (λ (l : List (List ℕ)). length l) first in
      ran_some lines steps (omega (arith, counted))

  -- lines of an open connection of which a line waits were carried out, and its reply was lost or wasn't
  pub carried_lines : {A : Type 0} (r : Result A Closing) (lost : Bool) (was now : Option Users) (old new : Hub)
      (store after : T) (most : ℕ) (b : Buffers) (line rest : List ℕ) → buffers_of old t ≡ Some b
      → b.waiting ≡ line ++ (10 ∷ rest) → IsPlain line → 0 < most
      → MatchResult r (λ _. lost ≡ false) (λ why. (why ≡ Memory) × (lost ≡ true))
      → ((calls : List Call) → Stands true old calls → (lines : List (List ℕ)) × (steps : List Step)
      × IsTaken true (is_stopped old) lost most (buffers_of old t) lines steps × Stands true new (with_run lost t lines steps calls)
      × WentOn is_at store steps after × (all_steps (with_run lost t lines steps calls) ≡ all_steps calls ++ steps))
      → ((lines : List (List ℕ)) (steps : List Step) → IsTaken true (is_stopped old) lost most (buffers_of old t) lines steps
      → HasNoted was now (Ran t lines steps ∷ []))
      → Carried is_at t (MayRun (is_stopped old) (buffers_of old t)) r was old store now new after
  carried_lines (Ok x) lost was now old new store after most b line rest has waits plain many is run noted = λ calls s.
      let (lines, steps, taken, stands, went, grew) = run calls s in (
        Ran t lines steps ∷ [],
        subst (Stands true new)
            (ap (λ o. with_run o t lines steps calls) is ∙ with_ran lines steps calls (open_at old t b has calls s)) stands,
        went,
        (refl, tt),
        refl,
        noted lines steps taken,
        begins_with (is_stopped old) lost most (buffers_of old t) b line rest lines steps has waits plain many taken,
      )
  carried_lines (Err why) lost was now old new store after most b line rest has waits plain many is run noted = λ calls s.
      let (lines, steps, taken, stands, went, grew) = run calls s in (
        Ran t lines steps ∷ [],
        subst (Stands true new)
            (ap (λ o. with_run o t lines steps calls) is.1 ∙ with_closed lines steps calls (open_at old t b has calls s)) stands,
        went,
        (refl, tt),
        subst (λ w. IsClosedFor true t (Ran t lines steps ∷ []) calls [] w) (sym is.0)
            (inr (inr (ran_some lines steps (taken.some is.1)))),
        noted lines steps taken,
        λ may. memory_begun (Unit {0}) t (Ran t lines steps ∷ []) why is.0,
      )

  -- its table can't hold the session of the line that waits
  pub carried_closed : {A : Type 0} (r : Result A Closing) (was now : Option Users) (old new : Hub) (store : T) (b : Buffers)
      → buffers_of old t ≡ Some b → has_line b.waiting ≡ true → MatchResult r (λ _. ⊥) (λ why. why ≡ Memory)
      → ((calls : List Call) → Stands true old calls → Stands true new (with_call (Closed t) calls))
      → HasNoted was now []
      → Carried is_at t (MayRun (is_stopped old) (buffers_of old t)) r was old store now new store
  carried_closed (Ok x) was now old new store b has waits is closes noted = absurd is
  carried_closed (Err why) was now old new store b has waits is closes noted = λ calls s.
      let (left, served, so, opened) = served_at (buffers_of old) old.next (is_stopped old) calls t b s has in (
        [],
        subst (Stands true new) (ap (λ o. cond o (Closed t ∷ calls) calls) opened) (closes calls s),
        λ course at. (tt, at),
        tt,
        subst (λ w. IsClosedFor true t [] calls [] w) (sym is)
            (inr (inl (left, b.unsent, served, ap (λ (l : List ℕ). has_line l) (sym so) ∙ waits))),
        noted,
        λ may. memory_begun (Unit {0}) t [] why is,
      )

-- ---- the table notes the line that is carried out

one_step : (text : List ℕ) (steps : List Step) → AreSteps (text ∷ []) steps → (step : Step) × (steps ≡ step ∷ []) × IsStep text step
one_step text [] made = absurd made
one_step text (step ∷ []) made = (step, refl, made.0)
one_step text (step ∷ more ∷ rest) made = absurd made.1

no_others : (others : List (List ℕ)) → length others ≤ 0 → others ≡ []
no_others [] few = refl
no_others (l ∷ others) few = absurd (omega (arith, few))

only : (b : Bool) → b || false ≡ b
only true = refl
only false = refl

pub line_noted : (t : ℕ) (old new : Users) (stopped lost : Bool) (had : Option Buffers) (b : Buffers)
    (line rest : List ℕ) → stopped ≡ false → had ≡ Some b → b.waiting ≡ line ++ (10 ∷ rest) → IsPlain line
    → length b.unsent ≤ 65536
    → ((keeps : Bool) (text : List ℕ) (step : Step) → kept line ≡ kept text → IsStepOf keeps text step → (s : List ℕ)
    → last_in new s ≡ cond (is_it s (session_in step)) (Some t) (last_in old s))
    → (lines : List (List ℕ)) (steps : List Step) → IsTaken true stopped lost 1 had lines steps
    → HasNoted (Some old) (Some new) (Ran t lines steps ∷ [])
line_noted t old new stopped lost had b line rest goes has waits plain short notes lines steps taken =
    let (text, others, is, same) = taken.first b line rest goes has waits plain short (omega arith) in
    let counted : length lines ≡ suc (length others) = ap (λ (l : List (List ℕ)). length l) is in
    let none : others ≡ [] = no_others others (omega (arith, counted, taken.few)) in
    let (step, one, made) =
    one_step text steps (subst (λ (l : List (List ℕ)). AreSteps l steps) (is ∙ ap (λ (l : List (List ℕ)). text ∷ l) none) taken.made) in
    λ s u e.
    ap (λ (l : List Step). cond (is_used s l) (Some t) (last_in old s)) one
    ∙ ap (λ o. cond o (Some t) (last_in old s)) (only (is_it s (session_in step)))
    ∙ sym (notes true text step same made s) ∙ e

pub nobody_noted : (made : List Call) → HasNoted None None made
nobody_noted made = λ s u e. absurd (none-some u e)

pub on_err : {A E : Type 0} (P : Type 0) (r : Result A E) → is_err r ≡ true → OnErr r P → P
on_err P (Ok x) is h = absurd (false≢true is)
on_err P (Err e) is h = h

pub on_ok : {A E : Type 0} (P : Type 0) (r : Result A E) → is_err r ≡ false → OnOk r P → P
on_ok P (Ok x) is h = h
on_ok P (Err e) is h = absurd (false≢true (sym is))

-- what `?` returns
pub same_error : {A : Type 0} (r : Result A Closing) (w : Closing) → IsErrAnd r (λ e. e ≡ w) → r ≡ Err w
same_error (Ok x) w is = absurd is
same_error (Err e) w is = ap (λ v. Err v) is

pub error_has : {A : Type 0} (P : Closing → Type 0) (r : Result A Closing) (w : Closing) → IsErrAnd r (λ e. e ≡ w) → P w
    → IfErr r P
error_has P (Ok x) w is h = absurd is
error_has P (Err e) w is h = subst P (sym is) h

-- ---- what a part of a turn leaves to the next

pub has_read_on : {S : Type 0} (remaining : S → Option (List ℕ)) (old mid new : S) (input later : Input)
    → remaining new ≡ remaining mid → later ≡ input → HasRead remaining old mid input → HasRead remaining old new later
has_read_on remaining old mid new input later same still (inl ended) = inl (still ∙ ended)
has_read_on remaining old mid new input later same still (inr (bytes, some, read)) =
    inr (bytes, some, subst (λ o. Consumes (remaining old) o bytes) (sym same) read)

pub at_end_on : (P : Type 0) (mid new : Option (List ℕ)) → new ≡ mid → P ⊎ IsAtEnd mid → P ⊎ IsAtEnd new
at_end_on P mid new same (inl h) = inl h
at_end_on P mid new same (inr end) = inr (subst (λ o. IsAtEnd o) (sym same) end)

pub not_broken : (why is : Closing) → why ≡ is → (is ≡ Broken → ⊥) → why ≡ Broken → ⊥
not_broken why is same apart e = apart (sym same ∙ e)

pub memory_apart : Memory ≡ Broken → ⊥
memory_apart e = cc

pub ended_apart : Ended ≡ Broken → ⊥
ended_apart e = cc

pub memory_unended : (why : Closing) (P : Type 0) → why ≡ Memory → why ≡ Ended → P
memory_unended why P is e = absurd (apart (sym is ∙ e))
  where
    apart : Memory ≡ Ended → ⊥
    apart e = cc

pub broken_unended : (why : Closing) (P : Type 0) → why ≡ Broken → why ≡ Ended → P
broken_unended why P is e = absurd (apart (sym is ∙ e))
  where
    apart : Broken ≡ Ended → ⊥
    apart e = cc

pub if_ended : {A : Type 0} (r : Result A Closing) (P Q : Type 0) → IfErr r (λ why. (why ≡ Ended) × P × Q)
    → IfErr r (λ why. why ≡ Ended → P)
if_ended (Ok x) P Q is = tt
if_ended (Err why) P Q is = λ e. is.1

pub ended_unbroken : {A : Type 0} (r : Result A Closing) (P Q : Type 0) → IfErr r (λ why. (why ≡ Ended) × P × Q)
    → IfErr r (λ why. why ≢ Broken)
ended_unbroken (Ok x) P Q is = tt
ended_unbroken (Err why) P Q is = λ e. not_broken why Ended is.0 ended_apart e
