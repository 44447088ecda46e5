-- A turn of a connection, part by part.
use Rattle.std.proofs.Common.{◌≡◌, ◌≢◌, ℕ, ◌+◌, ◌<◌, ◌≤◌, Bool, true, false, cond, List, [], ◌∷◌, ◌++◌, length, Option, Some, None, refl, sym, ap, subst, ◌∙◌, append_assoc, append-nil, length-append, Result, Ok, Err, OnOk, IfErr, arith, ◌⊎◌, inl, inr}
use Rattle.std.specs.Prelude.{◌==◌, not, ◌&&◌, ◌||◌, is_some, IsErr, MatchOption, nat_le}
use Rattle.std.specs.List.{AllByRecursion}
use Rattle.std.specs.Result.{IsErrAnd}
use Rattle.std.proofs.lemmas.Bool.{both_ways, false≢true, and_parts, leb-true, le-leb}
use Rattle.std.proofs.lemmas.Option.{none-some, same_Some}
use Rattle.std.proofs.lemmas.List.Elements.{All-head, All-tail}
use Rattle.sqlite_disk.specs.declared.Disk.{Ghosts}
use Rattle.ssi_store.specs.Meaning.Courses.{Course}
use Rattle.ssi_line.specs.Meaning.Steps.{Step, Stopped, AllGoOn, is_stop}
use Rattle.ssi_hub.specs.declared.outcome.CarriedLine.{CarriedLine}
use Rattle.ssi_hub.specs.Clauses.Buffers.{Buffers}
use Rattle.ssi_hub.specs.Clauses.Clipping.{has_line}
use Rattle.ssi_hub.specs.Clauses.Calls.{Call, Opened, Received, Ran, Wrote, Closed, is_open, with_call, with_run, lines_of, all_steps}
use Rattle.ssi_hub.specs.Clauses.Outcomes.{lost_by}
use Rattle.ssi_hub.specs.Clauses.Runs.{EndsSo}
use Rattle.ssi_hub.specs.Clauses.Serving.{IsServed}
use Rattle.ssi_hub.specs.Clauses.Stepping.{IsLineStep, may_step}
use Rattle.ssi_hub.specs.Mirror.{buffers_of, is_stopped}
use Rattle.ssi_durable.specs.declared.server.Server.{Server}
use Rattle.ssi_durable.specs.Clauses.Serving.{Began}
use Rattle.ssi_durable.specs.Mirror.Servers.{Serves, HasStepped, hub_of, store_of}
use Rattle.ssi_cli.specs.declared.closing.Closing.{Closing}
use Rattle.ssi_cli.specs.declared.closing.Closing.TheVariants.{Ended, Broken}
use Rattle.ssi_cli.specs.declared.users.Users.{Users}
use Rattle.ssi_cli.specs.Meaning.Users.{session_in, is_it, is_used, last_by, last_after}
use Rattle.ssi_cli.specs.Clauses.Leaving.{HasNoted}
use Rattle.ssi_cli.specs.Clauses.Turns.{IsRunOf, Exchanged, HasUnsent, HasWaiting, IsFinished, HasAllSent, MayRun, WantsMore}
use Rattle.ssi_cli.specs.Mirror.{last_at}
use Rattle.ssi_data.specs.declared.tables.Tables.{Tables}
use Rattle.ssi_data.specs.Clauses.Calls.{Makes, MakesQuietly}
use Rattle.ssi_data.specs.Clauses.Timing.{IsTimed}
use Rattle.ssi_data.specs.Clauses.Turns.{HasCarriedOut, HasReplied}
use Rattle.ssi_data.proofs.Makings.{own, served_at, open_at}

-- ---- what a connection may do

pub may_run : (stopped : Bool) (o : Option Buffers) (r : Bool)
    → MatchOption o (r ≡ false) (λ b. r ≡ (not stopped && (has_line b.waiting && nat_le (length b.unsent) 65536))) → r ≡ true
    → MayRun stopped o
may_run stopped None r m is = absurd (both_ways r m is)
may_run stopped (Some b) r m is =
    let parts = and_parts (not stopped) (has_line b.waiting && nat_le (length b.unsent) 65536) (sym m ∙ is) in
    let more = and_parts (has_line b.waiting) (nat_le (length b.unsent) 65536) parts.1 in
    (goes stopped parts.0, more.0, leb-true (length b.unsent) 65536 more.1)
  where
    goes : (o : Bool) → not o ≡ true → o ≡ false
    goes false e = refl
    goes true e = absurd (false≢true e)

pub has_run : (stopped : Bool) (o : Option Buffers) → MayRun stopped o
    → (b : Buffers) × (o ≡ Some b) × (stopped ≡ false) × (has_line b.waiting ≡ true) × (length b.unsent ≤ 65536)
has_run stopped None may = absurd may
has_run stopped (Some b) may = (b, refl, may.0, may.1, may.2)

pub steps_if : (stopped : Bool) (o : Option Buffers) → MayRun stopped o → may_step stopped o ≡ true
steps_if stopped None may = absurd may
steps_if stopped (Some b) may =
    let (goes, waits, short) = may in
    ap (λ v. not v && (has_line b.waiting && nat_le (length b.unsent) 65536)) goes
    ∙ ap (λ v. v && nat_le (length b.unsent) 65536) waits ∙ le-leb (length b.unsent) 65536 short

pub opened_if : (stopped : Bool) (o : Option Buffers) → may_step stopped o ≡ true → (b : Buffers) × (o ≡ Some b)
opened_if stopped None is = absurd (false≢true is)
opened_if stopped (Some b) is = (b, refl)

pub cant_run : (stopped : Bool) (o : Option Buffers) (r : Bool)
    → MatchOption o (r ≡ false) (λ b. r ≡ (not stopped && (has_line b.waiting && nat_le (length b.unsent) 65536)))
    → r ≡ false → MayRun stopped o → ⊥
cant_run stopped None r m is may = may
cant_run stopped (Some b) r m is may = false≢true (sym is ∙ m ∙ steps_if stopped (Some b) may)

pub cant_want : (stopped : Bool) (o : Option Buffers) (r : Bool)
    → MatchOption o (r ≡ false) (λ b. r ≡ (not stopped && (not (has_line b.waiting) && nat_le (length b.unsent) 65536)))
    → r ≡ false → WantsMore stopped o → ⊥
cant_want stopped None r m is wants = wants
cant_want stopped (Some b) r m is wants =
    let (goes, none, short) = wants in
    false≢true
    (sym is ∙ m
    ∙ ap (λ o. not o && (not (has_line b.waiting) && nat_le (length b.unsent) 65536)) goes
    ∙ ap (λ o. not o && nat_le (length b.unsent) 65536) none
    ∙ le-leb (length b.unsent) 65536 short)

-- ---- who has used a session last

pub last_both : (s : List ℕ) (later calls : List Call) (was : Option ℕ)
    → last_after s (later ++ calls) was ≡ last_after s later (last_after s calls was)
last_both s [] calls was = refl
last_both s (c ∷ later) calls was = ap (last_by s c) (last_both s later calls was)

last_with : (s : List ℕ) (made : List Call) (was now : Option ℕ) (t : ℕ) → ((u : ℕ) → was ≡ Some u → now ≡ Some u)
    → last_after s made was ≡ Some t → last_after s made now ≡ Some t
last_with s [] was now t more is = more t is
last_with s (Opened u ∷ made) was now t more is = last_with s made was now t more is
last_with s (Received u bytes ∷ made) was now t more is = last_with s made was now t more is
last_with s (Ran u lines steps ∷ made) was now t more is =
    by_use (last_with s made was now t more) (is_used s steps) is
  where
    by_use : (last_after s made was ≡ Some t → last_after s made now ≡ Some t) → (used : Bool)
        → cond used (Some u) (last_after s made was) ≡ Some t → cond used (Some u) (last_after s made now) ≡ Some t
    by_use before true e = e
    by_use before false e = before e
last_with s (Wrote u bytes ∷ made) was now t more is = last_with s made was now t more is
last_with s (Closed u ∷ made) was now t more is = last_with s made was now t more is

pub noted_both : (old mid new : Option Users) (calls later : List Call) → HasNoted old mid calls → HasNoted mid new later
    → HasNoted old new (later ++ calls)
noted_both old mid new calls later first then = λ s t is.
    last_both s later calls (last_at old s)
    ∙ last_with s later (last_at mid s) (last_after s calls (last_at old s)) t (λ u e. first s u e) (then s t is)

pub nobody : {P : Type 0} (u : ℕ) → None ≡ Some u → P
nobody u e = absurd (none-some u e)

only : (b : Bool) → b || false ≡ b
only true = refl
only false = refl

-- ---- when a session had its last command

timed_both : (second : ℕ) (old mid new : Option Users) (calls later : List Call) → IsTimed second old mid calls
    → IsTimed second mid new later → IsTimed second old new (later ++ calls)
timed_both second old mid new calls later first then = λ s k e. by_later s k (then s k e)
  where
    by_calls : (s : List ℕ) (k : ℕ) → last_after s later None ≡ None
        → (k ≡ second) ⊎ ((last_at old s ≡ Some k) × (last_after s calls None ≡ None))
        → (k ≡ second) ⊎ ((last_at old s ≡ Some k) × (last_after s (later ++ calls) None ≡ None))
    by_calls s k none (inl now) = inl now
    by_calls s k none (inr (had, unused)) =
        inr (had, last_both s later calls None ∙ ap (last_after s later) unused ∙ none)

    by_later : (s : List ℕ) (k : ℕ) → (k ≡ second) ⊎ ((last_at mid s ≡ Some k) × (last_after s later None ≡ None))
        → (k ≡ second) ⊎ ((last_at old s ≡ Some k) × (last_after s (later ++ calls) None ≡ None))
    by_later s k (inl now) = inl now
    by_later s k (inr (had, unused)) = by_calls s k unused (first s k had)

-- one line was carried out
timed_by : (s : List ℕ) (step : Step) (t second k : ℕ) (was : Option ℕ)
    → cond (is_it s (session_in step)) (Some second) was ≡ Some k
    → (k ≡ second) ⊎ ((was ≡ Some k) × (◌≡◌ {A = Option ℕ} (cond (is_it s (session_in step) || false) (Some t) None) None))
timed_by s step t second k was e = by_use (is_it s (session_in step)) e
  where
    by_use : (used : Bool) → cond used (Some second) was ≡ Some k
        → (k ≡ second) ⊎ ((was ≡ Some k) × (◌≡◌ {A = Option ℕ} (cond (used || false) (Some t) None) None))
    by_use true e = inl (same_Some k second (sym e))
    by_use false e = inr (e, refl)

has_table : (o : Option Users) (s : List ℕ) (u : ℕ) → last_at o s ≡ Some u → is_some o ≡ true
has_table None s u e = absurd (none-some u e)
has_table (Some users) s u e = refl

-- the table, if there is one, has noted the step of a line
pub table_noted : (at : ℕ) (was prepared now : Option Users) (step : Step) (session : Option (List ℕ))
    → is_some now ≡ is_some prepared → is_some prepared ≡ is_some was → (is_some was ≡ true → session_in step ≡ session)
    → ((s : List ℕ) → last_at prepared s ≡ last_at was s)
    → ((s : List ℕ) (u : ℕ) → last_at now s ≡ Some u → cond (is_it s session) (Some at) (last_at prepared s) ≡ Some u)
    → (s : List ℕ) (u : ℕ) → last_at now s ≡ Some u → cond (is_it s (session_in step)) (Some at) (last_at was s) ≡ Some u
table_noted at was prepared now step session still kept is same noted = λ s u e.
    ap (λ (o : Option (List ℕ)). cond (is_it s o) (Some at) (last_at was s)) (is (sym kept ∙ sym still ∙ has_table now s u e))
    ∙ ap (λ (o : Option ℕ). cond (is_it s session) (Some at) o) (sym (same s)) ∙ noted s u e

-- no table has a session if there is none
pub no_users : {P : Type 0} (a b : Option Users) → is_some a || is_some b ≡ false → (s : List ℕ) (u : ℕ) → last_at a s ≡ Some u → P
no_users None b none s u e = nobody u e
no_users (Some users) b none s u e = absurd (false≢true (sym none))

pub no_times : {P : Type 0} (a b : Option Users) → is_some a || is_some b ≡ false → (s : List ℕ) (u : ℕ) → last_at b s ≡ Some u → P
no_times None None none s u e = nobody u e
no_times None (Some users) none s u e = absurd (false≢true (sym none))
no_times (Some users) b none s u e = absurd (false≢true (sym none))

-- ---- lines that are carried out

all_both : {A : Type 0} (P : A → Type 0) (xs ys : List A) → AllByRecursion P xs → AllByRecursion P ys → AllByRecursion P (xs ++ ys)
all_both P [] ys some more = more
all_both P (x ∷ xs) ys some more = (some.0, all_both P xs ys some.1 more)

lines_both : (t : ℕ) (later calls : List Call) → lines_of t (later ++ calls) ≡ lines_of t calls ++ lines_of t later
lines_both t [] calls = sym (append-nil (lines_of t calls))
lines_both t (Opened u ∷ later) calls = lines_both t later calls
lines_both t (Received u bytes ∷ later) calls = lines_both t later calls
lines_both t (Ran u lines steps ∷ later) calls = by_token (lines_both t later calls) (u == t)
  where
    by_token : lines_of t (later ++ calls) ≡ lines_of t calls ++ lines_of t later → (o : Bool)
        → cond o (lines_of t (later ++ calls) ++ lines) (lines_of t (later ++ calls))
        ≡ lines_of t calls ++ cond o (lines_of t later ++ lines) (lines_of t later)
    by_token both true = ap (λ l. l ++ lines) both ∙ append_assoc (lines_of t calls) (lines_of t later) lines
    by_token both false = both
lines_both t (Wrote u bytes ∷ later) calls = lines_both t later calls
lines_both t (Closed u ∷ later) calls = lines_both t later calls

-- the run of one line
abbrev ran : ℕ → List ℕ → Step → Call
ran t line step = Ran t (line ∷ []) (step ∷ [])

one_line : (t : ℕ) (line : List ℕ) (step : Step) → 0 < length (lines_of t (ran t line step ∷ []))
one_line t line step =
    subst (λ (l : List (List ℕ)). 0 < length l) (sym (ap (λ o. cond o (line ∷ []) []) (own t))) (omega arith)

with_step : (t : ℕ) (lost : Bool) (line : List ℕ) (step : Step) (calls : List Call) → is_open t calls ≡ true
    → with_run lost t (line ∷ []) (step ∷ []) calls
    ≡ cond lost (Closed t ∷ ran t line step ∷ calls) (ran t line step ∷ calls)
with_step t lost line step calls opened = by_loss lost
  where
    one : with_call (ran t line step) calls ≡ ran t line step ∷ calls
    one = ap (λ o. cond o (ran t line step ∷ calls) calls) opened

    by_loss : (o : Bool) → with_run o t (line ∷ []) (step ∷ []) calls
        ≡ cond o (Closed t ∷ ran t line step ∷ calls) (ran t line step ∷ calls)
    by_loss true =
        ap (λ (l : List Call). with_call (Closed t) l) one
        ∙ ap (λ o. cond o (Closed t ∷ ran t line step ∷ calls) (ran t line step ∷ calls)) opened
    by_loss false = one

not_closed : (t : ℕ) (made calls : List Call) → is_open t (Closed t ∷ (made ++ calls)) ≡ true → ⊥
not_closed t made calls opened = false≢true (sym (ap (λ o. not o && is_open t (made ++ calls)) (own t)) ∙ opened)

closed_after : (t : ℕ) (made runs calls : List Call) → made ≡ Closed t ∷ runs → is_open t (made ++ calls) ≡ true → ⊥
closed_after t made runs calls is opened =
    not_closed t runs calls (ap (λ (l : List Call). is_open t (l ++ calls)) (sym is) ∙ opened)

-- lines were carried out, and then more of a connection that was open
carried_on : (dumps : Bool) (t : ℕ) (was is now : Tables) (calls runs later : List Call) → AllByRecursion (IsRunOf t) runs
    → HasNoted was.users is.users runs → is.second ≡ was.second → IsTimed was.second was.times is.times runs → HasCarriedOut dumps t is now (runs ++ calls) later → HasCarriedOut dumps t was now calls (later ++ runs)
carried_on dumps t was is now calls runs later are noted clock timed then = record {
  runs = then.runs ++ runs;
  are = all_both (IsRunOf t) then.runs runs then.are are;
  noted = noted_both was.users is.users now.users runs later noted then.noted;
  clock = then.clock ∙ clock;
  timed = timed_both was.second was.times is.times now.times runs later timed
      (subst (λ (k : ℕ). IsTimed k is.times now.times later) clock then.timed);
  ends = by_end then.ends;
}
  where
    by_end : (later ≡ then.runs) ⊎ ((later ≡ Closed t ∷ then.runs) × (HasWaiting dumps t (then.runs ++ (runs ++ calls))
        ⊎ (0 < length (lines_of t then.runs))))
        → (later ++ runs ≡ then.runs ++ runs) ⊎ ((later ++ runs ≡ Closed t ∷ (then.runs ++ runs))
        × (HasWaiting dumps t ((then.runs ++ runs) ++ calls) ⊎ (0 < length (lines_of t (then.runs ++ runs)))))
    by_end (inl same) = inl (ap (λ (l : List Call). l ++ runs) same)
    by_end (inr (same, inl waits)) = inr (
      ap (λ (l : List Call). l ++ runs) same,
      inl (subst (λ (l : List Call). HasWaiting dumps t l) (sym (append_assoc then.runs runs calls)) waits),
    )
    by_end (inr (same, inr some)) =
        let both : length (lines_of t (then.runs ++ runs)) ≡ length (lines_of t runs) + length (lines_of t then.runs) =
        ap (λ (l : List (List ℕ)). length l) (lines_both t then.runs runs)
        ∙ length-append (lines_of t runs) (lines_of t then.runs) in
        inr (ap (λ (l : List Call). l ++ runs) same, inr (omega (arith, some, both)))

module _ {T D : Type 0} {disk : Ghosts D} (dumps : Bool) (is_at : T → Course → Type 0) (t : ℕ) where
  -- lines of the connection were carried out, and one at least if `May` holds
  abbrev pub Carried : (May : Type 0) (was now : Tables) (old new : Server T D disk) → Type 0
  Carried May was now old new = Makes dumps is_at old new (λ calls made. HasCarriedOut dumps t was now calls made × (May → 0 < length made))

  pub carried_none : (May : Type 0) (users : Tables) (old new : Server T D disk) → (May → ⊥)
      → ((n : ℕ) (began : Began) (calls : List Call) → Serves dumps is_at n began old calls → Serves dumps is_at n began new calls)
      → Carried May users users old new
  carried_none May users old new idle same = λ n began calls s. (
    [],
    same n began calls s,
    (record { runs = []; are = tt; noted = λ s u e. e; clock = refl; timed = λ s k e. inr (e, refl); ends = inl refl }, λ may. absurd (idle may)),
  )

  -- the table may have noted what is the same for clauses
  pub carried_same : (May : Type 0) (was now : Tables) (old new : Server T D disk) → (May → ⊥)
      → HasNoted was.users now.users [] → now.second ≡ was.second → IsTimed was.second was.times now.times []
      → ((n : ℕ) (began : Began) (calls : List Call) → Serves dumps is_at n began old calls → Serves dumps is_at n began new calls)
      → Carried May was now old new
  carried_same May was now old new idle noted clock timed same = λ n began calls s. (
    [],
    same n began calls s,
    (record { runs = []; are = tt; noted = noted; clock = clock; timed = timed; ends = inl refl }, λ may. absurd (idle may)),
  )

  -- a line was carried out, and its reply was lost or wasn't
  pub carried_step : (May : Type 0) (was now : Tables) (old new : Server T D disk) (carried : CarriedLine)
      (x : Buffers) → buffers_of (hub_of old) t ≡ Some x
      → ((n : ℕ) (began : Began) (calls : List Call) → Serves dumps is_at n began old calls
      → HasStepped dumps is_at n began t calls old new carried)
      → ((line : List ℕ) (step : Step)
      → IsLineStep dumps is_at (buffers_of (hub_of old) t) (store_of old) carried line step (store_of new)
      → (s : List ℕ) (u : ℕ) → last_at now.users s ≡ Some u → cond (is_it s (session_in step)) (Some t) (last_at was.users s) ≡ Some u)
      → now.second ≡ was.second
      → ((line : List ℕ) (step : Step)
      → IsLineStep dumps is_at (buffers_of (hub_of old) t) (store_of old) carried line step (store_of new)
      → (s : List ℕ) (k : ℕ) → last_at now.times s ≡ Some k
      → cond (is_it s (session_in step)) (Some was.second) (last_at was.times s) ≡ Some k)
      → Carried May was now old new
  carried_step May was now old new carried x has steps notes clock times = λ n began calls s.
      let (line, step, is, serves) = steps n began calls s in
      let opened = open_at dumps is_at old t x has n began calls s in
      let now_is = with_step t (lost_by carried.outcome) line step calls opened in
      by_loss n began calls line step is (lost_by carried.outcome) (subst (λ (l : List Call). Serves dumps is_at n began new l) now_is serves)
    where
      noted_runs : (line : List ℕ) (step : Step)
          → IsLineStep dumps is_at (buffers_of (hub_of old) t) (store_of old) carried line step (store_of new)
          → HasNoted was.users now.users (ran t line step ∷ [])
      noted_runs line step is = λ s u e.
          ap (λ o. cond o (Some t) (last_at was.users s)) (only (is_it s (session_in step))) ∙ notes line step is s u e

      timed_runs : (line : List ℕ) (step : Step)
          → IsLineStep dumps is_at (buffers_of (hub_of old) t) (store_of old) carried line step (store_of new)
          → IsTimed was.second was.times now.times (ran t line step ∷ [])
      timed_runs line step is = λ s k e.
          timed_by s step t was.second k (last_at was.times s) (times line step is s k e)

      by_loss : (n : ℕ) (began : Began) (calls : List Call) (line : List ℕ) (step : Step)
          → IsLineStep dumps is_at (buffers_of (hub_of old) t) (store_of old) carried line step (store_of new)
          → (o : Bool) → Serves dumps is_at n began new (cond o (Closed t ∷ ran t line step ∷ calls) (ran t line step ∷ calls))
          → (made : List Call) × Serves dumps is_at n began new (made ++ calls)
          × (HasCarriedOut dumps t was now calls made × (May → 0 < length made))
      by_loss n began calls line step is true serves = (
        Closed t ∷ ran t line step ∷ [],
        serves,
        (
          record {
            runs = ran t line step ∷ [];
            are = (refl, tt);
            noted = noted_runs line step is;
            clock = clock;
            timed = timed_runs line step is;
            ends = inr (refl, inr (one_line t line step));
          },
          λ may. omega arith,
        ),
      )
      by_loss n began calls line step is false serves = (
        ran t line step ∷ [],
        serves,
        (
          record {
            runs = ran t line step ∷ [];
            are = (refl, tt);
            noted = noted_runs line step is;
            clock = clock;
            timed = timed_runs line step is;
            ends = inl refl;
          },
          λ may. omega arith,
        ),
      )

  -- its table can't hold the session of the line that waits
  pub carried_closed : (May : Type 0) (was now : Tables) (old new : Server T D disk) (x : Buffers)
      → buffers_of (hub_of old) t ≡ Some x → has_line x.waiting ≡ true
      → ((n : ℕ) (began : Began) (calls : List Call) → Serves dumps is_at n began old calls
      → Serves dumps is_at n began new (with_call (Closed t) calls))
      → HasNoted was.users now.users [] → now.second ≡ was.second → IsTimed was.second was.times now.times []
      → Carried May was now old new
  carried_closed May was now old new x has waits closes noted clock timed = λ n began calls s.
      let hub = hub_of old in
      let (left, served, so, opened) = served_at dumps (buffers_of hub) hub.next (is_stopped hub) calls t x s.stands has in (
        Closed t ∷ [],
        subst (λ (l : List Call). Serves dumps is_at n began new l) (ap (λ o. cond o (Closed t ∷ calls) calls) opened)
            (closes n began calls s),
        (
          record {
            runs = [];
            are = tt;
            noted = noted;
            clock = clock;
            timed = timed;
            ends = inr (refl, inl (left, x.unsent, served, ap (λ (l : List ℕ). has_line l) (sym so) ∙ waits));
          },
          λ may. omega arith,
        ),
      )

  pub carried_if : (May More : Type 0) (was now : Tables) (old new : Server T D disk) → (May → More)
      → Carried More was now old new → Carried May was now old new
  carried_if May More was now old new more first = λ n began calls s.
      let (made, serves, (carried, some)) = first n began calls s in
      (made, serves, (carried, λ may. some (more may)))

  pub carried_both : (May First Then : Type 0) (was is now : Tables) (old mid new : Server T D disk)
      → (May → First ⊎ Then) → Carried First was is old mid
      → ((n : ℕ) (began : Began) (calls : List Call) → Serves dumps is_at n began mid calls → is_open t calls ≡ true)
      → Carried Then is now mid new → Carried May was now old new
  carried_both May First Then was is now old mid new which first opened then = λ n began calls s.
      let (made, serves, (carried, some)) = first n began calls s in
      by_end n began calls made serves carried some carried.ends
    where
      more : (runs later : List Call) → (First → 0 < length runs) → (Then → 0 < length later) → First ⊎ Then
          → 0 < length (later ++ runs)
      more runs later some others (inl f) = omega (arith, length-append later runs, some f)
      more runs later some others (inr t) = omega (arith, length-append later runs, others t)

      by_end : (n : ℕ) (began : Began) (calls made : List Call) → Serves dumps is_at n began mid (made ++ calls)
          → (carried : HasCarriedOut dumps t was is calls made) → (First → 0 < length made)
          → (made ≡ carried.runs) ⊎ ((made ≡ Closed t ∷ carried.runs) × (HasWaiting dumps t (carried.runs ++ calls)
          ⊎ (0 < length (lines_of t carried.runs))))
          → (made : List Call) × Serves dumps is_at n began new (made ++ calls)
          × (HasCarriedOut dumps t was now calls made × (May → 0 < length made))
      by_end n began calls made serves carried some (inl same) =
          let (later, on, (goes, others)) = then n began (made ++ calls) serves in
          let runs = subst (λ (l : List Call). AllByRecursion (IsRunOf t) l) (sym same) carried.are in (
            later ++ made,
            subst (λ (l : List Call). Serves dumps is_at n began new l) (sym (append_assoc later made calls)) on,
            (carried_on dumps t was is now calls made later runs carried.noted carried.clock carried.timed goes, λ may. more made later some others (which may)),
          )
      by_end n began calls made serves carried some (inr (same, why)) =
          absurd (closed_after t made carried.runs calls same (opened n began (made ++ calls) serves))

  -- a line that may be carried out is
  pub carried_maybe : (was now : Tables) (old new : Server T D disk) (o : Option CarriedLine)
      → MayRun (is_stopped (hub_of old)) (buffers_of (hub_of old) t)
      → is_some o ≡ may_step (is_stopped (hub_of old)) (buffers_of (hub_of old) t)
      → ((n : ℕ) (began : Began) (calls : List Call) → Serves dumps is_at n began old calls
      → MatchOption o (Serves dumps is_at n began new calls) (λ carried. HasStepped dumps is_at n began t calls old new carried))
      → ((carried : CarriedLine) (line : List ℕ) (step : Step)
      → IsLineStep dumps is_at (buffers_of (hub_of old) t) (store_of old) carried line step (store_of new)
      → (s : List ℕ) (u : ℕ) → last_at now.users s ≡ Some u → cond (is_it s (session_in step)) (Some t) (last_at was.users s) ≡ Some u)
      → now.second ≡ was.second
      → ((carried : CarriedLine) (line : List ℕ) (step : Step)
      → IsLineStep dumps is_at (buffers_of (hub_of old) t) (store_of old) carried line step (store_of new)
      → (s : List ℕ) (k : ℕ) → last_at now.times s ≡ Some k
      → cond (is_it s (session_in step)) (Some was.second) (last_at was.times s) ≡ Some k)
      → Carried (Unit {0}) was now old new
  carried_maybe was now old new None may when serves notes clock times =
      absurd (false≢true (when ∙ steps_if (is_stopped (hub_of old)) (buffers_of (hub_of old) t) may))
  carried_maybe was now old new (Some carried) may when serves notes clock times =
      let (b, has, goes, waits, short) = has_run (is_stopped (hub_of old)) (buffers_of (hub_of old) t) may in
      carried_step (Unit {0}) was now old new carried b has serves (notes carried) clock (times carried)

  pub if_ok : (was now : Tables) (old new : Server T D disk) → Carried (Unit {0}) was now old new
      → Makes dumps is_at old new (λ calls made. HasCarriedOut dumps t was now calls made × (0 < length made))
  if_ok was now old new first = λ n began calls s.
      let (made, serves, (carried, some)) = first n began calls s in (made, serves, (carried, some tt))

  pub if_err : (was now : Tables) (old new : Server T D disk) → Carried ⊥ was now old new
      → Makes dumps is_at old new (λ calls made. HasCarriedOut dumps t was now calls made × Unit {0})
  if_err was now old new first = λ n began calls s.
      let (made, serves, (carried, some)) = first n began calls s in (made, serves, (carried, tt))

  -- the same of a line whose result is passed on
  pub if_passed : {A E : Type 0} (r : Result A E) (May : Type 0) (was now : Tables) (old new : Server T D disk)
      → IsErr r → Carried ⊥ was now old new
      → Makes dumps is_at old new (λ calls made. HasCarriedOut dumps t was now calls made × (May → OnOk r (0 < length made)))
  if_passed (Ok x) May was now old new is first = absurd (false≢true is)
  if_passed (Err e) May was now old new is first = λ n began calls s.
      let (made, serves, (carried, some)) = first n began calls s in (made, serves, (carried, λ may. tt))

  pub of_ok : (was now : Tables) (old new : Server T D disk)
      → Makes dumps is_at old new (λ calls made. HasCarriedOut dumps t was now calls made × (0 < length made))
      → Carried (Unit {0}) was now old new
  of_ok was now old new first = λ n began calls s.
      let (made, serves, (carried, some)) = first n began calls s in (made, serves, (carried, λ may. some))

  pub of_err : (was now : Tables) (old new : Server T D disk)
      → Makes dumps is_at old new (λ calls made. HasCarriedOut dumps t was now calls made × Unit {0}) → Carried ⊥ was now old new
  of_err was now old new first = λ n began calls s.
      let (made, serves, (carried, none)) = first n began calls s in (made, serves, (carried, λ may. absurd may))

-- ---- the end of a connection

goes_to_end : (before : List Step) → AllGoOn (before ++ (Stopped ∷ [])) → ⊥
goes_to_end [] all = absurd (false≢true (sym (All-head (λ s. is_stop s ≡ false) Stopped [] all)))
goes_to_end (s ∷ before) all = goes_to_end before (All-tail (λ s. is_stop s ≡ false) s (before ++ (Stopped ∷ [])) all)

not_stopped : (stopped : Bool) (steps : List Step) → EndsSo stopped steps → AllGoOn steps → stopped ≡ false
not_stopped false steps ends all = refl
not_stopped true steps ends all = absurd (goes_to_end ends.before (subst (λ (l : List Step). AllGoOn l) ends.is all))

none_waits : (stopped has : Bool) (unsent : List ℕ) → stopped ≡ false → unsent ≡ []
    → ((stopped ≡ false) × (has ≡ true) × (length unsent ≤ 65536) → ⊥) → has ≡ false
none_waits stopped false unsent goes none cant = refl
none_waits stopped true unsent goes none cant =
    absurd (cant (goes, refl, omega (arith, ap (λ (l : List ℕ). length l) none)))

has_sent : (o : Option Buffers) → HasAllSent o → (b : Buffers) × (o ≡ Some b) × (b.unsent ≡ [])
has_sent None sent = absurd sent
has_sent (Some b) sent = (b, refl, sent)

module _ {T D : Type 0} {disk : Ghosts D} (dumps : Bool) (is_at : T → Course → Type 0) (t : ℕ) where
  pub finishes : (old new : Server T D disk) → HasAllSent (buffers_of (hub_of old) t)
      → (MayRun (is_stopped (hub_of old)) (buffers_of (hub_of old) t) → ⊥)
      → ((n : ℕ) (began : Began) (calls : List Call) → Serves dumps is_at n began old calls
      → Serves dumps is_at n began new (with_call (Closed t) calls))
      → MakesQuietly dumps is_at old new (λ calls made. (made ≡ Closed t ∷ []) × IsFinished dumps t calls)
  finishes old new sent idle closes = λ n began calls s.
      let hub = hub_of old in
      let (b, has, none) = has_sent (buffers_of hub t) sent in
      let (left, served, so, there) = served_at dumps (buffers_of hub) hub.next (is_stopped hub) calls t b s.stands has in
      let cant = subst (λ (o : Option Buffers). MayRun (is_stopped hub) o → ⊥) has idle in (
        Closed t ∷ [],
        subst (λ (l : List Call). Serves dumps is_at n began new l) (ap (λ o. cond o (Closed t ∷ calls) calls) there)
            (closes n began calls s),
        refl,
        (
          refl,
          (
            left,
            subst (λ (l : List ℕ). IsServed dumps t calls left l) none served,
            λ all. ap (λ (l : List ℕ). has_line l) (sym so)
                ∙ none_waits (is_stopped hub) (has_line b.waiting) b.unsent
                (not_stopped (is_stopped hub) (all_steps calls) s.stands.ends all) none cant,
          ),
        ),
      )

  module _ {S A : Type 0} (remaining contents : S → Option (List ℕ)) (start left end : S) where
    -- the client took no more
    pub replied_broken : (r : Result A Closing) (why : Closing) (old new : Server T D disk) → r ≡ Err why
        → (why ≡ Broken) × MakesQuietly dumps is_at old new (λ calls made. (earlier : List Call)
        × (made ≡ Closed t ∷ earlier) × HasUnsent dumps t (earlier ++ calls)
        × Exchanged remaining contents t start left earlier [])
        → MakesQuietly dumps is_at old new (λ calls made. HasReplied dumps remaining contents t start left r calls made)
    replied_broken r why old new is broken = λ n began calls s.
        let (made, serves, quiet, (earlier, same, unsent, one)) = broken.1 n began calls s in (
          made,
          serves,
          quiet,
          subst (λ (v : Result A Closing). HasReplied dumps remaining contents t start left v calls made)
              (sym (is ∙ ap (λ (w : Closing). Err w) broken.0))
              (record { writes = earlier; is = same; exchanged = one; left = (refl, unsent) }),
        )

    -- what it took was written, and it was closed if there is no more to do
    pub replied : (r : Result A Closing) (old mid new : Server T D disk) (P : Type 0) → end ≡ left
        → MakesQuietly dumps is_at old mid (λ _ made. Exchanged remaining contents t start left made [])
        → OnOk r (new ≡ mid)
        → IfErr r (λ why. (why ≡ Ended) × P × MakesQuietly dumps is_at mid new (λ calls made. (made ≡ Closed t ∷ []) × IsFinished dumps t calls))
        → MakesQuietly dumps is_at old new (λ calls made. HasReplied dumps remaining contents t start end r calls made)
    replied (Ok x) old mid new P same sent stays closes = λ n began calls s.
        let (made, serves, quiet, one) = sent n began calls s in (
          made,
          subst (λ (v : Server T D disk). Serves dumps is_at n began v (made ++ calls)) (sym stays) serves,
          quiet,
          record {
            writes = made;
            is = refl;
            exchanged = subst (λ (z : S). Exchanged remaining contents t start z made []) (sym same) one;
            left = refl;
          },
        )
    replied (Err why) old mid new P same sent stays closes = λ n began calls s.
        let (made, serves, quiet, one) = sent n began calls s in
        let (later, on, still, (is, finished)) = closes.2 n began (made ++ calls) serves in (
          Closed t ∷ made,
          subst (λ (l : List Call). Serves dumps is_at n began new (l ++ (made ++ calls))) is on,
          quiet,
          subst (λ (w : Closing). HasReplied {A = A} dumps remaining contents t start end (Err w) calls (Closed t ∷ made)) (sym closes.0)
              (record {
                writes = made;
                is = refl;
                exchanged = subst (λ (z : S). Exchanged remaining contents t start z made []) (sym same) one;
                left = (refl, finished);
              }),
        )

-- what `?` returns
pub same_error : {A E : Type 0} (r : Result A E) (w : E) → IsErrAnd r (λ e. e ≡ w) → r ≡ Err w
same_error (Ok x) w is = absurd is
same_error (Err e) w is = ap (λ v. Err v) is

pub error_has : {A E : Type 0} (P : E → Type 0) (r : Result A E) (w : E) → IsErrAnd r (λ e. e ≡ w) → P w → IfErr r P
error_has P (Ok x) w is h = absurd is
error_has P (Err e) w is h = subst P (sym is) h

pub broken_unended : (why : Closing) (P : Type 0) → why ≡ Broken → why ≡ Ended → P
broken_unended why P is e = absurd (apart (sym is ∙ e))
  where
    apart : Broken ≡ Ended → ⊥
    apart e = cc

pub if_ended : {A : Type 0} (r : Result A Closing) (P Q : Type 0) → IfErr r (λ why. (why ≡ Ended) × P × Q)
    → IfErr r (λ why. why ≡ Ended → P)
if_ended (Ok x) P Q is = tt
if_ended (Err why) P Q is = λ e. is.1

pub ended_unbroken : {A : Type 0} (r : Result A Closing) (P Q : Type 0) → IfErr r (λ why. (why ≡ Ended) × P × Q)
    → IfErr r (λ why. why ≢ Broken)
ended_unbroken (Ok x) P Q is = tt
ended_unbroken (Err why) P Q is = λ e. apart (sym is.0 ∙ e)
  where
    apart : Ended ≡ Broken → ⊥
    apart e = cc
