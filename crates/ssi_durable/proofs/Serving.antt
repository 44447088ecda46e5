-- What the calls of its hub and of its journal make of a server.
use Rattle.std.proofs.Common.{◌≡◌, ℕ, ◌≤◌, Bool, true, false, cond, Option, Some, None, nat_eq, List, [], ◌∷◌, ◌++◌, length, refl, sym, ◌∙◌, ap, subst, arith, length-append}
use Rattle.std.specs.Prelude.{◌==◌, ◌<◌, not, nat_le, Result, Ok, Err, MatchResult, MatchOption, IfNone, IfSome}
use Rattle.std.proofs.lemmas.Bool.{false≢true, and_parts, le-leb}
use Rattle.std.proofs.lemmas.Option.{same_Some, none-some}
use Rattle.std.proofs.lemmas.List.{append-nil, append_assoc}
use Rattle.sqlite_disk.specs.declared.Disk.{Ghosts}
use Rattle.adya_keys.specs.Meaning.Keys.{Bytes}
use Rattle.ssi_store.specs.Meaning.Courses.{Course}
use Rattle.adya_line.specs.Meaning.Lines.{IsPlain}
use Rattle.ssi_log.specs.Meaning.Texts.{HasNoZero}
use Rattle.std.specs.List.{All}
use Rattle.ssi_line.specs.Meaning.Steps.{Step, IsStepOf, MayFollow, steps_text}
use Rattle.ssi_line.specs.Clauses.Counting.{counts, logged_course}
use Rattle.ssi_line.specs.Clauses.Ends.{WentOnLogged}
use Rattle.ssi_line.specs.Clauses.Answers.{kept}
use Rattle.ssi_hub.specs.Clauses.Buffers.{Buffers}
use Rattle.ssi_hub.specs.Clauses.Calls.{Call, Opened, Received, Ran, Wrote, Closed, is_open, steps_of, written_to, all_steps, with_call, with_run}
use Rattle.ssi_hub.specs.Clauses.Clipping.{has_line}
use Rattle.ssi_hub.specs.Clauses.Stepping.{may_step, is_ready}
use Rattle.ssi_hub.specs.declared.hub.Hub.{Hub}
use Rattle.ssi_hub.specs.Mirror.{Stands}
use Rattle.ssi_durable.specs.declared.holds.Holds.{Holds}
use Rattle.ssi_durable.specs.declared.journal.Journal.{Journal}
use Rattle.ssi_durable.specs.declared.server.Server.{Server}
use Rattle.ssi_durable.specs.Meaning.Logs.{counted, logged, told, HaveLed, IsLogged}
use Rattle.ssi_durable.specs.Clauses.Serving.{Began, from_start, HasGoneOn, IsTold}
use Rattle.ssi_durable.specs.Clauses.Recovery.{IsReplayed}
use Rattle.ssi_durable.specs.Mirror.Journals.{Keeps}
use Rattle.ssi_durable.specs.Mirror.Holds.{all_wait, free_in}
use Rattle.ssi_durable.specs.Mirror.Servers.{Serves, gives_early}
use Rattle.ssi_durable.specs.Clauses.Holding.{AreHeld, RestsOn}
use Rattle.ssi_durable.proofs.Holding.{Grown, held_still, held_step}
use Rattle.ssi_durable.specs.Machinery.Noting.{noted}
use Rattle.ssi_durable.proofs.Stepping.{AreLettered, ArePrinted, AreShort, clean_of, command_of, one_logged, plain_of}

-- ---- what calls add

-- after whatever calls these are made, they add these lines, and nothing more is written
pub record Adds (made : List Call) (lines : List Bytes) : Type 0 where
  pub lines_are : (calls : List Call) → logged (made ++ calls) ≡ logged calls ++ lines
  pub told_are : (calls : List Call) → told (made ++ calls) ≡ told calls
  pub written_is : (calls : List Call) (t : ℕ) → written_to t (made ++ calls) ≡ written_to t calls

-- of each connection they add these steps
abbrev pub AddSteps : List Call → (ℕ → List Step) → Type 0
AddSteps made steps = (t : ℕ) (calls : List Call) → steps_of t (made ++ calls) ≡ steps_of t calls ++ steps t

-- ---- calls that neither carry out a line nor write

pub record IsQuiet (calls now : List Call) : Type 0 where
  pub made : List Call
  pub is : now ≡ made ++ calls
  pub adds : Adds made []
  pub none : (t : ℕ) (before : List Call) → steps_of t (made ++ before) ≡ steps_of t before
  pub led : (before : List Call) (start end : Course) → HaveLed start before end → HaveLed start (made ++ before) end

pub same_is_quiet : (calls : List Call) → IsQuiet calls calls
same_is_quiet calls = record {
  made = [];
  is = refl;
  adds = record { lines_are = λ cs. sym (append-nil (logged cs)); told_are = λ cs. refl; written_is = λ cs t. refl };
  none = λ t cs. refl;
  led = λ before start end led. led;
}

pub opened_is_quiet : (t : ℕ) (calls : List Call) → IsQuiet calls (Opened t ∷ calls)
opened_is_quiet t calls = record {
  made = Opened t ∷ [];
  is = refl;
  adds = record { lines_are = λ cs. sym (append-nil (logged cs)); told_are = λ cs. refl; written_is = λ cs u. refl };
  none = λ u cs. refl;
  led = λ before start end led. led;
}

received_if : (b : Bool) (t : ℕ) (bytes : Bytes) (calls : List Call) → IsQuiet calls (cond b (Received t bytes ∷ calls) calls)
received_if true t bytes calls = record {
  made = Received t bytes ∷ [];
  is = refl;
  adds = record { lines_are = λ cs. sym (append-nil (logged cs)); told_are = λ cs. refl; written_is = λ cs u. refl };
  none = λ u cs. refl;
  led = λ before start end led. led;
}
received_if false t bytes calls = same_is_quiet calls

pub received_is_quiet : (t : ℕ) (bytes : Bytes) (calls : List Call) → IsQuiet calls (with_call (Received t bytes) calls)
received_is_quiet t bytes calls = received_if (is_open t calls) t bytes calls

closed_if : (b : Bool) (t : ℕ) (calls : List Call) → IsQuiet calls (cond b (Closed t ∷ calls) calls)
closed_if true t calls = record {
  made = Closed t ∷ [];
  is = refl;
  adds = record { lines_are = λ cs. sym (append-nil (logged cs)); told_are = λ cs. refl; written_is = λ cs u. refl };
  none = λ u cs. refl;
  led = λ before start end led. led;
}
closed_if false t calls = same_is_quiet calls

pub closed_is_quiet : (t : ℕ) (calls : List Call) → IsQuiet calls (with_call (Closed t) calls)
closed_is_quiet t calls = closed_if (is_open t calls) t calls

-- ---- a line that was carried out

open_run : (lost : Bool) (t : ℕ) (lines : List Bytes) (steps : List Step) (calls : List Call) → is_open t calls ≡ true
    → with_run lost t lines steps calls ≡ cond lost (Closed t ∷ Ran t lines steps ∷ calls) (Ran t lines steps ∷ calls)
open_run true t lines steps calls is_there =
    ap (with_call (Closed t)) (ap (λ (b : Bool). cond b (Ran t lines steps ∷ calls) calls) is_there)
    ∙ ap (λ (b : Bool). cond b (Closed t ∷ Ran t lines steps ∷ calls) (Ran t lines steps ∷ calls)) is_there
open_run false t lines steps calls is_there = ap (λ (b : Bool). cond b (Ran t lines steps ∷ calls) calls) is_there

closed_run : (lost : Bool) (t : ℕ) (lines : List Bytes) (steps : List Step) (calls : List Call) → is_open t calls ≡ false
    → with_run lost t lines steps calls ≡ calls
closed_run true t lines steps calls none =
    ap (with_call (Closed t)) (ap (λ (b : Bool). cond b (Ran t lines steps ∷ calls) calls) none)
    ∙ ap (λ (b : Bool). cond b (Closed t ∷ calls) calls) none
closed_run false t lines steps calls none = ap (λ (b : Bool). cond b (Ran t lines steps ∷ calls) calls) none

-- a connection of which a line was carried out is open
open_by : (b lost : Bool) (t : ℕ) (line : Bytes) (step : Step) (calls : List Call) → is_open t calls ≡ b
    → all_steps (with_run lost t (line ∷ []) (step ∷ []) calls) ≡ all_steps calls ++ (step ∷ []) → is_open t calls ≡ true
open_by true lost t line step calls e more = e
open_by false lost t line step calls e more =
    let none : all_steps calls ≡ all_steps calls ++ (step ∷ []) =
    sym (ap all_steps (closed_run lost t (line ∷ []) (step ∷ []) calls e)) ∙ more in
    absurd (omega (arith, ap length none, length-append (all_steps calls) (step ∷ [])))

-- the calls with a run of one line of the connection
pub record HasRun (t : ℕ) (calls now : List Call) (line : Bytes) (step : Step) : Type 0 where
  pub made : List Call
  pub is : now ≡ made ++ calls
  pub adds : Adds made (counted (line ∷ []) (step ∷ []))
  pub steps : AddSteps made (λ u. cond (t == u) (step ∷ []) [])
  pub led : (before : List Call) (start mid end : Course) → HaveLed start before mid → IsLogged mid line step end
      → HaveLed start (made ++ before) end

step_if : (b : Bool) (steps more : List Step) → cond b (steps ++ more) steps ≡ steps ++ cond b more []
step_if true steps more = refl
step_if false steps more = sym (append-nil steps)

ran : (lost : Bool) (t : ℕ) (line : Bytes) (step : Step) (calls : List Call)
    → HasRun t calls (cond lost (Closed t ∷ Ran t (line ∷ []) (step ∷ []) ∷ calls) (Ran t (line ∷ []) (step ∷ []) ∷ calls)) line step
ran true t line step calls = record {
  made = Closed t ∷ Ran t (line ∷ []) (step ∷ []) ∷ [];
  is = refl;
  adds = record { lines_are = λ cs. refl; told_are = λ cs. refl; written_is = λ cs u. refl };
  steps = λ u cs. step_if (t == u) (steps_of u cs) (step ∷ []);
  led = λ before start mid end led is. (mid, led, (end, is, refl));
}
ran false t line step calls = record {
  made = Ran t (line ∷ []) (step ∷ []) ∷ [];
  is = refl;
  adds = record { lines_are = λ cs. refl; told_are = λ cs. refl; written_is = λ cs u. refl };
  steps = λ u cs. step_if (t == u) (steps_of u cs) (step ∷ []);
  led = λ before start mid end led is. (mid, led, (end, is, refl));
}

pub has_run : (lost : Bool) (t : ℕ) (line : Bytes) (step : Step) (calls : List Call)
    → all_steps (with_run lost t (line ∷ []) (step ∷ []) calls) ≡ all_steps calls ++ (step ∷ [])
    → HasRun t calls (with_run lost t (line ∷ []) (step ∷ []) calls) line step
has_run lost t line step calls more =
    let is_there = open_by (is_open t calls) lost t line step calls refl more in
    subst (λ (now : List Call). HasRun t calls now line step)
    (sym (open_run lost t (line ∷ []) (step ∷ []) calls is_there)) (ran lost t line step calls)

-- ---- what was noted of the line

pub ready_has : (stopped : Bool) (had : Option Buffers) → may_step stopped had ≡ true
    → (b : Buffers) × (had ≡ Some b) × (has_line b.waiting ≡ true)
ready_has stopped None e = absurd (false≢true e)
ready_has stopped (Some b) e =
    let ready = (and_parts (not stopped) (is_ready b) e).1 in
    (b, refl, (and_parts (has_line b.waiting) (nat_le (length b.unsent) 65536) ready).0)

kept_by : (fits : Bool) (line text : Bytes) → cond fits (Some line) None ≡ Some text → line ≡ text
kept_by true line text e = same_Some line text e
kept_by false line text e = absurd (none-some text e)

-- of a line that is short, the front of which is kept as it is, all was noted
pub noted_is : (front line : Bytes) → length line ≤ 4096 → kept front ≡ kept line → noted front ≡ line
noted_is front line short same =
    let is : front ≡ line =
    kept_by (nat_le (length front) 4096) front line
    (same ∙ ap (λ (b : Bool). cond b (Some line) None) (le-leb (length line) 4096 short)) in
    ap noted is ∙ ap (λ (b : Bool). cond b line []) (le-leb (length line) 4096 short)

told_on : (made calls : List Call) (lines : List Bytes) → Adds made lines → IsTold calls → IsTold (made ++ calls)
told_on made calls lines adds was = λ t.
    let (unsent, e) = was t in (
      unsent,
      ap (λ (cs : List Call). steps_text (steps_of t cs)) (adds.told_are calls) ∙ e
          ∙ ap (λ (w : Bytes). w ++ unsent) (sym (adds.written_is calls t)),
    )

-- ---- tests that were turned

pub was_false : (b : Bool) → not b ≡ true → b ≡ false
was_false true e = absurd (false≢true e)
was_false false e = refl

pub was_true : (b : Bool) → not b ≡ false → b ≡ true
was_true true e = refl
was_true false e = absurd (false≢true (sym e))

-- ---- results

pub match_by : {T E : Type 0} {P P' : T → Type 0} {Q Q' : E → Type 0} (r : Result T E) → ((x : T) → P x → P' x)
    → ((e : E) → Q e → Q' e) → MatchResult r P Q → MatchResult r P' Q'
match_by (Ok x) p q m = p x m
match_by (Err e) p q m = q e m

pub option_by : {T : Type 0} {P P' : Type 0} {Q Q' : T → Type 0} (o : Option T) → (P → P') → ((x : T) → Q x → Q' x) → IfNone o P
    → IfSome o Q → MatchOption o P' Q'
option_by None p q none some = p none
option_by (Some x) p q none some = q x some

module _ {D : Type 0} {disk : Ghosts D} where
  -- the lines with one that doesn't count, or with one that does
  pub not_counted : (j : Journal D disk) (sure all : List Bytes) (line : Bytes) (step : Step) → counts step ≡ false → Keeps j sure all
      → Keeps j sure (all ++ counted (line ∷ []) (step ∷ []))
  not_counted j sure all line step e keeps =
      subst (λ (b : Bool). Keeps j sure (all ++ cond b (line ∷ []) [])) (sym e)
      (subst (λ (ls : List Bytes). Keeps j sure ls) (sym (append-nil all)) keeps)

  is_counted : (j : Journal D disk) (sure all : List Bytes) (line : Bytes) (step : Step) → counts step ≡ true
      → Keeps j sure (all ++ (line ∷ [])) → Keeps j sure (all ++ counted (line ∷ []) (step ∷ []))
  is_counted j sure all line step e keeps = subst (λ (b : Bool). Keeps j sure (all ++ cond b (line ∷ []) [])) (sym e) keeps

module _ {D : Type 0} {disk : Ghosts D} where
  -- what was noted of a line that counts is the line, and it was added
  pub added_line : (dumps : Bool) (j : Journal D disk) (sure all : List Bytes) (line : Bytes) (step : Step) → AreShort → ArePrinted
      → IsStepOf dumps line step → counts step ≡ true → (front bytes : Bytes) → bytes ≡ noted front → kept front ≡ kept line
      → (IsPlain bytes → HasNoZero bytes → Keeps j sure (all ++ (bytes ∷ [])))
      → Keeps j sure (all ++ counted (line ∷ []) (step ∷ []))
  added_line dumps j sure all line step short printed is e front bytes was same keeps =
      let asked = command_of dumps line step e is in
      let one : bytes ≡ line = was ∙ noted_is front line (short asked.0 line asked.1) same in
      let letters = subst (λ (t : Bytes). All (λ b. 32 ≤ b) t) (sym one) (printed asked.0 line asked.1) in
      is_counted j sure all line step e
      (subst (λ (b : Bytes). Keeps j sure (all ++ (b ∷ []))) one (keeps (plain_of bytes letters) (clean_of bytes letters)))

-- ---- on what rests what was written

-- calls that carry nothing out and write nothing
quiet_rests : (early : Bool) (holds : Holds) (sure since before made : List Call) → Adds made []
    → ((t : ℕ) (cs : List Call) → steps_of t (made ++ cs) ≡ steps_of t cs) → RestsOn early holds sure since before
    → RestsOn early holds sure (made ++ since) before
quiet_rests false holds sure since before made adds none was = was ∙ sym (adds.told_are since)
quiet_rests true holds sure since before made adds none was = record {
  recent = made ++ was.recent;
  cut = ap (λ (cs : List Call). made ++ cs) was.cut ∙ sym (append_assoc made was.recent sure);
  each = λ t. held_still (all_wait holds) (free_in holds t) t (sure ++ before) was.recent made (none t was.recent)
      (adds.written_is (was.recent ++ (sure ++ before)) t) (was.each t);
}

-- the lines of all calls are sure, and no reply waits
pub all_rest : (holds : Holds) (dumps : Bool) (hub : Hub) (calls since before : List Call) → calls ≡ since ++ before
    → Stands dumps hub calls → ((t : ℕ) → free_in holds t ≡ None) → AreHeld holds since since before
all_rest holds dumps hub calls since before parts stands none = record {
  recent = [];
  cut = refl;
  each = λ t.
      let (left, unsent, served, is) = stands.served t in record {
        told = record {
          unwritten = unsent;
          told =
              ap steps_text (append-nil (steps_of t (since ++ before)))
              ∙ subst (λ (cs : List Call). steps_text (steps_of t cs) ≡ written_to t cs ++ unsent) parts served.replies;
        };
        free_is = λ e. none t;
      };
}

-- ---- servers

module _ {S D : Type 0} {disk : Ghosts D} where
  -- calls that add these lines
  serves_on : (dumps : Bool) (is_at : S → Course → Type 0) (n : ℕ) (began : Began) (old new : Server S D disk)
      (calls now made : List Call) (more : List Bytes) → now ≡ made ++ calls → Adds made more
      → (was : Serves dumps is_at n began old calls) → Stands dumps new.hub now → HasGoneOn is_at n began.lines new.store (made ++ was.since)
      → gives_early new ≡ gives_early old → RestsOn began.early new.holds was.sure (made ++ was.since) began.before
      → Keeps new.journal (began.lines ++ logged was.sure) (began.lines ++ (logged was.since ++ more))
      → Serves dumps is_at n began new now
  serves_on dumps is_at n began old new calls now made more is adds was stands gone mode rests keeps = record {
    since = made ++ was.since;
    parts = is ∙ ap (λ (cs : List Call). made ++ cs) was.parts ∙ sym (append_assoc made was.since began.before);
    stands = stands;
    gone = gone;
    told = subst IsTold (sym is) (told_on made calls more adds was.told);
    mode = mode ∙ was.mode;
    sure = was.sure;
    rests = rests;
    keeps = subst (λ (ls : List Bytes). Keeps new.journal (began.lines ++ logged was.sure) (began.lines ++ ls))
        (sym (adds.lines_are was.since)) keeps;
  }

  -- a call that adds nothing
  pub quiet : (dumps : Bool) (is_at : S → Course → Type 0) (n : ℕ) (began : Began) (old new : Server S D disk)
      (calls now : List Call) → IsQuiet calls now → (was : Serves dumps is_at n began old calls) → Stands dumps new.hub now
      → new.store ≡ old.store → gives_early new ≡ gives_early old → new.holds ≡ old.holds
      → Keeps new.journal (began.lines ++ logged was.sure) (began.lines ++ logged was.since)
      → Serves dumps is_at n began new now
  quiet dumps is_at n began old new calls now is was stands store mode holds keeps =
      let gone = was.gone in
      serves_on dumps is_at n began old new calls now is.made [] is.is is.adds was stands (record {
        has_header = gone.has_header;
        start = gone.start;
        replayed = gone.replayed;
        end = gone.end;
        led = is.led was.since gone.start gone.end gone.led;
        at = subst (λ (s : S). is_at s gone.end) (sym store) gone.at;
      })
      mode
      (subst (λ (h : Holds). RestsOn began.early h was.sure (is.made ++ was.since) began.before) (sym holds)
      (quiet_rests began.early old.holds was.sure was.since began.before is.made is.adds is.none was.rests))
      (subst (λ (ls : List Bytes). Keeps new.journal (began.lines ++ logged was.sure) (began.lines ++ ls))
      (sym (append-nil (logged was.since))) keeps)

  -- Something was written to a connection. By default all lines are sure, unless it was nothing
  pub written : (dumps : Bool) (is_at : S → Course → Type 0) (n : ℕ) (began : Began) (old new : Server S D disk)
      (calls : List Call) (t : ℕ) (bytes : Bytes) → (was : Serves dumps is_at n began old calls)
      → Stands dumps new.hub (with_call (Wrote t bytes) calls) → new.store ≡ old.store → new.journal ≡ old.journal
      → gives_early new ≡ gives_early old
      → (began.early ≡ false → 0 < length bytes
      → Keeps old.journal (began.lines ++ logged was.since) (began.lines ++ logged was.since))
      → (began.early ≡ true → is_open t calls ≡ true → AreHeld new.holds was.sure (Wrote t bytes ∷ was.since) began.before)
      → (began.early ≡ true → is_open t calls ≡ false → AreHeld new.holds was.sure was.since began.before)
      → Serves dumps is_at n began new (with_call (Wrote t bytes) calls)
  written dumps is_at n began old new calls t bytes was stands store journal mode sure held unheld =
      by_open (is_open t calls) refl stands
    where
      gone_now : (since : List Call) → HaveLed was.gone.start since was.gone.end → HasGoneOn is_at n began.lines new.store since
      gone_now since led = record {
        has_header = was.gone.has_header;
        start = was.gone.start;
        replayed = was.gone.replayed;
        end = was.gone.end;
        led = led;
        at = subst (λ (s : S). is_at s was.gone.end) (sym store) was.gone.at;
      }

      written_if : (b : Bool) (w : Bytes) → w ≡ cond b (w ++ []) w
      written_if true w = sym (append-nil w)
      written_if false w = refl

      told_now : (bs : Bytes) → Stands dumps new.hub (Wrote t bs ∷ calls) → IsTold (Wrote t bs ∷ calls)
      told_now [] stood = λ u.
          let (unsent, e) = was.told u in
          (unsent, e ∙ ap (λ (w : Bytes). w ++ unsent) (written_if (nat_eq t u) (written_to u calls)))
      told_now (x ∷ xs) stood = λ u.
          let (left, unsent, served, is) = stood.served u in (unsent, served.replies)

      with_sure : (since : List Call) → logged since ≡ logged was.since → HasGoneOn is_at n began.lines new.store since
          → (now : List Call) → now ≡ since ++ began.before → Stands dumps new.hub now → IsTold now → (s : List Call)
          → RestsOn began.early new.holds s since began.before
          → Keeps old.journal (began.lines ++ logged s) (began.lines ++ logged was.since) → Serves dumps is_at n began new now
      with_sure since lines gone now parts stood tells s rests keeps = record {
        since = since;
        parts = parts;
        stands = stood;
        gone = gone;
        told = tells;
        mode = mode ∙ was.mode;
        sure = s;
        rests = rests;
        keeps = subst (λ (j : Journal D disk). Keeps j (began.lines ++ logged s) (began.lines ++ logged since)) (sym journal)
            (subst (λ (ls : List Bytes). Keeps old.journal (began.lines ++ logged s) (began.lines ++ ls)) (sym lines) keeps);
      }

      -- the connection is open
      with_bytes : (bs : Bytes) → Stands dumps new.hub (Wrote t bs ∷ calls) → (s : List Call)
          → RestsOn began.early new.holds s (Wrote t bs ∷ was.since) began.before
          → Keeps old.journal (began.lines ++ logged s) (began.lines ++ logged was.since)
          → Serves dumps is_at n began new (Wrote t bs ∷ calls)
      with_bytes bs stood s rests keeps =
          with_sure (Wrote t bs ∷ was.since) refl (gone_now (Wrote t bs ∷ was.since) was.gone.led) (Wrote t bs ∷ calls) (ap (λ (cs : List Call). Wrote t bs ∷ cs) was.parts) stood
          (told_now bs stood) s rests keeps

      by_default : (bs : Bytes) → began.early ≡ false → (0 < length bs
          → Keeps old.journal (began.lines ++ logged was.since) (began.lines ++ logged was.since))
          → Stands dumps new.hub (Wrote t bs ∷ calls) → Serves dumps is_at n began new (Wrote t bs ∷ calls)
      by_default [] e all stood =
          with_bytes [] stood was.sure
          (subst (λ (b : Bool). RestsOn b new.holds was.sure (Wrote t [] ∷ was.since) began.before) (sym e)
          (subst (λ (b : Bool). RestsOn b old.holds was.sure was.since began.before) e was.rests)) was.keeps
      by_default (x ∷ xs) e all stood =
          with_bytes (x ∷ xs) stood was.since
          (subst (λ (b : Bool). RestsOn b new.holds was.since (Wrote t (x ∷ xs) ∷ was.since) began.before) (sym e) refl)
          (all (omega arith))

      by_early : (b : Bool) → began.early ≡ b → is_open t calls ≡ true → Stands dumps new.hub (Wrote t bytes ∷ calls)
          → Serves dumps is_at n began new (Wrote t bytes ∷ calls)
      by_early true e opened stood =
          with_bytes bytes stood was.sure
          (subst (λ (b : Bool). RestsOn b new.holds was.sure (Wrote t bytes ∷ was.since) began.before) (sym e) (held e opened)) was.keeps
      by_early false e opened stood = by_default bytes e (sure e) stood

      -- it isn't
      same_rests : (b : Bool) → began.early ≡ b → is_open t calls ≡ false → RestsOn b old.holds was.sure was.since began.before
          → RestsOn b new.holds was.sure was.since began.before
      same_rests true e closed rests = unheld e closed
      same_rests false e closed rests = rests

      by_open : (b : Bool) → is_open t calls ≡ b → Stands dumps new.hub (cond (is_open t calls) (Wrote t bytes ∷ calls) calls)
          → Serves dumps is_at n began new (cond (is_open t calls) (Wrote t bytes ∷ calls) calls)
      by_open true e stood =
          subst (λ (x : Bool). Serves dumps is_at n began new (cond x (Wrote t bytes ∷ calls) calls)) (sym e)
          (by_early began.early refl e (subst (λ (x : Bool). Stands dumps new.hub (cond x (Wrote t bytes ∷ calls) calls)) e stood))
      by_open false e stood =
          subst (λ (x : Bool). Serves dumps is_at n began new (cond x (Wrote t bytes ∷ calls) calls)) (sym e)
          (with_sure was.since refl (gone_now was.since was.gone.led) calls was.parts
          (subst (λ (x : Bool). Stands dumps new.hub (cond x (Wrote t bytes ∷ calls) calls)) e stood) was.told was.sure
          (same_rests began.early refl e was.rests) was.keeps)

  -- a segment that has just begun, with connections that have made these calls
  pub begins : (dumps : Bool) (is_at : S → Course → Type 0) (n : ℕ) (early : Bool) (lines : List Bytes) (server : Server S D disk)
      (calls : List Call) → IsReplayed is_at n lines server.store → Stands dumps server.hub calls → IsTold calls
      → gives_early server ≡ early → ((t : ℕ) → free_in server.holds t ≡ None)
      → Keeps server.journal lines lines
      → Serves dumps is_at n (record { early = early; lines = lines; before = calls }) server calls
  begins dumps is_at n early lines server calls was stands told mode none keeps = record {
    since = [];
    parts = refl;
    stands = stands;
    gone = record {
      has_header = was.has_header;
      start = was.course;
      replayed = was.replayed;
      end = was.course;
      led = refl;
      at = was.at;
    };
    told = told;
    mode = mode;
    sure = [];
    rests = by_early early;
    keeps = subst (λ (ls : List Bytes). Keeps server.journal ls ls) (sym (append-nil lines)) keeps;
  }
    where
      by_early : (b : Bool) → RestsOn b server.holds [] [] calls
      by_early true = all_rest server.holds dumps server.hub calls [] calls refl stands none
      by_early false = refl

  -- a server that has just started
  pub starts : (dumps : Bool) (is_at : S → Course → Type 0) (n : ℕ) (lines : List Bytes) (server : Server S D disk)
      → IsReplayed is_at n lines server.store → Stands dumps server.hub [] → ((t : ℕ) → free_in server.holds t ≡ None)
      → Keeps server.journal lines lines → Serves dumps is_at n (from_start (gives_early server) lines) server []
  starts dumps is_at n lines server was stands none keeps =
      begins dumps is_at n (gives_early server) lines server [] was stands (λ t. ([], refl)) refl none keeps

  -- all lines are on the disk, and no reply waits
  pub settled : (dumps : Bool) (is_at : S → Course → Type 0) (n : ℕ) (began : Began) (old new : Server S D disk) (calls : List Call)
      → (was : Serves dumps is_at n began old calls) → new.hub ≡ old.hub → new.store ≡ old.store → gives_early new ≡ gives_early old
      → ((t : ℕ) → free_in new.holds t ≡ None)
      → ((sure all : List Bytes) → Keeps old.journal sure all → Keeps new.journal sure all)
      → ((sure all : List Bytes) → Keeps new.journal sure all → Keeps new.journal all all)
      → Serves dumps is_at n began new calls
  settled dumps is_at n began old new calls was hub store mode none keeps all =
      by_early began.early refl was.rests
    where
      with_sure : (s : List Call) → RestsOn began.early new.holds s was.since began.before
          → Keeps new.journal (began.lines ++ logged s) (began.lines ++ logged was.since) → Serves dumps is_at n began new calls
      with_sure s rests kept = record {
        since = was.since;
        parts = was.parts;
        stands = subst (λ (h : Hub). Stands dumps h calls) (sym hub) was.stands;
        gone = record {
          has_header = was.gone.has_header;
          start = was.gone.start;
          replayed = was.gone.replayed;
          end = was.gone.end;
          led = was.gone.led;
          at = subst (λ (s : S). is_at s was.gone.end) (sym store) was.gone.at;
        };
        told = was.told;
        mode = mode ∙ was.mode;
        sure = s;
        rests = rests;
        keeps = kept;
      }

      still : Keeps new.journal (began.lines ++ logged was.sure) (began.lines ++ logged was.since)
      still = keeps (began.lines ++ logged was.sure) (began.lines ++ logged was.since) was.keeps

      by_early : (b : Bool) → began.early ≡ b → RestsOn began.early old.holds was.sure was.since began.before
          → Serves dumps is_at n began new calls
      by_early true e rests =
          with_sure was.since
          (subst (λ (b : Bool). RestsOn b new.holds was.since was.since began.before) (sym e)
          (all_rest new.holds dumps old.hub calls was.since began.before was.parts was.stands none))
          (all (began.lines ++ logged was.sure) (began.lines ++ logged was.since) still)
      by_early false e rests =
          with_sure was.sure
          (subst (λ (b : Bool). RestsOn b new.holds was.sure was.since began.before) (sym e)
          (subst (λ (b : Bool). RestsOn b old.holds was.sure was.since began.before) e rests)) still

  -- a line was carried out
  pub line_served : (dumps : Bool) (is_at : S → Course → Type 0) (n : ℕ) (began : Began) (old new : Server S D disk)
      (calls : List Call) (lost : Bool) (t : ℕ) (line : Bytes) (step : Step) → AreLettered → (was : Serves dumps is_at n began old calls)
      → IsStepOf dumps line step → WentOnLogged is_at old.store step new.store
      → Stands dumps new.hub (with_run lost t (line ∷ []) (step ∷ []) calls)
      → all_steps (with_run lost t (line ∷ []) (step ∷ []) calls) ≡ all_steps calls ++ (step ∷ [])
      → gives_early new ≡ gives_early old
      → (HasRun t calls (with_run lost t (line ∷ []) (step ∷ []) calls) line step → began.early ≡ true
      → (held : AreHeld old.holds was.sure was.since began.before) → MayFollow was.gone.end step
      → Grown old.holds new.holds t step was.sure was.since began.before held)
      → Keeps new.journal (began.lines ++ logged was.sure)
      ((began.lines ++ logged was.since) ++ counted (line ∷ []) (step ∷ []))
      → Serves dumps is_at n began new (with_run lost t (line ∷ []) (step ∷ []) calls)
  line_served dumps is_at n began old new calls lost t line step law was is went stands more mode grown keeps =
      let run = has_run lost t line step calls more in
      let gone = was.gone in
      let now = went gone.end gone.at in
      serves_on dumps is_at n began old new calls (with_run lost t (line ∷ []) (step ∷ []) calls) run.made
      (counted (line ∷ []) (step ∷ [])) run.is run.adds was stands (record {
        has_header = gone.has_header;
        start = gone.start;
        replayed = gone.replayed;
        end = logged_course gone.end step;
        led = run.led was.since gone.start gone.end (logged_course gone.end step) gone.led (one_logged dumps law gone.end line step is now.0);
        at = now.1;
      })
      mode
      (by_early run now.0 began.early refl was.rests)
      (subst (λ (ls : List Bytes). Keeps new.journal (began.lines ++ logged was.sure) ls)
      (append_assoc began.lines (logged was.since) (counted (line ∷ []) (step ∷ []))) keeps)
    where
      by_early : (run : HasRun t calls (with_run lost t (line ∷ []) (step ∷ []) calls) line step) → MayFollow was.gone.end step
          → (b : Bool) → began.early ≡ b → RestsOn b old.holds was.sure was.since began.before
          → RestsOn b new.holds was.sure (run.made ++ was.since) began.before
      by_early run follows true e held =
          let g = grown run e held follows in
          held_step old.holds new.holds t g.before step was.sure was.since run.made began.before held run.steps run.adds.written_is g.held
      by_early run follows false e rests = rests ∙ sym (run.adds.told_are was.since)
