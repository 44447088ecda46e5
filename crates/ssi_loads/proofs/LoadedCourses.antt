-- To which course the lines of loading lead.
use Rattle.std.proofs.Common.{◌≡◌, ℕ, suc, ◌≤◌, ◌<◌, ◌+◌, Bool, true, false, cond, List, [], ◌∷◌, ◌++◌, Some, None, length, map, refl, sym, ◌∙◌, ap, subst, arith, nat_le, nat_lt}
use Rattle.std.specs.List.{AllByRecursion}
use Rattle.std.proofs.lemmas.Bool.{le-ltb, lt-leb}
use Rattle.adya_keys.specs.Meaning.Keys.{Key, Bytes, key_eq}
use Rattle.adya_values.specs.Meaning.Histories.{FinalPair}
use Rattle.adya_values.specs.Meaning.KeySets.{insert}
use Rattle.adya_values.specs.Meaning.Serial.{Contents, empty, put}
use Rattle.adya_line.specs.Meaning.Limits.{IsFinal}
use Rattle.ssi_conflict.specs.Computing.Steps.{smallest_ordered_pivot}
use Rattle.ssi_store.specs.Meaning.Sessions.{is_session, is_session_byte}
use Rattle.ssi_store.specs.Meaning.Acts.{Commits, acts, act_by, operations}
use Rattle.ssi_store.specs.Meaning.Courses.{Command, Begin, Put, Commit, Answer, Begun, Done, Committed, Refused, Spent, Long, Course, New, Then, next_txn, txn_in}
use Rattle.ssi_store.specs.Meaning.Replies.{reply, reply_for, unless_conflict, unless_pivot}
use Rattle.ssi_store.specs.Meaning.Tracked.{tracked}
use Rattle.ssi_line.specs.Meaning.Spelling.{command_text, IsCommand}
use Rattle.ssi_line.specs.Clauses.Counting.{is_refusal}
use Rattle.ssi_durable.specs.Meaning.Lines.{is_comment}
use Rattle.ssi_durable.specs.Meaning.Replays.{LeadsIf, Leads, Replays}
use Rattle.ssi_durable.proofs.Stepping.{replays_on}
use Rattle.ssi_loads.specs.Meaning.Loads.{loader, put_line, load_of}
use Rattle.ssi_loads.proofs.QuietLogs.{no_pivots, no_conflict, quiet_on}
use Rattle.ssi_loads.proofs.LoadedLogs.{IsIdleLog, IsOpenLog, nothing_loaded, log_begun, log_put, log_committed}

-- no session has a transaction
pub record IsIdle (m : Contents) (ks : List Key) (n : ℕ) (c : Course) : Type 0 where
  pub next : next_txn c ≡ n
  pub none : (s : Bytes) → txn_in s c ≡ None
  pub log : IsIdleLog m ks n (acts c)

-- the loading session has transaction t, and no other has one
pub record IsOpen (m : Contents) (ks : List Key) (t done : ℕ) (c : Course) : Type 0 where
  pub next : next_txn c ≡ suc t
  pub here : txn_in loader c ≡ Some t
  pub others : (s : Bytes) → key_eq loader s ≡ false → txn_in s c ≡ None
  pub log : IsOpenLog m ks t done (acts c)

pub idle_at_first : IsIdle empty [] 1 (New 1)
idle_at_first = record { next = refl; none = λ s. refl; log = nothing_loaded 1 }

-- a line leads to the course with its command and the reply to it
carried : (c : Course) (command : Command) (answer : Answer) → reply smallest_ordered_pivot c command ≡ answer
    → is_refusal answer ≡ false → IsCommand command → is_comment (command_text command) ≡ false
    → Leads c (command_text command) (Then c command answer)
carried c command answer e f good plain =
    subst (λ (b : Bool). LeadsIf b c (command_text command) (Then c command answer)) (sym plain) (record {
      command = command;
      is_line = record { good = good; same = refl };
      carried = ap is_refusal e ∙ f;
      is_next = ap (Then c command) (sym e);
    })

pub loads_as_session : is_session loader ≡ true
unfolding is_session_byte
loads_as_session = refl

module _ (m : Contents) (ks : List Key) where
  -- ---- begin

  begun_course : (n : ℕ) (c : Course) → IsIdle m ks n c → IsOpen m ks n 0 (Then c (Begin loader) (Begun n))
  begun_course n c was = record {
    next = refl;
    here = refl;
    others = λ s e. ap (λ b. cond b (Some n) (txn_in s c)) e ∙ was.none s;
    log = log_begun m ks n (acts c) was.log;
  }

  begin_leads : (n : ℕ) (c : Course) → IsIdle m ks n c → n ≤ 4294967295
      → Leads c (command_text (Begin loader)) (Then c (Begin loader) (Begun n))
  begin_leads n c was l =
      let few : nat_lt 4294967295 (next_txn c) ≡ false = le-ltb 4294967295 (next_txn c) (omega (arith, l, was.next)) in
      carried c (Begin loader) (Begun n)
      (ap (λ o. reply_for smallest_ordered_pivot o c (Begin loader)) (was.none loader)
      ∙ ap (λ b. cond b (Refused Spent) (Begun (next_txn c))) few ∙ ap Begun was.next)
      refl loads_as_session refl

  module _ (t done : ℕ) (c : Course) (was : IsOpen m ks t done c) where
    -- ---- put

    put_course : (row : FinalPair) → IsOpen (put m row.key (Some row.value)) (insert row.key ks) t (suc done)
        (Then c (Put loader row.key row.value) Done)
    put_course row = record {
      next = was.next;
      here = was.here;
      others = λ s e. ap (λ b. cond b (txn_in s c) (txn_in s c)) e ∙ was.others s e;
      log = subst (IsOpenLog (put m row.key (Some row.value)) (insert row.key ks) t (suc done))
          (sym (ap (λ o. act_by o (Put loader row.key row.value) Done ++ acts c) was.here))
          (log_put m ks t done (acts c) was.log row);
    }

    put_leads : (row : FinalPair) → IsFinal row → done < 65535
        → Leads c (put_line row) (Then c (Put loader row.key row.value) Done)
    put_leads row good l =
        let room : nat_le 65535 (operations t (acts c)) ≡ false =
        lt-leb 65535 (operations t (acts c)) (omega (arith, l, was.log.count)) in
        carried c (Put loader row.key row.value) Done
        (ap (λ o. reply_for smallest_ordered_pivot o c (Put loader row.key row.value)) was.here
        ∙ ap (λ b. cond b (Refused Long) Done) room)
        refl (loads_as_session, good.key, good.value) refl

    -- ---- commit

    none_left : (s : Bytes) (b : Bool) → key_eq loader s ≡ b → cond b None (txn_in s c) ≡ None
    none_left s true e = refl
    none_left s false e = was.others s e

    committed_course : IsIdle m ks (suc t) (Then c (Commit loader) Committed)
    committed_course = record {
      next = was.next;
      none = λ s. none_left s (key_eq loader s) refl;
      log = subst (IsIdleLog m ks (suc t)) (sym (ap (λ o. act_by o (Commit loader) Committed ++ acts c) was.here))
          (log_committed m ks t done (acts c) was.log);
    }

    commit_leads : Leads c (command_text (Commit loader)) (Then c (Commit loader) Committed)
    commit_leads =
        let calls = tracked (Commits t ∷ acts c) in
        carried c (Commit loader) Committed
        (ap (λ o. reply_for smallest_ordered_pivot o c (Commit loader)) was.here
        ∙ ap (λ o. unless_conflict o (acts c) (unless_pivot (smallest_ordered_pivot calls) Committed))
        (no_conflict t (acts c) was.log.since)
        ∙ ap (λ o. unless_pivot o Committed) (no_pivots calls (quiet_on t _ _ (tracked (acts c)) was.log.quiet)))
        refl loads_as_session refl

-- ---- many rows

-- the contents after these rows are written
abbrev pub filled : Contents → List FinalPair → Contents
filled m [] = m
filled m (row ∷ rows) = filled (put m row.key (Some row.value)) rows

-- the keys with those of these rows
abbrev pub with_keys : List Key → List FinalPair → List Key
with_keys ks [] = ks
with_keys ks (row ∷ rows) = with_keys (insert row.key ks) rows

-- the lines lead to a course of which this holds
pub record LeadTo (P : Course → Type 0) (c : Course) (lines : List Bytes) : Type 0 where
  pub course : Course
  pub replayed : Replays c lines course
  pub holds : P course

one_more : {P : Course → Type 0} (c next : Course) (line : Bytes) (lines : List Bytes) → Leads c line next
    → LeadTo P next lines → LeadTo P c (line ∷ lines)
one_more c next line lines leads rest = record {
  course = rest.course;
  replayed = (next, leads, rest.replayed);
  holds = rest.holds;
}

pub and_then : {P : Course → Type 0} (c mid : Course) (a b : List Bytes) → Replays c a mid → LeadTo P mid b → LeadTo P c (a ++ b)
and_then c mid a b first rest = record {
  course = rest.course;
  replayed = replays_on c a b mid rest.course first rest.replayed;
  holds = rest.holds;
}

puts_lead : (m : Contents) (ks : List Key) (t done : ℕ) (c : Course) (rows : List FinalPair) → IsOpen m ks t done c
    → AllByRecursion IsFinal rows → done + length rows ≤ 65535
    → LeadTo (IsIdle (filled m rows) (with_keys ks rows) (suc t)) c (map put_line rows ++ (command_text (Commit loader) ∷ []))
puts_lead m ks t done c [] was good l = record {
  course = Then c (Commit loader) Committed;
  replayed = (Then c (Commit loader) Committed, commit_leads m ks t done c was, refl);
  holds = committed_course m ks t done c was;
}
puts_lead m ks t done c (row ∷ rows) was good l =
    one_more c (Then c (Put loader row.key row.value) Done) (put_line row) (map put_line rows ++ (command_text (Commit loader) ∷ []))
    (put_leads m ks t done c was row good.0 (omega (arith, l)))
    (puts_lead (put m row.key (Some row.value)) (insert row.key ks) t (suc done) (Then c (Put loader row.key row.value) Done) rows
    (put_course m ks t done c was row) good.1 (omega (arith, l)))

pub load_leads : (m : Contents) (ks : List Key) (n : ℕ) (c : Course) (rows : List FinalPair) → IsIdle m ks n c → n ≤ 4294967295
    → AllByRecursion IsFinal rows → length rows ≤ 65535
    → LeadTo (IsIdle (filled m rows) (with_keys ks rows) (suc n)) c (load_of rows)
load_leads m ks n c rows was l good few =
    one_more c (Then c (Begin loader) (Begun n)) (command_text (Begin loader)) (map put_line rows ++ (command_text (Commit loader) ∷ []))
    (begin_leads m ks n c was l)
    (puts_lead m ks n 0 (Then c (Begin loader) (Begun n)) rows (begun_course m ks n c was) good (omega (arith, few)))
