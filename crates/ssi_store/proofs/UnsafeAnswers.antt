-- What is answered Unsafe: an act was judged, and its pivot is the smallest that would stand. Whatever else names a
-- pivot after that act answers Unsafe too.
use Rattle.std.proofs.Common.{Bool, List, None, Option, Some, ap, cond, false, nat_le, refl, subst, take, true, ◌≡◌, ◌∷◌, ◌∙◌, nat_lt, ℕ}
use Rattle.std.proofs.lemmas.Option.{none-some}
use Rattle.adya_values.specs.Computing.Shapes.{numbers_rise}
use Rattle.adya_values.specs.Meaning.Events.{shown}
use Rattle.adya_values.specs.Meaning.Histories.{FinalPair}
use Rattle.adya_keys.specs.Meaning.Keys.{key_le, key_lt}
use Rattle.ssi_conflict.specs.Computing.Steps.{smallest_ordered_pivot, smallest_pivot}
use Rattle.ssi_conflict.specs.Meaning.Calls.{Call}
use Rattle.ssi_conflict.specs.Clauses.Pairs.{IsSmallest}
use Rattle.ssi_snapshot.specs.Meaning.Reached.{reached}
use Rattle.ssi_store.specs.Meaning.Acts.{Act, Commits, Gets, Scans, acts, is_open, operations, begun}
use Rattle.ssi_store.specs.Meaning.Courses.{Answer, Begun, Command, Command as Do, Committed, Course, Done, Long, Range, Refusal, Refused, Rows, Spent, Unsafe, next_txn, txn_for}
use Rattle.ssi_store.specs.Laws.{OrderedRefusesNoMore, WouldStand, judged}
use Rattle.ssi_store.specs.Meaning.Replies.{conflict, got, reply, reply_for, reply_idle, reply_in, rows, scan_answer, unless_conflict, unless_downward, unless_long, unless_pivot}
use Rattle.ssi_store.specs.Clauses.Following.{Follows}
use Rattle.ssi_store.specs.Meaning.Seeing.{sees}
use Rattle.ssi_store.specs.Meaning.Tracked.{tracked}
use Rattle.adya_keys.proofs.KeyOrder.{key_le-from_not}
use Rattle.ssi_store.proofs.ReachedKeys.{reached_upward}
use Rattle.ssi_store.proofs.PivotRules.{IsRule, ordered_names_earlier}
use Rattle.ssi_store.proofs.SoundLogs.{Sound}
use Rattle.ssi_store.proofs.SoundCourses.{Stands, course_stands}
use Rattle.ssi_store.proofs.TrackedCalls.{begun_are, tracked_allowed}

-- what an answer says of the tests that it passed
pivot_through : (o : Option ℕ) (a : Answer) (p : ℕ) → ((x : ℕ) → a ≡ Unsafe x → ⊥) → unless_pivot o a ≡ Unsafe p
    → o ≡ Some p
pivot_through None a p never e = absurd (never p e)
pivot_through (Some x) a p never e = let same : x ≡ p = cc in ap Some same

refusal_through : (b : Bool) (r : Refusal) (a : Answer) (p : ℕ) → cond b (Refused r) a ≡ Unsafe p
    → (b ≡ false) × (a ≡ Unsafe p)
refusal_through true r a p e = absurd (cc (e))
refusal_through false r a p e = (refl, e)

conflict_through : (k : Option (List ℕ)) (log : List Act) (a : Answer) (p : ℕ) → unless_conflict k log a ≡ Unsafe p
    → (k ≡ None) × (a ≡ Unsafe p)
conflict_through None log a p e = (refl, e)
conflict_through (Some k) log a p e = absurd (cc (e))

got_is_safe : (v : Option (List ℕ)) (x : ℕ) → got v ≡ Unsafe x → ⊥
got_is_safe None x e = cc
got_is_safe (Some v) x e = cc

done_is_safe : (t : ℕ) (log : List Act) (p : ℕ) → unless_long t log Done ≡ Unsafe p → ⊥
done_is_safe t log p e =
    let wrong : Done ≡ Unsafe p = (refusal_through (nat_le 65535 (operations t log)) Long Done p e).1 in cc (wrong)

idle_is_safe : (c : Course) (m : Command) (p : ℕ) → reply_idle c m ≡ Unsafe p → ⊥
idle_is_safe c (Do.Begin s) p e = by_test (nat_lt 4294967295 (next_txn c)) e
  where
    by_test : (b : Bool) → cond b (Refused Spent) (Begun (next_txn c)) ≡ Unsafe p → ⊥
    by_test true f = cc
    by_test false f = cc
idle_is_safe c (Do.Get s k) p e = cc
idle_is_safe c (Do.Put s k v) p e = cc
idle_is_safe c (Do.Del s k) p e = cc
idle_is_safe c (Do.Scan s low high) p e = cc
idle_is_safe c (Do.ScanFirst s low high n) p e = cc
idle_is_safe c (Do.Commit s) p e = cc
idle_is_safe c (Do.Abort s) p e = cc
idle_is_safe c Do.Collect p e = cc
idle_is_safe c Do.Stat p e = cc

-- the transaction of a command is open
pub txn_open : (pivot : List Call → Option ℕ) (c : Course) → Stands pivot c → (m : Command) (t : ℕ) → txn_for m c ≡ Some t
    → is_open t (acts c) ≡ true
txn_open pivot c s (Do.Begin v) t e = s.opened v t e
txn_open pivot c s (Do.Get v k) t e = s.opened v t e
txn_open pivot c s (Do.Put v k x) t e = s.opened v t e
txn_open pivot c s (Do.Del v k) t e = s.opened v t e
txn_open pivot c s (Do.Scan v low high) t e = s.opened v t e
txn_open pivot c s (Do.ScanFirst v low high n) t e = s.opened v t e
txn_open pivot c s (Do.Commit v) t e = s.opened v t e
txn_open pivot c s (Do.Abort v) t e = s.opened v t e
txn_open pivot c s Do.Collect t e = absurd (none-some t e)
txn_open pivot c s Do.Stat t e = absurd (none-some t e)

-- the act that was judged, which begins no transaction, and that whatever names a pivot after it answers Unsafe
pub record IsJudged (pivot : List Call → Option ℕ) (t : ℕ) (log : List Act) (m : Command) (p : ℕ) : Type 0 where
  pub act : Act
  pub judges : judged t log m ≡ Some act
  pub same_begun : begun (act ∷ log) ≡ begun log
  pub sound : is_open t log ≡ true → Sound log → Sound (act ∷ log)
  pub names : pivot (tracked (act ∷ log)) ≡ Some p
  pub likewise : (other : List Call → Option ℕ) (q : ℕ) → other (tracked (act ∷ log)) ≡ Some q
      → reply_in other t log m ≡ Unsafe q

module _ (pivot : List Call → Option ℕ) (t : ℕ) (log : List Act) where
  read_judged : (m : Command) (act : Act) (a : Answer) → judged t log m ≡ Some act
      → begun (act ∷ log) ≡ begun log → (is_open t log ≡ true → Sound log → Sound (act ∷ log))
      → ((x : ℕ) → a ≡ Unsafe x → ⊥) → (p : ℕ)
      → unless_long t log (unless_pivot (pivot (tracked (act ∷ log))) a) ≡ Unsafe p
      → ((other : List Call → Option ℕ)
      → reply_in other t log m ≡ unless_long t log (unless_pivot (other (tracked (act ∷ log))) a))
      → IsJudged pivot t log m p
  read_judged m act a judges same_begun sound never p e is =
      let after : List Call = tracked (act ∷ log) in
      let long = refusal_through (nat_le 65535 (operations t log)) Long (unless_pivot (pivot after) a) p e in
      record {
        act = act;
        judges = judges;
        same_begun = same_begun;
        sound = sound;
        names = pivot_through (pivot after) a p never long.1;
        likewise = λ other q f. is other ∙ ap (λ b. cond b (Refused Long) (unless_pivot (other after) a)) long.0
            ∙ ap (λ o. unless_pivot o a) f;
      }

  scan_judged : (m : Command) (low high up : List ℕ) (found : List FinalPair) → judged t log m ≡ Some (Scans t low up)
      → (key_le low high ≡ true → key_le low up ≡ true) → (p : ℕ)
      → unless_downward low high (unless_long t log (scan_answer pivot t log low up found)) ≡ Unsafe p
      → ((other : List Call → Option ℕ) → reply_in other t log m
      ≡ unless_downward low high (unless_long t log (scan_answer other t log low up found)))
      → IsJudged pivot t log m p
  scan_judged m low high up found judges bounds p e is =
      let looked : (List Call → Option ℕ) → Answer = λ other. unless_long t log (scan_answer other t log low up found) in
      let range = refusal_through (key_lt high low) Range (looked pivot) p e in
      read_judged m (Scans t low up) (Rows found) judges refl
      (λ live sound. ((live, bounds (key_le-from_not low high range.0)), sound)) (λ x h. cc) p range.1
      (λ other. is other ∙ ap (λ b. cond b (Refused Range) (looked other)) range.0)

  judged_in : (m : Command) (p : ℕ) → reply_in pivot t log m ≡ Unsafe p → IsJudged pivot t log m p
  judged_in (Do.Begin s) p e = absurd (cc (e))
  judged_in (Do.Put s k v) p e = absurd (done_is_safe t log p e)
  judged_in (Do.Del s k) p e = absurd (done_is_safe t log p e)
  judged_in (Do.Abort s) p e = absurd (cc (e))
  judged_in Do.Collect p e = absurd (cc (e))
  judged_in Do.Stat p e = absurd (cc (e))
  judged_in (Do.Get s k) p e =
      let found : Option (List ℕ) = shown (sees t k log) in
      read_judged (Do.Get s k) (Gets t k) (got found) refl refl (λ live sound. (live, sound)) (got_is_safe found) p e
      (λ other. refl)
  judged_in (Do.Scan s low high) p e =
      scan_judged (Do.Scan s low high) low high high (rows t low high log) refl (λ up. up) p e (λ other. refl)
  judged_in (Do.ScanFirst s low high n) p e =
      let found : List FinalPair = take n (rows t low high log) in
      scan_judged (Do.ScanFirst s low high n) low high (reached high n found) found refl
      (reached_upward t low high n log) p e (λ other. refl)
  judged_in (Do.Commit s) p e =
      let after : List Call = tracked (Commits t ∷ log) in
      let none = conflict_through (conflict t log) log (unless_pivot (pivot after) Committed) p e in
      record {
        act = Commits t;
        judges = refl;
        same_begun = refl;
        sound = λ live sound. (record { opened = live; no_conflict = none.0 }, sound);
        names = pivot_through (pivot after) Committed p (λ x h. cc) none.1;
        likewise = λ other q f. ap (λ k. unless_conflict k log (unless_pivot (other after) Committed)) none.0
            ∙ ap (λ o. unless_pivot o Committed) f;
      }

-- an answer Unsafe, with the transaction of its command
pub record IsRefused (pivot : List Call → Option ℕ) (c : Course) (m : Command) (p : ℕ) : Type 0 where
  pub txn : ℕ
  pub opened : txn_for m c ≡ Some txn
  pub judging : IsJudged pivot txn (acts c) m p

refused_by : (pivot : List Call → Option ℕ) (c : Course) (m : Command) (p : ℕ) → reply pivot c m ≡ Unsafe p
    → IsRefused pivot c m p
refused_by pivot c m p e = by_txn (txn_for m c) refl e
  where
    by_txn : (o : Option ℕ) → txn_for m c ≡ o → reply_for pivot o c m ≡ Unsafe p → IsRefused pivot c m p
    by_txn None g h = absurd (idle_is_safe c m p h)
    by_txn (Some t) g h = record { txn = t; opened = g; judging = judged_in pivot t (acts c) m p h }

pub unsafe_by : (IsStanding : ℕ → List Call → Type 0) (pivot : List Call → Option ℕ) → IsRule IsStanding pivot
    → (c : Course) → Follows pivot c → (m : Command) (p : ℕ) → reply pivot c m ≡ Unsafe p → WouldStand IsStanding c m p
unsafe_by IsStanding pivot rule c f m p e =
    let stands = course_stands pivot c f in
    let refused = refused_by pivot c m p e in
    let judging = refused.judging in
    let after : List Act = judging.act ∷ acts c in
    record {
      txn = refused.txn;
      act = judging.act;
      opened = refused.opened;
      judges = judging.judges;
      smallest = subst (IsSmallest IsStanding (tracked after)) judging.names (rule.names (tracked after)
          (tracked_allowed after
          (judging.sound (txn_open pivot c stands m refused.txn refused.opened) stands.sound)));
    }

pub ordered_refuses_no_more : OrderedRefusesNoMore
ordered_refuses_no_more c m p e =
    let refused = refused_by smallest_ordered_pivot c m p e in
    let judging = refused.judging in
    let after : List Act = judging.act ∷ acts c in
    let q = ordered_names_earlier (tracked after) p judging.names in (
      q.0,
      ap (λ o. reply_for smallest_pivot o c m) refused.opened ∙ judging.likewise smallest_pivot q.0 q.1,
      λ rise. q.2 (ap numbers_rise (begun_are after ∙ judging.same_begun) ∙ rise),
    )
