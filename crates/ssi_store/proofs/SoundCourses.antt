-- The acts of a course that follows the replies are sound.
use Rattle.std.proofs.Common.{Bool, List, None, Option, Some, [], ap, arith, cond, false, inl, inr, nat_le, nat_lt, refl, subst, sym, take, true, ℕ, ◌++◌, ◌<◌, ◌==◌, ◌∙◌, ◌∷◌, ◌≡◌, ◌⊎◌}
use Rattle.std.proofs.lemmas.Bool.{both_ways, cases_Bool, cond-false, cond-true, eq-eqb, eqb-true, false_from_ne_true, ne_eqb, or_cases, or_from, or_left, or_parts, or_right}
use Rattle.std.proofs.lemmas.Option.{none-some, same_Some}
use Rattle.lemmas.proofs.Orderings.{bytes_eq-from, bytes_eq-itself, bytes_eq-other, bytes_eq-same}
use Rattle.adya_values.specs.Meaning.Events.{shown}
use Rattle.adya_values.specs.Meaning.Histories.{Dead, FinalPair, Live}
use Rattle.adya_keys.specs.Meaning.Keys.{key_eq, key_le, key_lt}
use Rattle.ssi_conflict.specs.Meaning.Calls.{Call}
use Rattle.ssi_snapshot.specs.Meaning.Reached.{reached}
use Rattle.ssi_store.specs.Meaning.Acts.{Aborts, Act, Collects, Commits, Gets, Scans, Begins, Writes, act_by, act_of, acts, has_aborted, has_committed, has_begun, is_open, operations}
use Rattle.ssi_store.specs.Meaning.Courses.{Aborted, Absent, Answer, Begun, Busy, Command, Command as Do, Committed, Conflict, Counts, Course, Done, Idle, Kept, Long, Memory, New, Range, Refusal, Refused, Rows, Spent, Then, Unsafe, Value, is_of, next_txn, txn_after, txn_for, txn_in}
use Rattle.ssi_store.specs.Meaning.Replies.{conflict, got, last_writer, reply_for, reply_idle, reply_in, rows, unless_conflict, unless_downward, unless_long, unless_pivot}
use Rattle.ssi_store.specs.Clauses.Following.{Follows}
use Rattle.ssi_store.specs.Meaning.Seeing.{sees}
use Rattle.ssi_store.specs.Meaning.Tracked.{tracked}
use Rattle.ssi_store.proofs.Closing.{open_to}
use Rattle.adya_keys.proofs.KeyOrder.{key_le-from_not}
use Rattle.ssi_store.proofs.ReachedKeys.{reached_upward}
use Rattle.ssi_store.proofs.Recorded.{versions}
use Rattle.ssi_store.proofs.SoundLogs.{Allowed, Safe, SafeAct, Sound, aborted_begun, committed_begun, open_from}

module _ (pivot : List Call → Option ℕ) where
  pub record Stands (c : Course) : Type 0 where
    pub sound : Sound (acts c)
    pub safe : Safe pivot (acts c)
    -- a session's transaction is open, and no other session's; and each open one is a session's
    pub opened : (s : List ℕ) (t : ℕ) → txn_in s c ≡ Some t → is_open t (acts c) ≡ true
    pub apart : (r s : List ℕ) (t : ℕ) → txn_in r c ≡ Some t → txn_in s c ≡ Some t → r ≡ s
    pub held : (t : ℕ) → is_open t (acts c) ≡ true → (s : List ℕ) × (txn_in s c ≡ Some t)
    pub below : (u : ℕ) → has_begun u (acts c) ≡ true → u < next_txn c

  -- a command does nothing
  pub record Quiet (o : Option ℕ) (c : Course) (m : Command) (a : Answer) : Type 0 where
    pub acts_are : act_by o m a ≡ []
    pub keeps : (x : Option ℕ) → txn_after x a ≡ x
    pub next_is : next_txn (Then c m a) ≡ next_txn c

  -- a command does an act that ends no transaction
  pub record Works (o : Option ℕ) (c : Course) (m : Command) (a : Answer) : Type 0 where
    pub act : Act
    pub acts_are : act_by o m a ≡ act ∷ []
    pub allowed : Allowed act (acts c)
    pub clear : SafeAct pivot act (acts c)
    pub keeps : (x : Option ℕ) → txn_after x a ≡ x
    pub next_is : next_txn (Then c m a) ≡ next_txn c
    pub still : (u : ℕ) → is_open u (act ∷ acts c) ≡ is_open u (acts c)
    pub same_begun : (u : ℕ) → has_begun u (act ∷ acts c) ≡ has_begun u (acts c)

  -- a command of the session s
  pub record IsOf (s : List ℕ) (c : Course) (m : Command) : Type 0 where
    pub session : (r : List ℕ) → is_of r m ≡ key_eq s r
    pub txn : txn_for m c ≡ txn_in s c

  -- a command ends its transaction
  pub record Ends (t : ℕ) (c : Course) (m : Command) (a : Answer) : Type 0 where
    pub act : Act
    pub acts_are : act_by (Some t) m a ≡ act ∷ []
    pub allowed : Allowed act (acts c)
    pub clear : SafeAct pivot act (acts c)
    pub drops : (x : Option ℕ) → txn_after x a ≡ None
    pub next_is : next_txn (Then c m a) ≡ next_txn c
    pub still : (u : ℕ) → (t ≡ u → ⊥) → is_open u (acts c) ≡ true → is_open u (act ∷ acts c) ≡ true
    pub others : (u : ℕ) → is_open u (act ∷ acts c) ≡ true → (t ≡ u → ⊥) × (is_open u (acts c) ≡ true)
    pub same_begun : (u : ℕ) → has_begun u (act ∷ acts c) ≡ has_begun u (acts c)

  txn_kept : (c : Course) (m : Command) (a : Answer) → ((x : Option ℕ) → txn_after x a ≡ x) → (r : List ℕ)
      → txn_in r (Then c m a) ≡ txn_in r c
  txn_kept c m a keeps r =
      elim (cases_Bool (is_of r m)) [
        | inl same ↦ cond-true {A = Option ℕ} (is_of r m) (txn_after (txn_in r c) a) (txn_in r c) same
            ∙ keeps (txn_in r c)
        | inr other ↦ cond-false {A = Option ℕ} (is_of r m) (txn_after (txn_in r c) a) (txn_in r c) other
      ]

  txn_dropped : (s : List ℕ) (c : Course) (m : Command) (a : Answer) → IsOf s c m
      → ((x : Option ℕ) → txn_after x a ≡ None) → (r : List ℕ) (t : ℕ) → txn_in r (Then c m a) ≡ Some t
      → (s ≡ r → ⊥) × (txn_in r c ≡ Some t)
  txn_dropped s c m a of drops r t e =
      elim (cases_Bool (is_of r m)) [
        | inl same ↦ absurd (none-some t (sym (drops (txn_in r c)) ∙ (sym
            (cond-true {A = Option ℕ} (is_of r m) (txn_after (txn_in r c) a) (txn_in r c) same) ∙ e)))
        | inr other ↦ (
          (λ same. both_ways _ other (of.session r ∙ bytes_eq-from s r same)),
          sym (cond-false {A = Option ℕ} (is_of r m) (txn_after (txn_in r c) a) (txn_in r c) other) ∙ e,
        )
      ]

  after_quiet : (o : Option ℕ) (c : Course) (m : Command) (a : Answer) → txn_for m c ≡ o → Stands c
      → Quiet o c m a → Stands (Then c m a)
  after_quiet o c m a e s q =
      let same : acts (Then c m a) ≡ acts c = ap (λ x. act_by x m a ++ acts c) e ∙ ap (λ l. l ++ acts c) q.acts_are in
      record {
        sound = subst Sound (sym same) s.sound;
        safe = subst (Safe pivot) (sym same) s.safe;
        opened = λ r t f. subst (λ l. is_open t l ≡ true) (sym same)
            (s.opened r t (sym (txn_kept c m a q.keeps r) ∙ f));
        apart = λ r v t f g. s.apart r v t (sym (txn_kept c m a q.keeps r) ∙ f) (sym (txn_kept c m a q.keeps v) ∙ g);
        held = λ u f.
            let h = s.held u (subst (λ l. is_open u l ≡ true) same f) in (h.0, txn_kept c m a q.keeps h.0 ∙ h.1);
        below = λ u f. subst (λ n. u < n) (sym q.next_is) (s.below u (subst (λ l. has_begun u l ≡ true) same f));
      }

  after_work : (o : Option ℕ) (c : Course) (m : Command) (a : Answer) → txn_for m c ≡ o → Stands c
      → Works o c m a → Stands (Then c m a)
  after_work o c m a e s q =
      let same : acts (Then c m a) ≡ q.act ∷ acts c = ap (λ x. act_by x m a ++ acts c) e
      ∙ ap (λ l. l ++ acts c) q.acts_are in
      record {
        sound = subst Sound (sym same) (q.allowed, s.sound);
        safe = subst (Safe pivot) (sym same) (q.clear, s.safe);
        opened = λ r u f. subst (λ l. is_open u l ≡ true) (sym same)
            (q.still u ∙ s.opened r u (sym (txn_kept c m a q.keeps r) ∙ f));
        apart = λ r v u f g. s.apart r v u (sym (txn_kept c m a q.keeps r) ∙ f) (sym (txn_kept c m a q.keeps v) ∙ g);
        held = λ u f.
            let h = s.held u (sym (q.still u) ∙ subst (λ l. is_open u l ≡ true) same f) in
            (h.0, txn_kept c m a q.keeps h.0 ∙ h.1);
        below = λ u f. subst (λ n. u < n) (sym q.next_is)
            (s.below u (sym (q.same_begun u) ∙ subst (λ l. has_begun u l ≡ true) same f));
      }

  after_end : (t : ℕ) (s : List ℕ) (c : Course) (m : Command) (a : Answer) → IsOf s c m → txn_in s c ≡ Some t
      → Stands c → Ends t c m a → Stands (Then c m a)
  after_end t v c m a of e s q =
      let same : acts (Then c m a) ≡ q.act ∷ acts c = ap (λ x. act_by x m a ++ acts c) (of.txn ∙ e)
      ∙ ap (λ l. l ++ acts c) q.acts_are in
      record {
        sound = subst Sound (sym same) (q.allowed, s.sound);
        safe = subst (Safe pivot) (sym same) (q.clear, s.safe);
        opened = λ r u f.
            let d = txn_dropped v c m a of q.drops r u f in
            subst (λ l. is_open u l ≡ true) (sym same)
            (q.still u (λ w. d.0 (s.apart v r u (e ∙ ap Some w) d.1)) (s.opened r u d.1));
        apart = λ r x u f g. s.apart r x u (txn_dropped v c m a of q.drops r u f).1
            (txn_dropped v c m a of q.drops x u g).1;
        held = λ u f.
            let before = q.others u (subst (λ l. is_open u l ≡ true) same f) in
            let h = s.held u before.1 in
            let other : is_of h.0 m ≡ false = of.session h.0 ∙ bytes_eq-other v h.0 (λ w.
            before.0 (same_Some t u (sym e ∙ (ap (λ x. txn_in x c) w ∙ h.1)))) in
            (h.0, cond-false {A = Option ℕ} (is_of h.0 m) (txn_after (txn_in h.0 c) a) (txn_in h.0 c) other ∙ h.1);
        below = λ u f. subst (λ n. u < n) (sym q.next_is)
            (s.below u (sym (q.same_begun u) ∙ subst (λ l. has_begun u l ≡ true) same f));
      }

  pub refused : (c : Course) (m : Command) (r : Answer) (x : Refusal) → r ≡ Refused x → Stands c → Stands (Then c m r)
  refused c m r x e s = subst (λ a. Stands (Then c m a)) (sym e) (after_quiet (txn_for m c) c m (Refused x) refl s
      (record { acts_are = none (txn_for m c) m; keeps = λ y. refl; next_is = refl }))
    where
      none_of : (t : ℕ) (m : Command) → act_of t m (Refused x) ≡ []
      none_of t (Do.Begin q) = refl
      none_of t (Do.Get q k) = refl
      none_of t (Do.Put q k v) = refl
      none_of t (Do.Del q k) = refl
      none_of t (Do.Scan q low high) = refl
      none_of t (Do.ScanFirst q low high n) = refl
      none_of t (Do.Commit q) = refl
      none_of t (Do.Abort q) = refl
      none_of t Do.Collect = refl
      none_of t Do.Stat = refl

      none : (o : Option ℕ) (m : Command) → act_by o m (Refused x) ≡ []
      none None m = refl
      none (Some t) m = none_of t m

  -- an abort, for whatever reason
  aborted : (t : ℕ) (s : List ℕ) (c : Course) (m : Command) (a : Answer) → IsOf s c m → txn_in s c ≡ Some t
      → Stands c → act_by (Some t) m a ≡ Aborts t ∷ [] → ((x : Option ℕ) → txn_after x a ≡ None)
      → next_txn (Then c m a) ≡ next_txn c → Stands (Then c m a)
  aborted t v c m a of e s f drops next = after_end t v c m a of e s (record {
    act = Aborts t;
    acts_are = f;
    allowed = s.opened v t e;
    clear = tt;
    drops = drops;
    next_is = next;
    still = λ u ne g.
        let o = open_from u (acts c) g in
        open_to u (Aborts t ∷ acts c) (record {
          begun = o.begun;
          uncommitted = o.uncommitted;
          unaborted = or_from (t == u) (has_aborted u (acts c)) (ne_eqb t u ne) o.unaborted;
        });
    others = λ u g.
        let o = open_from u (Aborts t ∷ acts c) g in
        let both = or_parts (t == u) (has_aborted u (acts c)) o.unaborted in (
          λ same. both_ways _ both.0 (eq-eqb t u same),
          open_to u (acts c) (record { begun = o.begun; uncommitted = o.uncommitted; unaborted = both.1 }),
        );
    same_begun = λ u. refl;
  })

  -- a read or a write, after which no pivot would stand
  work_done : (t : ℕ) (c : Course) (m : Command) (a : Answer) (x : Act) → txn_for m c ≡ Some t → Stands c
      → act_by (Some t) m a ≡ x ∷ [] → Allowed x (acts c) → SafeAct pivot x (acts c)
      → ((y : Option ℕ) → txn_after y a ≡ y) → next_txn (Then c m a) ≡ next_txn c
      → ((u : ℕ) → is_open u (x ∷ acts c) ≡ is_open u (acts c))
      → ((u : ℕ) → has_begun u (x ∷ acts c) ≡ has_begun u (acts c)) → Stands (Then c m a)
  work_done t c m a x e s f allowed clear keeps next still same_begun = after_work (Some t) c m a e s (record {
    act = x;
    acts_are = f;
    allowed = allowed;
    clear = clear;
    keeps = keeps;
    next_is = next;
    still = still;
    same_begun = same_begun;
  })

  get_judged : (t : ℕ) (s k : List ℕ) (c : Course) → txn_in s c ≡ Some t → Stands c → (p : Option ℕ)
      → pivot (tracked (Gets t k ∷ acts c)) ≡ p → (v : Option (List ℕ))
      → Stands (Then c (Do.Get s k) (unless_pivot p (got v)))
  get_judged t s k c e st (Some p) f v = aborted t s c (Do.Get s k) (Unsafe p)
      (record { session = λ r. refl; txn = refl }) e st refl (λ x. refl) refl
  get_judged t s k c e st None f None = work_done t c (Do.Get s k) Absent (Gets t k) e st refl (st.opened s t e) f
      (λ x. refl) refl (λ u. refl) (λ u. refl)
  get_judged t s k c e st None f (Some v) = work_done t c (Do.Get s k) (Value v) (Gets t k) e st refl
      (st.opened s t e) f (λ x. refl) refl (λ u. refl) (λ u. refl)

  pub scan_judged : (t : ℕ) (s low high : List ℕ) (c : Course) → key_le low high ≡ true → txn_in s c ≡ Some t
      → Stands c → (p : Option ℕ) → pivot (tracked (Scans t low high ∷ acts c)) ≡ p → (found : List FinalPair)
      → Stands (Then c (Do.Scan s low high) (unless_pivot p (Rows found)))
  scan_judged t s low high c le e st (Some p) f found = aborted t s c (Do.Scan s low high) (Unsafe p)
      (record { session = λ r. refl; txn = refl }) e st refl (λ x. refl) refl
  scan_judged t s low high c le e st None f found = work_done t c (Do.Scan s low high) (Rows found)
      (Scans t low high) e st refl (st.opened s t e, le) f (λ x. refl) refl (λ u. refl) (λ u. refl)

  limited_judged : (t : ℕ) (s low high : List ℕ) (n : ℕ) (c : Course) (found : List FinalPair)
      → key_le low (reached high n found) ≡ true → txn_in s c ≡ Some t → Stands c → (p : Option ℕ)
      → pivot (tracked (Scans t low (reached high n found) ∷ acts c)) ≡ p
      → Stands (Then c (Do.ScanFirst s low high n) (unless_pivot p (Rows found)))
  limited_judged t s low high n c found le e st (Some p) f = aborted t s c (Do.ScanFirst s low high n) (Unsafe p)
      (record { session = λ r. refl; txn = refl }) e st refl (λ x. refl) refl
  limited_judged t s low high n c found le e st None f = work_done t c (Do.ScanFirst s low high n) (Rows found)
      (Scans t low (reached high n found)) e st refl (st.opened s t e, le) f (λ x. refl) refl (λ u. refl) (λ u. refl)

  commit_judged : (t : ℕ) (s : List ℕ) (c : Course) → txn_in s c ≡ Some t → Stands c → (k : Option (List ℕ))
      → conflict t (acts c) ≡ k → (p : Option ℕ) → pivot (tracked (Commits t ∷ acts c)) ≡ p
      → Stands (Then c (Do.Commit s) (unless_conflict k (acts c) (unless_pivot p Committed)))
  commit_judged t s c e st (Some k) f p g = aborted t s c (Do.Commit s) (Conflict k (last_writer k (acts c)))
      (record { session = λ r. refl; txn = refl }) e st refl (λ x. refl) refl
  commit_judged t s c e st None f (Some p) g = aborted t s c (Do.Commit s) (Unsafe p)
      (record { session = λ r. refl; txn = refl }) e st refl (λ x. refl) refl
  commit_judged t s c e st None f None g = after_end t s c (Do.Commit s) Committed
      (record { session = λ r. refl; txn = refl }) e st (record {
        act = Commits t;
        acts_are = refl;
        allowed = record { opened = st.opened s t e; no_conflict = f };
        clear = g;
        drops = λ x. refl;
        next_is = refl;
        still = λ u ne h.
            let o = open_from u (acts c) h in
            open_to u (Commits t ∷ acts c)
            (record {
              begun = o.begun;
              uncommitted = or_from (t == u) (has_committed u (acts c)) (ne_eqb t u ne) o.uncommitted;
              unaborted = o.unaborted;
            });
        others = λ u h.
            let o = open_from u (Commits t ∷ acts c) h in
            let both = or_parts (t == u) (has_committed u (acts c)) o.uncommitted in (
              λ same. both_ways _ both.0 (eq-eqb t u same),
              open_to u (acts c) (record { begun = o.begun; uncommitted = both.1; unaborted = o.unaborted }),
            );
        same_begun = λ u. refl;
      })

  -- whether the test holds or not
  either_way : (c : Course) (m : Command) (b : Bool) (x y : Answer) → (b ≡ true → Stands (Then c m x))
      → (b ≡ false → Stands (Then c m y)) → Stands (Then c m (cond b x y))
  either_way c m true x y h i = h refl
  either_way c m false x y h i = i refl

  long_stands : (t : ℕ) (c : Course) (m : Command) (a : Answer) → Stands c → Stands (Then c m a)
      → Stands (Then c m (unless_long t (acts c) a))
  long_stands t c m a s after = either_way c m (nat_le 65535 (operations t (acts c))) (Refused Long) a
      (λ long. refused c m (Refused Long) Long refl s) (λ short. after)

  downward_stands : (low high : List ℕ) (c : Course) (m : Command) (a : Answer) → Stands c
      → (key_le low high ≡ true → Stands (Then c m a)) → Stands (Then c m (unless_downward low high a))
  downward_stands low high c m a s after = either_way c m (key_lt high low) (Refused Range) a
      (λ f. refused c m (Refused Range) Range refl s) (λ f. after (key_le-from_not low high f))

  txn_now : (s : List ℕ) (c : Course) (n : ℕ) (r : List ℕ) (t : ℕ)
      → txn_in r (Then c (Do.Begin s) (Begun n)) ≡ Some t → ((s ≡ r) × (n ≡ t)) ⊎ (txn_in r c ≡ Some t)
  txn_now s c n r t e =
      elim (cases_Bool (key_eq s r)) [
        | inl same ↦ inl (
          bytes_eq-same s r same,
          same_Some n t (sym (cond-true {A = Option ℕ} (key_eq s r) (Some n) (txn_in r c) same) ∙ e),
        )
        | inr other ↦ inr (sym (cond-false {A = Option ℕ} (key_eq s r) (Some n) (txn_in r c) other) ∙ e)
      ]

  pub begun : (s : List ℕ) (c : Course) → txn_in s c ≡ None → Stands c
      → Stands (Then c (Do.Begin s) (Begun (next_txn c)))
  begun s c e st =
      let same : acts (Then c (Do.Begin s) (Begun (next_txn c))) ≡ Begins (next_txn c) ∷ acts c = ap
      (λ x. act_by x (Do.Begin s) (Begun (next_txn c)) ++ acts c) e in
      record {
        sound = subst Sound (sym same) (st.below, st.sound);
        safe = subst (Safe pivot) (sym same) (tt, st.safe);
        opened = λ r t f. subst (λ l. is_open t l ≡ true) (sym same) (
            elim (txn_now s c (next_txn c) r t f) [
              | inl new ↦ subst (λ x. is_open x (Begins (next_txn c) ∷ acts c) ≡ true) new.1 open_new
              | inr old ↦
                  let o = open_from t (acts c) (st.opened r t old) in
                  open_to t (Begins (next_txn c) ∷ acts c)
                  (record {
                    begun = or_right (next_txn c == t) (has_begun t (acts c)) o.begun;
                    uncommitted = o.uncommitted;
                    unaborted = o.unaborted;
                  })
            ]);
        apart = λ r v t f g.
            elim (txn_now s c (next_txn c) r t f) [
              | inl new ↦ elim (txn_now s c (next_txn c) v t g) [
                | inl also ↦ sym new.0 ∙ also.0
                | inr old ↦ absurd (not_held v t new.1 old)
              ]
              | inr old ↦ elim (txn_now s c (next_txn c) v t g) [
                | inl new ↦ absurd (not_held r t new.1 old)
                | inr also ↦ st.apart r v t old also
              ]
            ];
        held = λ u f.
            let o = open_from u (Begins (next_txn c) ∷ acts c) (subst (λ l. is_open u l ≡ true) same f) in
            elim (or_cases (next_txn c == u) (has_begun u (acts c)) o.begun) [
              | inl new ↦ (
                s,
                cond-true {A = Option ℕ} (key_eq s s) (Some (next_txn c)) (txn_in s c) (bytes_eq-itself s)
                    ∙ ap Some (eqb-true (next_txn c) u new),
              )
              | inr old ↦
                  let h = st.held u (open_to u (acts c)
                  (record { begun = old; uncommitted = o.uncommitted; unaborted = o.unaborted })) in
                  let other : key_eq s h.0 ≡ false = bytes_eq-other s h.0 (λ w.
                  none-some u (sym e ∙ (ap (λ x. txn_in x c) w ∙ h.1))) in
                  (h.0, cond-false {A = Option ℕ} (key_eq s h.0) (Some (next_txn c)) (txn_in h.0 c) other ∙ h.1)
            ];
        below = λ u f. elim (or_cases (next_txn c == u) (has_begun u (acts c))
            (subst (λ l. has_begun u l ≡ true) same f)) [
              | inl new ↦ (let at = eqb-true (next_txn c) u new in omega (arith, at))
              | inr old ↦ (let less = st.below u old in omega (arith, less))
            ];
      }
    where
      never : has_begun (next_txn c) (acts c) ≡ true → ⊥
      never f = let less = st.below (next_txn c) f in omega (arith, less)

      not_held : (r : List ℕ) (t : ℕ) → next_txn c ≡ t → txn_in r c ≡ Some t → ⊥
      not_held r t same f = never (subst (λ x. has_begun x (acts c) ≡ true) (sym same)
          (open_from t (acts c) (st.opened r t f)).begun)

      open_new : is_open (next_txn c) (Begins (next_txn c) ∷ acts c) ≡ true
      open_new = open_to (next_txn c) (Begins (next_txn c) ∷ acts c) (record {
        begun = or_left (next_txn c == next_txn c) (has_begun (next_txn c) (acts c))
            (eq-eqb (next_txn c) (next_txn c) refl);
        uncommitted = false_from_ne_true (has_committed (next_txn c) (acts c))
            (λ f. never (committed_begun (next_txn c) (acts c) st.sound f));
        unaborted = false_from_ne_true (has_aborted (next_txn c) (acts c))
            (λ f. never (aborted_begun (next_txn c) (acts c) st.sound f));
      })

  -- a collection, and a count
  collected : (c : Course) (n : ℕ) → Stands c → Stands (Then c Do.Collect (Kept n))
  collected c n st = after_work None c Do.Collect (Kept n) refl st (record {
    act = Collects;
    acts_are = refl;
    allowed = tt;
    clear = tt;
    keeps = λ x. refl;
    next_is = refl;
    still = λ u. refl;
    same_begun = λ u. refl;
  })

  pub counted : (c : Course) (n kept versions keys : ℕ) → Stands c
      → Stands (Then c Do.Stat (Counts n kept versions keys))
  counted c n kept versions keys st = after_quiet None c Do.Stat (Counts n kept versions keys) refl st
      (record { acts_are = refl; keeps = λ x. refl; next_is = refl })

  idle_stands : (c : Course) (m : Command) → txn_for m c ≡ None → Stands c → Stands (Then c m (reply_idle c m))
  idle_stands c (Do.Begin s) e st = either_way c (Do.Begin s) (nat_lt 4294967295 (next_txn c)) (Refused Spent)
      (Begun (next_txn c)) (λ f. refused c (Do.Begin s) (Refused Spent) Spent refl st) (λ f. begun s c e st)
  idle_stands c (Do.Get s k) e st = refused c (Do.Get s k) (Refused Idle) Idle refl st
  idle_stands c (Do.Put s k v) e st = refused c (Do.Put s k v) (Refused Idle) Idle refl st
  idle_stands c (Do.Del s k) e st = refused c (Do.Del s k) (Refused Idle) Idle refl st
  idle_stands c (Do.Scan s low high) e st = refused c (Do.Scan s low high) (Refused Idle) Idle refl st
  idle_stands c (Do.ScanFirst s low high n) e st = refused c (Do.ScanFirst s low high n) (Refused Idle) Idle refl st
  idle_stands c (Do.Commit s) e st = refused c (Do.Commit s) (Refused Idle) Idle refl st
  idle_stands c (Do.Abort s) e st = refused c (Do.Abort s) (Refused Idle) Idle refl st
  idle_stands c Do.Collect e st = collected c _ st
  idle_stands c Do.Stat e st = counted c _ _ _ _ st

  busy_stands : (t : ℕ) (c : Course) (m : Command) → txn_for m c ≡ Some t → Stands c
      → Stands (Then c m (reply_in pivot t (acts c) m))
  busy_stands t c (Do.Begin s) e st = refused c (Do.Begin s) (Refused Busy) Busy refl st
  busy_stands t c (Do.Get s k) e st = long_stands t c (Do.Get s k) _ st
      (get_judged t s k c e st (pivot (tracked (Gets t k ∷ acts c))) refl (shown (sees t k (acts c))))
  busy_stands t c (Do.Put s k v) e st = long_stands t c (Do.Put s k v) Done st
      (work_done t c (Do.Put s k v) Done (Writes t k (Live v)) e st refl (st.opened s t e) tt (λ x. refl) refl
      (λ u. refl) (λ u. refl))
  busy_stands t c (Do.Del s k) e st = long_stands t c (Do.Del s k) Done st
      (work_done t c (Do.Del s k) Done (Writes t k Dead) e st refl (st.opened s t e) tt (λ x. refl) refl (λ u. refl)
      (λ u. refl))
  busy_stands t c (Do.Scan s low high) e st =
      downward_stands low high c (Do.Scan s low high) _ st
      (λ up. long_stands t c (Do.Scan s low high) _ st
      (scan_judged t s low high c up e st (pivot (tracked (Scans t low high ∷ acts c))) refl
      (rows t low high (acts c))))
  busy_stands t c (Do.ScanFirst s low high n) e st =
      let found : List FinalPair = take n (rows t low high (acts c)) in
      downward_stands low high c (Do.ScanFirst s low high n) _ st
      (λ up. long_stands t c (Do.ScanFirst s low high n) _ st
      (limited_judged t s low high n c (take n (rows t low high (acts c)))
      (reached_upward t low high n (acts c) up) e st
      (pivot (tracked (Scans t low (reached high n (take n (rows t low high (acts c)))) ∷ acts c))) refl))
  busy_stands t c (Do.Commit s) e st = commit_judged t s c e st (conflict t (acts c)) refl
      (pivot (tracked (Commits t ∷ acts c))) refl
  busy_stands t c (Do.Abort s) e st = aborted t s c (Do.Abort s) Aborted
      (record { session = λ r. refl; txn = refl }) e st refl (λ x. refl) refl
  busy_stands t c Do.Collect e st = collected c _ st
  busy_stands t c Do.Stat e st = counted c _ _ _ _ st

  step_stands : (c : Course) (m : Command) (o : Option ℕ) → txn_for m c ≡ o → Stands c
      → Stands (Then c m (reply_for pivot o c m))
  step_stands c m None e st = idle_stands c m e st
  step_stands c m (Some t) e st = busy_stands t c m e st

  pub course_stands : (c : Course) → Follows pivot c → Stands c
  course_stands (New first) f = record {
    sound = tt;
    safe = tt;
    opened = λ s t e. absurd (none-some t e);
    apart = λ r s t e g. absurd (none-some t e);
    held = λ t e. absurd (cc (e));
    below = λ u e. absurd (cc (e));
  }
  course_stands (Then c m a) f =
      let st = course_stands c f.2 in
      elim f.1 [
        | inl is ↦ subst (λ x. Stands (Then c m x)) (sym is) (step_stands c m (txn_for m c) refl st)
        | inr memory ↦ refused c m a Memory memory.0 st
      ]
