-- What a get and both kinds of scans share.
use Rattle.std.proofs.Common.{List, None, Option, Some, ap, inl, option_map, refl, subst, sym, ◌≡◌, ◌∷◌, ◌++◌, ◌∙◌, ℕ, []}
use Rattle.std.proofs.lemmas.Option.{none-some, same_Some}
use Rattle.adya_values.specs.Meaning.Histories.{Event}
use Rattle.ssi_conflict.specs.Computing.Steps.{smallest_ordered_pivot}
use Rattle.ssi_conflict.specs.Meaning.Calls.{Call, Reads}
use Rattle.ssi_conflict.specs.Clauses.Allowed.{IsAllowed, AreAllowed}
use Rattle.ssi_conflict.specs.Clauses.Pairs.{IsOrderedPivot, IsSmallest}
use Rattle.ssi_conflict.specs.declared.answer.Answer.{Answer as Judged}
use Rattle.ssi_conflict.specs.declared.answer.Answer.TheVariants.{Safe as Clear, Unsafe as Pivot}
use Rattle.ssi_snapshot.specs.Mirror.{txn_of}
use Rattle.ssi_store.specs.Meaning.Acts.{Act, Begins, Writes, Gets, Scans, Commits, Aborts, Collects, acts, act_by, begun}
use Rattle.ssi_store.specs.Meaning.Courses.{Command, Answer, Refused, Memory, Unsafe, Course, Then}
use Rattle.ssi_store.specs.Meaning.Recording.{events}
use Rattle.ssi_store.specs.Meaning.Replies.{unless_pivot}
use Rattle.ssi_store.specs.Mirror.Standing.{Parts, IsLog, StandsFor, with_snapshots}
use Rattle.ssi_store.specs.Meaning.Tracked.{tracked}
use Rattle.ssi_store.specs.Machinery.Below.{Below}
use Rattle.ssi_store.specs.Machinery.Ends.{IsEnd}
use Rattle.ssi_store.specs.Machinery.Looks.{IsLookOf, IsLook}
use Rattle.ssi_store.specs.Machinery.Opens.{Sessions, open_at, number_of, IsOpen, IsCounted, AreCounted}
use Rattle.ssi_store.specs.declared.open.Open.{Open}
use Rattle.ssi_store.proofs.NoPivot.{no_pivot}
use Rattle.ssi_store.proofs.Opens.{IsBy, open_got, open_scanned}
use Rattle.ssi_store.proofs.PivotRules.{commit_order_rule}
use Rattle.ssi_store.proofs.Steps.{settled, open_of, answer_memory, same_course, refused_same, worked}
use Rattle.ssi_store.proofs.TrackedCalls.{tracked_allowed}

-- an answer of a tracker that names no pivot
pub safe_of : (a : Judged) → ((p : ℕ) → a ≡ Pivot p → ⊥) → a ≡ Clear
safe_of Clear f = refl
safe_of (Pivot p) f = absurd (f p refl)

look_by : (t : ℕ) (a : Act) → IsLookOf t a → IsBy t a
look_by t (Gets u k) l = l
look_by t (Scans u low high) l = l
look_by t (Begins u) l = absurd l
look_by t (Writes u k c) l = absurd l
look_by t (Commits u) l = absurd l
look_by t (Aborts u) l = absurd l
look_by t Collects l = absurd l

-- a transaction that gets or scans
look_open : (a : Act) (log : List Act) (o v : Open) → IsLookOf (number_of o) a → IsOpen log o → IsCounted o v → IsOpen (a ∷ log) v
look_open (Gets u k) log o v l is same = subst (λ x. IsOpen (Gets x k ∷ log) v) (sym l) (open_got k log o v is same)
look_open (Scans u low high) log o v l is same =
    subst (λ x. IsOpen (Scans x low high ∷ log) v) (sym l) (open_scanned low high log o v is same)
look_open (Begins u) log o v l is same = absurd l
look_open (Writes u k c) log o v l is same = absurd l
look_open (Commits u) log o v l is same = absurd l
look_open (Aborts u) log o v l is same = absurd l
look_open Collects log o v l is same = absurd l

-- what each part was told, after a get or a scan
look_log : (p : Parts) (log : List Act) (t : ℕ) (a : Act) (told' : List Call → Type 0) (recorded' : List Event → Type 0)
    (started' : List (ℕ × ℕ) → Type 0) → IsLookOf t a → IsLog p log → told' (tracked (a ∷ log))
    → recorded' (events (a ∷ log)) → ((ts : List (ℕ × ℕ)) → p.started ts → started' ts)
    → IsLog (record p { told = told'; recorded = recorded'; started = started' }) (a ∷ log)
look_log p log t (Gets u k) told' recorded' started' l is tells now keeps = record {
  commits = is.commits;
  chains = is.chains;
  tracker = tells;
  events = now;
  opened = is.opened;
  snapshots = keeps (with_snapshots (begun log) log) is.snapshots;
}
look_log p log t (Scans u low high) told' recorded' started' l is tells now keeps = record {
  commits = is.commits;
  chains = is.chains;
  tracker = tells;
  events = now;
  opened = is.opened;
  snapshots = keeps (with_snapshots (begun log) log) is.snapshots;
}
look_log p log t (Begins u) told' recorded' started' l is tells now keeps = absurd l
look_log p log t (Writes u k c) told' recorded' started' l is tells now keeps = absurd l
look_log p log t (Commits u) told' recorded' started' l is tells now keeps = absurd l
look_log p log t (Aborts u) told' recorded' started' l is tells now keeps = absurd l
look_log p log t Collects told' recorded' started' l is tells now keeps = absurd l

module _ {p : Parts} {next : ℕ} {es : Sessions} {c : Course} (st : StandsFor p next es c) (s : List ℕ) (t : ℕ) (calls : List Call)
    (e : Event) (a : Answer) (m : Command) (is : IsLook s t calls e a c m) where
  pub look_memory : (told' : List Call → Type 0) (recorded' : List Event → Type 0) (started' : List (ℕ × ℕ) → Type 0)
      → told' (tracked (acts c)) → ((es : List Event) → p.recorded es → recorded' es) → ((ts : List (ℕ × ℕ)) → p.started ts → started' ts)
      → StandsFor (record p { told = told'; recorded = recorded'; started = started' }) next es (Then c m (Refused Memory))
  look_memory told' recorded' started' tells now keeps =
      refused_same (same_course st (record p { told = told'; recorded = recorded'; started = started' }) (record {
        commits = st.log.commits;
        chains = st.log.chains;
        tracker = tells;
        events = now (events (acts c)) st.log.events;
        opened = st.log.opened;
        snapshots = keeps (with_snapshots (begun (acts c)) (acts c)) st.log.snapshots;
      })) m Memory is.proper
      (answer_memory st m _ is.replies (is.memory (smallest_ordered_pivot (tracked (is.act ∷ acts c)))))

  open_here : (o : Option Open) → open_at s es ≡ o → option_map number_of o ≡ Some t
      → (v : Open) × (open_at s es ≡ Some v) × (number_of v ≡ t)
  open_here None at n = absurd (none-some t n)
  open_here (Some v) at n = (v, at, same_Some (number_of v) t n)

  done : (told' : List Call → Type 0) (recorded' : List Event → Type 0) (started' : List (ℕ × ℕ) → Type 0)
      (fs : Sessions)
      → smallest_ordered_pivot (tracked (is.act ∷ acts c)) ≡ None → AreCounted s es fs → told' (calls ++ tracked (acts c))
      → ((es : List Event) → p.recorded es → recorded' (es ++ e ∷ [])) → ((ts : List (ℕ × ℕ)) → p.started ts → started' ts)
      → StandsFor (record p { told = told'; recorded = recorded'; started = started' }) next fs (Then c m a)
  done told' recorded' started' fs none counts tells now keeps =
      let o = open_here (open_at s es) refl (st.txns s ∙ is.here) in
      let u = counts o.0 o.1 in
      let n : number_of o.0 ≡ t = o.2 in
      let looks = subst (λ x. IsLookOf x is.act) (sym n) is.looks in
      worked st (record p { told = told'; recorded = recorded'; started = started' }) fs s o.0 u.0 is.act m a o.1 u.2 (ap txn_of u.1.view)
      (look_open is.act (acts c) o.0 u.0 looks (open_of st s o.0 o.1) u.1) (look_by (number_of o.0) is.act looks)
      (ap (λ x. act_by (Some x) m a) n ∙ is.does) is.txn is.keeps is.next
      (look_log p (acts c) t is.act told' recorded' started' is.looks st.log (subst told' (sym is.told) tells)
      (subst recorded' (ap (λ l. events (acts c) ++ l) (sym is.records)) (now (events (acts c)) st.log.events)) keeps)
      is.proper (inl (sym (is.replies ∙ ap (λ y. unless_pivot y a) none)))

-- a look at other transactions' writes
module _ {p : Parts} {next : ℕ} {es : Sessions} {c : Course} (st : StandsFor p next es c) (s : List ℕ) (t : ℕ) (low high : List ℕ)
    (e : Event) (a : Answer) (m : Command) (is : IsLook s t (Reads t low high ∷ []) e a c m) where
  pub may_look : IsAllowed (Reads t low high) (tracked (acts c))
  may_look = (subst AreAllowed is.told is.allowed).0

  named : Below → (l : Option ℕ) → IsSmallest IsOrderedPivot (Reads t low high ∷ tracked (acts c)) l
      → smallest_ordered_pivot (tracked (is.act ∷ acts c)) ≡ l
  named b l least = (b.named (tracked (is.act ∷ acts c)) is.allowed l).1
      (subst (λ x. IsSmallest IsOrderedPivot x l) (sym is.told) least)

  pub look_ends : Below → (n : ℕ) → IsSmallest IsOrderedPivot (Reads t low high ∷ tracked (acts c)) (Some n)
      → IsEnd s t c m (Unsafe n)
  look_ends b n least = record {
    session = is.session;
    txn = is.txn;
    here = is.here;
    does = is.aborts n;
    drops = λ x. refl;
    next = refl;
    proper = is.proper;
    answers = inl (sym (is.replies ∙ ap (λ y. unless_pivot y a) (named b (Some n) least)));
  }

  pub looked : Below → (told' : List Call → Type 0) (recorded' : List Event → Type 0) (started' : List (ℕ × ℕ) → Type 0)
      (fs : Sessions) → AreCounted s es fs
      → IsSmallest IsOrderedPivot (Reads t low high ∷ tracked (acts c)) None → told' (Reads t low high ∷ tracked (acts c))
      → ((es : List Event) → p.recorded es → recorded' (es ++ e ∷ [])) → ((ts : List (ℕ × ℕ)) → p.started ts → started' ts)
      → StandsFor (record p { told = told'; recorded = recorded'; started = started' }) next fs (Then c m a)
  looked b told' recorded' started' fs counts least tells now keeps =
      done st s t (Reads t low high ∷ []) e a m is told' recorded' started' fs (named b None least) counts tells now keeps

-- a look at the own writes, by which no pivot can stand
pub looked_own : {p : Parts} {next : ℕ} {es : Sessions} {c : Course} (st : StandsFor p next es c) (s : List ℕ) (t : ℕ) (e : Event)
    (a : Answer) (m : Command) → IsLook s t [] e a c m → Below → (told' : List Call → Type 0) (recorded' : List Event → Type 0)
    (started' : List (ℕ × ℕ) → Type 0) (fs : Sessions) → AreCounted s es fs → told' (tracked (acts c)) → ((es : List Event) → p.recorded es → recorded' (es ++ e ∷ [])) → ((ts : List (ℕ × ℕ)) → p.started ts → started' ts)
    → StandsFor (record p { told = told'; recorded = recorded'; started = started' }) next fs (Then c m a)
looked_own {c = c} st s t e a m is b told' recorded' started' fs counts tells now keeps =
    let rule = commit_order_rule b.begins b.aborts b.named in
    let none : smallest_ordered_pivot (tracked (acts c)) ≡ None =
    (b.named (tracked (acts c)) (tracked_allowed (acts c) (settled st).sound) None).1
    (no_pivot IsOrderedPivot smallest_ordered_pivot rule (acts c) (settled st).sound (settled st).safe) in
    done st s t [] e a m is told' recorded' started' fs (ap smallest_ordered_pivot is.told ∙ none) counts tells now keeps
