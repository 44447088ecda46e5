-- Put and del.
use Rattle.std.proofs.Common.{List, None, Option, Some, ap, cond, true, inl, nat_le, refl, subst, suc, sym, ◌≡◌, ◌∷◌, ◌++◌, ◌<◌, ◌≤◌, ◌∙◌, ℕ, []}
use Rattle.std.proofs.lemmas.Bool.{cond-false, cond-true, le-leb, lt-leb}
use Rattle.adya_values.specs.Meaning.Histories.{Content, Live, Dead, Event}
use Rattle.ssi_conflict.specs.Computing.Steps.{smallest_ordered_pivot}
use Rattle.ssi_snapshot.specs.Mirror.{snapshot_of}
use Rattle.ssi_snapshot.specs.Mirror as View
use Rattle.ssi_snapshot.specs.Clauses.Writes.{next_mod, next_write, put_write}
use Rattle.ssi_store.specs.Meaning.Acts.{Writes, acts, act_by, begun}
use Rattle.ssi_store.specs.Mirror.Commands.{written}
use Rattle.ssi_store.specs.Meaning.Courses.{Answer, Done, Refused, Idle, Long, Memory, Course, Then, txn_in, txn_for, next_txn}
use Rattle.ssi_store.specs.Clauses.Following.{is_proper}
use Rattle.ssi_store.specs.Meaning.Replies.{reply, reply_for, unless_long, may_run_out_of_memory}
use Rattle.ssi_store.specs.Meaning.Recording.{events, write_event}
use Rattle.ssi_store.specs.Mirror.Standing.{Parts, StandsFor, with_snapshots}
use Rattle.ssi_store.specs.Machinery.Below.{Below}
use Rattle.ssi_store.specs.Machinery.Opens.{Sessions, open_at, number_of, IsSameOpen, IsReplaced}
use Rattle.ssi_store.specs.declared.open.Open.{Open}
use Rattle.ssi_store.proofs.Opens.{next_mod_is, open_written}
use Rattle.ssi_store.proofs.Steps.{opened, idle, open_of, unchanged, replaced, answer_memory, refused, worked}

record Facts (s k : List ℕ) (x : Content) (c : Course) : Type 0 where
  pub of : txn_for (written s k x) c ≡ txn_in s c
  pub when_idle : reply_for smallest_ordered_pivot None c (written s k x) ≡ Refused Idle
  pub when_open : (t : ℕ) → reply_for smallest_ordered_pivot (Some t) c (written s k x) ≡ unless_long t (acts c) Done
  pub memory : may_run_out_of_memory (written s k x) Done ≡ true
  pub proper : is_proper (written s k x) ≡ true
  pub does : (t : ℕ) → act_by (Some t) (written s k x) Done ≡ Writes t k x ∷ []
  pub next : next_txn (Then c (written s k x) Done) ≡ next_txn c

facts : (s k : List ℕ) (x : Content) (c : Course) → Facts s k x c
facts s k (Live v) c = record {
  of = refl;
  when_idle = refl;
  when_open = λ t. refl;
  memory = refl;
  proper = refl;
  does = λ t. refl;
  next = refl;
}
facts s k Dead c = record {
  of = refl;
  when_idle = refl;
  when_open = λ t. refl;
  memory = refl;
  proper = refl;
  does = λ t. refl;
  next = refl;
}

pub same_as : (o : Open) → IsSameOpen o o
same_as o = record { view = (refl, refl, refl, refl); count = refl }

module _ {p : Parts} {next : ℕ} {es : Sessions} {c : Course} (st : StandsFor p next es c) (s k : List ℕ) (x : Content) where
  pub write_idle : (fs : Sessions) → open_at s es ≡ None → fs ≡ es
      → StandsFor p next fs (Then c (written s k x) (Refused Idle))
  write_idle fs at same =
      let f = facts s k x c in
      refused st p fs (written s k x) Idle st.log (unchanged es fs same) f.proper
      (inl (sym (ap (λ (y : Option ℕ). reply_for smallest_ordered_pivot y c (written s k x)) (f.of ∙ idle st s at) ∙ f.when_idle)))

  module _ (o : Open) (at : open_at s es ≡ Some o) where
    reply_is : reply smallest_ordered_pivot c (written s k x) ≡ cond (nat_le 65535 o.operations) (Refused Long) Done
    reply_is =
        let f = facts s k x c in
        ap (λ (y : Option ℕ). reply_for smallest_ordered_pivot y c (written s k x)) (f.of ∙ opened st s o at)
        ∙ f.when_open (number_of o)
        ∙ ap (λ n. cond (nat_le 65535 n) (Refused Long) Done) (sym (open_of st s o at).count)

    pub write_long : (fs : Sessions) → IsReplaced s o es fs → 65535 ≤ o.operations
        → StandsFor p next fs (Then c (written s k x) (Refused Long))
    write_long fs gives long =
        refused st p fs (written s k x) Long st.log (replaced s o o es fs at (same_as o) gives) (facts s k x c).proper
        (inl (sym (reply_is ∙ cond-true {A = Answer} (nat_le 65535 o.operations) (Refused Long) Done
        (le-leb 65535 o.operations long))))

    module _ (short : o.operations < 65535) where
      is_done : reply smallest_ordered_pivot c (written s k x) ≡ Done
      is_done = reply_is ∙ cond-false {A = Answer} (nat_le 65535 o.operations) (Refused Long) Done
          (lt-leb 65535 o.operations short)

      pub write_memory : (recorded' : List Event → Type 0) (started' : List (ℕ × ℕ) → Type 0)
          (fs : Sessions) (v : Open) → IsReplaced s v es fs → IsSameOpen o v
          → ((es : List Event) → p.recorded es → recorded' es) → ((ts : List (ℕ × ℕ)) → p.started ts → started' ts)
          → StandsFor (record p { recorded = recorded'; started = started' }) next fs (Then c (written s k x) (Refused Memory))
      write_memory recorded' started' fs v gives same now keeps =
          let f = facts s k x c in
          refused st (record p { recorded = recorded'; started = started' }) fs (written s k x) Memory
          (record {
            commits = st.log.commits;
            chains = st.log.chains;
            tracker = st.log.tracker;
            events = now (events (acts c)) st.log.events;
            opened = st.log.opened;
            snapshots = keeps (with_snapshots (begun (acts c)) (acts c)) st.log.snapshots;
          }) (replaced s o v es fs at same gives) f.proper
          (answer_memory st (written s k x) Done is_done f.memory)

      pub write_done : Below → (recorded' : List Event → Type 0) (started' : List (ℕ × ℕ) → Type 0)
          (fs : Sessions) (t m : ℕ) (v : Open) → IsReplaced s v es fs
          → t ≡ number_of v → m ≡ next_mod k (View.written o.view) → ((es : List Event) → p.recorded es → recorded' (es ++ write_event t k m x ∷ []))
          → ((ts : List (ℕ × ℕ)) → p.started ts → started' ts)
          → (number_of v ≡ number_of o) × (snapshot_of v.view ≡ snapshot_of o.view) → v.operations ≡ suc o.operations
          → View.written v.view ≡ put_write (next_write (number_of o) k x (View.written o.view)) (View.written o.view)
          → StandsFor (record p { recorded = recorded'; started = started' }) next fs (Then c (written s k x) Done)
      write_done b recorded' started' fs t m v gives is_t is_m now keeps same count puts =
          let f = facts s k x c in
          let is = open_of st s o at in
          worked st (record p { recorded = recorded'; started = started' }) fs s o v (Writes (number_of o) k x) (written s k x) Done at gives
          same.0 (open_written b k x (acts c) o v is same.0 same.1 count puts) refl (f.does (number_of o)) f.of (λ y. refl)
          f.next
          (record {
            commits = st.log.commits;
            chains = st.log.chains;
            tracker = st.log.tracker;
            events = subst recorded' (ap (λ u. events (acts c) ++ write_event u k m x ∷ []) (is_t ∙ same.0)
                ∙ ap (λ n. events (acts c) ++ write_event (number_of o) k n x ∷ []) (is_m ∙ next_mod_is k (acts c) o is))
                (now (events (acts c)) st.log.events);
            opened = st.log.opened;
            snapshots = keeps (with_snapshots (begun (acts c)) (acts c)) st.log.snapshots;
          }) f.proper (inl (sym is_done))
