-- Abort, and the ends of transactions by an abort.
use Rattle.std.proofs.Common.{List, None, Option, Some, ap, cond, inl, nat_eq, refl, sym, ◌≡◌, ◌∷◌, ◌++◌, ◌∙◌, ℕ, []}
use Rattle.indexmap.specs.IndexMap.{shift_remove_entry}
use Rattle.adya_keys.specs.Meaning.Keys.{key_eq}
use Rattle.adya_values.specs.Meaning.Histories.{Event, Abort as Ended}
use Rattle.ssi_conflict.specs.Computing.Steps.{smallest_ordered_pivot}
use Rattle.ssi_conflict.specs.Meaning.Calls.{Call, Aborts as Drops}
use Rattle.ssi_conflict.specs.Clauses.Allowed.{IsAllowed}
use Rattle.ssi_store.specs.Meaning.Acts.{Aborts, acts, begun}
use Rattle.ssi_store.specs.Meaning.Courses.{Command, Command as Do, Answer, Aborted, Refused, Idle, Course, Then}
use Rattle.ssi_store.specs.Meaning.Recording.{events}
use Rattle.ssi_store.specs.Meaning.Replies.{reply_for}
use Rattle.ssi_store.specs.Mirror.Standing.{Parts, StandsFor, with_snapshots}
use Rattle.ssi_store.specs.Meaning.Tracked.{tracked}
use Rattle.ssi_store.specs.Machinery.Ends.{IsEnd}
use Rattle.ssi_store.specs.Machinery.Opens.{Sessions, open_at, number_of}
use Rattle.ssi_store.specs.declared.open.Open.{Open}
use Rattle.ssi_store.proofs.Rosters.{after_abort}
use Rattle.ssi_store.proofs.Steps.{settled, opened, idle, refused_same, ended}
use Rattle.ssi_store.proofs.TrackedCalls.{tracked_allowed}

module _ {p : Parts} {next : ℕ} {es : Sessions} {c : Course} (st : StandsFor p next es c) (s : List ℕ) where
  pub abort_idle : open_at s es ≡ None → StandsFor p next es (Then c (Do.Abort s) (Refused Idle))
  abort_idle at = refused_same st (Do.Abort s) Idle refl
      (inl (sym (ap (λ (x : Option ℕ). reply_for smallest_ordered_pivot x c (Do.Abort s)) (idle st s at))))

  pub abort_ends : (o : Open) → open_at s es ≡ Some o → IsEnd s (number_of o) c (Do.Abort s) Aborted
  abort_ends o at = record {
    session = λ r. refl;
    txn = refl;
    here = opened st s o at;
    does = refl;
    drops = λ x. refl;
    next = refl;
    proper = refl;
    answers = inl (sym (ap (λ (x : Option ℕ). reply_for smallest_ordered_pivot x c (Do.Abort s)) (opened st s o at)));
  }

  pub dropped : (told' : List Call → Type 0) (recorded' : List Event → Type 0) (opened' : List (ℕ × ℕ))
      (started' : List (ℕ × ℕ) → Type 0) (fs : Sessions) (t : ℕ)
      (m : Command) (a : Answer) → IsEnd s t c m a → ((q : List ℕ) → open_at q fs ≡ cond (key_eq s q) None (open_at q es))
      → ((es : List Event) → p.recorded es → recorded' (es ++ Ended t ∷ [])) → opened' ≡ shift_remove_entry (nat_eq t) p.opened → ((ts : List (ℕ × ℕ)) → p.started ts → started' ts)
      → ((calls : List Call) → p.told calls → IsAllowed (Drops t) calls → told' (Drops t ∷ calls))
      → StandsFor (record p { told = told'; recorded = recorded'; opened = opened'; started = started' }) next fs (Then c m a)
  dropped told' recorded' opened' started' fs t m a end gives now_events now_opened now_snapshots tells =
      ended st (record p { told = told'; recorded = recorded'; opened = opened'; started = started' }) fs s t (Aborts t) m a
      end.here gives refl end.does end.txn end.session end.drops end.next
      (record {
        commits = st.log.commits;
        chains = st.log.chains;
        tracker = tells (tracked (acts c)) st.log.tracker
            (tracked_allowed (Aborts t ∷ acts c) ((settled st).opened s t end.here, (settled st).sound)).0;
        events = now_events (events (acts c)) st.log.events;
        opened = now_opened ∙ ap (shift_remove_entry (nat_eq t)) st.log.opened ∙ after_abort t (acts c) (settled st).sound;
        snapshots = now_snapshots (with_snapshots (begun (acts c)) (acts c)) st.log.snapshots;
      }) end.proper end.answers
