-- Commit.
use Rattle.std.proofs.Common.{List, None, Option, Some, ap, arith, cond, true, inl, nat_eq, refl, subst, suc, sym, ◌≡◌, ◌∷◌, ◌++◌, ◌+◌, ◌<◌, ◌∙◌, ℕ, [], add-one}
use Rattle.std.specs.List.{All}
use Rattle.std.proofs.lemmas.List.Elements.{All-append, All-cons, All-nil}
use Rattle.indexmap.specs.IndexMap.{shift_remove_entry}
use Rattle.adya_keys.specs.Meaning.Keys.{key_eq}
use Rattle.adya_values.specs.Meaning.Histories.{Entry, Event, Commit as Done}
use Rattle.adya_values.specs.Meaning.Events.{listed}
use Rattle.ssi_versions.specs.Mirror.{chain_of, IsAbove}
use Rattle.ssi_versions.specs.Meaning.Changes.{Held, held, listing, stamped}
use Rattle.ssi_conflict.specs.Computing.Steps.{smallest_ordered_pivot}
use Rattle.ssi_conflict.specs.Meaning.Calls.{Call, Commits as Ends}
use Rattle.ssi_conflict.specs.Clauses.Allowed.{IsAllowed, AreAllowed}
use Rattle.ssi_conflict.specs.Clauses.Pairs.{IsOrderedPivot, IsSmallest}
use Rattle.ssi_snapshot.specs.Clauses.Listings.{keys}
use Rattle.ssi_snapshot.specs.Mirror.{snapshot_of, written}
use Rattle.ssi_store.specs.Meaning.Acts.{Act, Commits, acts, begun}
use Rattle.ssi_store.specs.Meaning.Courses.{Command as Do, Committed, Conflict, Unsafe, Refused, Idle, Memory, Course, Then}
use Rattle.ssi_store.specs.Meaning.Replies.{conflict, may_run_out_of_memory, reply, reply_for, unless_conflict, unless_pivot}
use Rattle.ssi_store.specs.Meaning.Recording.{events}
use Rattle.ssi_store.specs.Meaning.Seeing.{changed, commit_count, own_keys, snapshot}
use Rattle.ssi_store.specs.Mirror.Standing.{Parts, with_snapshots, StandsFor}
use Rattle.ssi_store.specs.Meaning.Tracked.{tracked}
use Rattle.ssi_store.specs.Machinery.Below.{Below}
use Rattle.ssi_store.specs.Machinery.Ends.{IsEnd}
use Rattle.ssi_store.specs.Machinery.Opens.{Sessions, open_at, number_of}
use Rattle.ssi_store.specs.Machinery.Overtaken.{IsLeast, is_passed, passed_by}
use Rattle.ssi_store.specs.declared.open.Open.{Open}
use Rattle.ssi_store.proofs.Overtaking.{conflict_is, writer_is}
use Rattle.ssi_store.proofs.Rosters.{after_commit}
use Rattle.ssi_store.proofs.Steps.{settled, opened, idle, open_of, answer_memory, same_course, refused_same, ended}
use Rattle.ssi_store.proofs.TrackedCalls.{tracked_allowed}
use Rattle.ssi_store.proofs.OwnWrites.{last_writes_of}

-- after an install with this stamp the next one is above all stamps
pub above_installed : (n : ℕ) (old new : List Held) (ws : List Entry) → IsAbove n old
    → ((k : List ℕ) → chain_of k new ≡ chain_of k old ++ listing (stamped n (listed k ws))) → IsAbove (n + 1) new
above_installed n old new ws above added k =
    subst (All (λ h. h.stamp < n + 1)) (sym (added k))
    (All-append (λ h. h.stamp < n + 1) (chain_of k old) _
    (λ i d l. (let less = above k i d l in omega (arith, less)))
    (last (listed k ws)))
  where
    last : (o : Option Entry) → All (λ h. h.stamp < n + 1) (listing (stamped n o))
    last None = All-nil (λ h. h.stamp < n + 1)
    last (Some w) = All-cons (λ h. h.stamp < n + 1) (record { entry = w; stamp = n }) [] (omega arith) (All-nil (λ h. h.stamp < n + 1))

memory_may : (s : List ℕ) (o : Option (List ℕ)) (p : Option ℕ) (log : List Act)
    → may_run_out_of_memory (Do.Commit s) (unless_conflict o log (unless_pivot p Committed)) ≡ true
memory_may s None None log = refl
memory_may s None (Some n) log = refl
memory_may s (Some k) p log = refl

module _ {p : Parts} {next : ℕ} {es : Sessions} {c : Course} (st : StandsFor p next es c) (s : List ℕ) where
  pub commit_idle : open_at s es ≡ None → StandsFor p next es (Then c (Do.Commit s) (Refused Idle))
  commit_idle at = refused_same st (Do.Commit s) Idle refl
      (inl (sym (ap (λ (x : Option ℕ). reply_for smallest_ordered_pivot x c (Do.Commit s)) (idle st s at))))

  module _ (o : Open) (at : open_at s es ≡ Some o) where
    abbrev t : ℕ
    t = number_of o

    abbrev log : List Act
    log = acts c

    abbrev after : Option ℕ
    after = smallest_ordered_pivot (tracked (Commits t ∷ log))

    reply_is : reply smallest_ordered_pivot c (Do.Commit s)
        ≡ unless_conflict (conflict (number_of o) (acts c)) (acts c)
        (unless_pivot (smallest_ordered_pivot (tracked (Commits (number_of o) ∷ acts c))) Committed)
    reply_is = ap (λ (y : Option ℕ). reply_for smallest_ordered_pivot y c (Do.Commit s)) (opened st s o at)

    pub commit_memory : (holds' : List Held) (told' : List Call → Type 0) → holds' ≡ p.holds → told' (tracked (acts c))
        → StandsFor (record p { holds = holds'; told = told' }) next es (Then c (Do.Commit s) (Refused Memory))
    commit_memory holds' told' same tells =
        refused_same (same_course st (record p { holds = holds'; told = told' }) (record {
          commits = st.log.commits;
          chains = λ k. ap (chain_of k) same ∙ st.log.chains k;
          tracker = tells;
          events = st.log.events;
          opened = st.log.opened;
          snapshots = st.log.snapshots;
        })) (Do.Commit s) Memory refl
        (answer_memory st (Do.Commit s) _ reply_is (memory_may s (conflict t log) after log))

    -- the log tells of the conflict what the store has found
    pub found_conflict : Below → (n : ℕ) (ws : List Entry) (l : Option (List ℕ)) → n ≡ snapshot_of o.view → ws ≡ written o.view
        → IsLeast (is_passed n p.holds) (keys ws) l → conflict (number_of o) (acts c) ≡ l
    found_conflict b n ws l is_n are least =
        conflict_is b p.holds log st.log.chains t l
        (subst (λ ks. IsLeast (is_passed (snapshot t log) p.holds) ks l) (ap keys are ∙ (open_of st s o at).keys)
        (subst (λ x. IsLeast (is_passed x p.holds) (keys ws) l) (is_n ∙ (open_of st s o at).stamp) least))

    pub conflict_ends : Below → (u : ℕ) (k : List ℕ) (w : ℕ) → u ≡ number_of o → conflict (number_of o) (acts c) ≡ Some k
        → w ≡ passed_by k p.holds → IsEnd s u c (Do.Commit s) (Conflict k w)
    conflict_ends b u k w is found by = record {
      session = λ r. refl;
      txn = refl;
      here = opened st s o at ∙ ap Some (sym is);
      does = refl;
      drops = λ x. refl;
      next = refl;
      proper = refl;
      answers = inl (ap (Conflict k) (by ∙ writer_is b p.holds log st.log.chains k)
          ∙ sym (reply_is ∙ ap (λ y. unless_conflict y log (unless_pivot after Committed)) found));
    }

    module _ (b : Below) (free : conflict (number_of o) (acts c) ≡ None) where
      allowed : AreAllowed (tracked (Commits (number_of o) ∷ acts c))
      allowed = tracked_allowed (Commits t ∷ log)
          (record { opened = (settled st).opened s t (opened st s o at); no_conflict = free }, (settled st).sound)

      is_next : p.commits + 1 ≡ suc (commit_count (acts c))
      is_next = add-one p.commits ∙ ap suc st.log.commits

      module _ (u : ℕ) (ks : List (List ℕ)) (is_u : u ≡ number_of o) (are_ks : ks ≡ keys (written o.view)) where
        -- the call of the tracker is the one that the log has
        told : Ends u (p.commits + 1) ks ≡ Ends (number_of o) (suc (commit_count (acts c))) (own_keys (number_of o) (acts c))
        told = ap (λ x. Ends x (p.commits + 1) ks) is_u ∙ ap (λ n. Ends t n ks) is_next
            ∙ ap (λ l. Ends t (suc (commit_count log)) l) (are_ks ∙ (open_of st s o at).keys)

        pub may_commit : IsAllowed (Ends u (p.commits + 1) ks) (tracked (acts c))
        may_commit = subst (λ x. IsAllowed x (tracked log)) (sym told) allowed.0

        named : (l : Option ℕ) → IsSmallest IsOrderedPivot (Ends u (p.commits + 1) ks ∷ tracked (acts c)) l
            → reply smallest_ordered_pivot c (Do.Commit s) ≡ unless_pivot l Committed
        named l least = reply_is ∙ ap (λ y. unless_conflict y log (unless_pivot after Committed)) free
            ∙ ap (λ y. unless_pivot y Committed) ((b.named (tracked (Commits t ∷ log)) allowed l).1
            (subst (λ x. IsSmallest IsOrderedPivot (x ∷ tracked log) l) told least))

        pub commit_ends : (n : ℕ) → IsSmallest IsOrderedPivot (Ends u (p.commits + 1) ks ∷ tracked (acts c)) (Some n)
            → IsEnd s u c (Do.Commit s) (Unsafe n)
        commit_ends n least = record {
          session = λ r. refl;
          txn = refl;
          here = opened st s o at ∙ ap Some (sym is_u);
          does = refl;
          drops = λ x. refl;
          next = refl;
          proper = refl;
          answers = inl (sym (named (Some n) least));
        }

        pub committed : (holds' : List Held) (told' : List Call → Type 0) (recorded' : List Event → Type 0)
            (opened' : List (ℕ × ℕ)) (started' : List (ℕ × ℕ) → Type 0) (fs : Sessions) (ws : List Entry)
            → IsSmallest IsOrderedPivot (Ends u (p.commits + 1) ks ∷ tracked (acts c)) None → ws ≡ written o.view
            → ((k : List ℕ) → chain_of k holds' ≡ chain_of k p.holds ++ listing (stamped (p.commits + 1) (listed k ws)))
            → told' (Ends u (p.commits + 1) ks ∷ tracked (acts c)) → ((es : List Event) → p.recorded es → recorded' (es ++ Done u ∷ []))
            → opened' ≡ shift_remove_entry (nat_eq u) p.opened → ((ts : List (ℕ × ℕ)) → p.started ts → started' ts)
            → ((q : List ℕ) → open_at q fs ≡ cond (key_eq s q) None (open_at q es))
            → StandsFor (record {
              holds = holds';
              told = told';
              recorded = recorded';
              commits = p.commits + 1;
              opened = opened';
              started = started';
            }) next fs (Then c (Do.Commit s) Committed)
        committed holds' told' recorded' opened' started' fs ws least are added tells now_events now_opened now_snapshots gives =
            ended st (record {
              holds = holds';
              told = told';
              recorded = recorded';
              commits = p.commits + 1;
              opened = opened';
              started = started';
            }) fs s t (Commits t) (Do.Commit s) Committed (opened st s o at) gives refl refl refl (λ r. refl)
            (λ y. refl) refl
            (record {
              commits = is_next;
              chains = λ k. added k
                  ∙ ap (λ hs. hs ++ listing (stamped (p.commits + 1) (listed k ws))) (st.log.chains k)
                  ∙ ap (λ n. held k (changed log) ++ listing (stamped n (listed k ws))) is_next
                  ∙ ap (λ w. held k (changed log) ++ listing (stamped (suc (commit_count log)) w))
                  (ap (listed k) are ∙ (open_of st s o at).own k ∙ sym (last_writes_of t k log));
              tracker = subst (λ x. told' (x ∷ tracked log)) told tells;
              events = subst recorded' (ap (λ x. events log ++ Done x ∷ []) is_u) (now_events (events log) st.log.events);
              opened = now_opened ∙ ap (λ x. shift_remove_entry (nat_eq x) p.opened) is_u
                  ∙ ap (shift_remove_entry (nat_eq t)) st.log.opened ∙ after_commit t log (settled st).sound;
              snapshots = now_snapshots (with_snapshots (begun log) log) st.log.snapshots;
            }) refl (inl (sym (named None least)))
