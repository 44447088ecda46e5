-- Get.
use Rattle.std.proofs.Common.{List, None, Option, Some, ap, false, true, inl, is_some, nat_le, refl, subst, sym, ◌≡◌, ◌∷◌, ◌++◌, ◌<◌, ◌≤◌, ◌∙◌, ℕ, []}
use Rattle.std.proofs.lemmas.Bool.{cond-false, cond-true, le-leb, lt-leb}
use Rattle.adya_values.specs.Meaning.Histories.{Event}
use Rattle.adya_values.specs.Meaning.Events.{shown}
use Rattle.ssi_versions.specs.Mirror.{chain_of}
use Rattle.ssi_versions.specs.Meaning.Changes.{otherwise, entry_in}
use Rattle.ssi_versions.specs.Clauses.ByStamp.{newest_within}
use Rattle.ssi_conflict.specs.Computing.Steps.{smallest_ordered_pivot}
use Rattle.ssi_conflict.specs.Meaning.Calls.{Call, Reads}
use Rattle.ssi_conflict.specs.Clauses.Allowed.{AreAllowed}
use Rattle.ssi_snapshot.specs.Mirror as View
use Rattle.ssi_snapshot.specs.Mirror.{snapshot_of, own}
use Rattle.ssi_store.specs.Meaning.Acts.{Act, Gets, acts, act_by, operations}
use Rattle.ssi_store.specs.Meaning.Courses.{Command as Do, Answer, Refused, Idle, Long, Memory, Course, Then, txn_after, next_txn}
use Rattle.ssi_store.specs.Meaning.Replies.{reply, reply_for, may_run_out_of_memory, unless_pivot, got}
use Rattle.ssi_store.specs.Meaning.Recording.{get_event}
use Rattle.ssi_store.specs.Meaning.Seeing.{changed, own_write, sees, snapshot, wrote}
use Rattle.ssi_store.specs.Mirror.Standing.{Parts, StandsFor}
use Rattle.ssi_store.specs.Meaning.Tracked.{tracked}
use Rattle.ssi_store.specs.Machinery.Below.{Below}
use Rattle.ssi_store.specs.Machinery.Looks.{IsLook}
use Rattle.ssi_store.specs.Machinery.Opens.{Sessions, open_at, number_of}
use Rattle.ssi_store.specs.declared.open.Open.{Open}
use Rattle.ssi_store.proofs.ChangesAllowed.{changed_installable, open_protected}
use Rattle.ssi_store.proofs.Steps.{settled, opened, idle, open_of, answer_memory, refused_same}
use Rattle.ssi_store.proofs.TrackedCalls.{tracked_allowed}

memory_may : (s k : List ℕ) (p : Option ℕ) (v : Option (List ℕ))
    → may_run_out_of_memory (Do.Get s k) (unless_pivot p (got v)) ≡ true
memory_may s k None None = refl
memory_may s k None (Some v) = refl
memory_may s k (Some p) v = refl

got_does : (t : ℕ) (s k : List ℕ) (v : Option (List ℕ)) → act_by (Some t) (Do.Get s k) (got v) ≡ Gets t k ∷ []
got_does t s k None = refl
got_does t s k (Some v) = refl

got_keeps : (v : Option (List ℕ)) (y : Option ℕ) → txn_after y (got v) ≡ y
got_keeps None y = refl
got_keeps (Some v) y = refl

got_next : (c : Course) (s k : List ℕ) (v : Option (List ℕ)) → next_txn (Then c (Do.Get s k) (got v)) ≡ next_txn c
got_next c s k None = refl
got_next c s k (Some v) = refl

module _ {p : Parts} {next : ℕ} {es : Sessions} {c : Course} (st : StandsFor p next es c) (s k : List ℕ) where
  pub get_idle : open_at s es ≡ None → StandsFor p next es (Then c (Do.Get s k) (Refused Idle))
  get_idle at = refused_same st (Do.Get s k) Idle refl
      (inl (sym (ap (λ (x : Option ℕ). reply_for smallest_ordered_pivot x c (Do.Get s k)) (idle st s at))))

  module _ (o : Open) (at : open_at s es ≡ Some o) where
    abbrev t : ℕ
    t = number_of o

    abbrev log : List Act
    log = acts c

    allowed : AreAllowed (tracked (Gets (number_of o) k ∷ acts c))
    allowed = tracked_allowed (Gets t k ∷ log) ((settled st).opened s t (opened st s o at), (settled st).sound)

    -- what the view sees is what the log says
    pub sees_is : Below → View.sees k o.view p.holds ≡ sees (number_of o) k (acts c)
    sees_is b =
        ap (λ w. otherwise w (entry_in (newest_within (snapshot_of o.view) (chain_of k p.holds)))) ((open_of st s o at).own k)
        ∙ ap (λ n. otherwise (own_write t k log) (entry_in (newest_within n (chain_of k p.holds)))) (open_of st s o at).stamp
        ∙ ap (λ hs. otherwise (own_write t k log) (entry_in (newest_within (snapshot t log) hs))) (st.log.chains k)
        ∙ ap (λ h. otherwise (own_write t k log) (entry_in h))
        (b.shows (changed log) (changed_installable log) k (snapshot t log)
        (open_protected log (settled st).sound t ((settled st).opened s t (opened st s o at))))

    abbrev unless : Answer
    unless = unless_pivot (smallest_ordered_pivot (tracked (Gets t k ∷ log))) (got (shown (sees t k log)))

    pub get_long : 65535 ≤ o.operations → StandsFor p next es (Then c (Do.Get s k) (Refused Long))
    get_long long = refused_same st (Do.Get s k) Long refl
        (inl (sym (ap (λ (y : Option ℕ). reply_for smallest_ordered_pivot y c (Do.Get s k)) (opened st s o at)
        ∙ cond-true {A = Answer} (nat_le 65535 (operations t log)) (Refused Long) unless
        (ap (nat_le 65535) (sym (open_of st s o at).count) ∙ le-leb 65535 o.operations long))))

    module _ (short : o.operations < 65535) where
      reply_is : reply smallest_ordered_pivot c (Do.Get s k) ≡ unless_pivot (smallest_ordered_pivot
          (tracked (Gets (number_of o) k ∷ acts c))) (got (shown (sees (number_of o) k (acts c))))
      reply_is = ap (λ (y : Option ℕ). reply_for smallest_ordered_pivot y c (Do.Get s k)) (opened st s o at)
          ∙ cond-false {A = Answer} (nat_le 65535 (operations t log)) (Refused Long) unless
          (ap (nat_le 65535) (sym (open_of st s o at).count) ∙ lt-leb 65535 o.operations short)

      pub get_memory : StandsFor p next es (Then c (Do.Get s k) (Refused Memory))
      get_memory =
          refused_same st (Do.Get s k) Memory refl
          (answer_memory st (Do.Get s k) _ reply_is
          (memory_may s k (smallest_ordered_pivot (tracked (Gets t k ∷ log))) (shown (sees t k log))))

      get_is : Below → (calls : List Call) → tracked (Gets (number_of o) k ∷ acts c) ≡ calls ++ tracked (acts c) → (e : Event)
          → e ≡ get_event (number_of o) k (View.sees k o.view p.holds) → (a : Answer)
          → a ≡ got (shown (View.sees k o.view p.holds)) → IsLook s (number_of o) calls e a c (Do.Get s k)
      get_is b calls tells e event a answer =
          let same : a ≡ got (shown (sees t k log)) = answer ∙ ap (λ w. got (shown w)) (sees_is b) in
          record {
            act = Gets t k;
            looks = refl;
            session = λ r. refl;
            txn = refl;
            here = opened st s o at;
            proper = refl;
            told = tells;
            allowed = allowed;
            records = ap (λ w. get_event t k w ∷ []) (sym (sees_is b)) ∙ ap (λ x. x ∷ []) (sym event);
            replies = reply_is ∙ ap (unless_pivot (smallest_ordered_pivot (tracked (Gets t k ∷ log)))) (sym same);
            does = ap (act_by (Some t) (Do.Get s k)) same ∙ got_does t s k (shown (sees t k log));
            keeps = λ y. ap (txn_after y) same ∙ got_keeps (shown (sees t k log)) y;
            next = ap (λ x. next_txn (Then c (Do.Get s k) x)) same ∙ got_next c s k (shown (sees t k log));
            aborts = λ n. refl;
            memory = λ n. ap (λ x. may_run_out_of_memory (Do.Get s k) (unless_pivot n x)) same
                ∙ memory_may s k n (shown (sees t k log));
          }

      -- a get of a key that the transaction has not written
      pub get_other : Below → (u : ℕ) → u ≡ number_of o → is_some (own k o.view) ≡ false → (e : Event)
          → e ≡ get_event (number_of o) k (View.sees k o.view p.holds) → (a : Answer) → a ≡ got (shown (View.sees k o.view p.holds))
          → IsLook s u (Reads u k k ∷ []) e a c (Do.Get s k)
      get_other b u same other e event a answer =
          subst (λ x. IsLook s x (Reads x k k ∷ []) e a c (Do.Get s k)) (sym same)
          (get_is b (Reads t k k ∷ [])
          (cond-false {A = List Call} (wrote t k log) (tracked log) (Reads t k k ∷ tracked log)
          (sym (ap is_some ((open_of st s o at).own k)) ∙ other))
          e event a answer)

      -- a get that is answered from the own writes
      pub get_own : Below → (u : ℕ) → u ≡ number_of o → is_some (own k o.view) ≡ true → (e : Event)
          → e ≡ get_event (number_of o) k (View.sees k o.view p.holds) → (a : Answer) → a ≡ got (shown (View.sees k o.view p.holds))
          → IsLook s u [] e a c (Do.Get s k)
      get_own b u same mine e event a answer =
          subst (λ x. IsLook s x [] e a c (Do.Get s k)) (sym same)
          (get_is b []
          (cond-true {A = List Call} (wrote t k log) (tracked log) (Reads t k k ∷ tracked log)
          (sym (ap is_some ((open_of st s o at).own k)) ∙ mine))
          e event a answer)
