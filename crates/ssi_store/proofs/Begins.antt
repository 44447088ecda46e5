-- Begin.
use Rattle.std.proofs.Common.{List, None, Option, Some, ap, arith, cond, false, true, inl, inr, is_some, nat_lt, refl, subst, sym, ◌≡◌, ◌∷◌, ◌++◌, ◌+◌, ◌<◌, ◌∙◌, ℕ, [], IfSome, add-one, nat_eq}
use Rattle.std.specs.Option.{option_map}
use Rattle.std.proofs.lemmas.Bool.{cases_Bool, cond-false, cond-true, false_from_ne_true, le-ltb, lt-ltb}
use Rattle.std.proofs.lemmas.List.{append-nil}
use Rattle.indexmap.specs.IndexMap.{insert_entry}
use Rattle.lemmas.proofs.Options.{none_unless_some, some_value}
use Rattle.adya_keys.specs.Meaning.Keys.{key_eq}
use Rattle.adya_values.specs.Meaning.Histories.{Event}
use Rattle.ssi_conflict.specs.Computing.Steps.{smallest_ordered_pivot}
use Rattle.ssi_conflict.specs.Meaning.Calls.{Call, Begins as Enters}
use Rattle.ssi_conflict.specs.Clauses.Allowed.{IsAllowed}
use Rattle.ssi_snapshot.specs.Mirror.{snapshot_of, written}
use Rattle.ssi_store.specs.Meaning.Acts.{Begins, acts, act_by, has_begun, begun as has_started}
use Rattle.ssi_store.specs.Meaning.Courses.{Command as Do, Answer, Begun, Refused, Busy, Spent, Memory, Course, Then, txn_in, next_txn}
use Rattle.ssi_store.specs.Meaning.Replies.{reply, reply_for}
use Rattle.ssi_store.specs.Meaning.Recording.{events}
use Rattle.ssi_store.specs.Meaning.Seeing.{commit_count}
use Rattle.ssi_store.specs.Mirror.Standing.{Parts, IsLog, StandsFor, with_snapshots}
use Rattle.ssi_store.specs.Meaning.Tracked.{tracked}
use Rattle.ssi_store.specs.Machinery.Opens.{Sessions, open_at, number_of, IsOpen, IsReplaced}
use Rattle.ssi_store.specs.declared.open.Open.{Open}
use Rattle.ssi_store.proofs.Opens.{other_open, open_begun}
use Rattle.ssi_store.proofs.Rosters.{snapshots_then, opened_then}
use Rattle.ssi_store.proofs.SoundLogs.{open_from}
use Rattle.ssi_store.proofs.Steps.{both, settled, opened, idle, unchanged, answer_memory, refused, refused_same}
use Rattle.ssi_store.proofs.TrackedCalls.{tracked_allowed}

begin_idle : (c : Course) (s : List ℕ) → txn_in s c ≡ None
    → reply smallest_ordered_pivot c (Do.Begin s) ≡ cond (nat_lt 4294967295 (next_txn c)) (Refused Spent) (Begun (next_txn c))
begin_idle c s e = ap (λ o. reply_for smallest_ordered_pivot o c (Do.Begin s)) e

module _ {p : Parts} {next : ℕ} {es : Sessions} {c : Course} (st : StandsFor p next es c) (s : List ℕ) where
  pub begin_busy : is_some (open_at s es) ≡ true → StandsFor p next es (Then c (Do.Begin s) (Refused Busy))
  begin_busy there =
      let o = some_value (open_at s es) there in
      refused_same st (Do.Begin s) Busy refl
      (inl (sym (ap (λ (x : Option ℕ). reply_for smallest_ordered_pivot x c (Do.Begin s)) (opened st s o.0 o.1))))

  pub begin_spent : is_some (open_at s es) ≡ false → 4294967295 < next
      → StandsFor p next es (Then c (Do.Begin s) (Refused Spent))
  begin_spent there many =
      refused_same st (Do.Begin s) Spent refl (inl (sym (begin_idle c s (idle st s (none_unless_some _ there))
      ∙ ap (λ n. cond (nat_lt 4294967295 n) (Refused Spent) (Begun n)) (sym st.next_is)
      ∙ cond-true {A = Answer} (nat_lt 4294967295 next) (Refused Spent) (Begun next) (lt-ltb 4294967295 next many))))

  module _ (there : is_some (open_at s es) ≡ false) (few : next < 4294967296) where
    reply_is : reply smallest_ordered_pivot c (Do.Begin s) ≡ Begun next
    reply_is = begin_idle c s (idle st s (none_unless_some _ there))
        ∙ ap (λ n. cond (nat_lt 4294967295 n) (Refused Spent) (Begun n)) (sym st.next_is)
        ∙ cond-false {A = Answer} (nat_lt 4294967295 next) (Refused Spent) (Begun next)
        (le-ltb 4294967295 next (omega (arith, few)))

    fresh : (u : ℕ) → has_begun u (acts c) ≡ true → u < next
    fresh u f = subst (λ n. u < n) (sym st.next_is) ((settled st).below u f)

    may_begin : IsAllowed (Enters next p.commits) (tracked (acts c))
    may_begin = subst (λ n. IsAllowed (Enters next n) (tracked (acts c))) (sym st.log.commits)
        (tracked_allowed (Begins next ∷ acts c) (fresh, (settled st).sound)).0

    pub begin_memory : (told' : List Call → Type 0) (recorded' : List Event → Type 0) (opened' : List (ℕ × ℕ))
        (started' : List (ℕ × ℕ) → Type 0) (fs : Sessions)
        (t : ℕ) → t ≡ next → fs ≡ es → ((es : List Event) → p.recorded es → recorded' es) → opened' ≡ p.opened → ((ts : List (ℕ × ℕ)) → p.started ts → started' ts)
        → ((calls : List Call) → p.told calls → IsAllowed (Enters t p.commits) calls → told' calls)
        → StandsFor (record p { told = told'; recorded = recorded'; opened = opened'; started = started' }) next fs
        (Then c (Do.Begin s) (Refused Memory))
    begin_memory told' recorded' opened' started' fs t is same now_events now_opened now_snapshots tells =
        refused st (record p { told = told'; recorded = recorded'; opened = opened'; started = started' }) fs (Do.Begin s) Memory
        (record {
          commits = st.log.commits;
          chains = st.log.chains;
          tracker = tells (tracked (acts c)) st.log.tracker
              (subst (λ n. IsAllowed (Enters n p.commits) (tracked (acts c))) (sym is) may_begin);
          events = now_events (events (acts c)) st.log.events;
          opened = now_opened ∙ st.log.opened;
          snapshots = now_snapshots (with_snapshots (has_started (acts c)) (acts c)) st.log.snapshots;
        }) (unchanged es fs same) refl (answer_memory st (Do.Begin s) (Begun next) reply_is refl)

    begun_next : (told' : List Call → Type 0) (recorded' : List Event → Type 0) (opened' : List (ℕ × ℕ))
        (started' : List (ℕ × ℕ) → Type 0) (fs : Sessions)
        (o : Open) → IsReplaced s o es fs → ((es : List Event) → p.recorded es → recorded' es) → opened' ≡ insert_entry nat_eq p.opened next p.commits
        → ((ts : List (ℕ × ℕ)) → p.started ts → started' (ts ++ (next, p.commits) ∷ []))
        → ((calls : List Call) → p.told calls → IsAllowed (Enters next p.commits) calls → told' (Enters next p.commits ∷ calls))
        → number_of o ≡ next → snapshot_of o.view ≡ p.commits → o.operations ≡ 0 → written o.view ≡ []
        → StandsFor (record p { told = told'; recorded = recorded'; opened = opened'; started = started' }) (next + 1) fs
        (Then c (Do.Begin s) (Begun next))
    begun_next told' recorded' opened' started' fs o gives now_events now_opened now_snapshots tells txn stamp count none =
        let q : Parts = record p { told = told'; recorded = recorded'; opened = opened'; started = started' } in
        let at : open_at s es ≡ None = none_unless_some _ there in
        let acts_are : acts (Then c (Do.Begin s) (Begun next)) ≡ Begins next ∷ acts c =
        ap (λ (y : Option ℕ). act_by y (Do.Begin s) (Begun next) ++ acts c) (idle st s at) in
        let new : has_begun next (acts c) ≡ false =
        false_from_ne_true (has_begun next (acts c)) (λ f. (let less = fresh next f in omega (arith, less))) in
        record {
          follows = (refl, inl (sym reply_is), st.follows);
          log = subst (IsLog q) (sym acts_are) (record {
            commits = st.log.commits;
            chains = st.log.chains;
            tracker = subst (λ n. told' (Enters next n ∷ tracked (acts c))) st.log.commits
                (tells (tracked (acts c)) st.log.tracker may_begin);
            events = subst recorded' (sym (append-nil (events (acts c)))) (now_events (events (acts c)) st.log.events);
            opened = now_opened ∙ ap (λ n. insert_entry nat_eq p.opened next n) st.log.commits
                ∙ ap (λ l. insert_entry nat_eq l next (commit_count (acts c))) st.log.opened
                ∙ opened_then next (acts c) (settled st).sound new;
            snapshots = subst started' (ap (λ n. with_snapshots (has_started (acts c)) (acts c) ++ (next, n) ∷ []) st.log.commits
                ∙ snapshots_then next (acts c) (settled st).sound new)
                (now_snapshots (with_snapshots (has_started (acts c)) (acts c)) st.log.snapshots);
          });
          next_is = add-one next;
          txns = λ r. ap (option_map number_of) (gives r) ∙ elim (cases_Bool (key_eq s r)) [
            | inl same ↦ ap (λ b. option_map number_of (cond b (Some o) (open_at r es))) same ∙ ap Some txn
                ∙ sym (ap (λ b. cond b (Some next) (txn_in r c)) same)
            | inr other ↦ ap (λ b. option_map number_of (cond b (Some o) (open_at r es))) other ∙ st.txns r
                ∙ sym (ap (λ b. cond b (Some next) (txn_in r c)) other)
          ];
          views = λ r. subst (λ l. IfSome (open_at r fs) (IsOpen l)) (sym acts_are)
              (subst (λ y. IfSome y (IsOpen (Begins next ∷ acts c))) (sym (gives r)) (elim (cases_Bool (key_eq s r)) [
                | inl same ↦ subst (λ b. IfSome (cond b (Some o) (open_at r es)) (IsOpen (Begins next ∷ acts c))) (sym same)
                    (open_begun next (acts c) o (settled st).sound new txn (stamp ∙ st.log.commits) count none)
                | inr other ↦ subst (λ b. IfSome (cond b (Some o) (open_at r es)) (IsOpen (Begins next ∷ acts c))) (sym other)
                    (both (IsOpen (acts c)) (IsOpen (Begins next ∷ acts c)) (open_at r es)
                    (λ v here old. other_open next (Begins next) (acts c) v refl
                    (λ e. (let less = fresh (number_of v)
                    (open_from (number_of v) (acts c) ((settled st).opened r (number_of v) (opened st r v here))).begun in
                    omega (arith, less, e))) old) (st.views r))
              ]));
        }

    pub begun : (told' : List Call → Type 0) (recorded' : List Event → Type 0) (opened' : List (ℕ × ℕ))
        (started' : List (ℕ × ℕ) → Type 0) (fs : Sessions)
        (o : Open) (t : ℕ) → t ≡ next → IsReplaced s o es fs → ((es : List Event) → p.recorded es → recorded' es)
        → opened' ≡ insert_entry nat_eq p.opened t p.commits → ((ts : List (ℕ × ℕ)) → p.started ts → started' (ts ++ (t, p.commits) ∷ []))
        → ((calls : List Call) → p.told calls → IsAllowed (Enters t p.commits) calls → told' (Enters t p.commits ∷ calls))
        → number_of o ≡ t → snapshot_of o.view ≡ p.commits → o.operations ≡ 0 → written o.view ≡ []
        → StandsFor (record p { told = told'; recorded = recorded'; opened = opened'; started = started' }) (next + 1) fs
        (Then c (Do.Begin s) (Begun t))
    begun told' recorded' opened' started' fs o t is gives now_events now_opened now_snapshots tells txn stamp count none =
        subst (λ a. StandsFor (record p { told = told'; recorded = recorded'; opened = opened'; started = started' }) (next + 1) fs
        (Then c (Do.Begin s) (Begun a))) (sym is)
        (begun_next told' recorded' opened' started' fs o gives now_events
        (subst (λ n. opened' ≡ insert_entry nat_eq p.opened n p.commits) is now_opened)
        (subst (λ n. (ts : List (ℕ × ℕ)) → p.started ts → started' (ts ++ (n, p.commits) ∷ [])) is now_snapshots)
        (subst (λ n. (calls : List Call) → p.told calls → IsAllowed (Enters n p.commits) calls
        → told' (Enters n p.commits ∷ calls)) is tells) (txn ∙ is) stamp count none)
