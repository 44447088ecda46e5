-- From a course to the course with one more command, for a store's parts and sessions.
use Rattle.std.proofs.Common.{Bool, List, None, Option, Some, ap, cond, false, true, inl, inr, refl, subst, sym, ◌≡◌, ◌∷◌, ◌++◌, ◌∙◌, ℕ, [], IfSome}
use Rattle.std.specs.Option.{option_map}
use Rattle.std.proofs.lemmas.Bool.{both_ways, cases_Bool, cond-false, cond-true}
use Rattle.std.proofs.lemmas.Option.{same_Some}
use Rattle.lemmas.proofs.Orderings.{bytes_eq-from, bytes_eq-same}
use Rattle.adya_keys.specs.Meaning.Keys.{key_eq}
use Rattle.ssi_conflict.specs.Computing.Steps.{smallest_ordered_pivot}
use Rattle.ssi_store.specs.Meaning.Acts.{Act, acts, act_by, act_of}
use Rattle.ssi_store.specs.Meaning.Courses.{Command, Command as Do, Answer, Refused, Refusal, Course, Then, is_of, txn_in, txn_after, txn_for, next_txn}
use Rattle.ssi_store.specs.Clauses.Following.{is_proper}
use Rattle.ssi_store.specs.Meaning.Replies.{IsAnswer, reply, may_run_out_of_memory}
use Rattle.ssi_store.specs.Mirror.Standing.{Parts, IsLog, StandsFor}
use Rattle.ssi_store.specs.Machinery.Opens.{Sessions, open_at, number_of, IsOpen, IsSameOpen, IsCounted, IsReplaced}
use Rattle.ssi_store.specs.declared.open.Open.{Open}
use Rattle.ssi_store.proofs.Opens.{IsBy, same_open, other_open}
use Rattle.ssi_store.proofs.SoundCourses.{Stands as Settled, course_stands}

pub both : {X : Type 0} (P Q : X → Type 0) (o : Option X) → ((x : X) → o ≡ Some x → P x → Q x) → IfSome o P → IfSome o Q
both P Q None f h = tt
both P Q (Some x) f h = f x refl h

-- sessions that show the same
pub record AreSame (es fs : Sessions) : Type 0 where
  pub here : (s : List ℕ) → option_map number_of (open_at s fs) ≡ option_map number_of (open_at s es)
  pub views : (log : List Act) → ((s : List ℕ) → IfSome (open_at s es) (IsOpen log)) → (s : List ℕ)
      → IfSome (open_at s fs) (IsOpen log)

pub unchanged : (es fs : Sessions) → fs ≡ es → AreSame es fs
unchanged es fs e = record {
  here = λ s. ap (λ x. option_map number_of (open_at s x)) e;
  views = λ log f s. subst (λ x. IfSome (open_at s x) (IsOpen log)) (sym e) (f s);
}

-- one of them may have been replaced by another that shows the same
pub replaced : (s : List ℕ) (o p : Open) (es fs : Sessions) → open_at s es ≡ Some o → IsSameOpen o p
    → IsReplaced s p es fs → AreSame es fs
replaced s o p es fs at same gives = record {
  here = λ q. ap (option_map number_of) (gives q) ∙ elim (cases_Bool (key_eq s q)) [
    | inl is ↦ ap (λ b. option_map number_of (cond b (Some p) (open_at q es))) is ∙ ap Some same.view.0
        ∙ sym (ap (option_map number_of) (subst (λ x. open_at x es ≡ Some o) (bytes_eq-same s q is) at))
    | inr other ↦ ap (λ b. option_map number_of (cond b (Some p) (open_at q es))) other
  ];
  views = λ log f q. subst (λ x. IfSome x (IsOpen log)) (sym (gives q)) (elim (cases_Bool (key_eq s q)) [
    | inl is ↦ subst (λ b. IfSome (cond b (Some p) (open_at q es)) (IsOpen log)) (sym is)
        (same_open log o p same (subst (λ x. IfSome x (IsOpen log)) at (f s)))
    | inr other ↦ subst (λ b. IfSome (cond b (Some p) (open_at q es)) (IsOpen log)) (sym other) (f q)
  ]);
}

-- the session's transaction may be told by another look-up
pub counted_at : (es fs : Sessions) (s : List ℕ) (o v : Open) → open_at s es ≡ Some v → open_at s es ≡ Some o
    → (p : Open) × IsCounted v p × IsReplaced s p es fs → (p : Open) × IsCounted o p × IsReplaced s p es fs
counted_at es fs s o v here at is =
    subst (λ u. (p : Open) × IsCounted u p × IsReplaced s p es fs) (same_Some v o (sym here ∙ at)) is

none_of : (t : ℕ) (m : Command) (x : Refusal) → act_of t m (Refused x) ≡ []
none_of t (Do.Begin q) x = refl
none_of t (Do.Get q k) x = refl
none_of t (Do.Put q k v) x = refl
none_of t (Do.Del q k) x = refl
none_of t (Do.Scan q low high) x = refl
none_of t (Do.ScanFirst q low high n) x = refl
none_of t (Do.Commit q) x = refl
none_of t (Do.Abort q) x = refl
none_of t Do.Collect x = refl
none_of t Do.Stat x = refl

none_by : (o : Option ℕ) (m : Command) (x : Refusal) → act_by o m (Refused x) ≡ []
none_by None m x = refl
none_by (Some t) m x = none_of t m x

kept_by : (b : Bool) (o : Option ℕ) → cond b o o ≡ o
kept_by true o = refl
kept_by false o = refl

-- another name for the answer
pub same_answer : {p : Parts} {n : ℕ} {es : Sessions} (c : Course) (m : Command) (a b : Answer) → a ≡ b
    → StandsFor p n es (Then c m b) → StandsFor p n es (Then c m a)
same_answer {p = p} {n = n} {es = es} c m a b e st = subst (λ x. StandsFor p n es (Then c m x)) (sym e) st

module _ {p : Parts} {next : ℕ} {es : Sessions} {c : Course} (st : StandsFor p next es c) where
  pub settled : Settled smallest_ordered_pivot c
  settled = course_stands smallest_ordered_pivot c st.follows

  -- a session's open transaction
  pub opened : (s : List ℕ) (o : Open) → open_at s es ≡ Some o → txn_in s c ≡ Some (number_of o)
  opened s o at = sym (st.txns s) ∙ ap (option_map number_of) at

  pub idle : (s : List ℕ) → open_at s es ≡ None → txn_in s c ≡ None
  idle s at = sym (st.txns s) ∙ ap (option_map number_of) at

  pub open_of : (s : List ℕ) (o : Open) → open_at s es ≡ Some o → IsOpen (acts c) o
  open_of s o at = subst (λ x. IfSome x (IsOpen (acts c))) at (st.views s)

  -- the same course, with parts that tell the same
  pub same_course : (q : Parts) → IsLog q (acts c) → StandsFor q next es c
  same_course q log = record { follows = st.follows; log = log; next_is = st.next_is; txns = st.txns; views = st.views }

  pub answer_memory : (m : Command) (r : Answer) → reply smallest_ordered_pivot c m ≡ r
      → may_run_out_of_memory m r ≡ true
      → IsAnswer smallest_ordered_pivot c m (Refused Refusal.Memory)
  answer_memory m r e h = inr (refl, ap (may_run_out_of_memory m) e ∙ h)

  -- a refusal, after which the parts may be others that tell the same
  pub refused : (q : Parts) (fs : Sessions) (m : Command) (x : Refusal) → IsLog q (acts c) → AreSame es fs
      → is_proper m ≡ true → IsAnswer smallest_ordered_pivot c m (Refused x) → StandsFor q next fs (Then c m (Refused x))
  refused q fs m x log same proper answers =
      let acts_are : acts (Then c m (Refused x)) ≡ acts c = ap (λ l. l ++ acts c) (none_by (txn_for m c) m x) in
      record {
        follows = (proper, answers, st.follows);
        log = subst (IsLog q) (sym acts_are) log;
        next_is = st.next_is;
        txns = λ s. same.here s ∙ st.txns s ∙ sym (kept_by (is_of s m) (txn_in s c));
        views = λ s. subst (λ l. IfSome (open_at s fs) (IsOpen l)) (sym acts_are) (same.views (acts c) st.views s);
      }

  -- the same if nothing has changed
  pub refused_same : (m : Command) (x : Refusal) → is_proper m ≡ true → IsAnswer smallest_ordered_pivot c m (Refused x)
      → StandsFor p next es (Then c m (Refused x))
  refused_same m x proper answers = refused p es m x st.log (unchanged es es refl) proper answers

  -- how the views of the other transactions are after an act of t, whose session is s
  others : (s : List ℕ) (t : ℕ) (x : Act) (now : Option Open) (q : List ℕ) → txn_in s c ≡ Some t → IsBy t x
      → IfSome now (IsOpen (x ∷ acts c)) → IfSome (cond (key_eq s q) now (open_at q es)) (IsOpen (x ∷ acts c))
  others s t x now q here by is = elim (cases_Bool (key_eq s q)) [
    | inl same ↦ subst (λ b. IfSome (cond b now (open_at q es)) (IsOpen (x ∷ acts c))) (sym same) is
    | inr other ↦ subst (λ b. IfSome (cond b now (open_at q es)) (IsOpen (x ∷ acts c))) (sym other)
        (both (IsOpen (acts c)) (IsOpen (x ∷ acts c)) (open_at q es)
        (λ v at old. other_open t x (acts c) v by
        (λ e. both_ways _ other (bytes_eq-from s q (settled.apart s q t here (opened q v at ∙ ap Some (sym e))))) old)
        (st.views q))
  ]

  -- an act of the session's transaction that doesn't end it
  pub worked : (q : Parts) (fs : Sessions) (s : List ℕ) (o v : Open) (x : Act) (m : Command) (a : Answer)
      → open_at s es ≡ Some o → IsReplaced s v es fs → number_of v ≡ number_of o → IsOpen (x ∷ acts c) v
      → IsBy (number_of o) x → act_by (Some (number_of o)) m a ≡ x ∷ [] → txn_for m c ≡ txn_in s c
      → ((y : Option ℕ) → txn_after y a ≡ y) → next_txn (Then c m a) ≡ next_txn c → IsLog q (x ∷ acts c)
      → is_proper m ≡ true → IsAnswer smallest_ordered_pivot c m a → StandsFor q next fs (Then c m a)
  worked q fs s o v x m a at gives txn is by does of keeps after log proper answers =
      let acts_are : acts (Then c m a) ≡ x ∷ acts c =
      ap (λ (y : Option ℕ). act_by y m a ++ acts c) (of ∙ opened s o at) ∙ ap (λ l. l ++ acts c) does in
      record {
        follows = (proper, answers, st.follows);
        log = subst (IsLog q) (sym acts_are) log;
        next_is = st.next_is ∙ sym after;
        txns = λ r. ap (option_map number_of) (gives r) ∙ elim (cases_Bool (key_eq s r)) [
          | inl same ↦ ap (λ b. option_map number_of (cond b (Some v) (open_at r es))) same ∙ ap Some txn
              ∙ sym (opened s o at) ∙ ap (λ y. txn_in y c) (bytes_eq-same s r same)
          | inr other ↦ ap (λ b. option_map number_of (cond b (Some v) (open_at r es))) other ∙ st.txns r
        ] ∙ sym (ap (λ y. cond (is_of r m) y (txn_in r c)) (keeps (txn_in r c)) ∙ kept_by (is_of r m) (txn_in r c));
        views = λ r. subst (λ l. IfSome (open_at r fs) (IsOpen l)) (sym acts_are)
            (subst (λ y. IfSome y (IsOpen (x ∷ acts c))) (sym (gives r))
            (others s (number_of o) x (Some v) r (opened s o at) by is));
      }

  -- an act that ends the session's transaction
  pub ended : (q : Parts) (fs : Sessions) (s : List ℕ) (t : ℕ) (x : Act) (m : Command) (a : Answer) → txn_in s c ≡ Some t
      → ((r : List ℕ) → open_at r fs ≡ cond (key_eq s r) None (open_at r es)) → IsBy t x → act_by (Some t) m a ≡ x ∷ []
      → txn_for m c ≡ txn_in s c → ((r : List ℕ) → is_of r m ≡ key_eq s r) → ((y : Option ℕ) → txn_after y a ≡ None)
      → next_txn (Then c m a) ≡ next_txn c → IsLog q (x ∷ acts c) → is_proper m ≡ true
      → IsAnswer smallest_ordered_pivot c m a → StandsFor q next fs (Then c m a)
  ended q fs s t x m a here gives by does of session drops after log proper answers =
      let acts_are : acts (Then c m a) ≡ x ∷ acts c =
      ap (λ (y : Option ℕ). act_by y m a ++ acts c) (of ∙ here) ∙ ap (λ l. l ++ acts c) does in
      record {
        follows = (proper, answers, st.follows);
        log = subst (IsLog q) (sym acts_are) log;
        next_is = st.next_is ∙ sym after;
        txns = λ r. ap (option_map number_of) (gives r) ∙ elim (cases_Bool (key_eq s r)) [
          | inl same ↦ ap (λ b. option_map number_of (cond b None (open_at r es))) same ∙ sym (drops (txn_in r c))
              ∙ sym (cond-true {A = Option ℕ} (is_of r m) (txn_after (txn_in r c) a) (txn_in r c) (session r ∙ same))
          | inr other ↦ ap (λ b. option_map number_of (cond b None (open_at r es))) other ∙ st.txns r
              ∙ sym (cond-false {A = Option ℕ} (is_of r m) (txn_after (txn_in r c) a) (txn_in r c) (session r ∙ other))
        ];
        views = λ r. subst (λ l. IfSome (open_at r fs) (IsOpen l)) (sym acts_are)
            (subst (λ y. IfSome y (IsOpen (x ∷ acts c))) (sym (gives r)) (others s t x None r here by tt));
      }
