-- The order of a table, step by step.
use Rattle.std.proofs.Common.{◌≡◌, ◌≢◌, ℕ, suc, ◌<◌, ◌≤◌, ◌⊎◌, Bool, true, false, true≢false, cond, List, [], ◌∷◌, ◌++◌, length, slice_index_or, Option, Some, None, is_some, option_map, refl, sym, ◌∙◌, ap, subst, arith, inl, inr}
use Rattle.std.proofs.lemmas.Bool.{ltb-true, lt-ltb, eq-eqb, ne_eqb, cases_eq, cond-true, cond-false, not_from_true, not-true}
use Rattle.std.specs.Ordering.{nat_cmp, is_eq, is_gt}
use Rattle.std.proofs.lemmas.Bool.Decides.{nat_tests}
use Rattle.ssi_conflict.specs.Machinery.Rows.{Row, closed, with_sooner}
use Rattle.ssi_conflict.proofs.RecordSlots.{is_eq-nat_cmp}
use Rattle.ssi_conflict.proofs.KeyIndex.{indexed_same, indexed_closed}
use Rattle.lemmas.proofs.Members.{Contains-cases, Contains-head, Contains-cons, none_contained}
use Rattle.lemmas.proofs.Options.{none_unless_some}
use Rattle.ssi_conflict.specs.Machinery.Index.{stamp_in, commit_in, IsIndexed}
use Rattle.ssi_conflict.specs.Machinery.Records.{Changes}
use Rattle.ssi_conflict.specs.Machinery.Tables.{is_open_row, AreRising, Tidy, is_after}
use Rattle.std.proofs.lemmas.List.Elements.{Contains-append_left, Contains-append_right, Contains-append_cases}
use Rattle.std.proofs.lemmas.Option.{same_Some, none-some}
use Rattle.std.specs.List.{Contains}

-- ---- the listed ones

pub rising_same : (row row' : ℕ → Option Row) (ts : List ℕ)
    → ((x : ℕ) → Contains ts x → stamp_in (row' x) ≡ stamp_in (row x)) → AreRising row ts → AreRising row' ts
rising_same row row' [] h r = tt
rising_same row row' (t ∷ ts) h r = (
  record { stamp = r.0.stamp; stamped = h t (Contains-head t ts) ∙ r.0.stamped; below = λ x m i e. r.0.below x m i (sym (h x (Contains-cons t ts x i)) ∙ e) },
  rising_same row row' ts (λ x i. h x (Contains-cons t ts x i)) r.1,
)

in_push : (ts : List ℕ) (t x : ℕ) → Contains (ts ++ t ∷ []) x → Contains ts x ⊎ (t ≡ x)
in_push ts t x i = elim (Contains-append_cases ts (t ∷ []) x i) [
  | inl j ↦ inl j
  | inr j ↦ elim (Contains-cases t [] x j) [ inl e ↦ inr e | inr k ↦ absurd (none_contained x k) ]
]

rising_push : (row : ℕ → Option Row) (ts : List ℕ) (t n : ℕ) → stamp_in (row t) ≡ Some n
    → ((x m : ℕ) → Contains ts x → stamp_in (row x) ≡ Some m → m < n) → AreRising row ts
    → AreRising row (ts ++ t ∷ [])
rising_push row [] t n e h r = (record { stamp = n; stamped = e; below = λ x m i. absurd (none_contained x i) }, tt)
rising_push row (y ∷ ys) t n e h r = (
  record {
    stamp = r.0.stamp;
    stamped = r.0.stamped;
    below = λ x m i f. elim (in_push ys t x i) [
      | inl j ↦ r.0.below x m j f
      | inr g ↦ (let a = h y r.0.stamp (Contains-head y ys) r.0.stamped in let s = same_Some n m
          (sym e ∙ (ap (λ z. stamp_in (row z)) g ∙ f)) in omega (arith, a, s))
    ];
  },
  rising_push row ys t n e (λ x m i f. h x m (Contains-cons y ys x i) f) r.1,
)

pub rising_stamped : (row : ℕ → Option Row) (ts : List ℕ) (x : ℕ) → AreRising row ts → Contains ts x
    → (n : ℕ) × (stamp_in (row x) ≡ Some n)
rising_stamped row [] x r i = absurd (none_contained x i)
rising_stamped row (t ∷ ts) x r i =
    elim (Contains-cases t ts x i) [
      | inl e ↦ (r.0.stamp, ap (λ y. stamp_in (row y)) (sym e) ∙ r.0.stamped)
      | inr j ↦
          rising_stamped row ts x r.1 j
    ]

-- ---- stamps and commits of rows

pub unstamped_gone : (o : Option Row) → is_open_row o ≡ true → stamp_in o ≡ None
unstamped_gone None h = refl
unstamped_gone (Some u) h = none_unless_some u.stamp (not-true _ h)

pub no_commit : (o : Option Row) → stamp_in o ≡ None → commit_in o ≡ None
no_commit None e = refl
no_commit (Some u) e = ap (option_map (λ n. (n, u.keys))) e

-- the commit tells the stamp
pub stamp_of_commit : (o p : Option Row) → commit_in o ≡ commit_in p → stamp_in o ≡ stamp_in p
stamp_of_commit o p e = sym (first o) ∙ (ap (option_map (λ c. c.0)) e ∙ first p)
  where
    by_stamp : (s : Option ℕ) (ks : List (List ℕ))
        → option_map (λ (c : ℕ × List (List ℕ)). c.0) (option_map (λ n. (n, ks)) s) ≡ s
    by_stamp None ks = refl
    by_stamp (Some n) ks = refl

    first : (o : Option Row) → option_map (λ (c : ℕ × List (List ℕ)). c.0) (commit_in o) ≡ stamp_in o
    first None = refl
    first (Some u) = by_stamp u.stamp u.keys

-- ---- a set that changes at t

pub set_changed : (old new : ℕ → Bool) (t : ℕ) (b : Bool) (row' : ℕ → Option Row)
    → ((q : ℕ) → new q ≡ cond (is_eq (nat_cmp t q)) b (old q)) → b ≡ is_open_row (row' t)
    → ((x : ℕ) → x ≢ t → old x ≡ is_open_row (row' x))
    → (x : ℕ) → new x ≡ is_open_row (row' x)
set_changed old new t b row' h e f x =
    elim (cases_eq x t) [
      | inl g ↦ h x ∙ (cond-true _ b (old x) (is_eq-nat_cmp t x ∙ eq-eqb t x (sym g)) ∙
          (e ∙ ap (λ y. is_open_row (row' y)) (sym g)))
      | inr ne ↦ h x ∙ (cond-false _ b (old x) (is_eq-nat_cmp t x ∙ ne_eqb t x (λ g. ne (sym g))) ∙ f x ne)
    ]

pub set_apart : (old new : ℕ → Bool) (t : ℕ) (b : Bool) → ((q : ℕ) → new q ≡ cond (is_eq (nat_cmp t q)) b (old q))
    → (x : ℕ) → x ≢ t → new x ≡ old x
set_apart old new t b h x ne = h x ∙ cond-false _ b (old x) (is_eq-nat_cmp t x ∙ ne_eqb t x (λ g. ne (sym g)))

-- ---- tables

-- no stamp changes, and the open ones and the index are right
pub tidy_stamps : (row row' : ℕ → Option Row) (opened opened' : ℕ → Bool) (closed : List ℕ)
    (writer writer' : List ℕ → ℕ → Option ℕ) (last : ℕ) (judged judged' : List (List ℕ))
    → ((x : ℕ) → stamp_in (row' x) ≡ stamp_in (row x)) → ((x : ℕ) → opened' x ≡ is_open_row (row' x)) → IsIndexed
    (λ x. commit_in (row' x)) writer' last judged'
    → Tidy row opened closed writer last judged → Tidy row' opened' closed writer' last judged'
tidy_stamps row row' opened opened' closed writer writer' last judged judged' same opens indexed w = record {
  opens = opens;
  listed = λ x n e. w.listed x n (sym (same x) ∙ e);
  rising = rising_same row row' closed (λ x i. same x) w.rising;
  indexed = indexed;
}

-- no commit changes, and the open ones are right
pub tidy_same : (row row' : ℕ → Option Row) (opened opened' : ℕ → Bool) (closed : List ℕ)
    (writer : List ℕ → ℕ → Option ℕ) (last : ℕ) (judged : List (List ℕ))
    → ((x : ℕ) → commit_in (row' x) ≡ commit_in (row x)) → ((x : ℕ) → opened' x ≡ is_open_row (row' x))
    → Tidy row opened closed writer last judged → Tidy row' opened' closed writer last judged
tidy_same row row' opened opened' closed writer last judged same opens w =
    tidy_stamps row row' opened opened' closed writer writer last judged judged
    (λ x. stamp_of_commit (row' x) (row x) (same x)) opens
    (indexed_same (λ x. commit_in (row x)) (λ x. commit_in (row' x)) writer last judged same w.indexed) w

-- another index
pub tidy_reindexed : (row : ℕ → Option Row) (opened : ℕ → Bool) (closed closed' : List ℕ)
    (writer writer' : List ℕ → ℕ → Option ℕ) (last : ℕ) (judged judged' : List (List ℕ)) → closed' ≡ closed
    → IsIndexed (λ x. commit_in (row x)) writer' last judged' → Tidy row opened closed writer last judged → Tidy row
    opened closed' writer' last judged'
tidy_reindexed row opened closed closed' writer writer' last judged judged' e indexed w =
    subst (λ ts. Tidy row opened ts writer' last judged') (sym e)
    (tidy_stamps row row opened opened closed writer writer' last judged judged' (λ x. refl) w.opens indexed w)

-- a row without a commit goes, or there was none: no commit changes
pub same_commits : (row row' : ℕ → Option Row) (t : ℕ) (o : Option Row) → Changes row row' t o
    → commit_in (row t) ≡ None → commit_in o ≡ None → (x : ℕ) → commit_in (row' x) ≡ commit_in (row x)
same_commits row row' t o change before after x =
    elim (cases_eq x t) [
      | inl g ↦ ap (λ y. commit_in (row' y)) g ∙ (ap commit_in change.here ∙
          (after ∙ (sym before ∙ ap (λ y. commit_in (row y)) (sym g))))
      | inr ne ↦ ap commit_in (change.others x ne)
    ]

-- a row of a transaction without a commit comes or goes
pub tidy_changed : (row row' : ℕ → Option Row) (opened opened' : ℕ → Bool) (closed : List ℕ)
    (writer : List ℕ → ℕ → Option ℕ) (last : ℕ) (judged : List (List ℕ)) (t : ℕ) (b : Bool) (o : Option Row)
    → Changes row row' t o → commit_in (row t) ≡ None → commit_in o ≡ None → b ≡ is_open_row o →
    ((q : ℕ) → opened' q ≡ cond (is_eq (nat_cmp t q)) b (opened q))
    → Tidy row opened closed writer last judged → Tidy row' opened' closed writer last judged
tidy_changed row row' opened opened' closed writer last judged t b o change before after is set w =
    tidy_same row row' opened opened' closed writer last judged (same_commits row row' t o change before after)
    (set_changed opened opened' t b row' set (is ∙ ap is_open_row (sym change.here))
    (λ x ne. w.opens x ∙ ap is_open_row (sym (change.others x ne)))) w

-- an open one goes
pub tidy_gone : (row row' : ℕ → Option Row) (opened opened' : ℕ → Bool) (closed : List ℕ)
    (writer writer' : List ℕ → ℕ → Option ℕ) (last : ℕ) (judged : List (List ℕ)) (t : ℕ) → Changes row row' t None
    → is_open_row (row t) ≡ true → ((q : ℕ) → opened' q ≡ cond (is_eq (nat_cmp t q)) false (opened q)) → IsIndexed
    (λ x. commit_in (row' x)) writer' last judged
    → Tidy row opened closed writer last judged → Tidy row' opened' closed writer' last judged
tidy_gone row row' opened opened' closed writer writer' last judged t change is set indexed w =
    tidy_stamps row row' opened opened' closed writer writer' last judged judged
    (λ x. stamp_of_commit (row' x) (row x) (same_commits row row' t None change
    (no_commit (row t) (unstamped_gone (row t) is)) refl x))
    (set_changed opened opened' t false row' set (sym (ap is_open_row change.here))
    (λ x ne. w.opens x ∙ ap is_open_row (sym (change.others x ne)))) indexed w

-- the rows get pairs out of them
pub tidy_pairs : (row row' : ℕ → Option Row) (opened : ℕ → Bool) (closed : List ℕ) (writer : List ℕ → ℕ → Option ℕ)
    (last : ℕ) (judged : List (List ℕ)) → ((x : ℕ) → commit_in (row' x) ≡ commit_in (row x))
    → ((x : ℕ) → is_open_row (row' x) ≡ is_open_row (row x))
    → Tidy row opened closed writer last judged → Tidy row' opened closed writer last judged
tidy_pairs row row' opened closed writer last judged same opens w =
    tidy_same row row' opened opened closed writer last judged same (λ x. w.opens x ∙ sym (opens x)) w

-- t commits with the judged keys and the next stamp
pub tidy_closed : (row row' : ℕ → Option Row) (opened opened' : ℕ → Bool) (closed : List ℕ)
    (writer : List ℕ → ℕ → Option ℕ) (last : ℕ) (ks later : List (List ℕ)) (t : ℕ) (o : Option Row)
    → Changes row row' t o → commit_in o ≡ Some (suc last, ks) → stamp_in o ≡ Some (suc last) → is_open_row o ≡ false
    → stamp_in (row t) ≡ None
    → ((k : List ℕ) → Contains ks k → writer k last ≡ Some t) →
    ((q : ℕ) → opened' q ≡ cond (is_eq (nat_cmp t q)) false (opened q)) → Tidy row opened closed writer last ks →
    Tidy row' opened' (closed ++ t ∷ []) writer (suc last) later
tidy_closed row row' opened opened' closed writer last ks later t o change after stamped shut before filed set w =
    let apart : (x : ℕ) → Contains closed x → x ≢ t = λ x i e. let s = rising_stamped row closed x w.rising i in
    none-some s.0 (sym (ap (λ y. stamp_in (row y)) e ∙ before) ∙ s.1) in
    let same : (x : ℕ) → Contains closed x → stamp_in (row' x) ≡ stamp_in (row x) = λ x i. ap stamp_in
    (change.others x (apart x i)) in
    let low : (x m : ℕ) → stamp_in (row x) ≡ Some m → m < suc last = λ x m e. stamp_low x (row x) refl m e in
    record {
      opens = set_changed opened opened' t false row' set (sym (ap is_open_row change.here ∙ shut))
          (λ x ne. w.opens x ∙ ap is_open_row (sym (change.others x ne)));
      listed = λ x m e. elim (cases_eq x t) [
        | inl g ↦ subst (Contains (closed ++ t ∷ [])) (sym g)
            (Contains-append_right closed (t ∷ []) t (Contains-head t []))
        | inr ne ↦ Contains-append_left closed (t ∷ []) x (w.listed x m (ap stamp_in (sym (change.others x ne)) ∙ e))
      ];
      rising = rising_push row' closed t (suc last) (ap stamp_in change.here ∙ stamped)
          (λ x m i e. low x m (sym (same x i) ∙ e)) (rising_same row row' closed same w.rising);
      indexed = indexed_closed (λ x. commit_in (row x)) (λ x. commit_in (row' x)) writer last ks later t
          (no_commit (row t) before) (ap commit_in change.here ∙ after)
          (λ x ne. ap commit_in (change.others x ne)) filed w.indexed;
    }
  where
    stamp_low : (x : ℕ) (p : Option Row) → row x ≡ p → (m : ℕ) → stamp_in p ≡ Some m → m < suc last
    stamp_low x None e m f = absurd (none-some m f)
    stamp_low x (Some u) e m f =
        let p = w.indexed.past x m u.keys (ap commit_in e ∙ ap (option_map (λ n. (n, u.keys))) f) in
        omega (arith, p.next, p.below)

-- the first of the list goes
pub tidy_popped : (row row' : ℕ → Option Row) (opened : ℕ → Bool) (t : ℕ) (ts : List ℕ)
    (writer writer' : List ℕ → ℕ → Option ℕ) (last : ℕ) (judged : List (List ℕ)) → Changes row row' t None
    → IsIndexed (λ x. commit_in (row' x)) writer' last judged → Tidy row opened (t ∷ ts) writer last judged → Tidy
    row' opened ts writer' last judged
tidy_popped row row' opened t ts writer writer' last judged change indexed w =
    let first = w.rising.0 in
    let apart : (x : ℕ) → Contains ts x → x ≢ t = λ x i e. let l = first.below x first.stamp i
    (ap (λ y. stamp_in (row y)) e ∙ first.stamped) in omega (arith, l) in
    record {
      opens = λ x. elim (cases_eq x t) [
        | inl e ↦ ap opened e ∙ (w.opens t ∙ (stamped_shut (row t) first.stamp first.stamped ∙ sym
            (ap (λ y. is_open_row (row' y)) e ∙ ap is_open_row change.here)))
        | inr ne ↦ w.opens x ∙ ap is_open_row (sym (change.others x ne))
      ];
      listed = λ x n e. elim (cases_eq x t) [
        | inl g ↦ absurd (none-some n (sym (ap stamp_in change.here) ∙ (ap (λ y. stamp_in (row' y)) (sym g) ∙ e)))
        | inr ne ↦ elim (Contains-cases t ts x (w.listed x n (ap stamp_in (sym (change.others x ne)) ∙ e)))
            [ inl g ↦ absurd (ne (sym g)) | inr i ↦ i ]
      ];
      rising = rising_same row row' ts (λ x i. ap stamp_in (change.others x (apart x i))) w.rising.1;
      indexed = indexed;
    }
  where
    stamped_shut : (o : Option Row) (n : ℕ) → stamp_in o ≡ Some n → is_open_row o ≡ false
    stamped_shut None n e = refl
    stamped_shut (Some u) n e = not_from_true _ (ap is_some e)

pub not_gt : (a b : ℕ) → is_gt (nat_cmp a b) ≡ false → a ≤ b
not_gt a b h = grind (arith, nat_tests, h)

pub head_is : (xs : List ℕ) (x : ℕ) → 0 < length xs → x ≡ slice_index_or xs 0 x → (ys : List ℕ) × (xs ≡ x ∷ ys)
head_is [] x l e = absurd (omega (arith, l))
head_is (y ∷ ys) x l e = (ys, ap (λ z. z ∷ ys) (sym e))

-- if the first of the list is after the snapshot, all are
pub after_first : (row : ℕ → Option Row) (t : ℕ) (ts : List ℕ) (oldest : Option ℕ)
    → ((x n : ℕ) → stamp_in (row x) ≡ Some n → Contains (t ∷ ts) x) → AreRising row (t ∷ ts) → (s : Option ℕ)
    → stamp_in (row t) ≡ s → is_after s oldest ≡ true
    → (x n : ℕ) → stamp_in (row x) ≡ Some n → is_after (Some n) oldest ≡ true
after_first row t ts None listed rising None e h x n f = absurd (true≢false (sym h))
after_first row t ts None listed rising (Some m) e h x n f = absurd (true≢false (sym h))
after_first row t ts (Some s) listed rising None e h x n f = absurd (true≢false (sym h))
after_first row t ts (Some s) listed rising (Some m) e h x n f =
    let below = ltb-true s m h in
    elim (Contains-cases t ts x (listed x n f)) [
      | inl g ↦ (let same = same_Some m n (sym e ∙ (ap (λ y. stamp_in (row y)) g ∙ f)) in lt-ltb s n
          (omega (arith, below, same)))
      | inr i ↦ (let first = same_Some rising.0.stamp m (sym rising.0.stamped ∙ e) in let l = rising.0.below x n i
          f in lt-ltb s n (omega (arith, below, first, l)))
    ]

-- an open row that is closed
pub closed_commit : (o : Option Row) (last stamp : ℕ) (ks : List (List ℕ)) → stamp ≡ suc last → is_open_row o ≡ true
    → (commit_in (option_map (closed stamp ks) o) ≡ Some (suc last, ks)) ×
    (stamp_in (option_map (closed stamp ks) o) ≡ Some (suc last)) ×
    (is_open_row (option_map (closed stamp ks) o) ≡ false)
closed_commit None last stamp ks e h = absurd (true≢false (sym h))
closed_commit (Some u) last stamp ks e h = (ap (λ n. Some (n, ks)) e, ap Some e, refl)

pub with_stamp : (u : Row) (s : Option ℕ) → u.stamp ≡ s → commit_in (Some u) ≡ option_map (λ n. (n, u.keys)) s
with_stamp u s e = ap (option_map (λ n. (n, u.keys))) e

-- a row gets pairs out of it
pub tidy_paired : (row row' : ℕ → Option Row) (opened : ℕ → Bool) (closed : List ℕ) (writer : List ℕ → ℕ → Option ℕ)
    (last : ℕ) (judged : List (List ℕ)) (t : ℕ) (m : Option ℕ)
    → Changes row row' t (option_map (with_sooner m) (row t))
    → Tidy row opened closed writer last judged → Tidy row' opened closed writer last judged
tidy_paired row row' opened closed writer last judged t m change w =
    tidy_pairs row row' opened closed writer last judged (λ x. by_case x commit_in commits)
    (λ x. by_case x is_open_row opens) w
  where
    commits : (o : Option Row) → commit_in (option_map (with_sooner m) o) ≡ commit_in o
    commits None = refl
    commits (Some u) = refl

    opens : (o : Option Row) → is_open_row (option_map (with_sooner m) o) ≡ is_open_row o
    opens None = refl
    opens (Some u) = refl

    by_case : {A : Type 0} (x : ℕ) (g : Option Row → A) → ((o : Option Row) → g (option_map (with_sooner m) o) ≡ g o)
        → g (row' x) ≡ g (row x)
    by_case x g h = elim (cases_eq x t) [
      | inl e ↦ ap (λ y. g (row' y)) e ∙ (ap g change.here ∙ (h (row t) ∙ ap (λ y. g (row y)) (sym e)))
      | inr ne ↦ ap g (change.others x ne)
    ]
