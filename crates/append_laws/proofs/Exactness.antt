-- An order explains a history exactly if it lists the right transactions and respects all precedences, and all reads are whole.
use Rattle.std.proofs.Common.{◌≡◌, ◌≢◌, ◌↔◌, ℕ, ◌≤◌, Bool, true, false, cond, List, [], ◌∷◌, ◌++◌, append_assoc, Contains, refl, sym, ◌∙◌, ap, subst, arith, inl, inr}
use Rattle.std.specs.List.{flat_map, filter}
use Rattle.std.proofs.lemmas.Bool.{cases_eq, cases_Bool}
use Rattle.std.proofs.lemmas.List.Concat.{flat_map-append}
use Rattle.std.proofs.lemmas.List.Elements.{Contains-append_left, Contains-append_right, Contains-append_cases}
use Rattle.lemmas.proofs.Members.{none_contained, Contains-head, Contains-cons, flat_map-source, Contains-flat_map}
use Rattle.lemmas.proofs.Filters.{Contains-filter, filter-source}
use Rattle.lemmas.proofs.Counts.{count, count-append, count-cons, count_same, count_contained, Contains-counted}
use Rattle.append_values.specs.Meaning.Histories.{Operation, History}
use Rattle.append_values.specs.Meaning.Runs.{empty, Explains}
use Rattle.append_values.specs.Meaning.Reads.{appended, own, HasRead, AppendersDiffer}
use Rattle.append_values.specs.Meaning.Reasons.{Precedes}
use Rattle.append_laws.specs.Laws.Explanations.{IsWhole, AreWhole}
use Rattle.append_laws.proofs.SerialReads.{all_claims}
use Rattle.append_laws.proofs.Places.{before_at, after_at, in_front}
use Rattle.append_laws.proofs.Fronts.{IsListed, once, placed, own_contains}
use Rattle.append_laws.proofs.Rising.{RisesWhereCut, rises-from_cuts, rises_filtered, rising_unique}
use Rattle.append_laws.proofs.Necessity.{necessary}
use Rattle.digraph.specs.Clauses.Graphs.{place, IsBefore}

abbrev pub has_any : List ℕ → Bool
has_any [] = false
has_any (x ∷ xs) = true

pub any_of : (xs : List ℕ) → has_any xs ≡ true → (x : ℕ) × Contains xs x
any_of [] e = absurd (cc (e))
any_of (x ∷ xs) e = (x, Contains-head x xs)

pub has_some : (xs : List ℕ) (x : ℕ) → Contains xs x → has_any xs ≡ true
has_some [] x c = absurd (none_contained x c)
has_some (y ∷ xs) x c = refl

-- transactions that append nothing to a key make no difference
abbrev appends : History → ℕ → ℕ → Bool
appends h k u = has_any (own h k u)

pub none_of : (xs : List ℕ) → has_any xs ≡ false → xs ≡ []
none_of [] e = refl
none_of (x ∷ xs) e = absurd (cc (e))

without_idle : (h : History) (k : ℕ) (ts : List ℕ) → flat_map (own h k) (filter (appends h k) ts) ≡ flat_map (own h k) ts
without_idle h k [] = refl
without_idle h k (t ∷ ts) =
    let rest = without_idle h k ts in
    let kept = filter (appends h k) ts in
    elim (cases_Bool (has_any (own h k t))) [
      | inl some ↦ ap (λ b. flat_map (own h k) (cond b (t ∷ kept) kept)) some ∙ ap (λ ys. own h k t ++ ys) rest
      | inr none ↦
          ap (λ b. flat_map (own h k) (cond b (t ∷ kept) kept)) none ∙
          (rest ∙ ap (λ ys. ys ++ flat_map (own h k) ts) (sym (none_of (own h k t) none)))
    ]

count_filtered : (p : ℕ → Bool) (ts : List ℕ) (t : ℕ) → count (filter p ts) t ≤ count ts t
count_filtered p [] t = omega arith
count_filtered p (x ∷ ts) t =
    let rest = count_filtered p ts t in
    let cons = count-cons x ts t in
    elim (p x) as (λ b. count (cond b (x ∷ filter p ts) (filter p ts)) t ≤ count (x ∷ ts) t) [
      | true ↦ let more = count-cons x (filter p ts) t in omega (arith, rest, cons, more)
      | false ↦ omega (arith, rest, cons)
    ]

-- the reads of an explained history are whole
whole : (h : History) (ts : List ℕ) → Explains ts h → AreWhole h
whole h ts ex t k xs before r =
    let p = placed h ts t k xs before ex r in
    record {
      writers = filter (appends h k) p.front;
      once = λ u.
          let less = count_filtered (appends h k) p.front u in
          let parts = count-append p.front (t ∷ p.back) u in
          let same = ap (λ us. count us u) p.splits in
          let one = once h ts ex.listed u in
          omega (arith, less, parts, same, one);
      others = λ u c.
          let s = filter-source (appends h k) p.front u c in (
            λ e.
                let there = count_contained p.front t (subst (Contains p.front) e s.0) in
                let first = p.first in
                omega (arith, there, first),
            any_of (own h k u) s.1,
          );
      splits = sym p.shows ∙ ap (λ ys. ys ++ appended k before) (sym (without_idle h k p.front));
    }

-- a list whose elements stand there once rises by its places
front_rises : (ts front back : List ℕ) → ((t : ℕ) → count ts t ≤ 1) → ts ≡ front ++ back → RisesWhereCut (place ts) front
front_rises ts front back one e f b x cut y there =
    let whole : ts ≡ f ++ x ∷ (b ++ back) = e ∙ (ap (λ us. us ++ back) cut ∙ append_assoc f (x ∷ b) back) in
    let some = count_contained b y there in
    let parts = count-append f (x ∷ (b ++ back)) y in
    let cons = count-cons x (b ++ back) y in
    let more = count-append b back y in
    let same = ap (λ us. count us y) whole in
    let less = one y in
    let parts' = count-append f (x ∷ (b ++ back)) x in
    let here = count_same x (b ++ back) x refl in
    let same' = ap (λ us. count us x) whole in
    let less' = one x in
    after_at ts f (b ++ back) x whole (omega (arith, parts', here, same', less')) y (omega (arith, some, parts, more, cons, same, less))
    (λ s. let equal = count_same x (b ++ back) y s in omega (arith, some, parts, more, equal, same, less))

module _ (h : History) (ts : List ℕ) (differ : AppendersDiffer h) (listed : IsListed h ts)
    (respects : (u v : ℕ) → Precedes h u v → IsBefore ts u v) where
  module _ (t k : ℕ) (xs : List ℕ) (before : List Operation) (r : HasRead h t k xs before) (w : IsWhole h t k xs before) where
    -- a writer's elements are read, and no other transaction's
    read_of : (u x : ℕ) → Contains w.writers u → Contains (own h k u) x → Contains xs x
    read_of u x c d =
        subst (λ ys. Contains ys x) (sym w.splits)
        (Contains-append_left (flat_map (own h k) w.writers) (appended k before) x (Contains-flat_map (own h k) w.writers u x c d))

    writer_of : (u x : ℕ) → Contains (own h k u) x → (us : List ℕ) → Contains (flat_map (own h k) us) x → Contains us u
    writer_of u x d us c =
        let s = flat_map-source (own h k) us x c in subst (Contains us) (differ k x s.0 u s.2 d) s.1

    unread : (u x : ℕ) → (Contains w.writers u → ⊥) → u ≢ t → Contains (own h k u) x → Contains xs x → ⊥
    unread u x n ne d c =
        elim (Contains-append_cases (flat_map (own h k) w.writers) (appended k before) x (subst (λ ys. Contains ys x) w.splits c)) [
          | inl s ↦ n (writer_of u x d w.writers s)
          | inr mine ↦ ne (differ k x u t d (own_contains h t k xs before r x mine))
        ]

    writers_before : (u : ℕ) → Contains w.writers u → IsBefore ts u t
    writers_before u c =
        let o = w.others u c in
        respects u t (inl (record {
          key = k;
          elements = xs;
          before = before;
          read = r;
          element = o.1.0;
          is_of = o.1.1;
          seen = read_of u o.1.0 c o.1.1;
          differ = o.0;
        }))

    others_after : (u : ℕ) → (Contains w.writers u → ⊥) → t ≢ u → (x : ℕ) → Contains (own h k u) x → IsBefore ts t u
    others_after u n ne x d =
        respects t u (inr (inr (record {
          key = k;
          elements = xs;
          before = before;
          read = r;
          element = x;
          is_of = d;
          unseen = unread u x n (λ e. ne (sym e)) d;
          differ = ne;
        })))

    writers_rise : RisesWhereCut (place ts) w.writers
    writers_rise f b u cut v c =
        let part = flat_map (own h k) f ++ own h k u in
        let counted = count_contained b v c in
        let at_most = w.once v in
        let all = ap (λ us. count us v) cut in
        let parts = count-append f (u ∷ b) v in
        let cons = count-cons u b v in
        let u_there : Contains w.writers u = subst (λ us. Contains us u) (sym cut) (Contains-append_right f (u ∷ b) u (Contains-head u b)) in
        let v_there : Contains w.writers v = subst (λ us. Contains us v) (sym cut) (Contains-append_right f (u ∷ b) v (Contains-cons u b v c)) in
        let ou = w.others u u_there in
        let ov = w.others v v_there in
        let apart : u ≢ v = λ e. let same = count_same u b v e in omega (arith, counted, at_most, all, parts, same) in
        let rest = flat_map (own h k) b ++ appended k before in
        let begins : xs ≡ part ++ rest =
        w.splits ∙
        (ap (λ us. flat_map (own h k) us ++ appended k before) cut ∙
        (ap (λ ys. ys ++ appended k before) (flat_map-append (own h k) f (u ∷ b)) ∙
        (ap (λ ys. ys ++ appended k before) (sym (append_assoc (flat_map (own h k) f) (own h k u) (flat_map (own h k) b))) ∙
        append_assoc part (flat_map (own h k) b) (appended k before)))) in
        respects u v (inr (inl (record {
          reader = t;
          key = k;
          elements = xs;
          before = before;
          read = r;
          part = part;
          begins = (rest, begins);
          element = ou.1.0;
          is_of = ou.1.1;
          seen = Contains-append_right (flat_map (own h k) f) (own h k u) ou.1.0 ou.1.1;
          later = ov.1.0;
          later_is_of = ov.1.1;
          unseen = λ d. elim (Contains-append_cases (flat_map (own h k) f) (own h k u) ov.1.0 d) [
            | inl s ↦
                let again = count_contained f v (writer_of v ov.1.0 ov.1.1 f s) in
                omega (arith, counted, at_most, all, parts, cons, again)
            | inr s ↦ apart (differ k ov.1.0 u v s ov.1.1)
          ];
          differ = apart;
        })))

    -- the writers are the transactions before the reader's that append something
    writers_are : (front back : List ℕ) → ts ≡ front ++ t ∷ back → count front t ≡ 0 → w.writers ≡ filter (appends h k) front
    writers_are front back e first =
        rising_unique (place ts) w.writers (filter (appends h k) front) (rises-from_cuts (place ts) w.writers writers_rise)
        (rises_filtered (place ts) (appends h k) front (rises-from_cuts (place ts) front (front_rises ts front (t ∷ back) (once h ts listed) e)))
        (λ u c.
        let o = w.others u c in
        Contains-filter (appends h k) front u (Contains-counted front u (in_front ts front back t e first u (writers_before u c)))
        (has_some (own h k u) o.1.0 o.1.1))
        (λ u c.
        let s = filter-source (appends h k) front u c in
        let some = count_contained front u s.0 in
        let earlier = before_at ts front back t e first u some in
        let x = any_of (own h k u) s.1 in
        elim (cases_eq (count w.writers u) 0) [
          | inr there ↦ Contains-counted w.writers u (omega (arith, there))
          | inl none ↦
              let later = others_after u (λ d. let counted = count_contained w.writers u d in omega (arith, counted, none))
              (λ same. let zero' = ap (count front) same in omega (arith, some, first, zero')) x.0 x.1 in
              absurd (omega (arith, earlier, later))
        ])

    shows : (front back : List ℕ) → ts ≡ front ++ t ∷ back → flat_map (own h k) front ++ appended k before ≡ xs
    shows front back e =
        let one = once h ts listed t in
        let same = ap (λ us. count us t) e in
        let parts = count-append front (t ∷ back) t in
        let here = count_same t back t refl in
        let first : count front t ≡ 0 = omega (arith, one, same, parts, here) in
        ap (λ ys. ys ++ appended k before)
        (sym (without_idle h k front) ∙ ap (flat_map (own h k)) (sym (writers_are front back e first))) ∙
        sym w.splits

  explains : AreWhole h → Explains ts h
  explains all = record {
    listed = listed;
    claims = all_claims h ts empty (λ front back t k xs before e r. shows t k xs before r (all t k xs before r) front back e);
  }

pub exactly : (h : History) (ts : List ℕ) → AppendersDiffer h
    → Explains ts h ↔ (IsListed h ts × ((u v : ℕ) → Precedes h u v → IsBefore ts u v) × AreWhole h)
exactly h ts differ = (
  λ ex. (ex.listed, necessary h ts differ ex, whole h ts ex),
  λ all. explains h ts differ all.0 all.1 all.2,
)
