-- Single reads, and pairs of them, that no order explains.
use Rattle.std.proofs.Common.{◌≡◌, ◌≢◌, ℕ, ◌==◌, ◌<◌, ◌≤◌, List, [], ◌∷◌, ◌++◌, append_assoc, Contains, refl, sym, ◌∙◌, ap, subst, arith, inl, inr}
use Rattle.std.specs.List.{flat_map, count_by}
use Rattle.std.proofs.lemmas.Bool.{cases_eq}
use Rattle.std.proofs.lemmas.List.Concat.{flat_map-append}
use Rattle.std.proofs.lemmas.List.Elements.{Contains-append_right, Contains-append_cases}
use Rattle.lemmas.proofs.Members.{flat_map-source}
use Rattle.lemmas.proofs.Counts.{count, count-append, count-cons, count_same, count_contained, Contains-counted}
use Rattle.append_values.specs.Meaning.Histories.{Operation, Read, History}
use Rattle.append_values.specs.Meaning.Reads.{appended, own, HasRead, AppendersDiffer, AppendsOnce, IsPrefixOf}
use Rattle.append_values.specs.Meaning.Reasons.{HasNoOrder}
use Rattle.append_values.proofs.AppendedElements.{appended-append}
use Rattle.append_laws.proofs.Prefixes.{both_begin}
use Rattle.append_laws.proofs.Places.{at_contained}
use Rattle.append_laws.proofs.Fronts.{once, own_splits, placed, read_begins, source}

pub unwritten_refutes : (h : History) (t k x : ℕ) (xs : List ℕ) (before : List Operation) → HasRead h t k xs before → Contains xs x
    → ((u : ℕ) → Contains (own h k u) x → ⊥) → HasNoOrder h
unwritten_refutes h t k x xs before r seen none ts ex =
    let p = placed h ts t k xs before ex r in
    elim (source h t k xs before p.front r p.shows x seen) [
      | inl w ↦ none w.0 w.2
      | inr mine ↦ none t mine
    ]

pub incompatible_refutes : (h : History) (t u k : ℕ) (xs ys : List ℕ) (before earlier : List Operation)
    → HasRead h t k xs before → HasRead h u k ys earlier → (IsPrefixOf xs ys → ⊥) → (IsPrefixOf ys xs → ⊥) → HasNoOrder h
incompatible_refutes h t u k xs ys before earlier r s m n ts ex =
    elim (both_begin xs ys (flat_map (own h k) ts) (read_begins h ts t k xs before ex r) (read_begins h ts u k ys earlier ex s)) [
      | inl p ↦ m p
      | inr p ↦ n p
    ]

pub internal_refutes : (h : History) (t k : ℕ) (xs : List ℕ) (before : List Operation) → HasRead h t k xs before
    → ((front : List ℕ) → xs ≡ front ++ appended k before → ⊥) → HasNoOrder h
internal_refutes h t k xs before r never ts ex =
    let p = placed h ts t k xs before ex r in never (flat_map (own h k) p.front) (sym p.shows)

pub future_refutes : (h : History) (t k x : ℕ) (xs : List ℕ) (before : List Operation) → AppendersDiffer h → AppendsOnce h
    → (r : HasRead h t k xs before) → Contains xs x → Contains (appended k r.rest) x → HasNoOrder h
future_refutes h t k x xs before differ single r seen later ts ex =
    let p = placed h ts t k xs before ex r in
    let early = flat_map (own h k) p.front in
    let mine : Contains (own h k t) x =
    subst (λ ys. Contains ys x) (sym (own_splits h t k xs before r))
    (Contains-append_right (appended k before) (appended k r.rest) x later) in
    elim (Contains-append_cases early (appended k before) x (subst (λ ys. Contains ys x) (sym p.shows) seen)) [
      | inl others ↦
          let w = flat_map-source (own h k) p.front x others in
          let there = count_contained p.front t (subst (Contains p.front) (differ k x w.0 t w.2 mine) w.1) in
          let first = p.first in
          omega (arith, there, first)
      | inr sooner ↦
          let one = count_contained (appended k before) x sooner in
          let two = count_contained (appended k r.rest) x later in
          let parts = count-append (appended k before) (appended k r.rest) x in
          let same = ap (λ ys. count ys x) (own_splits h t k xs before r) in
          let most = single k x t in
          omega (arith, one, two, parts, same, most)
    ]

-- each element stands once in the list that an order makes
once_in_all : (h : History) (k x : ℕ) → AppendersDiffer h → AppendsOnce h → (ts : List ℕ) → ((t : ℕ) → count ts t ≤ 1)
    → count (flat_map (own h k) ts) x ≤ 1
once_in_all h k x differ single [] one = omega arith
once_in_all h k x differ single (t ∷ ts) one =
    let rest = flat_map (own h k) ts in
    let parts = count-append (own h k t) rest x in
    let here = single k x t in
    let later = once_in_all h k x differ single ts (λ u. let cons = count-cons t ts u in let less = one u in omega (arith, cons, less)) in
    elim (cases_eq (count (own h k t) x) 0) [
      | inl none ↦ omega (arith, parts, later, none)
      | inr some ↦
          elim (cases_eq (count rest x) 0) [
            | inl none ↦ omega (arith, parts, here, none)
            | inr more ↦
                let mine = Contains-counted (own h k t) x (omega (arith, some)) in
                let w = flat_map-source (own h k) ts x (Contains-counted rest x (omega (arith, more))) in
                let again = count_contained ts t (subst (Contains ts) (differ k x w.0 t w.2 mine) w.1) in
                let cons = count_same t ts t refl in
                let less = one t in
                absurd (omega (arith, again, cons, less))
          ]
    ]

pub twice_refutes : (h : History) (t k x : ℕ) (xs : List ℕ) (before : List Operation) → AppendersDiffer h → AppendsOnce h
    → HasRead h t k xs before → 1 < count_by (λ y. y == x) xs → HasNoOrder h
twice_refutes h t k x xs before differ single r twice ts ex =
    let begins = read_begins h ts t k xs before ex r in
    let all = once_in_all h k x differ single ts (once h ts ex.listed) in
    let parts = count-append xs begins.0 x in
    let same = ap (λ ys. count ys x) begins.1 in
    omega (arith, all, parts, same, twice)

pub intermediate_refutes : (h : History) (t u k x : ℕ) (xs : List ℕ) (before : List Operation) → AppendersDiffer h → HasRead h t k xs before
    → Contains xs x → Contains (own h k u) x → u ≢ t
    → ((front back : List ℕ) → xs ≡ front ++ (own h k u ++ back) → ⊥) → HasNoOrder h
intermediate_refutes h t u k x xs before differ r seen theirs apart never ts ex =
    let p = placed h ts t k xs before ex r in
    elim (source h t k xs before p.front r p.shows x seen) [
      | inl w ↦
          let a = at_contained p.front u (subst (Contains p.front) (differ k x w.0 u w.2 theirs) w.1) in
          let early = flat_map (own h k) a.front in
          let late = flat_map (own h k) a.back in
          never early (late ++ appended k before)
          (sym p.shows ∙
          (ap (λ us. flat_map (own h k) us ++ appended k before) a.splits ∙
          (ap (λ ys. ys ++ appended k before) (flat_map-append (own h k) a.front (u ∷ a.back)) ∙
          (append_assoc early (own h k u ++ late) (appended k before) ∙
          ap (λ ys. early ++ ys) (append_assoc (own h k u) late (appended k before))))))
      | inr mine ↦ apart (differ k x u t theirs mine)
    ]

-- two places of a transaction in an order are the same, if it stands there once
same_front : (fs gs cs bs : List ℕ) (t : ℕ) → fs ++ t ∷ cs ≡ gs ++ t ∷ bs → count fs t ≡ 0 → count gs t ≡ 0 → fs ≡ gs
same_front [] [] cs bs t e m n = refl
same_front [] (g ∷ gs) cs bs t e m n =
    let same : g ≡ t = cc (e) in let some = count_same g gs t same in absurd (omega (arith, some, n))
same_front (f ∷ fs) [] cs bs t e m n =
    let same : f ≡ t = cc (e) in let some = count_same f fs t same in absurd (omega (arith, some, m))
same_front (f ∷ fs) (g ∷ gs) cs bs t e m n =
    let same : f ≡ g = cc (e) in
    let tail : fs ++ t ∷ cs ≡ gs ++ t ∷ bs = cc (e) in
    let cons = count-cons f fs t in
    let cons' = count-cons g gs t in
    let rest = same_front fs gs cs bs t tail (omega (arith, cons, m)) (omega (arith, cons', n)) in
    ap (λ x. x ∷ fs) same ∙ ap (λ ys. g ∷ ys) rest

pub unrepeatable_refutes : (h : History) (t k : ℕ) (xs ys : List ℕ) (before between : List Operation) → HasRead h t k xs before
    → HasRead h t k ys (before ++ Read k xs ∷ between) → (xs ++ appended k between ≡ ys → ⊥) → HasNoOrder h
unrepeatable_refutes h t k xs ys before between r s never ts ex =
    let p = placed h ts t k xs before ex r in
    let q = placed h ts t k ys (before ++ Read k xs ∷ between) ex s in
    let same = same_front p.front q.front p.back q.back t (sym p.splits ∙ q.splits) p.first q.first in
    let early = flat_map (own h k) p.front in
    never
    (ap (λ zs. zs ++ appended k between) (sym p.shows) ∙
    (append_assoc early (appended k before) (appended k between) ∙
    (ap (λ zs. early ++ zs) (sym (appended-append k before (Read k xs ∷ between))) ∙
    (ap (λ us. flat_map (own h k) us ++ appended k (before ++ Read k xs ∷ between)) same ∙ q.shows))))
