-- The line of writers of a key whose reads are whole.
use Rattle.std.proofs.Common.{◌≡◌, ◌⊎◌, ℕ, ◌+◌, ◌==◌, ◌<◌, true, false, cond, List, [], ◌∷◌, ◌++◌, append_assoc, Contains, refl, sym, ◌∙◌, ap, subst, arith, inl, inr}
use Rattle.std.specs.List.{flat_map}
use Rattle.std.proofs.lemmas.Bool.{cases_eq}
use Rattle.std.proofs.lemmas.List.{append-nil, append_cancel_left}
use Rattle.std.proofs.lemmas.List.Concat.{flat_map-append}
use Rattle.std.proofs.lemmas.List.Elements.{Contains-append_left, Contains-append_cases}
use Rattle.lemmas.proofs.Lists.{same_head}
use Rattle.lemmas.proofs.Members.{none_contained, Contains-head, Contains-cons, Contains-cases}
use Rattle.lemmas.proofs.Counts.{count, count-append, count-cons, Contains-counted}
use Rattle.append_values.specs.Meaning.Histories.{Operation, History}
use Rattle.append_values.specs.Meaning.Reads.{appended, own, HasRead, AppendersDiffer, IsPrefixOf}
use Rattle.append_values.specs.Meaning.Reads.{left}
use Rattle.append_laws.specs.Laws.Explanations.{IsWhole}
use Rattle.append_laws.specs.Laws.Links.{IsInLine, IsLine, IsLeft, IsLongest}
use Rattle.append_laws.proofs.Fronts.{own_splits}

abbrev AllAppend : History → ℕ → List ℕ → Type 0
AllAppend h k us = (u : ℕ) → Contains us u → (x : ℕ) × Contains (own h k u) x

pub first_same : (ys zs rs ss : List ℕ) (a b : ℕ) → Contains ys a → Contains zs b → ys ++ rs ≡ zs ++ ss
    → (x : ℕ) × Contains ys x × Contains zs x
first_same [] zs rs ss a b c d e = absurd (none_contained a c)
first_same (y ∷ ys) [] rs ss a b c d e = absurd (none_contained b d)
first_same (y ∷ ys) (z ∷ zs) rs ss a b c d e =
    let same = same_head y z (ys ++ rs) (zs ++ ss) e in
    (y, Contains-head y ys, subst (Contains (z ∷ zs)) (sym same) (Contains-head z zs))

-- if what some writers append begins what others append, then they begin those
begins_by_elements : (h : History) (k : ℕ) → AppendersDiffer h → (ws line : List ℕ) → AllAppend h k ws → AllAppend h k line
    → IsPrefixOf (flat_map (own h k) ws) (flat_map (own h k) line) → IsPrefixOf ws line
begins_by_elements h k differ [] line f g p = (line, refl)
begins_by_elements h k differ (w ∷ ws) [] f g p =
    let x = f w (Contains-head w ws) in
    absurd (none_contained x.0 (subst (λ ys. Contains ys x.0) (sym p.1)
    (Contains-append_left (own h k w ++ flat_map (own h k) ws) p.0 x.0 (Contains-append_left (own h k w) (flat_map (own h k) ws) x.0 x.1))))
begins_by_elements h k differ (w ∷ ws) (v ∷ line) f g p =
    let late = flat_map (own h k) ws ++ p.0 in
    let x = f w (Contains-head w ws) in
    let y = g v (Contains-head v line) in
    let level : own h k w ++ late ≡ own h k v ++ flat_map (own h k) line =
    sym (p.1 ∙ append_assoc (own h k w) (flat_map (own h k) ws) p.0) in
    let z = first_same (own h k w) (own h k v) late (flat_map (own h k) line) x.0 y.0 x.1 y.1 level in
    let same : w ≡ v = differ k z.0 w v z.1 z.2 in
    let tail : late ≡ flat_map (own h k) line =
    append_cancel_left (own h k v) late (flat_map (own h k) line) (ap (λ u. own h k u ++ late) (sym same) ∙ level) in
    let rest = begins_by_elements h k differ ws line (λ u c. f u (Contains-cons w ws u c)) (λ u c. g u (Contains-cons v line u c))
    (p.0, sym tail) in
    (rest.0, ap (λ us. v ∷ us) rest.1 ∙ ap (λ u. u ∷ (ws ++ rest.0)) (sym same))

nothing_more : (xs ys : List ℕ) → xs ≡ xs ++ ys → ys ≡ []
nothing_more xs ys e = sym (append_cancel_left xs [] ys (append-nil xs ∙ e))

-- the transaction, if it appends to the key
abbrev itself : List ℕ → ℕ → List ℕ
itself [] t = []
itself (x ∷ xs) t = t ∷ []

module _ (h : History) (t k : ℕ) (xs : List ℕ) (before : List Operation) (r : HasRead h t k xs before) (w : IsWhole h t k xs before) where
  abbrev writers : List ℕ
  writers = w.writers ++ itself (own h k t) t

  itself_appends : (os : List ℕ) → own h k t ≡ os → flat_map (own h k) (itself os t) ≡ own h k t
  itself_appends [] e = sym e
  itself_appends (x ∷ os) e = append-nil (own h k t)

  itself_is : (os : List ℕ) (u : ℕ) → Contains (itself os t) u → (u ≡ t) × ((x : ℕ) × Contains os x)
  itself_is [] u c = absurd (none_contained u c)
  itself_is (x ∷ os) u c =
      elim (Contains-cases t [] u c) [
        | inl e ↦ (sym e, (x, Contains-head x os))
        | inr d ↦ absurd (none_contained u d)
      ]

  itself_next : (os : List ℕ) (x : ℕ) → Contains os x → itself os t ≡ t ∷ []
  itself_next [] x c = absurd (none_contained x c)
  itself_next (y ∷ os) x c = refl

  itself_cases : (os : List ℕ) → (itself os t ≡ []) ⊎ (itself os t ≡ t ∷ [])
  itself_cases [] = inl refl
  itself_cases (x ∷ os) = inr refl

  itself_once : (os : List ℕ) (u : ℕ) → count (itself os t) u < 2
  itself_once [] u = omega arith
  itself_once (x ∷ os) u = let cons = count-cons t [] u in
      elim (t == u) as (λ b. count (t ∷ []) u ≡ cond b 1 0 + 0 → count (t ∷ []) u < 2) [
        | true ↦ λ e. omega (arith, e)
        | false ↦ λ e. omega (arith, e)
      ] cons

  -- they append what the transaction leaves
  writers_leave : flat_map (own h k) writers ≡ left h t k xs before r
  writers_leave =
      let early = flat_map (own h k) w.writers in
      flat_map-append (own h k) w.writers (itself (own h k t) t) ∙
      (ap (λ ys. early ++ ys) (itself_appends (own h k t) refl ∙ own_splits h t k xs before r) ∙
      (sym (append_assoc early (appended k before) (appended k r.rest)) ∙
      ap (λ ys. ys ++ appended k r.rest) (sym w.splits)))

  writers_append : AllAppend h k writers
  writers_append u c =
      elim (Contains-append_cases w.writers (itself (own h k t) t) u c) [
        | inl s ↦ (w.others u s).1
        | inr s ↦ let z = itself_is (own h k t) u s in (z.1.0, subst (λ v. Contains (own h k v) z.1.0) (sym z.0) z.1.1)
      ]

  writers_once : (u : ℕ) → count writers u < 2
  writers_once u =
      let parts = count-append w.writers (itself (own h k t) t) u in
      let one = w.once u in
      let two = itself_once (own h k t) u in
      elim (cases_eq (count w.writers u) 0) [
        | inl none ↦ omega (arith, parts, none, two)
        | inr some ↦
            let there = Contains-counted w.writers u (omega (arith, some)) in
            (elim (cases_eq (count (itself (own h k t) t) u) 0) [
              | inl none ↦ omega (arith, parts, none, one)
              | inr again ↦
                  absurd ((w.others u there).0 (itself_is (own h k t) u (Contains-counted (itself (own h k t) t) u (omega (arith, again)))).0)
            ])
      ]

  abbrev in_line : (line more : List ℕ) → line ≡ writers ++ more → IsInLine h line t k xs before
  in_line line more e = record {
    writers = w.writers;
    rest = itself (own h k t) t ++ more;
    cuts = e ∙ append_assoc w.writers (itself (own h k t) t) more;
    splits = w.splits;
    others = λ c. (w.others t c).0 refl;
    next = λ x c. (more, ap (λ us. us ++ more) (itself_next (own h k t) x c));
  }

  last_in_line : (more : List ℕ) → more ≡ [] → (itself (own h k t) t ++ more ≡ []) ⊎ (itself (own h k t) t ++ more ≡ t ∷ [])
  last_in_line more e =
      let short = ap (λ us. itself (own h k t) t ++ us) e ∙ append-nil (itself (own h k t) t) in
      elim (itself_cases (own h k t)) [
        | inl s ↦ inl (short ∙ s)
        | inr s ↦ inr (short ∙ s)
      ]

pub lines_exist : (h : History) (t k : ℕ) (xs : List ℕ) (before : List Operation) (r : HasRead h t k xs before) → AppendersDiffer h
    → ((u : ℕ) (ys : List ℕ) (earlier : List Operation) → HasRead h u k ys earlier → IsWhole h u k ys earlier)
    → IsLongest h t k xs before r → (line : List ℕ) × (l : IsLine h k line) × IsLeft h k line l
lines_exist h t k xs before r differ whole longest =
    let w = whole t xs before r in
    let line = writers h t k xs before r w in
    let begins : (u : ℕ) (ys : List ℕ) (earlier : List Operation) (s : HasRead h u k ys earlier)
    → IsPrefixOf (writers h u k ys earlier s (whole u ys earlier s)) line =
    λ u ys earlier s.
    let v = whole u ys earlier s in
    let p = longest u ys earlier s in
    begins_by_elements h k differ (writers h u k ys earlier s v) line (writers_append h u k ys earlier s v)
    (writers_append h t k xs before r w)
    (p.0, writers_leave h t k xs before r w ∙ (p.1 ∙ ap (λ zs. zs ++ p.0) (sym (writers_leave h u k ys earlier s v)))) in
    let l : IsLine h k line = record {
      once = writers_once h t k xs before r w;
      append = writers_append h t k xs before r w;
      reads = λ u ys earlier s.
          let b = begins u ys earlier s in in_line h u k ys earlier s (whole u ys earlier s) line b.0 b.1;
    } in
    let b = begins t xs before r in
    (line, l, (t, xs, before, r, last_in_line h t k xs before r w b.0 (nothing_more line b.0 b.1)))
