-- What the table of appenders says after more steps.
use Rattle.std.proofs.Common.{◌≡◌, ◌≢◌, ℕ, zero, suc, ◌+◌, ◌<◌, ◌≤◌, ◌==◌, ◌&&◌, cond, List, [], ◌∷◌, ◌++◌, Option, Some, None, Contains, take, drop, length, get_or, refl, sym, ◌∙◌, ap, subst, arith, inl, inr}
use Rattle.std.proofs.lemmas.Bool.{cases_eq, cases_lt, eq-eqb, ne_eqb}
use Rattle.std.proofs.lemmas.List.{take-append-drop, take_more, take_all, get_or_past, append-nil}
use Rattle.std.proofs.lemmas.List.Concat.{flat_map-append}
use Rattle.std.proofs.lemmas.List.Elements.{Contains-append_cases}
use Rattle.lemmas.proofs.Members.{none_contained, Contains-cases}
use Rattle.lemmas.proofs.Counts.{count, count-append, count_same, count_other}
use Rattle.append_values.specs.Meaning.Histories.{Operation, Append, Transaction, History, nothing, effects_of}
use Rattle.append_values.specs.Meaning.Reads.{appended, own, AppendersDiffer, AppendsOnce}
use Rattle.append_values.proofs.AppendedElements.{appended-append}
use Rattle.append_check.specs.declared.item.Item.{Item}
use Rattle.append_check.specs.Machinery.Appending.{item, item_eq, times, count_in, all_appended, Tells, Adds}

count_in-append : (k x : ℕ) (os ps : List Operation) → count_in k x (os ++ ps) ≡ count_in k x os + count_in k x ps
count_in-append k x os ps = ap (λ ys. count ys x) (appended-append k os ps) ∙ count-append (appended k os) (appended k ps) x

pub adds_more : (old mid new : Item → Option ℕ) (place : ℕ) (os ps : List Operation) → Adds old mid place os → Adds mid new place ps
    → Adds old new place (os ++ ps)
adds_more old mid new place os ps a b = record {
  counted = λ k x.
      let one = a.counted k x in
      let two = b.counted k x in
      let all = count_in-append k x os ps in
      omega (arith, one, two, all);
  kept = λ k x t e. b.kept k x t (a.kept k x t e);
  put = λ k x c. elim (Contains-append_cases (appended k os) (appended k ps) x (subst (λ ys. Contains ys x) (appended-append k os ps) c)) [
    | inl s ↦ b.kept k x place (a.put k x s)
    | inr s ↦ b.put k x s
  ];
}

-- an element that is appended again by one more step is by all steps
pub again_in_all : (old mid : Item → Option ℕ) (place : ℕ) (os ps rest : List Operation) (k x : ℕ) → Adds old mid place os
    → 1 < times (mid (item k x)) + count_in k x ps → 1 < times (old (item k x)) + count_in k x ((os ++ ps) ++ rest)
again_in_all old mid place os ps rest k x a more =
    let one = a.counted k x in
    let two = count_in-append k x (os ++ ps) rest in
    let three = count_in-append k x os ps in
    omega (arith, one, two, three, more)

abbrev Puts : (old new : Item → Option ℕ) → (k x place : ℕ) → Type 0
Puts old new k x place = (q : Item) → new q ≡ cond (item_eq (item k x) q) (Some place) (old q)

module _ (old new : Item → Option ℕ) (k x place : ℕ) (puts : Puts old new k x place) where
  put_here : (j y : ℕ) → k ≡ j → x ≡ y → new (item j y) ≡ Some place
  put_here j y e f =
      puts (item j y) ∙ ap (λ b. cond b (Some place) (old (item j y))) (ap (λ b. b && (x == y)) (eq-eqb k j e) ∙ eq-eqb x y f)

  other_key : (j y : ℕ) → k ≢ j → new (item j y) ≡ old (item j y)
  other_key j y ne = puts (item j y) ∙ ap (λ b. cond (b && (x == y)) (Some place) (old (item j y))) (ne_eqb k j ne)

  other_element : (j y : ℕ) → x ≢ y → new (item j y) ≡ old (item j y)
  other_element j y ne =
      elim (cases_eq k j) [
        | inl e ↦
            puts (item j y) ∙
            ap (λ b. cond b (Some place) (old (item j y))) (ap (λ b. b && (x == y)) (eq-eqb k j e) ∙ ne_eqb x y ne)
        | inr apart ↦ other_key j y apart
      ]

  one_here : (j : ℕ) → k ≡ j → appended j (Append k x ∷ []) ≡ x ∷ []
  one_here j e = ap (λ b. cond b (x ∷ []) []) (eq-eqb k j e)

  none_elsewhere : (j : ℕ) → k ≢ j → appended j (Append k x ∷ []) ≡ []
  none_elsewhere j ne = ap (λ b. cond b (x ∷ []) []) (ne_eqb k j ne)

  -- a step that appends a new element
  pub adds_one : old (item k x) ≡ None → Adds old new place (Append k x ∷ [])
  adds_one fresh = record {
    counted = λ j y. elim (cases_eq k j) [
      | inr ne ↦
          let same = ap times (other_key j y ne) in
          let none = ap (λ ys. count ys y) (none_elsewhere j ne) in
          omega (arith, same, none)
      | inl e ↦
          let one = ap (λ ys. count ys y) (one_here j e) in
          (elim (cases_eq x y) [
            | inl f ↦
                let now = ap times (put_here j y e f) in
                let was = ap times (ap (λ i. old (item i y)) (sym e) ∙ (ap (λ z. old (item k z)) (sym f) ∙ fresh)) in
                let here = count_same x [] y f in
                omega (arith, now, was, one, here)
            | inr ne ↦
                let same = ap times (other_element j y ne) in
                let none = count_other x [] y ne in
                omega (arith, same, one, none)
          ])
    ];
    kept = λ j y t was. elim (cases_eq k j) [
      | inr ne ↦ other_key j y ne ∙ was
      | inl e ↦
          elim (cases_eq x y) [
            | inr ne ↦ other_element j y ne ∙ was
            | inl f ↦
                let none : old (item j y) ≡ None = ap (λ i. old (item i y)) (sym e) ∙ (ap (λ z. old (item k z)) (sym f) ∙ fresh) in
                absurd (cc (was, none))
          ]
    ];
    put = λ j y c. elim (cases_eq k j) [
      | inr ne ↦ absurd (none_contained y (subst (λ ys. Contains ys y) (none_elsewhere j ne) c))
      | inl e ↦
          elim (Contains-cases x [] y (subst (λ ys. Contains ys y) (one_here j e) c)) [
            | inl f ↦ put_here j y e f
            | inr d ↦ absurd (none_contained y d)
          ]
    ];
  }

-- a step that appends an element which was there
pub again : (old : Item → Option ℕ) (k x t : ℕ) → old (item k x) ≡ Some t → 1 < times (old (item k x)) + count_in k x (Append k x ∷ [])
again old k x t was =
    let one = ap times was in
    let two = ap (λ b. count (cond b (x ∷ []) []) x) (eq-eqb k k refl) in
    let here = count_same x [] x refl in
    omega (arith, one, two, here)

-- what one more transaction appends
all_more : (h : History) (i k : ℕ) → i < length h
    → all_appended k (take (i + 1) h) ≡ all_appended k (take i h) ++ appended k (effects_of (get_or h i nothing))
all_more h i k l =
    ap (all_appended k) (take_more h i nothing l) ∙
    (flat_map-append (λ (t : Transaction). appended k (effects_of t)) (take i h) (get_or h i nothing ∷ []) ∙
    ap (λ ys. all_appended k (take i h) ++ ys) (append-nil (appended k (effects_of (get_or h i nothing)))))

pub tells_more : (old new : Item → Option ℕ) (h : History) (i : ℕ) → i < length h → Tells old h i
    → Adds old new i (effects_of (get_or h i nothing)) → Tells new h (i + 1)
tells_more old new h i l t a = record {
  counted = λ k x.
      let before = t.counted k x in
      let one = a.counted k x in
      let more = ap (λ ys. count ys x) (all_more h i k l) in
      let parts = count-append (all_appended k (take i h)) (appended k (effects_of (get_or h i nothing))) x in
      omega (arith, before, one, more, parts);
  has = λ k x u less c. elim (cases_lt u i) [
    | inl sooner ↦ a.kept k x u (t.has k x u sooner c)
    | inr past ↦
        let same : i ≡ u = omega (arith, less, past) in
        subst (λ v. new (item k x) ≡ Some v) same
        (a.put k x (subst (λ v. Contains (own h k v) x) (sym same) c))
  ];
}

appender_known : (h : History) (k t x : ℕ) → Contains (own h k t) x → t < length h
appender_known h k t x c =
    elim (cases_lt t (length h)) [
      | inl l ↦ l
      | inr l ↦
          absurd (none_contained x (subst (λ (z : Transaction). Contains (appended k (effects_of z)) x) (get_or_past h t nothing l) c))
    ]

pub differ_from : (table : Item → Option ℕ) (h : History) (n : ℕ) → length h ≤ n → Tells table h n → AppendersDiffer h
differ_from table h n l t k x u v c d =
    let less = appender_known h k u x c in
    let less' = appender_known h k v x d in
    let one = t.has k x u (omega arith) c in
    let two = t.has k x v (omega arith) d in
    cc (one, two)

at_most_once : (o : Option ℕ) → times o ≤ 1
at_most_once None = omega arith
at_most_once (Some t) = omega arith

count_one : (h : History) (k x t : ℕ) → count (own h k t) x ≤ count (all_appended k h) x
count_one [] k x t = omega arith
count_one (y ∷ h) k x zero =
    let parts = count-append (appended k (effects_of y)) (all_appended k h) x in omega (arith, parts)
count_one (y ∷ h) k x (suc t) =
    let parts = count-append (appended k (effects_of y)) (all_appended k h) x in
    let rest = count_one h k x t in
    omega (arith, parts, rest)

pub once_from : (table : Item → Option ℕ) (h : History) (n : ℕ) → length h ≤ n → Tells table h n → AppendsOnce h
once_from table h n l t k x u =
    let all = ap (λ us. count (all_appended k us) x) (take_all n h l) in
    let counted = t.counted k x in
    let most = at_most_once (table (item k x)) in
    let one = count_one h k x u in
    omega (arith, all, counted, most, one)

-- an element that was appended before is appended twice in all
pub twice_in_all : (table : Item → Option ℕ) (h : History) (i k x : ℕ) → i < length h → Tells table h i
    → 1 < times (table (item k x)) + count_in k x (effects_of (get_or h i nothing)) → 1 < count (all_appended k h) x
twice_in_all table h i k x l t more =
    let before = t.counted k x in
    let next = ap (λ ys. count ys x) (all_more h i k l) in
    let parts = count-append (all_appended k (take i h)) (appended k (effects_of (get_or h i nothing))) x in
    let split = ap (λ us. count (all_appended k us) x) (take-append-drop (i + 1) h) in
    let pieces = ap (λ ys. count ys x) (flat_map-append (λ (z : Transaction). appended k (effects_of z)) (take (i + 1) h) (drop (i + 1) h)) in
    let parts' = count-append (all_appended k (take (i + 1) h)) (all_appended k (drop (i + 1) h)) x in
    omega (arith, before, next, parts, split, pieces, parts', more)
