-- The index of written keys, step by step.
use Rattle.std.proofs.Common.{◌≡◌, ◌≢◌, ℕ, zero, suc, drop, ◌-◌, Bool, true, false, cond, ◌&&◌, ◌||◌, List, [], ◌∷◌, Option, Some, None, refl, sym, ◌∙◌, ap, subst, arith, inl, inr}
use Rattle.std.specs.Cmp.Lexicographic.{slice_cmp, nat_list_cmp_total}
use Rattle.std.specs.Ordering.{nat_cmp, is_eq, ordering_then}
use Rattle.std.specs.Cmp.{tied_then}
use Rattle.std.proofs.lemmas.Bool.{eq-eqb, eqb-true, cases_eq, cases_Bool, cond-true, cond-false, and_parts, and_from, both_ways}
use Rattle.std.proofs.lemmas.Cmp.{eq_by_cmp_equiv}
use Rattle.std.proofs.lemmas.Map.Lookups.{exact_bytes}
use Rattle.std.proofs.lemmas.Map.Views.{tells_apart}
use Rattle.ssi_conflict.proofs.RecordSlots.{is_eq-nat_cmp}
use Rattle.lemmas.proofs.Members.{Contains-cons, none_contained}
use Rattle.lemmas.proofs.Tests.{list_any-source, list_any_when}
use Rattle.ssi_conflict.specs.Machinery.Index.{IsIndexed, Wrote, is_one_of, has_key}
use Rattle.std.proofs.lemmas.Option.{same_Some, none-some}
use Rattle.std.specs.List.{Contains}

-- ---- one of some keys

key_in : (ks : List (List ℕ)) (k : List ℕ) → Contains ks k → has_key ks k ≡ true
key_in ks k c = list_any_when (λ j. is_eq (slice_cmp nat_cmp j k)) ks k c ((eq_by_cmp_equiv nat_list_cmp_total).refl k)

pub one_of : (ks : List (List ℕ)) (n a : ℕ) (k : List ℕ) → a ≡ n → Contains ks k → is_one_of ks n k a ≡ true
one_of ks n a k e c =
    and_from (has_key ks k) _ (key_in ks k c)
    (is_eq-nat_cmp n a ∙ eq-eqb n a (sym e))

pub key_from : (ks : List (List ℕ)) (k : List ℕ) → has_key ks k ≡ true → Contains ks k
key_from ks k h =
    let w = list_any-source (λ j. is_eq (slice_cmp nat_cmp j k)) ks h in
    subst (Contains ks) (tells_apart exact_bytes w.0 k w.2) w.1

pub of_one : (ks : List (List ℕ)) (n a : ℕ) (k : List ℕ) → is_one_of ks n k a ≡ true → (a ≡ n) × Contains ks k
of_one ks n a k h =
    let p = and_parts (has_key ks k) _ h in
    (sym (eqb-true n a (sym (is_eq-nat_cmp n a) ∙ p.1)), key_from ks k p.0)

pub not_one : (ks : List (List ℕ)) (n a : ℕ) (k : List ℕ) → (a ≡ n → ⊥) → is_one_of ks n k a ≡ false
not_one ks n a k ne = elim (cases_Bool (is_one_of ks n k a)) [ inl h ↦ absurd (ne (of_one ks n a k h).0) | inr h ↦ h ]

-- ---- the index of some commits

-- t has the same commit
pub wrote_as : (commit commit' : ℕ → Option (ℕ × List (List ℕ))) (t n : ℕ) (k : List ℕ) → commit' t ≡ commit t
    → Wrote commit t n k → Wrote commit' t n k
wrote_as commit commit' t n k e h = record { keys = h.keys; is = e ∙ h.is; written = h.written }

pub indexed_same : (commit commit' : ℕ → Option (ℕ × List (List ℕ))) (writer : List ℕ → ℕ → Option ℕ) (last : ℕ)
    (ks : List (List ℕ))
    → ((t : ℕ) → commit' t ≡ commit t) → IsIndexed commit writer last ks → IsIndexed commit' writer last ks
indexed_same commit commit' writer last ks same w = record {
  found = λ t a k h. w.found t a k (wrote_as commit' commit t (suc a) k (sym (same t)) h);
  only = λ t a k e. elim (w.only t a k e) [
    | inl h ↦ inl (wrote_as commit commit' t (suc a) k (same t) h)
    | inr h ↦ inr
        h
  ];
  past = λ t n js e. w.past t n js (sym (same t) ∙ e);
}

module _ (commit : ℕ → Option (ℕ × List (List ℕ))) (writer writer' : List ℕ → ℕ → Option ℕ) (last : ℕ) where
  -- writes of commits stand under earlier stamps
  not_next : (ks : List (List ℕ)) → IsIndexed commit writer last ks → (t a : ℕ) (k : List ℕ) → Wrote commit t (suc a) k
      → a ≡ last → ⊥
  not_next ks w t a k h e =
      let p = w.past t (suc a) h.keys h.is in
      omega (arith, p.next, p.below, e)

  -- the judged keys go
  pub indexed_cleared : (ks : List (List ℕ))
      → ((k : List ℕ) (a : ℕ) → writer' k a ≡ cond (is_one_of ks last k a) None (writer k a))
      → IsIndexed commit writer last ks → IsIndexed commit writer' last []
  indexed_cleared ks removed w = record {
    found = λ t a k h.
        removed k a ∙ (cond-false _ None (writer k a) (not_one ks last a k (not_next ks w t a k h)) ∙ w.found t a k h);
    only = λ t a k e. elim (cases_Bool (is_one_of ks last k a)) [
      | inl gone ↦ absurd (none-some t (sym (removed k a ∙ cond-true _ None (writer k a) gone) ∙ e))
      | inr left' ↦
          elim (w.only t a k (sym (removed k a ∙ cond-false _ None (writer k a) left') ∙ e)) [
            | inl h ↦ inl h
            | inr h ↦ absurd (both_ways _ left' (one_of ks last a k h.0 h.1))
          ]
    ];
    past = w.past;
  }

  -- others come
  pub indexed_filled : (ks : List (List ℕ))
      → ((k : List ℕ) (a : ℕ) → is_one_of ks last k a ≡ false → writer' k a ≡ writer k a)
      → IsIndexed commit writer last [] → IsIndexed commit writer' last ks
  indexed_filled ks others w = record {
    found = λ t a k h. others k a (not_one ks last a k (not_next [] w t a k h)) ∙ w.found t a k h;
    only = λ t a k e. elim (cases_Bool (is_one_of ks last k a)) [
      | inl new ↦ inr (of_one ks last a k new)
      | inr old ↦
          elim (w.only t a k (sym (others k a old) ∙ e)) [
            | inl h ↦ inl h
            | inr h ↦ absurd (none_contained k h.1)
          ]
    ];
    past = w.past;
  }

  -- a commit goes, with its writes
  pub indexed_dropped : (commit' : ℕ → Option (ℕ × List (List ℕ))) (ks : List (List ℕ)) (t n : ℕ) (js : List (List ℕ))
      → commit t ≡ Some (n, js) → commit' t ≡ None → ((x : ℕ) → x ≢ t → commit' x ≡ commit x)
      → ((k : List ℕ) (a : ℕ) → writer' k a ≡ cond (is_one_of js (n - 1) k a) None (writer k a))
      → IsIndexed commit writer last ks → IsIndexed commit' writer' last ks
  indexed_dropped commit' ks t n js was gone others removed w =
      let first = w.past t n js was in
      let there : (x : ℕ) (m : ℕ) (is : List (List ℕ)) → commit' x ≡ Some (m, is) → x ≢ t =
      λ x m is e f. none-some (m, is) (sym gone ∙ (ap commit' (sym f) ∙ e)) in
      record {
        found = λ x a k h.
            let ne = there x (suc a) h.keys h.is in
            let old = wrote_as commit' commit x (suc a) k (sym (others x ne)) h in
            removed k a ∙ elim (cases_Bool (is_one_of js (n - 1) k a)) [
              | inl its ↦
                  let p = of_one js (n - 1) a k its in
                  let same : n ≡ suc a = (let e = p.0 in let f = first.next in omega (arith, e, f)) in
                  let its' : Wrote commit t (suc a) k = record
                  { keys = js; is = was ∙ ap (λ m. Some (m, js)) same; written = p.1 } in
                  absurd (ne (same_Some x t (sym (w.found x a k old) ∙ w.found t a k its')))
              | inr left' ↦ cond-false _ None (writer k a) left' ∙ w.found x a k old
            ];
        only = λ x a k e. elim (cases_Bool (is_one_of js (n - 1) k a)) [
          | inl its ↦ absurd (none-some x (sym (removed k a ∙ cond-true _ None (writer k a) its) ∙ e))
          | inr left' ↦
              elim (w.only x a k (sym (removed k a ∙ cond-false _ None (writer k a) left') ∙ e)) [
                | inl h ↦ inl (elim (cases_eq x t) [
                  | inl f ↦
                      let pair = same_Some (n, js) (suc a, h.keys) (sym was ∙ (ap commit (sym f) ∙ h.is)) in
                      let stamp = ap (λ (p : ℕ × List (List ℕ)). p.0) pair in
                      let written : Contains js k = subst (λ is. Contains is k)
                      (sym (ap (λ (p : ℕ × List (List ℕ)). p.1) pair)) h.written in
                      absurd (both_ways _ left' (one_of js (n - 1) a k (omega (arith, stamp)) written))
                  | inr ne ↦ wrote_as commit commit' x (suc a) k (others x ne) h
                ])
                | inr h ↦ inr h
              ]
        ];
        past = λ x m is e. w.past x m is (sym (others x (there x m is e)) ∙ e);
      }

-- t commits with the judged keys
pub indexed_closed : (commit commit' : ℕ → Option (ℕ × List (List ℕ))) (writer : List ℕ → ℕ → Option ℕ) (last : ℕ)
    (ks later : List (List ℕ)) (t : ℕ) → commit t ≡ None → commit' t ≡ Some (suc last, ks)
    → ((x : ℕ) → x ≢ t → commit' x ≡ commit x) → ((k : List ℕ) → Contains ks k → writer k last ≡ Some t)
    → IsIndexed commit writer last ks → IsIndexed commit' writer (suc last) later
indexed_closed commit commit' writer last ks later t was is others filed w = record {
  found = λ x a k h. elim (cases_eq x t) [
    | inl e ↦
        let pair = same_Some (suc last, ks) (suc a, h.keys) (sym is ∙ (ap commit' (sym e) ∙ h.is)) in
        let stamp = ap (λ (p : ℕ × List (List ℕ)). p.0) pair in
        let at : last ≡ a = omega (arith, stamp) in
        let written : Contains ks k = subst (λ js. Contains js k) (sym (ap (λ (p : ℕ × List (List ℕ)). p.1) pair))
        h.written in
        ap (writer k) (sym at) ∙ (filed k written ∙ ap Some (sym e))
    | inr ne ↦ w.found x a k (wrote_as commit' commit x (suc a) k (sym (others x ne)) h)
  ];
  only = λ x a k e. inl (elim (w.only x a k e) [
    | inl h ↦
        wrote_as commit commit' x (suc a) k
        (others x (λ f. none-some (suc a, h.keys) (sym was ∙ (ap commit (sym f) ∙ h.is)))) h
    | inr h ↦
        let same : x ≡ t = same_Some x t (sym e ∙ (ap (writer k) h.0 ∙ filed k h.1)) in
        record { keys = ks; is = ap commit' same ∙ (is ∙ ap (λ n. Some (suc n, ks)) (sym h.0)); written = h.1 }
  ]);
  past = λ x n js e. elim (cases_eq x t) [
    | inl f ↦
        let pair = same_Some (suc last, ks) (n, js) (sym is ∙ (ap commit' (sym f) ∙ e)) in
        record { before = last; next = sym (ap (λ (p : ℕ × List (List ℕ)). p.0) pair); below = omega arith }
    | inr ne ↦
        let p = w.past x n js (sym (others x ne) ∙ e) in
        record { before = p.before; next = p.next; below = (let l = p.below in omega (arith, l)) }
  ];
}

-- ---- keys that are put one after the other

one_step : (p r e : Bool) (w v : Option ℕ) → cond (r && e) w (cond (p && e) w v) ≡ cond ((p || r) && e) w v
one_step true true true w v = refl
one_step true true false w v = refl
one_step true false true w v = refl
one_step true false false w v = refl
one_step false r e w v = refl

-- one more of the keys is put, and the rest is still to be put
pub put_step : (x : List ℕ) (xs rest all : List (List ℕ)) (n : ℕ) (w : Option ℕ)
    (old now' new : List ℕ → ℕ → Option ℕ) → xs ≡ x ∷ rest
    → ((k : List ℕ) (a : ℕ) → new k a ≡ cond (is_eq (ordering_then (slice_cmp nat_cmp x k) (nat_cmp n a))) w (now' k a))
    → ((k : List ℕ) (a : ℕ) → cond (is_one_of xs n k a) w (now' k a) ≡ cond (is_one_of all n k a) w (old k a))
    → (k : List ℕ) (a : ℕ) → cond (is_one_of rest n k a) w (new k a) ≡ cond (is_one_of all n k a) w (old k a)
put_step x xs rest all n w old now' new e put before k a =
    ap (cond (is_one_of rest n k a) w) (put k a ∙ ap (λ b. cond b w (now' k a))
    (sym (tied_then (slice_cmp nat_cmp x k) (nat_cmp n a)))) ∙
    (one_step (is_eq (slice_cmp nat_cmp x k)) (has_key rest k) (is_eq (nat_cmp n a)) w (now' k a) ∙
    (ap (λ ks. cond (is_one_of ks n k a) w (now' k a)) (sym e) ∙ before k a))

-- if the rest is none of them, a key that is none of all is as before
pub others_kept : (rest all : List (List ℕ)) (n : ℕ) (w : Option ℕ) (old now' : List ℕ → ℕ → Option ℕ) (k : List ℕ)
    (a : ℕ) → ((j : List ℕ) → Contains rest j → Contains all j)
    → cond (is_one_of rest n k a) w (now' k a) ≡ cond (is_one_of all n k a) w (old k a) → is_one_of all n k a ≡ false
    → now' k a ≡ old k a
others_kept rest all n w old now' k a within before none =
    let still : is_one_of rest n k a ≡ false = elim (cases_Bool (is_one_of rest n k a)) [
      | inl is ↦ (let p = of_one rest n a k is in absurd (both_ways _ none (one_of all n a k p.0 (within k p.1))))
      | inr is_not ↦ is_not
    ] in
    sym (cond-false (is_one_of rest n k a) w (now' k a) still) ∙
    (before ∙ cond-false (is_one_of all n k a) w (old k a) none)

pub drop_within : (i : ℕ) (xs : List (List ℕ)) (x : List ℕ) → Contains (drop i xs) x → Contains xs x
drop_within zero xs x c = c
drop_within (suc i) [] x c = c
drop_within (suc i) (y ∷ ys) x c = Contains-cons y ys x (drop_within i ys x c)

pub indexed_judged : (commit : ℕ → Option (ℕ × List (List ℕ))) (writer : List ℕ → ℕ → Option ℕ) (last : ℕ)
    (ks js : List (List ℕ)) → js ≡ ks → IsIndexed commit writer last ks → IsIndexed commit writer last js
indexed_judged commit writer last ks js e w = subst (IsIndexed commit writer last) (sym e) w

pub has_each : (js ks : List (List ℕ)) (k : List ℕ) → js ≡ ks → Contains ks k → has_key js k ≡ true
has_each js ks k e c = ap (λ is. has_key is k) e ∙ key_in ks k c
