-- Along an order line whose write dependencies go forward, a later writer is the same or comes later.
use Rattle.std.proofs.Common.{◌≡◌, ◌≢◌, ℕ, zero, suc, ◌+◌, ◌-◌, ◌<◌, ◌≤◌, ◌⊎◌, Bool, true, cond, List, length, get_or, Some, sym, ◌∙◌, ap, subst, arith, inl, inr}
use Rattle.std.specs.List.{find, Contains}
use Rattle.std.proofs.lemmas.Bool.{cases_Bool, cases_eq, both_ways}
use Rattle.std.proofs.lemmas.Option.{none-some, same_Some, slice_get_within, slice_get-get_or}
use Rattle.adya_values.specs.Meaning.Histories.{History}
use Rattle.adya_values.specs.Meaning.Orders.{writers, installer}
use Rattle.adya_values.specs.Meaning.Edges.{Ww, Edge}
use Rattle.adya_values.specs.Computing.EdgeList.{numbers, places, joined, write_edges}
use Rattle.adya_values.specs.Clauses.Acceptance.{IsBefore}
use Rattle.adya_values.proofs.EdgeList.{Contains-joined, Contains-places}
use Rattle.lemmas.proofs.Members.{Contains-flat_map}

-- the first of the numbers that passes, if this one does
pub record FirstOf (test : ℕ → Bool) (from n q : ℕ) : Type 0 where
  pub first : ℕ
  pub found : find test (numbers from n) ≡ Some first
  pub low : from ≤ first
  pub high : first ≤ q

pub first_of : (test : ℕ → Bool) (from n q : ℕ) → from ≤ q → q < from + n → test q ≡ true → FirstOf test from n q
first_of test from zero q l m t = absurd (omega (arith, l, m))
first_of test from (suc n) q l m t =
    elim (cases_Bool (test from)) [
      | inl s ↦ record {
        first = from;
        found = ap (λ b. cond b (Some from) (find test (numbers (suc from) n))) s;
        low = omega arith;
        high = l;
      }
      | inr f ↦
          let ne = λ (e : from ≡ q). both_ways (test q) (ap test (sym e) ∙ f) t in
          let rest = first_of test (suc from) n q (omega (arith, l, ne)) (omega (arith, m)) t in
          record {
            first = rest.first;
            found = ap (λ b. cond b (Some from) (find test (numbers (suc from) n))) f ∙ rest.found;
            low = let low = rest.low in omega (arith, low);
            high = rest.high;
          }
    ]

module _ (h : History) (k : List ℕ) where
  pub installer_within : (q u : ℕ) → installer h k q ≡ Some u → (1 ≤ q) × (q ≤ length (writers h k))
  installer_within zero u e = absurd (none-some u e)
  installer_within (suc q) u e =
      let within = slice_get_within (writers h k) q u e in
      (omega arith, omega (arith, within))

  pub installer_there : (q : ℕ) → 1 ≤ q → q ≤ length (writers h k) → (u : ℕ) × (installer h k q ≡ Some u)
  installer_there zero l m = absurd (omega (arith, l))
  installer_there (suc q) l m = (get_or (writers h k) q 0, slice_get-get_or (writers h k) q 0 (omega (arith, m)))

  module _ (ts : List ℕ) (forward : (x : Edge) → Contains (write_edges h k) x → IsBefore ts x.from x.to) where
    step : (q a b : ℕ) → installer h k q ≡ Some a → installer h k (suc q) ≡ Some b → (a ≡ b) ⊎ IsBefore ts a b
    step q a b e f =
        elim (cases_eq a b) [
          | inl s ↦ inl s
          | inr ne ↦
              let x : Edge = record { from = a; kind = Ww; key = k; to = b } in
              inr (forward x
              (Contains-flat_map (λ j. joined Ww k (installer h k j) (installer h k (suc j))) (places h k) q x
              (Contains-places h k q a e) (Contains-joined Ww k _ _ a b e f ne)))
        ]

    both : (a u b : ℕ) → (a ≡ u) ⊎ IsBefore ts a u → (u ≡ b) ⊎ IsBefore ts u b → (a ≡ b) ⊎ IsBefore ts a b
    both a u b (inl s) r = subst (λ x. (x ≡ b) ⊎ IsBefore ts x b) (sym s) r
    both a u b (inr l) (inl s) = inr (subst (IsBefore ts a) s l)
    both a u b (inr l) (inr m) = inr (omega (arith, l, m))

    reach_by : (d q p a b : ℕ) → p ≡ q + d → installer h k q ≡ Some a → installer h k p ≡ Some b
        → (a ≡ b) ⊎ IsBefore ts a b
    reach_by zero q p a b s e f =
        let same : q ≡ p = omega (arith, s) in
        inl (same_Some a b (sym e ∙ (ap (installer h k) same ∙ f)))
    reach_by (suc d) q p a b s e f =
        let within = installer_within p b f in
        let high = within.1 in
        let next = installer_there (suc q) (omega arith) (omega (arith, high, s)) in
        both a next.0 b (step q a next.0 e next.1) (reach_by d (suc q) p next.0 b (omega (arith, s)) next.1 f)

    -- who installed the version at a place, and who that at a place no earlier
    reach : (q p a b : ℕ) → q ≤ p → installer h k q ≡ Some a → installer h k p ≡ Some b
        → (a ≡ b) ⊎ IsBefore ts a b
    reach q p a b l e f = reach_by (p - q) q p a b (omega (arith, l)) e f

    -- who comes before another comes before who installed no earlier than that one
    pub before_later : (t q p a b : ℕ) → q ≤ p → installer h k q ≡ Some a → installer h k p ≡ Some b → t ≢ b
        → (t ≢ a → IsBefore ts t a) → IsBefore ts t b
    before_later t q p a b l e f ne link =
        elim (cases_eq t a) [
          | inl s ↦
              (elim (reach q p a b l e f) [
                | inl r ↦ absurd (ne (s ∙ r))
                | inr r ↦ subst (λ x. IsBefore ts x b) (sym s) r
              ])
          | inr o ↦
              let first = link o in
              (elim (reach q p a b l e f) [
                | inl r ↦ subst (IsBefore ts t) r first
                | inr r ↦ omega (arith, first, r)
              ])
        ]

    -- who comes before another also comes after who installed no later than that one
    pub earlier_before : (t q p a b : ℕ) → q ≤ p → installer h k q ≡ Some a → installer h k p ≡ Some b → a ≢ t
        → (b ≢ t → IsBefore ts b t) → IsBefore ts a t
    earlier_before t q p a b l e f ne link =
        elim (cases_eq b t) [
          | inl s ↦
              (elim (reach q p a b l e f) [
                | inl r ↦ absurd (ne (r ∙ s))
                | inr r ↦ subst (IsBefore ts a) s r
              ])
          | inr o ↦
              let last = link o in
              (elim (reach q p a b l e f) [
                | inl r ↦ subst (λ x. IsBefore ts x t) (sym r) last
                | inr r ↦ omega (arith, r, last)
              ])
        ]
