-- In the serial run each key holds, between two transactions, one version of its order.
use Rattle.std.proofs.Common.{◌≡◌, ◌≢◌, ℕ, suc, ◌+◌, ◌<◌, ◌≤◌, true, false, List, ◌∷◌, ◌++◌, length, Option, Some, None, is_some, refl, sym, ◌∙◌, ap, subst, arith, inl, inr}
use Rattle.std.proofs.lemmas.Bool.{cases_Bool, cases_lt, and_parts, and_cases, both_ways}
use Rattle.std.proofs.lemmas.Option.{same_Some, none-some}
use Rattle.adya_values.specs.Meaning.Histories.{Entry, History}
use Rattle.adya_values.specs.Meaning.Events.{is_committed, last_write, shown}
use Rattle.adya_values.specs.Meaning.Orders.{place, writers, installer, shown_by, value_at}
use Rattle.adya_values.specs.Clauses.Rules.{installs}
use Rattle.adya_values.specs.Clauses.Acceptance.{IsAccepted}
use Rattle.adya_laws.proofs.SerialRuns.{over}
use Rattle.adya_laws.proofs.VersionOrders.{installer_installs, installs_installer, rises}
use Rattle.adya_values.proofs.Places.{place_at, place_before, installer_within}
use Rattle.lemmas.proofs.Booleans.{cond-positive, cond-at_most_one}
use Rattle.lemmas.proofs.Counts.{count, count_same, count-append}

-- after the first n transactions the key holds the version at the place `upto`. The versions up to that place are
-- those whose writers are among the first n
pub record HoldsVersion (h : History) (ts : List ℕ) (k : List ℕ) (n : ℕ) (v : Option (List ℕ)) : Type 0 where
  pub upto : ℕ
  pub within : upto ≤ length (writers h k)
  pub value : v ≡ value_at h k upto
  pub done : (q u : ℕ) → installer h k q ≡ Some u → q ≤ upto → place ts u < n
  pub only : (q u : ℕ) → installer h k q ≡ Some u → place ts u < n → q ≤ upto

pub holds-start : (h : History) (ts : List ℕ) (k : List ℕ) → HoldsVersion h ts k 0 None
holds-start h ts k = record {
  upto = 0;
  within = omega arith;
  value = refl;
  done = λ q u e l. let none : q ≡ 0 = omega (arith, l) in absurd
      (none-some u (subst (λ p. installer h k p ≡ Some u) none e));
  only = λ q u e l. absurd (omega (arith, l));
}

pub over_some : (o : Option Entry) (v : Option (List ℕ)) → is_some o ≡ true → over o v ≡ shown o
over_some None v e = absurd (cc (e))
over_some (Some w) v e = refl

pub over_none : (o : Option Entry) (v : Option (List ℕ)) → is_some o ≡ false → over o v ≡ v
over_none None v e = refl
over_none (Some w) v e = absurd (cc (e))

module _ (h : History) (ts : List ℕ) (a : IsAccepted h ts) (front : List ℕ) (t : ℕ) (back : List ℕ)
    (split : ts ≡ front ++ t ∷ back) where
  pub counted : count ts t ≡ count front t + suc (count back t)
  counted = ap (λ xs. count xs t) split ∙
      (count-append front (t ∷ back) t ∙ ap (λ n. count front t + n) (count_same t back t refl))

  pub t_committed : is_committed h.events t ≡ true
  t_committed = cond-positive (is_committed h.events t) (count ts t) (a.committed_once t)
      (let c = counted in omega (arith, c))

  pub not_in_front : count front t ≡ 0
  not_in_front =
      let c = counted in
      let once = a.committed_once t in
      let one = cond-at_most_one (is_committed h.events t) in
      omega (arith, c, once, one)

  pub place_here : place ts t ≡ length front
  place_here = ap (λ xs. place xs t) split ∙ place_at front t back not_in_front

  pub place_earlier : (u : ℕ) → u ≢ t → place ts u < suc (length front) → place ts u < length front
  place_earlier u ne l =
      subst (λ xs. place xs u < length front) (sym split)
      (place_before front t back u ne (subst (λ xs. place xs u < suc (length front)) split l))

  pub holds-written : (k : List ℕ) (v : Option (List ℕ)) → installs h.events k t ≡ true
      → HoldsVersion h ts k (suc (length front)) (over (last_write t k h.events) v)
  holds-written k v e =
      let i : ℕ = place (writers h k) t in
      let own = installs_installer h ts a k t e in
      let here = place_here in
      record {
        upto = suc i;
        within = installer_within h k (suc i) t own;
        value = over_some (last_write t k h.events) v (and_parts _ _ e).1 ∙ ap (shown_by k h.events) (sym own);
        done = λ q u f l.
            elim (cases_lt q (suc i)) [
              | inl less ↦ let before = rises h ts a k q (suc i) u t f own less in omega (arith, before, here)
              | inr more ↦
                  let at : q ≡ suc i = omega (arith, l, more) in
                  let same = ap (place ts) (same_Some u t (sym f ∙ (ap (installer h k) at ∙ own))) in
                  omega (arith, same, here)
            ];
        only = λ q u f l.
            elim (cases_lt (suc i) q) [
              | inl less ↦ absurd (let before = rises h ts a k (suc i) q t u own f less in omega
                  (arith, before, here, l))
              | inr more ↦ more
            ];
      }

  pub holds-kept : (k : List ℕ) (v : Option (List ℕ)) → installs h.events k t ≡ false → HoldsVersion h ts k (length front) v
      → HoldsVersion h ts k (suc (length front)) (over (last_write t k h.events) v)
  holds-kept k v e s = record {
    upto = s.upto;
    within = s.within;
    value =
        elim (and_cases _ _ e) [
          | inl fails ↦ absurd (both_ways _ fails t_committed)
          | inr fails ↦ over_none (last_write t k h.events) v fails ∙ s.value
        ];
    done = λ q u f l. let before = s.done q u f l in omega (arith, before);
    only = λ q u f l.
        s.only q u f
        (place_earlier u (λ same. both_ways _ e
        (subst (λ x. installs h.events k x ≡ true) same (installer_installs h ts a k q u f))) l);
  }

  pub holds-step : (k : List ℕ) (v : Option (List ℕ)) → HoldsVersion h ts k (length front) v
      → HoldsVersion h ts k (suc (length front)) (over (last_write t k h.events) v)
  holds-step k v s =
      elim (cases_Bool (installs h.events k t)) [
        | inl holds ↦ holds-written k v holds
        | inr fails ↦ holds-kept k v fails s
      ]
