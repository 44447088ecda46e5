-- The serial run of an accepted history reproduces its reads, its scans and its final contents.
use Rattle.std.proofs.Common.{◌≡◌, ℕ, suc, ◌==◌, ◌<◌, true, cond, ◌↔◌, map, List, [], ◌∷◌, ◌++◌, length, Option, Some, refl, sym, ◌∙◌, ap, subst, arith, inl, inr, append_assoc, length-append, append-nil}
use Rattle.std.specs.List.{flat_map, Contains}
use Rattle.std.proofs.lemmas.Bool.{cases_Bool, cases_lt, eqb-true, and_parts, cond-true}
use Rattle.std.proofs.lemmas.List.Elements.{filter-append, Contains-append_left, Contains-append_right}
use Rattle.adya_values.specs.Meaning.Histories.{Event, History}
use Rattle.adya_values.specs.Meaning.Events.{txn_of, is_committed}
use Rattle.adya_values.specs.Meaning.Orders.{writers, value_at}
use Rattle.adya_keys.specs.Meaning.Keys.{keys_rise}
use Rattle.adya_values.specs.Meaning.Serial.{pair, Contents, empty, after, run, events_of, AllSee, Agrees}
use Rattle.adya_values.specs.Clauses.Rules.{EachAfter, WasWritten, SeesOwnWrites, IsRising}
use Rattle.adya_values.specs.Clauses.Acceptance.{IsAccepted}
use Rattle.adya_laws.proofs.SerialRuns.{run_own, run_append, AllSee-append}
use Rattle.adya_laws.proofs.VersionOrders.{installer_installs}
use Rattle.adya_laws.proofs.SerialContents.{HoldsVersion, holds-start, holds-step}
use Rattle.adya_laws.proofs.ListedPairs.{finals_are}
use Rattle.adya_laws.proofs.SerialReads.{sees}
use Rattle.adya_values.proofs.Places.{place_in, installer_there}
use Rattle.lemmas.proofs.Counts.{count}
use Rattle.lemmas.proofs.Members.{Contains-head}

-- the run of one transaction's events
module _ (h : History) (ts : List ℕ) (a : IsAccepted h ts) (front : List ℕ) (t : ℕ) (back : List ℕ)
    (split : ts ≡ front ++ t ∷ back) (m : Contents) (stands : (k : List ℕ) → HoldsVersion h ts k (length front) (m k)) where
  pub own_see : (before es : List Event) → h.events ≡ before ++ es → EachAfter WasWritten before es
      → EachAfter SeesOwnWrites before es → EachAfter (λ b e. IsRising e) before es
      → AllSee (run m (events_of before t)) (events_of es t)
  own_see before [] cut was own rising = tt
  own_see before (e ∷ es) cut was own rising =
      let further : h.events ≡ (before ++ e ∷ []) ++ es = cut ∙ sym (append_assoc before (e ∷ []) es) in
      let rest = own_see (before ++ e ∷ []) es further was.1 own.1 rising.1 in
      let occurs : Contains h.events e = subst (λ xs. Contains xs e) (sym cut)
      (Contains-append_right before (e ∷ es) e (Contains-head e es)) in
      let within = λ (w : Event) (c : Contains before w). subst (λ xs. Contains xs w) (sym cut)
      (Contains-append_left before (e ∷ es) w c) in
      let step : events_of (before ++ e ∷ []) t ≡ events_of before t ++ cond (txn_of e == t) (e ∷ []) [] =
      filter-append (λ x. txn_of x == t) before (e ∷ []) in
      elim (cases_Bool (txn_of e == t)) [
        | inl c ↦
            let mine = eqb-true _ _ c in
            let now = sees h ts a front t back split m stands before within e occurs mine was.0 own.0 rising.0 in
            let there : events_of (before ++ e ∷ []) t ≡ events_of before t ++ e ∷ [] =
            step ∙ ap (λ b. events_of before t ++ cond b (e ∷ []) []) c in
            let state : run m (events_of (before ++ e ∷ []) t) ≡ after (run m (events_of before t)) e =
            ap (run m) there ∙ run_append (events_of before t) (e ∷ []) m in
            let both : AllSee (run m (events_of before t)) (e ∷ events_of es t) =
            (now, subst (λ s. AllSee s (events_of es t)) state rest) in
            subst (λ b. AllSee (run m (events_of before t)) (cond b (e ∷ events_of es t) (events_of es t))) (sym c) both
        | inr c ↦
            let there : events_of (before ++ e ∷ []) t ≡ events_of before t =
            step ∙ (ap (λ b. events_of before t ++ cond b (e ∷ []) []) c ∙ append-nil (events_of before t)) in
            let both : AllSee (run m (events_of before t)) (events_of es t) = subst
            (λ xs. AllSee (run m xs) (events_of es t)) there rest in
            subst (λ b. AllSee (run m (events_of before t)) (cond b (e ∷ events_of es t) (events_of es t))) (sym c) both
      ]

  pub holds_after : (k : List ℕ) → HoldsVersion h ts k (suc (length front)) (run m (events_of h.events t) k)
  holds_after k =
      subst (HoldsVersion h ts k (suc (length front))) (sym (run_own t k h.events m))
      (holds-step h ts a front t back split k (m k) (stands k))

module _ (h : History) (ts : List ℕ) (a : IsAccepted h ts) where
  -- running the rest of the certificate reproduces what was recorded, and leaves the last versions
  pub record Runs (back : List ℕ) (m : Contents) : Type 0 where
    pub see : AllSee m (flat_map (events_of h.events) back)
    pub stand : (k : List ℕ) → HoldsVersion h ts k (length ts) (run m (flat_map (events_of h.events) back) k)

  pub runs : (front back : List ℕ) → ts ≡ front ++ back → (m : Contents)
      → ((k : List ℕ) → HoldsVersion h ts k (length front) (m k)) → Runs back m
  runs front [] cut m stands =
      let same : length front ≡ length ts = ap length (sym (append-nil front) ∙ sym cut) in
      record { see = tt; stand = λ k. subst (λ n. HoldsVersion h ts k n (m k)) same (stands k) }
  runs front (t ∷ back) cut m stands =
      let own = events_of h.events t in
      let rest = flat_map (events_of h.events) back in
      let further : ts ≡ (front ++ t ∷ []) ++ back = cut ∙ sym (append_assoc front (t ∷ []) back) in
      let longer : suc (length front) ≡ length (front ++ t ∷ []) = simp length-append (omega arith) in
      let later = runs (front ++ t ∷ []) back further (run m own)
      (λ k. subst (λ n. HoldsVersion h ts k n (run m own k)) longer (holds_after h ts a front t back cut m stands k)) in
      record {
        see = AllSee-append own rest m
            (own_see h ts a front t back cut m stands [] h.events refl a.checked.well_formed.was_written a.checked.well_formed.own_writes a.checked.well_formed.rising)
            later.see;
        stand = λ k. subst (λ s. HoldsVersion h ts k (length ts) (s k)) (sym (run_append own rest m)) (later.stand k);
      }

  pub holds_last : (k : List ℕ) (v : Option (List ℕ)) → HoldsVersion h ts k (length ts) v
      → v ≡ value_at h k (length (writers h k))
  holds_last k v s =
      elim (cases_lt s.upto (length (writers h k))) [
        | inl less ↦
            let next = installer_there h k s.upto less in
            let installed = installer_installs h ts a k (suc s.upto) next.0 next.1 in
            let once = a.committed_once next.0 in
            let one = cond-true {A = ℕ} (is_committed h.events next.0) 1 0 (and_parts _ _ installed).0 in
            let early = place_in ts next.0 (let stood : 0 < count ts next.0 = omega (arith, once, one) in stood) in
            absurd (let more = s.only (suc s.upto) next.0 next.1 early in omega (arith, more))
        | inr more ↦
            let within = s.within in
            let same : s.upto ≡ length (writers h k) = omega (arith, within, more) in
            s.value ∙ ap (value_at h k) same
      ]

  pub agrees : keys_rise (map (λ f. f.key) h.finals) ≡ true → Agrees h ts
  agrees rise =
      let whole = runs [] ts refl empty (λ k. holds-start h ts k) in
      record {
        sees = whole.see;
        finals = λ k v.
            subst (λ o. (o ≡ Some v) ↔ Contains h.finals (pair k v))
            (sym (holds_last k _ (whole.stand k) ∙ sym (a.checked.well_formed.finals k)))
            (finals_are h.finals rise k v);
      }
