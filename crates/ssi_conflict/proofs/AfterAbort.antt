-- Rows may be dropped, unless they are of kept transactions.
use Rattle.std.proofs.Common.{◌≡◌, ◌≢◌, ℕ, ◌==◌, Bool, true, false, true≢false, not, ◌&&◌, ◌||◌, List, ◌∷◌, Option, Some, None, is_some, refl, sym, ◌∙◌, ap, subst, inl, inr}
use Rattle.std.proofs.lemmas.Bool.{eq-eqb, ne_eqb, cases_eq, or_parts, both_ways}
use Rattle.ssi_reads.specs.Clauses.Marks.{without}
use Rattle.ssi_conflict.specs.Meaning.Calls.{Call, Aborts, is_committed, is_aborted, is_open, meets}
use Rattle.ssi_conflict.specs.Clauses.Allowed.{AreAllowed}
use Rattle.ssi_conflict.specs.Clauses.Pairs.{IsPair}
use Rattle.ssi_conflict.specs.Meaning.Kept.{is_kept}
use Rattle.ssi_conflict.specs.Machinery.Rows.{Row, StandsFor}
use Rattle.ssi_conflict.proofs.AllowedCalls.{open_parts, open_from, kept_parts, kept_open, kept_after}
use Rattle.ssi_conflict.proofs.PairsByCall.{pair_before_abort, pair_after_abort}
use Rattle.ssi_conflict.proofs.LeastStamps.{least_carried}

-- a row goes, with its marks
pub dropped : (row row' : ℕ → Option Row) (marked marked' : ℕ → List ℕ → Bool) (calls : List Call) (t : ℕ)
    → is_kept t calls ≡ false
    → row' t ≡ None → ((x : ℕ) → x ≢ t → row' x ≡ row x) → ((x : ℕ) (k : List ℕ) → marked' x k ≡ without t marked x k)
    → StandsFor row marked calls → StandsFor row' marked' calls
dropped row row' marked marked' calls t unkept gone others marks stands = record {
  allowed = stands.allowed;
  no_pivot = stands.no_pivot;
  tells = λ x v e. elim (cases_eq x t) [
    | inl f ↦ absurd (true≢false (sym (ap is_some (sym gone ∙ subst (λ y. row' y ≡ Some v) f e))))
    | inr ne ↦ stands.tells x v (sym (others x ne) ∙ e)
  ];
  keeps = λ x h. elim (cases_eq x t) [
    | inl f ↦ absurd (both_ways _ unkept (subst (λ y. is_kept y calls ≡ true) f h))
    | inr ne ↦ ap is_some (others x ne) ∙ stands.keeps x h
  ];
  marks = λ x k. marks x k ∙ elim (cases_eq x t) [
    | inl f ↦ ap (λ b. not b && marked x k) (eq-eqb x t f) ∙ sym
        (ap (λ o. is_some o && meets x k calls) (ap row' f ∙ gone))
    | inr ne ↦ ap (λ b. not b && marked x k) (ne_eqb x t ne) ∙
        (stands.marks x k ∙ ap (λ o. is_some o && meets x k calls) (sym (others x ne)))
  ];
}

module _ (t : ℕ) (calls : List Call) (ok : AreAllowed (Aborts t ∷ calls)) where
  aborted_now : (x : ℕ) → t ≢ x → is_aborted x (Aborts t ∷ calls) ≡ is_aborted x calls
  aborted_now x ne = ap (λ b. b || is_aborted x calls) (ne_eqb t x ne)

  open_before_abort : (x : ℕ) → is_open x (Aborts t ∷ calls) ≡ true → (is_open x calls ≡ true) × (t ≢ x)
  open_before_abort x h =
      let o = open_parts x (Aborts t ∷ calls) h in (
        open_from x calls (record {
          is_begun = o.is_begun;
          uncommitted = o.uncommitted;
          unaborted =
              (or_parts (t == x) (is_aborted x calls) o.unaborted).1;
        }),
        λ e. both_ways _ (or_parts (t == x) (is_aborted x calls) o.unaborted).0 (eq-eqb t x e),
      )

  pub kept_before_abort : (x : ℕ) → is_kept x (Aborts t ∷ calls) ≡ true → (is_kept x calls ≡ true) × (t ≢ x)
  kept_before_abort x h =
      elim (kept_parts x (Aborts t ∷ calls) h) [
        | inl o ↦ (let b = open_before_abort x o in (kept_open x calls b.0, b.1))
        | inr w ↦ (
          kept_after x calls (record {
            committed = w.committed;
            other = w.other;
            other_open =
                (open_before_abort w.other w.other_open).0;
            later = w.later;
          }),
          λ e. both_ways _ (open_parts t calls ok.0).uncommitted
              (subst (λ y. is_committed y calls ≡ true) (sym e) w.committed),
        )
      ]

  pub stands_after_abort : (row row' : ℕ → Option Row) (marked marked' : ℕ → List ℕ → Bool) → row' t ≡ None
      → ((x : ℕ) → x ≢ t → row' x ≡ row x)
      → ((x : ℕ) (k : List ℕ) → marked' x k ≡ without t marked x k) → StandsFor row marked calls → StandsFor row'
      marked' (Aborts t ∷ calls)
  stands_after_abort row row' marked marked' gone others marks stands = record {
    allowed = ok;
    no_pivot = λ q p. stands.no_pivot q (record {
      middle = p.middle;
      committed = p.committed;
      from = p.from;
      into = pair_before_abort t calls p.from q p.into;
      to = p.to;
      out = pair_before_abort t calls q p.to p.out;
      last = p.last;
      to_committed = p.to_committed;
      before_middle = p.before_middle;
      not_after_first = p.not_after_first;
    });
    tells = λ x v e. elim (cases_eq x t) [
      | inl f ↦ absurd (true≢false (sym (ap is_some (sym gone ∙ subst (λ y. row' y ≡ Some v) f e))))
      | inr ne ↦
          let w = stands.tells x v (sym (others x ne) ∙ e) in
          record {
            is_begun = w.is_begun;
            stamped = w.stamped;
            unaborted = aborted_now x (λ f. ne (sym f)) ∙ w.unaborted;
            wrote = w.wrote;
            leads_to = least_carried (λ y. IsPair x y calls) (λ y. IsPair x y (Aborts t ∷ calls)) calls
                (Aborts t ∷ calls) v.first_out
                (λ y p. pair_after_abort t calls x y p) (λ y p. pair_before_abort t calls x y p) (λ y p. refl)
                w.leads_to;
          }
    ];
    keeps = λ x h. let b = kept_before_abort x h in ap is_some (others x (λ f. b.1 (sym f))) ∙ stands.keeps x b.0;
    marks = λ x k. marks x k ∙ elim (cases_eq x t) [
      | inl f ↦ ap (λ b. not b && marked x k) (eq-eqb x t f) ∙ sym
          (ap (λ o. is_some o && meets x k calls) (ap row' f ∙ gone))
      | inr ne ↦ ap (λ b. not b && marked x k) (ne_eqb x t ne) ∙
          (stands.marks x k ∙ ap (λ o. is_some o && meets x k calls) (sym (others x ne)))
    ];
  }
