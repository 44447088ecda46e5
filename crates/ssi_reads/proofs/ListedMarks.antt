-- Marks in a list, without those of one transaction.
use Rattle.std.proofs.Common.{◌≡◌, ℕ, ◌==◌, Bool, true, false, cond, not, ◌&&◌, ◌||◌, List, [], ◌∷◌, filter, refl, sym, ◌∙◌, ap, inl, inr}
use Rattle.std.proofs.lemmas.Bool.{cases_eq, eq-eqb, ne_eqb}
use Rattle.adya_keys.specs.Meaning.Keys.{lies_in}
use Rattle.ssi_reads.specs.declared.span.Mark.{Mark}
use Rattle.ssi_reads.specs.Clauses.Marks.{without}
use Rattle.ssi_reads.specs.Machinery.Listed.{is_over, is_of_other, list_marked}

-- a mark that stays or goes, if its own part of the result is the same
step : (stays wanted rest : Bool) (ms : List Mark) (m : Mark) (u : ℕ) (k : List ℕ)
    → (stays ≡ false → (wanted && is_over u k m) ≡ false) → (stays ≡ true → (wanted && is_over u k m) ≡ is_over u k m)
    → list_marked ms u k ≡ (wanted && rest)
    → list_marked (cond stays (m ∷ ms) ms) u k ≡ (wanted && (is_over u k m || rest))
step true true rest ms m u k gone same e = ap (λ b. is_over u k m || b) e
step true false rest ms m u k gone same e =
    ap (λ b. is_over u k m || b) e ∙ (ap (λ b. b || false) (sym (same refl)))
step false false rest ms m u k gone same e = e
step false true rest ms m u k gone same e = e ∙ ap (λ b. b || rest) (sym (gone refl))

-- a mark that goes is of t, so it isn't one of the others
goes : (t u : ℕ) (k : List ℕ) (m : Mark) → is_of_other t m ≡ false → (not (u == t) && is_over u k m) ≡ false
goes t u k m e =
    elim (cases_eq m.txn t) [
      | inl of ↦
          elim (cases_eq u t) [
            | inl same ↦ ap (λ b. not b && is_over u k m) (eq-eqb u t same)
            | inr apart ↦
                ap (λ b. not b && is_over u k m) (ne_eqb u t apart) ∙
                ap (λ b. b && lies_in m.span.low m.span.high k) (ne_eqb u m.txn (λ x. apart (x ∙ of)))
          ]
      | inr other ↦ absurd (let h : true ≡ false = sym (ap not (ne_eqb m.txn t other)) ∙ e in cc)
    ]

stays : (t u : ℕ) (k : List ℕ) (m : Mark) → is_of_other t m ≡ true → (not (u == t) && is_over u k m) ≡ is_over u k m
stays t u k m e =
    elim (cases_eq u t) [
      | inl same ↦
          elim (cases_eq m.txn t) [
            | inl of ↦ absurd (let h : false ≡ true = sym (ap not (eq-eqb m.txn t of)) ∙ e in cc)
            | inr other ↦
                ap (λ b. not b && is_over u k m) (eq-eqb u t same) ∙
                sym (ap (λ b. b && lies_in m.span.low m.span.high k) (ne_eqb u m.txn (λ x. other (sym x ∙ same))))
          ]
      | inr apart ↦ ap (λ b. not b && is_over u k m) (ne_eqb u t apart)
    ]

pub filtered_marked : (t u : ℕ) (k : List ℕ) (ms : List Mark)
    → list_marked (filter (is_of_other t) ms) u k ≡ without t (list_marked ms) u k
filtered_marked t u k [] = elim (u == t) as (λ b. false ≡ (not b && false)) [ true ↦ refl | false ↦ refl ]
filtered_marked t u k (m ∷ ms) =
    step (is_of_other t m) (not (u == t)) (list_marked ms u k) (filter (is_of_other t) ms) m u k (goes t u k m)
    (stays t u k m) (filtered_marked t u k ms)
