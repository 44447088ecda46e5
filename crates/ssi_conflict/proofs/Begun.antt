-- The transactions that have begun, in a list that rises.
use Rattle.std.specs.List.{Contains}
use Rattle.std.proofs.Common.{List, [], inl, inr, refl, subst, true, ℕ, ◌==◌, ◌∷◌, ◌≡◌}
use Rattle.std.proofs.lemmas.Bool.{both_ways, cases_Bool, eq-eqb, eqb-true}
use Rattle.std.proofs.lemmas.List.Elements.{Contains-append_cases, Contains-append_left, Contains-append_right}
use Rattle.lemmas.proofs.Members.{Contains-head, none_contained}
use Rattle.adya_values.proofs.RisingNumbers.{only_one, numbers_rise-more}
use Rattle.adya_values.specs.Computing.Shapes.{numbers_rise}
use Rattle.ssi_conflict.specs.Meaning.Calls.{Aborts, Begins, Call, Commits, Reads, begun, has_begun}
use Rattle.ssi_conflict.specs.Clauses.Allowed.{AreAllowed}

pub begun_there : (t : ℕ) (calls : List Call) → has_begun t calls ≡ true → Contains (begun calls) t
begun_there t [] e = absurd (cc (e))
begun_there t (Reads u low high ∷ calls) e = begun_there t calls e
begun_there t (Commits u n ks ∷ calls) e = begun_there t calls e
begun_there t (Aborts u ∷ calls) e = begun_there t calls e
begun_there t (Begins u s ∷ calls) e =
    elim (cases_Bool (u == t)) [
      | inl same ↦ Contains-append_right (begun calls) (u ∷ []) t
          (subst (Contains (u ∷ [])) (eqb-true u t same) (Contains-head u []))
      | inr other ↦ Contains-append_left (begun calls) (u ∷ []) t (begun_there t calls (rw other at e))
    ]

pub there_begun : (t : ℕ) (calls : List Call) → Contains (begun calls) t → has_begun t calls ≡ true
there_begun t [] c = absurd (none_contained t c)
there_begun t (Reads u low high ∷ calls) c = there_begun t calls c
there_begun t (Commits u n ks ∷ calls) c = there_begun t calls c
there_begun t (Aborts u ∷ calls) c = there_begun t calls c
there_begun t (Begins u s ∷ calls) c =
    elim (cases_Bool (u == t)) [
      | inl same ↦ rw same refl
      | inr other ↦ rw other (elim (Contains-append_cases (begun calls) (u ∷ []) t c) [
        | inl old ↦ there_begun t calls old
        | inr new ↦ absurd (both_ways _ other (eq-eqb u t (only_one u t new)))
      ])
    ]

pub begun_rise : (calls : List Call) → AreAllowed calls → numbers_rise (begun calls) ≡ true
begun_rise [] a = refl
begun_rise (Reads u low high ∷ calls) a = begun_rise calls a.1
begun_rise (Commits u n ks ∷ calls) a = begun_rise calls a.1
begun_rise (Aborts u ∷ calls) a = begun_rise calls a.1
begun_rise (Begins u s ∷ calls) a = numbers_rise-more (begun calls) u (begun_rise calls a.1)
    (λ x c. a.0.above x (there_begun x calls c))
