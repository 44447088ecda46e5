-- The turns of a cycle: the edges that they join, and one whose end has the least number.
use Rattle.std.proofs.Common.{◌≡◌, ℕ, ◌≤◌, List, [], ◌∷◌, refl, sym, ◌∙◌, ap, subst, arith, inl, inr}
use Rattle.std.specs.List.{AllByRecursion, Contains}
use Rattle.std.proofs.lemmas.Bool.{cases_lt}
use Rattle.lemmas.proofs.Members.{none_contained, Contains-head, Contains-cons, Contains-cases}
use Rattle.adya_values.specs.Meaning.Histories.{History}
use Rattle.adya_values.specs.Meaning.Edges.{Edge, IsEdge, IsPath}
use Rattle.snapshot_histories.specs.Clauses.Cycles.{Turn, turns, turns_to}

-- the two edges of a turn
pub record IsTurn (h : History) (t : Turn) : Type 0 where
  pub into_edge : IsEdge h t.into
  pub out_edge : IsEdge h t.out
  pub meet : t.into.to ≡ t.out.from

pub turn_is : (h : History) (first : Edge) (a : ℕ) (es : List Edge) → AllByRecursion (IsEdge h) es
    → IsPath a es first.from → IsEdge h first → (t : Turn) → Contains (turns_to first es) t → IsTurn h t
turn_is h first a [] edges path one t c = absurd (none_contained t c)
turn_is h first a (e ∷ []) edges path one t c =
    elim (Contains-cases _ [] t c) [
      | inl f ↦ subst (IsTurn h) f (record { into_edge = edges.0; out_edge = one; meet = path.1 })
      | inr none ↦ absurd (none_contained t none)
    ]
turn_is h first a (e ∷ g ∷ es) edges path one t c =
    elim (Contains-cases _ (turns_to first (g ∷ es)) t c) [
      | inl f ↦ subst (IsTurn h) f (record { into_edge = edges.0; out_edge = edges.1.0; meet = sym path.1.0 })
      | inr rest ↦ turn_is h first e.to (g ∷ es) edges.1 path.1 one t rest
    ]

-- the edge into a turn is one of the cycle
pub turn_there : (first : Edge) (es : List Edge) (t : Turn) → Contains (turns_to first es) t → Contains es t.into
turn_there first [] t c = absurd (none_contained t c)
turn_there first (e ∷ []) t c =
    elim (Contains-cases _ [] t c) [
      | inl f ↦ (0, omega arith, ap (λ x. x.into) f)
      | inr none ↦ absurd (none_contained t none)
    ]
turn_there first (e ∷ g ∷ es) t c =
    elim (Contains-cases _ (turns_to first (g ∷ es)) t c) [
      | inl f ↦ (0, omega arith, ap (λ x. x.into) f)
      | inr rest ↦ Contains-cons e (g ∷ es) t.into (turn_there first (g ∷ es) t rest)
    ]

-- a turn out of which the edge goes
abbrev TurnTo : List Turn → Edge → Type 0
TurnTo ts f = (t : Turn) × Contains ts t × (t.out ≡ f)

turn_to_first : (first e : Edge) (es : List Edge) → TurnTo (turns_to first (e ∷ es)) first
turn_to_first first e [] = (record { into = e; out = first }, (0, omega arith, refl), refl)
turn_to_first first e (g ∷ es) =
    let rest = turn_to_first first g es in
    (rest.0, Contains-cons _ _ rest.0 rest.1, rest.2)

turn_to : (first e : Edge) (es : List Edge) (f : Edge) → Contains es f → TurnTo (turns_to first (e ∷ es)) f
turn_to first e [] f c = absurd (none_contained f c)
turn_to first e (g ∷ es) f c =
    elim (Contains-cases g es f c) [
      | inl same ↦ (record { into = e; out = g }, Contains-head _ _, same)
      | inr later ↦
          let rest = turn_to first g es f later in
          (rest.0, Contains-cons _ _ rest.0 rest.1, rest.2)
    ]

-- every edge of a cycle goes out of a turn
pub turn_out_of : (e : Edge) (es : List Edge) (f : Edge) → Contains (e ∷ es) f → TurnTo (turns (e ∷ es)) f
turn_out_of e es f c =
    elim (Contains-cases e es f c) [
      | inl same ↦ let r = turn_to_first e e es in (r.0, r.1, r.2 ∙ same)
      | inr later ↦ turn_to e e es f later
    ]

-- a cycle has a turn
pub turns_made : (e : Edge) (es : List Edge) → (t : Turn) × (ts : List Turn) × (turns (e ∷ es) ≡ t ∷ ts)
turns_made e [] = (_, _, refl)
turns_made e (f ∷ es) = (_, _, refl)

module _ (rank : Turn → ℕ) where
  abbrev IsLeast : List Turn → Turn → Type 0
  IsLeast ts b = (u : Turn) → Contains ts u → rank b ≤ rank u

  least-cons : (t : Turn) (ts : List Turn) (b : Turn) → rank b ≤ rank t → IsLeast ts b → IsLeast (t ∷ ts) b
  least-cons t ts b le rest u c =
      elim (Contains-cases t ts u c) [
        | inl f ↦ let same = ap rank f in omega (arith, le, same)
        | inr later ↦ rest u later
      ]

  -- a turn with the least number
  pub least : (t : Turn) (ts : List Turn) → (b : Turn) × Contains (t ∷ ts) b × IsLeast (t ∷ ts) b
  least t [] = (t, Contains-head t [], least-cons t [] t (omega arith) (λ u c. absurd (none_contained u c)))
  least t (s ∷ ts) =
      let r = least s ts in
      elim (cases_lt (rank t) (rank r.0)) [
        | inl less ↦ (
          t,
          Contains-head t (s ∷ ts),
          least-cons t (s ∷ ts) t (omega arith) (λ u c.
              let le = r.2 u c in omega (arith, le, less)),
        )
        | inr more ↦ (r.0, Contains-cons t (s ∷ ts) r.0 r.1, least-cons t (s ∷ ts) r.0 more r.2)
      ]
