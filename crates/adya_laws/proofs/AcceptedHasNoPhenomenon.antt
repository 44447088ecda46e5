-- Along a path of forward edges the place in the certificate rises, so no path is a cycle.
use Rattle.std.proofs.Common.{◌≡◌, ℕ, ◌≤◌, List, [], ◌∷◌, ap, arith, inl, inr}
use Rattle.std.specs.List.{AllByRecursion}
use Rattle.adya_values.specs.Meaning.Histories.{History}
use Rattle.adya_values.specs.Meaning.Orders.{place}
use Rattle.adya_values.specs.Meaning.Edges.{Edge, IsEdge, IsPath, IsCycle}
use Rattle.adya_values.specs.Meaning.Phenomena.{HasG1, HasG2}
use Rattle.adya_values.specs.Clauses.Acceptance.{IsBefore, IsAccepted}

module _ (h : History) (ts : List ℕ) (forward : (e : Edge) → IsEdge h e → IsBefore ts e.from e.to) where
  pub path_rises : (es : List Edge) (a b : ℕ) → AllByRecursion (IsEdge h) es → IsPath a es b → place ts a ≤ place ts b
  path_rises [] a b edges path = let same : place ts a ≡ place ts b = ap (place ts) path in omega (arith, same)
  path_rises (e ∷ es) a b edges path =
      let step = forward e edges.0 in
      let rest = path_rises es e.to b edges.1 path.1 in
      let same = ap (place ts) path.0 in
      omega (arith, step, rest, same)

  pub no_cycle : (es : List Edge) → IsCycle h es → ⊥
  no_cycle [] c = c
  no_cycle (e ∷ es) c =
      let step = forward e c.0.0 in
      let rest = path_rises es e.to e.from c.0.1 c.1.1 in
      omega (arith, step, rest)

module _ (h : History) (ts : List ℕ) (a : IsAccepted h ts) where
  pub no_g1 : HasG1 h → ⊥
  no_g1 (inl g) = a.checked.no_aborted_read g
  no_g1 (inr (inl g)) = a.checked.no_intermediate_read g
  no_g1 (inr (inr g)) = no_cycle h ts a.forward g.0 g.1

  pub no_g2 : HasG2 h → ⊥
  no_g2 g = no_cycle h ts a.forward g.0 g.1
