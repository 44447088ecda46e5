-- A graph whose arcs are in another order.
use Rattle.std.proofs.Common.{ℕ, List, Contains, ◌↔◌}
use Rattle.digraph.specs.Clauses.Graphs.{IsGraph, IsOrderOrCycle}
use Rattle.digraph.specs.Machinery.Placings.{IsPlacing}
use Rattle.digraph.specs.declared.arc.Arc.{Arc}
use Rattle.digraph.specs.declared.order.Outcome.{Outcome}
use Rattle.digraph.specs.declared.order.Outcome.TheVariants.{Order, Cycle}
use Rattle.digraph.specs.declared.placing.Placing.{Placing}
use Rattle.digraph.proofs.Cycles.{cycle_known}

module _ (nodes : List ℕ) (given moved : List Arc) (same : (a : Arc) → Contains given a ↔ Contains moved a) where
  order_or_cycle : (found : Outcome) → IsOrderOrCycle nodes moved found → IsOrderOrCycle nodes given found
  order_or_cycle (Order ts) o = record { nodes_once = o.nodes_once; forward = λ a here. o.forward a ((same a).0 here) }
  order_or_cycle (Cycle path) o = cycle_known moved given path.items (λ a here. (same a).1 here) o

  placing : (begun : Placing) → IsPlacing nodes given begun → IsPlacing nodes moved begun
  placing begun p = record { once = p.once; forward = λ a here gone. p.forward a ((same a).1 here) gone }

  -- what is found of the arcs in one order is found of them in another
  pub found_in_moved : (begun : Placing) → IsGraph nodes given → IsPlacing nodes given begun → (found : Outcome)
      → ((ns : List ℕ) → IsGraph ns moved → IsPlacing ns moved begun → IsOrderOrCycle ns moved found)
      → IsOrderOrCycle nodes given found
  found_in_moved begun graph p found finds =
      order_or_cycle found (finds nodes (λ a here. graph a ((same a).1 here)) (placing begun p))
