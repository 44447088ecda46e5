-- From an order or a cycle of arcs to a certificate or a cycle of the history.
use Rattle.std.proofs.Common.{◌≡◌, ◌≢◌, ◌⊎◌, ◌==◌, ◌≤◌, ℕ, suc, true, cond, count_by, List, [], ◌∷◌, map, Contains, Any, refl, sym, ◌∙◌, ap, subst, inl, inr, arith, Some, Result, Ok, Err, IfOk}
use Rattle.std.specs.declared.alloc.AllocError.{AllocError}
use Rattle.std.specs.List.{list_any, AllByRecursion}
use Rattle.std.proofs.lemmas.List.Elements.{All-from_recursion, All-contains}
use Rattle.std.proofs.lemmas.List.Sums.{sum_by-cons}
use Rattle.adya_values.specs.Meaning.Histories.{History}
use Rattle.adya_values.specs.Meaning.Events.{is_committed}
use Rattle.adya_values.specs.Computing.EdgeList.{edge_list}
use Rattle.adya_values.specs.Meaning.Edges.{Kind, Ww, Wr, Rw, Edge, IsEdge, IsPath, IsCycle}
use Rattle.adya_values.specs.Meaning.Phenomena.{HasG1c, HasG2}
use Rattle.adya_values.specs.Clauses.Acceptance.{IsBefore, IsChecked, IsAccepted}
use Rattle.adya_laws.specs.Laws.{EdgeListIsExact, AcceptedHasNoPhenomenon}
use Rattle.digraph.specs.declared.arc.Arc.{Arc}
use Rattle.adya_dsg.specs.Machinery.Arcs.{ends, AreEnds, Decide}
use Rattle.digraph.specs.Clauses.Graphs.{IsGraph, IsTopologicalOrder, IsPath as IsArcPath, IsCycle as IsArcCycle, IsSimple as IsArcSimple}
use Rattle.digraph.specs.Laws.{CycleExcludesOrder, OrderOrCycleExists}
use Rattle.lemmas.proofs.Members.{Contains-map, map-source, recursion-from_contained}
use Rattle.adya_dsg.specs.Machinery.Nodes.{committed}
use Rattle.adya_dsg.specs.Machinery.Along.{first_along}
use Rattle.adya_dsg.specs.declared.found.Found.{Found}
use Rattle.adya_dsg.specs.declared.found.Found.TheVariants.{Serial, Cycle}
use Rattle.adya_dsg.specs.Mirror.{edge_of}
use Rattle.adya_dsg.specs.Clauses.Found.{IsFound, IsSimple, NoneBesideCycle}
use Rattle.adya_dsg.specs.Laws.{CycleExcludesCertificates, EdgesJoinCommitted, CertifiedIffNoPhenomenon}
use Rattle.adya_dsg.proofs.FirstAlong.{ends_equal, first_edges_along}
use Rattle.adya_dsg.proofs.CommittedNodes.{committed_are_nodes}

-- the arcs of all edges are their ends, and decide
pub all_are_ends : (es : List Edge) → AreEnds es (map ends es)
all_are_ends es a there =
    let at = map-source ends es a there in
    record { edge = at.0; stands = at.1; from = ap (λ x. x.from) at.2; to = ap (λ x. x.to) at.2 }

pub all_decide : (es : List Edge) → Decide es (map ends es)
all_decide es ts forward e there = forward (ends e) (Contains-map ends es e there)

module _ (h : History) (checked : IsChecked h) (exact : EdgeListIsExact) (nodes : List ℕ)
    (are_nodes : nodes ≡ committed h.events) (arcs : List Arc) where
  node_commits : (t : ℕ) → list_any (λ u. u == t) nodes ≡ is_committed h.events t
  node_commits t = ap (list_any (λ u. u == t)) are_nodes ∙ committed_are_nodes h.events t

  pub accepted_if_sorted : Decide (edge_list h) arcs → (ts : List ℕ) → IsTopologicalOrder nodes arcs ts
      → IsAccepted h ts
  accepted_if_sorted decide ts o = record {
    checked = checked;
    committed_once = λ t. o.nodes_once t ∙ ap (λ b. cond {A = ℕ} b 1 0) (node_commits t);
    forward = λ e edge. decide ts o.forward e ((exact h e).0 edge);
  }

  pub ends_are_nodes : EdgesJoinCommitted → AreEnds (edge_list h) arcs → IsGraph nodes arcs
  ends_are_nodes join are a there =
      let e = are a there in
      let both = join h checked e.edge ((exact h e.edge).1 e.stands) in
      let node : (t u : ℕ) → t ≡ u → is_committed h.events t ≡ true → list_any (λ x. x == u) nodes ≡ true =
      λ t u same c. node_commits u ∙ subst (λ x. is_committed h.events x ≡ true) same c in
      (node e.edge.from a.from e.from both.0, node e.edge.to a.to e.to both.1)

path_of : (es : List Edge) (s t : ℕ) → IsArcPath s (map ends es) t → IsPath s es t
path_of [] s t w = w
path_of (e ∷ es) s t w = (w.0, path_of es e.to t w.1)

-- edges of the history, each with the ends of the arc of a cycle
cycle_of_edges : (h : History) (arcs way : List Arc) (es : List Edge) → IsArcCycle arcs way → map ends es ≡ way
    → AllByRecursion (IsEdge h) es → IsCycle h es
cycle_of_edges h arcs way [] c e edges = subst (IsArcCycle arcs) (sym e) c
cycle_of_edges h arcs way (x ∷ es) c e edges =
    (edges, path_of (x ∷ es) x.from x.from (subst (IsArcCycle arcs) (sym e) c).1)

-- edges of the list, each with the ends of the arc in its place
record Along (es : List Edge) (way : List Arc) : Type 0 where
  pub edges : List Edge
  pub joins : map ends edges ≡ way
  pub known : AllByRecursion (Contains es) edges

along : (es : List Edge) (arcs way : List Arc) → AreEnds es arcs → AllByRecursion (Contains arcs) way → Along es way
along es arcs [] are known = record { edges = []; joins = refl; known = tt }
along es arcs (a ∷ way) are known =
    let e = are a known.0 in
    let rest = along es arcs way are known.1 in
    record {
      edges = e.edge ∷ rest.edges;
      joins = ap (λ x. x ∷ map ends rest.edges) (ends_equal e.edge a e.from e.to) ∙ ap (λ xs. a ∷ xs) rest.joins;
      known = (e.stands, rest.known);
    }

all_edges : (h : History) → EdgeListIsExact → (es : List Edge) → AllByRecursion (Contains (edge_list h)) es
    → AllByRecursion (IsEdge h) es
all_edges h exact [] known = tt
all_edges h exact (e ∷ es) known = ((exact h e).1 known.0, all_edges h exact es known.1)

cycle_known : (arcs way : List Arc) → IsArcCycle arcs way → AllByRecursion (Contains arcs) way
cycle_known arcs [] c = tt
cycle_known arcs (a ∷ way) c = c.0

-- each arc of the cycle has the ends of an edge
pub cycle_has_edges : (es : List Edge) (arcs way : List Arc) → AreEnds es arcs → IsArcCycle arcs way → AreEnds es way
cycle_has_edges es arcs way are c a there =
    are a (All-contains (Contains arcs) way a (All-from_recursion (Contains arcs) way (cycle_known arcs way c)) there)

-- the first edges along the arcs of a cycle are a cycle
pub first_edges_are_cycle : (h : History) → EdgeListIsExact → (found : List Edge) (arcs way : List Arc)
    → IsArcCycle arcs way → map Some found ≡ map (first_along (edge_list h)) way → IsCycle h found
first_edges_are_cycle h exact found arcs way c f =
    let r = first_edges_along (edge_list h) found way f in
    cycle_of_edges h arcs way found c r.0 (all_edges h exact found r.1)

-- each transaction begins as many of the edges as its node begins arcs
begun_alike : (es : List Edge) (t : ℕ)
    → count_by (λ (a : Arc). a.from == t) (map ends es) ≡ count_by (λ (e : Edge). e.from == t) es
begun_alike [] t = refl
begun_alike (e ∷ es) t =
    let arc' = sum_by-cons (λ (a : Arc). cond {A = ℕ} (a.from == t) 1 0) (ends e) (map ends es) in
    let edge = sum_by-cons (λ (x : Edge). cond {A = ℕ} (x.from == t) 1 0) e es in
    let rest = begun_alike es t in
    omega (arith, arc', edge, rest)

-- the first edges along the arcs of a simple cycle are a simple cycle
pub first_edges_are_simple : (es found : List Edge) (way : List Arc) → IsArcSimple way
    → map Some found ≡ map (first_along es) way → IsSimple found
first_edges_are_simple es found way simple f t =
    let same = ap (count_by (λ (a : Arc). a.from == t)) (first_edges_along es found way f).0 in
    let alike = begun_alike found t in
    let one = simple t in
    omega (arith, same, alike, one)

is_rw : (k : Kind) → (k ≡ Rw) ⊎ (k ≢ Rw)
is_rw Ww = inr (λ e. absurd (cc (e)))
is_rw Wr = inr (λ e. absurd (cc (e)))
is_rw Rw = inl refl

-- a list of write and read dependencies alone, or with an anti-dependency
kinds : (es : List Edge) → AllByRecursion (λ e. e.kind ≢ Rw) es ⊎ Any (λ e. e.kind ≡ Rw) es
kinds [] = inl tt
kinds (e ∷ es) =
    elim (is_rw e.kind) [
      | inl rw' ↦ inr (0, e, omega arith, refl, rw')
      | inr other ↦
          elim (kinds es) [
            | inl rest ↦ inl (other, rest)
            | inr (k, x, l, at, rw') ↦ inr (suc k, x, omega (arith, l), at, rw')
          ]
    ]

cycle_kinds : (h : History) (es : List Edge) → IsCycle h es → HasG1c h ⊎ HasG2 h
cycle_kinds h es c =
    elim (kinds es) [
      | inl none ↦ inl (es, c, none)
      | inr some ↦ inr (es, c, some)
    ]

-- if there is no phenomenon, the order of the graph is a certificate
pub certified : AcceptedHasNoPhenomenon → EdgeListIsExact → EdgesJoinCommitted → OrderOrCycleExists
    → CertifiedIffNoPhenomenon
certified none exact join exists h well_formed = (
  λ c. none h c.0 c.1,
  λ clean.
      let checked : IsChecked h =
      record {
        well_formed = well_formed;
        no_aborted_read = λ g. clean.0 (inl g);
        no_intermediate_read = λ g. clean.0 (inr (inl g));
      } in
      let es = edge_list h in
      let arcs = map ends es in
      let nodes = committed h.events in
      elim (exists nodes arcs (ends_are_nodes h checked exact nodes refl arcs join (all_are_ends es))) [
        | inl s ↦ (s.0, accepted_if_sorted h checked exact nodes refl arcs (all_decide es) s.0 s.1)
        | inr c ↦
            let es' = along es arcs c.0 (all_are_ends es) (cycle_known arcs c.0 c.1) in
            let cycle =
            cycle_of_edges h arcs c.0 es'.edges c.1 es'.joins (all_edges h exact es'.edges es'.known) in
            elim (cycle_kinds h es'.edges cycle) [
              | inl g ↦ absurd (clean.0 (inr (inr g)))
              | inr g ↦ absurd (clean.1 g)
            ]
      ],
)

arc_path : (es : List Edge) (s t : ℕ) → IsPath s es t → IsArcPath s (map ends es) t
arc_path [] s t p = p
arc_path (e ∷ es) s t p = (p.0, arc_path es e.to t p.1)

-- along a cycle of edges the arcs are a cycle, so not all of them go forward
pub no_cycle : CycleExcludesOrder → CycleExcludesCertificates
no_cycle law h [] c ts forward = c
no_cycle law h (e ∷ es) c ts forward =
    let all = e ∷ es in
    let arcs = map ends all in
    law arcs arcs (recursion-from_contained (Contains arcs) arcs (λ a there. there), arc_path all e.from e.from c.1) ts
    (λ a there.
    let x = map-source ends all a there in
    let edge = All-contains (IsEdge h) all x.0 (All-from_recursion (IsEdge h) all c.0) x.1 in
    subst (λ (b : Arc). IsBefore ts b.from b.to) x.2 (forward x.0 edge))

none_beside : CycleExcludesCertificates → (h : History) (f : Found) → IsFound h f → NoneBesideCycle h f
none_beside law h (Serial s) a = tt
none_beside law h (Cycle es) c = λ w. law h (map edge_of es.items) c w.0 w.1.forward

pub none_beside_result : CycleExcludesCertificates → (h : History) (r : Result Found AllocError)
    → IfOk r (IsFound h) → IfOk r (NoneBesideCycle h)
none_beside_result law h (Ok f) found = none_beside law h f found
none_beside_result law h (Err e) found = tt
