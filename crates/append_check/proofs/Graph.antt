-- The graph of all precedences, its orders and its cycles.
use Rattle.std.proofs.Common.{◌≡◌, ℕ, suc, ◌+◌, ◌<◌, ◌==◌, Bool, true, false, cond, List, [], ◌∷◌, ◌++◌, Contains, length, length-append, map, refl, sym, ◌∙◌, ap, subst, arith, inl, inr}
use Rattle.std.specs.List.{list_any, AllByRecursion}
use Rattle.std.proofs.lemmas.Bool.{cases_eq, cases_lt, cases_Bool, eq-eqb, ne_eqb, cond-true, cond-false}
use Rattle.std.proofs.lemmas.Bool.Decides.{Decides-eqb}
use Rattle.std.proofs.lemmas.List.{map-append}
use Rattle.lemmas.proofs.Members.{none_contained, Contains-cases, Contains-map, map-source}
use Rattle.lemmas.proofs.Tests.{list_any-source, list_any_when}
use Rattle.lemmas.proofs.Counts.{count, count_same, count_other}
use Rattle.append_values.specs.declared.transaction.Outcome.{Outcome}
use Rattle.append_values.specs.declared.transaction.Outcome.TheVariants.{Committed, Aborted, Unknown}
use Rattle.append_values.specs.declared.reason.Read.{Read}
use Rattle.append_values.specs.declared.reason.Link.{Link}
use Rattle.append_values.specs.declared.reason.Kind.{Kind}
use Rattle.append_values.specs.declared.reason.Kind.TheVariants as By
use Rattle.append_values.specs.Meaning.Histories.{Read as ReadOf, History, outcome, operations}
use Rattle.append_values.specs.Meaning.Runs.{Occurs, Explains}
use Rattle.append_values.specs.Meaning.Reads.{AppendersDiffer, AppendsOnce}
use Rattle.append_values.specs.Meaning.Reasons.{Precedes, IsDue, IsChain, IsRound, IsSimple, AreKept}
use Rattle.append_laws.specs.Laws.Explanations.{ExplainsExactly}
use Rattle.digraph.specs.declared.arc.Arc.{Arc}
use Rattle.digraph.specs.Clauses.Graphs.{IsGraph, place, IsBefore, IsTopologicalOrder, IsPath}
use Rattle.append_check.specs.Machinery.Precedences.{place_of, AreListed, arc, IsArc, AreArcs, AreMore, HasArc, AreNodes, IsCycleOf}
use Rattle.append_laws.specs.Laws.Explanations.{AreWhole}
use Rattle.append_check.proofs.Each.{push_keeps, push_puts, push-cases}
use Rattle.append_check.proofs.Starts.{count_starts}
use Rattle.append_check.proofs.Seeing.{own_kept, committed_kept}

pub more_goes_on : (h : History) (u i : ℕ) (old mid new : List Arc) → AreMore h u i old mid → HasArc h u i mid new
    → AreMore h u (i + 1) old new
more_goes_on h u i old mid new are has = record {
  kept = λ a c. has.kept a (are.kept a c);
  sound = λ a c. elim (has.sound a c) [
    | inl was ↦ are.sound a was
    | inr is ↦ inr is
  ];
  complete = λ v l kept p. elim (cases_lt v i) [
    | inl less ↦ has.kept (arc u v) (are.complete v less kept p)
    | inr past ↦
        let same : i ≡ v = omega (arith, l, past) in
        subst (λ w. Contains new (arc u w)) same
        (has.complete (subst (λ w. outcome h w ≡ Aborted → ⊥) (sym same) kept) (subst (Precedes h u) (sym same) p))
  ];
}

pub arcs_more : (h : History) (i n : ℕ) (old new : List Arc) → ((t : ℕ) → (outcome h t ≡ Aborted → ⊥) → t < n) → AreArcs h i old
    → AreMore h i n old new → AreArcs h (i + 1) new
arcs_more h i n old new known are more = record {
  sound = λ a c. elim (more.sound a c) [
    | inl was ↦ are.sound a was
    | inr is ↦ is
  ];
  complete = λ u v l kept p. elim (cases_lt u i) [
    | inl less ↦ more.kept (arc u v) (are.complete u v less kept p)
    | inr past ↦
        let same : i ≡ u = omega (arith, l, past) in
        subst (λ w. Contains new (arc w v)) same (more.complete v (known v kept) kept (subst (λ w. Precedes h w v) (sym same) p))
  ];
}

-- the step that adds an arc
pub arc_put : (h : History) (u v : ℕ) (old new : List Arc) → new ≡ old ++ arc u v ∷ [] → Precedes h u v → (outcome h v ≡ Aborted → ⊥)
    → HasArc h u v old new
arc_put h u v old new pushed precedes last = record {
  kept = push_keeps old new (arc u v) pushed;
  sound = λ a c. elim (push-cases old new (arc u v) pushed a c) [
    | inl was ↦ inl was
    | inr is ↦ inr (subst (IsArc h) is (record { precedes = precedes; kept = last }))
  ];
  complete = λ k p. push_puts old new (arc u v) pushed;
}

pub due_precedes : (h : History) (u v : ℕ) (kind : Kind) → IsDue h u v kind → Precedes h u v
due_precedes h u v (By.WriteRead read) d = inl d.0
due_precedes h u v (By.ReadWrite read) d = inr (inr d.0)
due_precedes h u v (By.WriteWrite read) d = inr (inl d.0)

-- a transaction that has to come before another isn't aborted
pub source_kept : (h : History) (u v : ℕ) → Precedes h u v → outcome h u ≡ Aborted → ⊥
source_kept h u v (inl w) = own_kept h w.key u w.element w.is_of
source_kept h u v (inr (inl w)) = own_kept h w.key u w.element w.is_of
source_kept h u v (inr (inr w)) = committed_kept h u w.read.committed

-- where a transaction stands in a list that has it, and in one that hasn't
place_less : (ts : List ℕ) (t : ℕ) → 0 < count ts t → place ts t < length ts
place_less [] t l = absurd (omega (arith, l))
place_less (x ∷ ts) t l =
    elim (cases_eq x t) [
      | inl e ↦ let here = cond-true {A = ℕ} (x == t) 0 (suc (place ts t)) (eq-eqb x t e) in omega (arith, here)
      | inr ne ↦
          let other = count_other x ts t ne in
          let rest = place_less ts t (omega (arith, l, other)) in
          let here = cond-false {A = ℕ} (x == t) 0 (suc (place ts t)) (ne_eqb x t ne) in
          omega (arith, here, rest)
    ]

place_none : (ts : List ℕ) (t : ℕ) → count ts t ≡ 0 → place ts t ≡ length ts
place_none [] t e = refl
place_none (x ∷ ts) t e =
    elim (cases_eq x t) [
      | inl s ↦ let some = count_same x ts t s in absurd (omega (arith, some, e))
      | inr ne ↦
          let other = count_other x ts t ne in
          let rest = place_none ts t (omega (arith, e, other)) in
          let here = cond-false {A = ℕ} (x == t) 0 (suc (place ts t)) (ne_eqb x t ne) in
          omega (arith, here, rest)
    ]

occurs_once : (o : Outcome) → (o ≡ Aborted → ⊥) → Occurs o 1
occurs_once Committed kept = refl
occurs_once Unknown kept = omega arith
occurs_once Aborted kept = absurd (kept refl)

occurs_nowhere : (o : Outcome) → ((o ≡ Aborted → ⊥) → ⊥) → Occurs o 0
occurs_nowhere Aborted never = refl
occurs_nowhere Unknown never = omega arith
occurs_nowhere Committed never = absurd (never (λ e. absurd (cc (e))))

module _ (h : History) (n : ℕ) (known : (t : ℕ) → (outcome h t ≡ Aborted → ⊥) → t < n) (whole : AreWhole h) (nodes : List ℕ)
    (are_nodes : AreNodes h n nodes) (arcs : List Arc) (are_arcs : AreArcs h n arcs) where
  abbrev is_node : ℕ → Bool
  is_node t = list_any (λ u. u == t) nodes

  node : (t : ℕ) → (outcome h t ≡ Aborted → ⊥) → is_node t ≡ true
  node t kept = list_any_when (λ u. u == t) nodes t (are_nodes.complete t (known t kept) kept) (eq-eqb t t refl)

  node_kept : (t : ℕ) → is_node t ≡ true → outcome h t ≡ Aborted → ⊥
  node_kept t e =
      let x = list_any-source (λ u. u == t) nodes e in
      are_nodes.sound t (subst (Contains nodes) ((Decides-eqb x.0 t).0 x.2) x.1)

  pub is_graph : IsGraph nodes arcs
  is_graph a c =
      let is = are_arcs.sound a c in (node a.from (source_kept h a.from a.to is.precedes), node a.to is.kept)

  module _ (ts : List ℕ) (order : IsTopologicalOrder nodes arcs ts) where
    counted : (t : ℕ) (b : Bool) → is_node t ≡ b → count ts t ≡ cond b 1 0
    counted t b e = order.nodes_once t ∙ ap (λ c. cond c 1 0) e

    occurs : (t : ℕ) → Occurs (outcome h t) (count ts t)
    occurs t =
        elim (cases_Bool (is_node t)) [
          | inl on ↦ subst (Occurs (outcome h t)) (sym (counted t true on)) (occurs_once (outcome h t) (node_kept t on))
          | inr off ↦
              subst (Occurs (outcome h t)) (sym (counted t false off))
              (occurs_nowhere (outcome h t) (λ kept. let is = node t kept in absurd (cc (is, off))))
        ]

    forward : (u v : ℕ) → Precedes h u v → IsBefore ts u v
    forward u v p =
        let kept = source_kept h u v p in
        elim (cases_Bool (is_node v)) [
          | inl on ↦ order.forward (arc u v) (are_arcs.complete u v (known u kept) (node_kept v on) p)
          | inr off ↦
              let here = counted u true (node u kept) in
              let there = counted v false off in
              let less = place_less ts u (omega (arith, here)) in
              let last = place_none ts v there in
              omega (arith, less, last)
        ]

    pub order_explains : ExplainsExactly → AppendersDiffer h → AppendsOnce h → Explains ts h
    order_explains exactly differ once =
        (exactly h ts differ once).1 (occurs, forward, whole)

-- links that follow a path of arcs
pub record Follows (h : History) (path : List Arc) (links : List Link) : Type 0 where
  pub chain : (s t : ℕ) → IsPath s path t → IsChain h s links t
  pub starts : map (λ (l : Link). l.from) links ≡ map (λ (a : Arc). a.from) path

path_last : (path : List Arc) (a : Arc) (s t : ℕ) → IsPath s (path ++ a ∷ []) t → IsPath s path a.from × (a.to ≡ t)
path_last [] a s t p = (sym p.0, p.1)
path_last (b ∷ path) a s t p = let rest = path_last path a b.to t p.1 in ((p.0, rest.0), rest.1)

chain_last : (h : History) (links : List Link) (l : Link) (s t : ℕ) → IsChain h s links l.from → IsDue h l.from l.to l.kind → l.to ≡ t
    → IsChain h s (links ++ l ∷ []) t
chain_last h [] l s t c due e = (sym c, due, e)
chain_last h (k ∷ links) l s t c due e = (c.0, c.1, chain_last h links l k.to t c.2 due e)

pub follow_more : (h : History) (path : List Arc) (links : List Link) (a : Arc) (l : Link) → Follows h path links → l.from ≡ a.from → l.to ≡ a.to
    → IsDue h l.from l.to l.kind → Follows h (path ++ a ∷ []) (links ++ l ∷ [])
follow_more h path links a l f from to due = record {
  chain = λ s t p.
      let q = path_last path a s t p in
      chain_last h links l s t (f.chain s l.from (subst (IsPath s path) (sym from) q.0)) due (to ∙ q.1);
  starts =
      map-append (λ (k : Link). k.from) links (l ∷ []) ∙
      (ap (λ ts. ts ++ l.from ∷ []) f.starts ∙
      (ap (λ t. map (λ (b : Arc). b.from) path ++ t ∷ []) from ∙ sym (map-append (λ (b : Arc). b.from) path (a ∷ []))));
}

all_of : {X : Type 0} (P : X → Type 0) (xs : List X) → AllByRecursion P xs → (x : X) → Contains xs x → P x
all_of P [] all x c = absurd (none_contained x c)
all_of P (y ∷ xs) all x c =
    elim (Contains-cases y xs x c) [
      | inl e ↦ subst P e all.0
      | inr d ↦ all_of P xs all.1 x d
    ]

is_kept : (h : History) (cycle : List Arc) → IsCycleOf h cycle → (a : Arc) → Contains cycle a → outcome h a.from ≡ Aborted → ⊥
is_kept h [] is a c = absurd is.closes
is_kept h (b ∷ path) is a c = is.kept a (all_of (Contains is.arcs) (b ∷ path) is.closes.0 a c)

pub cycle_due : (h : History) (cycle : List Arc) → IsCycleOf h cycle → (a : Arc) → Contains cycle a → Precedes h a.from a.to
cycle_due h [] is a c = absurd is.closes
cycle_due h (b ∷ path) is a c = is.due a (all_of (Contains is.arcs) (b ∷ path) is.closes.0 a c)

-- the links begin where the arcs do
pub round_of : (h : History) (cycle : List Arc) (links : List Link) → IsCycleOf h cycle → Follows h cycle links → IsRound h links
round_of h [] links is f = absurd is.closes
round_of h (a ∷ path) [] is f = absurd (cc (f.starts))
round_of h (a ∷ path) (l ∷ links) is f =
    let chain = f.chain a.from a.from is.closes.1 in subst (λ s. IsChain h s (l ∷ links) s) (sym chain.0) chain

pub links_are_simple : (h : History) (cycle : List Arc) (links : List Link) → IsCycleOf h cycle → Follows h cycle links → IsSimple links
links_are_simple h cycle links is f t =
    let one = count_starts (λ (l : Link). l.from) links t in
    let two = count_starts (λ (a : Arc). a.from) cycle t in
    let same = ap (λ ts. count ts t) f.starts in
    let most = is.simple t in
    omega (arith, one, two, same, most)

pub links_are_kept : (h : History) (cycle : List Arc) (links : List Link) → IsCycleOf h cycle → Follows h cycle links → AreKept h links
links_are_kept h cycle links is f link c =
    let start = Contains-map (λ (l : Link). l.from) links link c in
    let a = map-source (λ (b : Arc). b.from) cycle link.from (subst (λ ts. Contains ts link.from) f.starts start) in
    λ e. is_kept h cycle is a.0 a.1 (ap (outcome h) a.2 ∙ e)

-- the places that were listed so far
abbrev pub AreListedTo : History → List Read → ℕ → Type 0
AreListedTo h reads i = (t s : ℕ) → t < i → s < length (operations h t) → Contains reads (place_of t s)

pub listed_more : (h : History) (old new : List Read) (i n : ℕ) → length (operations h i) ≡ n → AreListedTo h old i
    → ((r : Read) → Contains old r → Contains new r) → ((s : ℕ) → s < n → Contains new (place_of i s)) → AreListedTo h new (i + 1)
listed_more h old new i n long are kept added t s l within =
    elim (cases_lt t i) [
      | inl less ↦ kept (place_of t s) (are t s less within)
      | inr past ↦
          let same : i ≡ t = omega (arith, l, past) in
          let count = ap (λ u. length (operations h u)) same in
          subst (λ u. Contains new (place_of u s)) same (added s (omega (arith, within, count, long)))
    ]

pub listed_all : (h : History) (reads : List Read) (n : ℕ) → ((t : ℕ) → (outcome h t ≡ Aborted → ⊥) → t < n) → AreListedTo h reads n
    → AreListed h reads
listed_all h reads n known are t k xs before r =
    let long = ap length r.splits in
    let parts = length-append before (ReadOf k xs ∷ r.rest) in
    are t (length before) (known t (committed_kept h t r.committed)) (omega (arith, long, parts))
