-- Cycles that go through no node twice.
use Rattle.std.proofs.Common.{◌≡◌, ℕ, ◌+◌, ◌≤◌, ◌==◌, Bool, true, false, cond, count_by, List, [], ◌∷◌, ◌++◌, take, drop, sym, ◌∙◌, ap, subst, arith, inl, inr}
use Rattle.std.specs.Ordering.{nat_cmp, is_eq}
use Rattle.std.proofs.lemmas.Bool.{cases_eq, cond-true, cond-false, eq-eqb, ne_eqb}
use Rattle.std.proofs.lemmas.List.Sums.{sum_by-cons, sum_by-append, sum_by-take-drop, sum_by-take-le}
use Rattle.digraph.specs.declared.arc.Arc.{Arc}
use Rattle.digraph.specs.Clauses.Graphs.{IsPath, IsCycle, IsSimple}
use Rattle.digraph.proofs.Sets.{updated_here, updated_apart}

-- how many of the arcs leave the node, and how many enter it
abbrev pub leave : List Arc → ℕ → ℕ
leave path t = count_by (λ (a : Arc). a.from == t) path

abbrev pub enter : List Arc → ℕ → ℕ
enter path t = count_by (λ (a : Arc). a.to == t) path

-- a path leaves its first node once more than it enters it, and enters its last one once more than it leaves it
path_balance : (path : List Arc) (s t q : ℕ) → IsPath s path t
    → leave path q + cond (t == q) 1 0 ≡ enter path q + cond (s == q) 1 0
path_balance [] s t q p = let same = ap (λ x. cond {A = ℕ} (x == q) 1 0) p in omega (arith, same)
path_balance (a ∷ path) s t q p =
    let out = sum_by-cons (λ (x : Arc). cond {A = ℕ} (x.from == q) 1 0) a path in
    let into = sum_by-cons (λ (x : Arc). cond {A = ℕ} (x.to == q) 1 0) a path in
    let rest = path_balance path a.to t q p.1 in
    let start = ap (λ x. cond {A = ℕ} (x == q) 1 0) p.0 in
    omega (arith, out, into, rest, start)

cycle_balance : (arcs path : List Arc) (q : ℕ) → IsCycle arcs path → leave path q ≡ enter path q
cycle_balance arcs [] q c = absurd c
cycle_balance arcs (a ∷ path) q c =
    let both = path_balance (a ∷ path) a.from a.from q c.1 in
    omega (arith, both)

-- a path that enters each node once at most, cut and turned so that it is a cycle
pub cut_is_simple : (arcs path cut round : List Arc) (i n : ℕ) → ((q : ℕ) → enter path q ≤ 1)
    → cut ≡ take i path → round ≡ drop n cut ++ take n cut → IsCycle arcs round → IsSimple round
cut_is_simple arcs path cut round i n once e f c q =
    let into = λ (x : Arc). cond {A = ℕ} (x.to == q) 1 0 in
    let same = cycle_balance arcs round q c in
    let turned = ap (λ xs. enter xs q) f in
    let parts = sum_by-append into (drop n cut) (take n cut) in
    let whole = sum_by-take-drop into cut n in
    let shorter = ap (λ xs. enter xs q) e in
    let front = sum_by-take-le into path i in
    let one = once q in
    omega (arith, same, turned, parts, whole, shorter, front, one)

-- an arc to each node is added once at most, when the node is removed
pub entered_once : (was now : ℕ → Bool) (trail : List Arc) (a : Arc) (at : ℕ) → a.to ≡ at → was at ≡ true
    → ((q : ℕ) → now q ≡ cond (is_eq (nat_cmp at q)) false (was q))
    → ((q : ℕ) → enter trail q + cond (was q) 1 0 ≤ 1)
    → (q : ℕ) → enter (trail ++ a ∷ []) q + cond (now q) 1 0 ≤ 1
entered_once was now trail a at to there up once q =
    let parts = sum_by-append (λ (x : Arc). cond {A = ℕ} (x.to == q) 1 0) trail (a ∷ []) in
    let new = sum_by-cons (λ (x : Arc). cond {A = ℕ} (x.to == q) 1 0) a [] in
    let before = once q in
    elim (cases_eq at q) [
      | inl same ↦
          let was_there = cond-true {A = ℕ} (was q) 1 0 (subst (λ x. was x ≡ true) same there) in
          let gone = cond-false {A = ℕ} (now q) 1 0 (updated_here at q (now q) (was q) false (up q) same) in
          let one = cond-true {A = ℕ} (a.to == q) 1 0 (eq-eqb a.to q (to ∙ same)) in
          omega (arith, parts, new, before, was_there, gone, one)
      | inr apart ↦
          let still = ap (λ b. cond {A = ℕ} b 1 0) (updated_apart at q (now q) (was q) false (up q) apart) in
          let none = cond-false {A = ℕ} (a.to == q) 1 0 (ne_eqb a.to q (λ e. apart (sym to ∙ e))) in
          omega (arith, parts, new, before, still, none)
    ]
