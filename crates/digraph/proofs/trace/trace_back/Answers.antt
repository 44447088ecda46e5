use Rattle.std.proofs.Common.{◌≡◌, ◌==◌, ◌+◌, ◌≤◌, ℕ, true, cond, arith, reverse, All, Contains, ◌++◌, [], ◌∷◌, subst, ◌∙◌, sym, refl}
use Rattle.std.specs.List.{list_any}
use Rattle.std.specs.Ordering.{nat_cmp}
use Rattle.std.specs.BTreeSet.{contains}
use Rattle.std.proofs.lemmas.List.Elements.{All-push}
use Rattle.std.proofs.lemmas.List.Sorted.{All-permutation, list_any-IsPermutation, sum_by-IsPermutation}
use Rattle.digraph.specs.declared.arc.Arc.{Arc}
use Rattle.digraph.specs.Clauses.Graphs.{IsPath}
use Rattle.digraph.proofs.Cycles.{reverse_push}
use Rattle.digraph.proofs.Sets.{met_more}
use Rattle.digraph.proofs.SimpleCycles.{enter, entered_once}
use Rattle.digraph.proofs.trace.trace_back.Goals as goal

pub back-preserved : goal.back-preserved
back-preserved c =
    let a = c.in-Some.a in
    let found = c.in-Some.ensures.found in
    let longer : c.push.new.self.items ≡ c.back.trail.items ++ a ∷ [] = c.in_ok-push-in-Some.ensures.items in
    let was = c.back.invariant in
    record {
      is_remaining = found.2;
      path = subst (λ xs. IsPath a.from (reverse xs) c.args.from) (sym longer)
          (subst (λ xs. IsPath a.from xs c.args.from) (sym (reverse_push c.back.trail.items a)) (
            refl,
            subst (λ x. IsPath x (reverse c.back.trail.items) c.args.from) (sym found.1) was.path,
          ));
      known = subst (All (Contains c.args.arcs.now)) (sym longer)
          (All-push (Contains c.args.arcs.now) c.back.trail.items a was.known found.0);
      met = λ q l n. subst (λ xs. list_any (λ (x : Arc). x.to == q) xs ≡ true) (sym longer)
          (met_more (contains nat_cmp c.args.remaining.now) (contains nat_cmp c.back.unmet)
          (contains nat_cmp c.remove.new.self) c.back.trail.items a c.back.at found.1
          c.back-test.ensures.updates.0 was.met q l n);
      once = subst (λ xs. (q : ℕ) → enter xs q + cond (contains nat_cmp c.remove.new.self q) 1 0 ≤ 1) (sym longer)
          (entered_once (contains nat_cmp c.back.unmet) (contains nat_cmp c.remove.new.self) c.back.trail.items a
          c.back.at found.1 (sym c.back-test.ensures.test) c.back-test.ensures.updates.0 was.once);
    }

pub close-requires-clause-returns : goal.close-requires-clause-returns
close-requires-clause-returns c =
    sym (list_any-IsPermutation (λ (x : Arc). x.to == c.back.at) _ _ c.reverse.ensures.permutation) ∙
    c.back.invariant.met c.back.at c.back.invariant.is_remaining (sym c.remove.ensures.test ∙ c.back-test.false)

pub close-requires-clause-once : goal.close-requires-clause-once
close-requires-clause-once c q =
    let turned = sum_by-IsPermutation (λ (x : Arc). cond {A = ℕ} (x.to == q) 1 0) _ _ c.reverse.ensures.permutation in
    let one = c.back.invariant.once q in
    omega (arith, turned, one)

pub close-requires-clause-known : goal.close-requires-clause-known
close-requires-clause-known c =
    All-permutation (Contains c.args.arcs.now) _ _ c.reverse.ensures.permutation c.back.invariant.known
