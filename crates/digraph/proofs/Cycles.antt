-- Paths along arcs, and the cycles that they close.
use Rattle.std.specs.List.{AllByRecursion}
use Rattle.std.proofs.Common.{◌≡◌, ℕ, zero, suc, ◌+◌, ◌<◌, ◌≤◌, List, [], ◌∷◌, ◌++◌, reverse, take, drop, length, slice_index_or, All, Contains, refl, sym, ap, subst, arith}
use Rattle.std.proofs.lemmas.List.{reverse-append, take-append-drop}
use Rattle.std.proofs.lemmas.List.Elements.{All-take, All-drop, All-append, All-weaker, All-from_recursion, recursion_from_All}
use Rattle.std.proofs.lemmas.List.Sorted.{length_permutation, IsPermutation-append_comm}
use Rattle.digraph.specs.declared.arc.Arc.{Arc}
use Rattle.digraph.specs.Clauses.Graphs.{place, AreForward, IsPath, IsCycle}

pub path_append : (xs ys : List Arc) (s t u : ℕ) → IsPath s xs t → IsPath t ys u → IsPath s (xs ++ ys) u
path_append [] ys s t u p q = subst (λ x. IsPath x ys u) (sym p) q
path_append (a ∷ xs) ys s t u p q = (p.0, path_append xs ys a.to t u p.1 q)

pub path_split : (xs ys : List Arc) (s u : ℕ) → IsPath s (xs ++ ys) u → (t : ℕ) × IsPath s xs t × IsPath t ys u
path_split [] ys s u p = (s, refl, p)
path_split (a ∷ xs) ys s u p = let rest = path_split xs ys a.to u p.1 in (rest.0, (p.0, rest.1), rest.2)

-- a path may be cut after each of its arcs
pub path_upto : (xs : List Arc) (s t i : ℕ) (d : Arc) → IsPath s xs t → i < length xs
    → IsPath s (take (suc i) xs) (slice_index_or xs i d).to
path_upto [] s t i d p l = absurd (omega arith)
path_upto (a ∷ xs) s t zero d p l = (p.0, refl)
path_upto (a ∷ xs) s t (suc i) d p l = (p.0, path_upto xs a.to t i d p.1 (omega (arith, l)))

pub reverse_push : {A : Type 0} (xs : List A) (x : A) → reverse (xs ++ x ∷ []) ≡ x ∷ reverse xs
reverse_push xs x = reverse-append xs (x ∷ [])

-- a closed path is a cycle, wherever it is entered
pub cycle_of : (arcs xs : List Arc) (s : ℕ) → All (Contains arcs) xs → IsPath s xs s → 0 < length xs
    → IsCycle arcs xs
cycle_of arcs [] s known p l = absurd (omega arith)
cycle_of arcs (a ∷ xs) s known p l =
    (recursion_from_All (Contains arcs) (a ∷ xs) known, (refl, subst (λ x. IsPath a.to xs x) (sym p.0) p.1))

pub rotated : (xs : List Arc) (n s : ℕ) → IsPath s xs s → (t : ℕ) × IsPath t (drop n xs ++ take n xs) t
rotated xs n s p =
    let parts = path_split (take n xs) (drop n xs) s s (subst (λ path. IsPath s path s) (sym (take-append-drop n xs)) p) in
    (parts.0, path_append (drop n xs) (take n xs) parts.0 s parts.0 parts.2 parts.1)

take_nonempty : (path : List Arc) (i : ℕ) → i < length path → 0 < length (take (i + 1) path)
take_nonempty [] i l = absurd (omega arith)
take_nonempty (a ∷ xs) i l = let next : i + 1 ≡ suc i = omega arith in
    subst (λ j. 0 < length (take j (a ∷ xs))) (sym next) (omega arith)

-- a path that comes back to its start, cut there and turned
pub cycle_cut : (arcs path cut round : List Arc) (at i n : ℕ) → ((t : ℕ) × IsPath at path t)
    → All (Contains arcs) path → i < length path → ((d : Arc) → (slice_index_or path i d).to ≡ at)
    → cut ≡ take (i + 1) path → round ≡ drop n cut ++ take n cut → IsCycle arcs round
cycle_cut arcs [] cut round at i n leads known l back e f = absurd (omega arith)
cycle_cut arcs (d ∷ xs) cut round at i n leads known l back e f =
    let path = d ∷ xs in
    let next : suc i ≡ i + 1 = omega arith in
    let closed : IsPath at (take (i + 1) path) at =
    subst (λ x. IsPath at (take (i + 1) path) x) (back d)
    (subst (λ j. IsPath at (take j path) (slice_index_or path i d).to) next
    (path_upto path at leads.0 i d leads.1 l)) in
    let cut_closed : IsPath at cut at = subst (λ path. IsPath at path at) (sym e) closed in
    let turned = rotated cut n at cut_closed in
    let cut_known : All (Contains arcs) cut =
    subst (All (Contains arcs)) (sym e) (All-take (Contains arcs) (i + 1) path known) in
    let all_in : All (Contains arcs) round =
    subst (All (Contains arcs)) (sym f)
    (All-append (Contains arcs) (drop n cut) (take n cut) (All-drop (Contains arcs) n cut cut_known)
    (All-take (Contains arcs) n cut cut_known)) in
    let some = take_nonempty path i l in
    let cut_length = ap length e in
    let whole = ap length (take-append-drop n cut) in
    let swapped = length_permutation (take n cut ++ drop n cut) (drop n cut ++ take n cut)
    (IsPermutation-append_comm (take n cut) (drop n cut)) in
    let round_length = ap length f in
    cycle_of arcs round turned.0 all_in (subst (λ path. IsPath turned.0 path turned.0) (sym f) turned.1)
    (omega (arith, some, cut_length, whole, swapped, round_length))

pub cycle_known : (arcs arcs' xs : List Arc) → ((a : Arc) → Contains arcs a → Contains arcs' a)
    → IsCycle arcs xs → IsCycle arcs' xs
cycle_known arcs arcs' [] more c = c
cycle_known arcs arcs' (a ∷ xs) more c = (
  recursion_from_All (Contains arcs') (a ∷ xs)
      (All-weaker (Contains arcs) (Contains arcs') more (a ∷ xs)
      (All-from_recursion (Contains arcs) (a ∷ xs) c.0)),
  c.1,
)

-- along arcs that go forward in a list the place in it rises, so they form no cycle
module _ (arcs : List Arc) (ts : List ℕ) (forward : AreForward ts arcs) where
  path_rises : (path : List Arc) (s t : ℕ) → AllByRecursion (Contains arcs) path → IsPath s path t
      → place ts s ≤ place ts t
  path_rises [] s t known path = let same : place ts s ≡ place ts t = ap (place ts) path in omega (arith, same)
  path_rises (a ∷ rest) s t known path =
      let step = forward a known.0 in
      let on = path_rises rest a.to t known.1 path.1 in
      let same = ap (place ts) path.0 in
      omega (arith, step, on, same)

  pub no_cycle : (path : List Arc) → IsCycle arcs path → ⊥
  no_cycle [] c = c
  no_cycle (a ∷ rest) c =
      let step = forward a c.0.0 in
      let on = path_rises rest a.to a.from c.0.1 c.1.1 in
      omega (arith, step, on)
