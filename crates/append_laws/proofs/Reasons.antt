-- Each reason refutes every order.
use Rattle.std.proofs.Common.{◌≡◌, ℕ, ◌≤◌, List, [], ◌∷◌, ◌++◌, Contains, sym, ◌∙◌, ap, subst, arith, inl, inr}
use Rattle.std.proofs.lemmas.List.Elements.{Contains-append_left}
use Rattle.append_values.specs.Meaning.Histories.{Operation, Read as ReadOf, History}
use Rattle.append_values.specs.Meaning.Reads.{appended, HasRead, left, AppendersDiffer, AppendsOnce, IsPrefixOf}
use Rattle.append_laws.proofs.Necessity.{necessary}
use Rattle.append_laws.proofs.Refutations as refutations
use Rattle.append_laws.proofs.Forks.{fork_refutes}
use Rattle.append_values.specs.declared.reason.Link.{Link}
use Rattle.append_values.specs.declared.reason.Kind.{Kind}
use Rattle.append_values.specs.declared.reason.Kind.TheVariants as By
use Rattle.append_values.specs.declared.reason.Reason.{Reason}
use Rattle.append_values.specs.declared.reason.Reason.TheVariants.{Internal, Unrepeatable, Twice, Unwritten, DirtyUpdate, Future, Intermediate, Incompatible, Cycle}
use Rattle.append_values.specs.Meaning.Reasons.{Precedes, IsDue, IsChain, IsRound, Holds, HasNoOrder}
use Rattle.digraph.specs.Clauses.Graphs.{place, IsBefore}

due : (h : History) (u v : ℕ) (kind : Kind) → IsDue h u v kind → Precedes h u v
due h u v (By.WriteRead read) d = inl d.0
due h u v (By.ReadWrite read) d = inr (inr d.0)
due h u v (By.WriteWrite read) d = inr (inl d.0)

-- along links that are due an order goes forward
chain_forward : (h : History) (ts : List ℕ) → ((u v : ℕ) → Precedes h u v → IsBefore ts u v) → (links : List Link) (s t : ℕ)
    → IsChain h s links t → place ts s ≤ place ts t
chain_forward h ts forward [] s t e = let same = ap (place ts) e in omega (arith, same)
chain_forward h ts forward (link ∷ links) s t c =
    let same = ap (place ts) c.0 in
    let step = forward link.from link.to (due h link.from link.to link.kind c.1) in
    let rest = chain_forward h ts forward links link.to t c.2 in
    omega (arith, same, step, rest)

round_refutes : (h : History) (links : List Link) → AppendersDiffer h → IsRound h links → HasNoOrder h
round_refutes h [] differ r ts ex = r
round_refutes h (link ∷ links) differ r ts ex =
    let forward = necessary h ts differ ex in
    let step = forward link.from link.to (due h link.from link.to link.kind r.1) in
    let rest = chain_forward h ts forward links link.to link.from r.2 in
    omega (arith, step, rest)

-- reads of the same key, by an equation
fork_at : (h : History) (t u k j : ℕ) (xs ys : List ℕ) (before earlier : List Operation) (r : HasRead h t k xs before)
    (s : HasRead h u j ys earlier) → k ≡ j → (IsPrefixOf (left h t k xs before r) (left h u j ys earlier s) → ⊥)
    → (IsPrefixOf (left h u j ys earlier s) (left h t k xs before r) → ⊥) → HasNoOrder h
fork_at h t u k j xs ys before earlier r s e m n =
    let other : HasRead h u k ys earlier = record {
      committed = s.committed;
      rest = s.rest;
      splits = s.splits ∙ ap (λ i. earlier ++ ReadOf i ys ∷ s.rest) (sym e);
    } in
    let mine = left h t k xs before r in
    fork_refutes h t u k xs ys before earlier r other
    (subst (λ i. IsPrefixOf mine (ys ++ appended i s.rest) → ⊥) (sym e) m)
    (subst (λ i. IsPrefixOf (ys ++ appended i s.rest) mine → ⊥) (sym e) n)

pub reasons_refute : (h : History) (reason : Reason) → AppendersDiffer h → AppendsOnce h → Holds h reason → HasNoOrder h
reasons_refute h (Internal read) differ single (r, never) =
    refutations.internal_refutes h read.transaction r.key r.elements r.before r.has_read never
reasons_refute h (Unrepeatable first second) differ single (r, s, between, same, key, splits, never) =
    let t = first.transaction in
    let one : HasRead h t s.key s.elements s.before = subst (λ u. HasRead h u s.key s.elements s.before) same s.has_read in
    let two : HasRead h t r.key s.elements s.before = subst (λ k. HasRead h t k s.elements s.before) key one in
    refutations.unrepeatable_refutes h t r.key r.elements s.elements r.before between r.has_read
    (subst (λ before. HasRead h t r.key s.elements before) splits two) never
reasons_refute h (Twice read x) differ single (r, twice) =
    refutations.twice_refutes h read.transaction r.key x r.elements r.before differ single r.has_read twice
reasons_refute h (Unwritten read x) differ single (r, seen, only) =
    refutations.unwritten_refutes h read.transaction r.key x r.elements r.before r.has_read seen only
reasons_refute h (DirtyUpdate read x y) differ single (r, front, back, splits, before, only, aborted, committed) =
    let seen : Contains r.elements x = subst (λ ys. Contains ys x) (sym splits) (Contains-append_left front (y ∷ back) x before) in
    refutations.unwritten_refutes h read.transaction r.key x r.elements r.before r.has_read seen only
reasons_refute h (Future read x) differ single (r, seen, later) =
    refutations.future_refutes h read.transaction r.key x r.elements r.before differ single r.has_read seen later
reasons_refute h (Intermediate read u) differ single (r, x, seen, theirs, apart, never) =
    refutations.intermediate_refutes h read.transaction u r.key x r.elements r.before differ r.has_read seen theirs apart never
reasons_refute h (Incompatible one other) differ single (r, s, key, apart, m, n) =
    fork_at h one.transaction other.transaction r.key s.key r.elements s.elements r.before s.before r.has_read s.has_read key m n
reasons_refute h (Cycle links) differ single (r, once, kept) = round_refutes h links.items differ r
