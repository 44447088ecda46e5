-- Who is among the commits, and that no two transactions share a stamp.
use Rattle.std.proofs.Common.{◌≡◌, ℕ, zero, suc, ◌<◌, ◌==◌, true, List, [], ◌∷◌, Some, slice_get, ap, sym, ◌∙◌, arith, inl, inr}
use Rattle.std.specs.List.{filter_map}
use Rattle.std.proofs.lemmas.Bool.{and_parts, eqb-true, or_cases}
use Rattle.std.proofs.lemmas.Option.{none-some, same_Some}
use Rattle.lemmas.proofs.Booleans.{cond-positive}
use Rattle.lemmas.proofs.Counts.{count, count_at, count_rest, count_same}
use Rattle.adya_values.specs.Meaning.Histories.{Event, Write, Delete, Read, Scan, Commit, Abort, History}
use Rattle.adya_values.specs.Meaning.Events.{is_committed, commit_of}
use Rattle.adya_values.specs.Meaning.Orders.{place, writers, installer}
use Rattle.adya_values.specs.Meaning.Edges.{Kind, Ww, Wr, Rw, Depends}
use Rattle.adya_values.specs.Clauses.Rules.{installs}
use Rattle.adya_values.specs.Clauses.Acceptance.{IsChecked}
use Rattle.adya_values.proofs.Places.{place_get}
use Rattle.snapshot_histories.specs.Clauses.Snapshots.{stamp_in}

-- a committed transaction is among the commits
counted_commit : (t : ℕ) (es : List Event) → is_committed es t ≡ true → 0 < count (filter_map commit_of es) t
counted_commit t [] e = absurd (cc (e))
counted_commit t (Write u k m v ∷ es) e = counted_commit t es e
counted_commit t (Delete u k m ∷ es) e = counted_commit t es e
counted_commit t (Read u r v ∷ es) e = counted_commit t es e
counted_commit t (Scan u low high l ∷ es) e = counted_commit t es e
counted_commit t (Abort u ∷ es) e = counted_commit t es e
counted_commit t (Commit u ∷ es) e =
    elim (or_cases (u == t) (is_committed es t) e) [
      | inl same ↦ let c = count_same u (filter_map commit_of es) t (eqb-true u t same) in omega (arith, c)
      | inr there ↦
          let rest = counted_commit t es there in
          let more = count_rest u (filter_map commit_of es) t in
          omega (arith, rest, more)
    ]

pub same_stamp : (h : History) (t u : ℕ) → is_committed h.events t ≡ true → is_committed h.events u ≡ true
    → stamp_in h t ≡ stamp_in h u → t ≡ u
same_stamp h t u c d e =
    let list : List ℕ = filter_map commit_of h.events in
    let at_t = place_get list t (counted_commit t h.events c) in
    let at_u = place_get list u (counted_commit u h.events d) in
    let places : place list t ≡ place list u = omega (arith, e) in
    same_Some t u (sym at_t ∙ (ap (slice_get list) places ∙ at_u))

module _ (h : History) (checked : IsChecked h) where
  -- whoever is in the version order of a key is committed
  pub installer_committed : (k : List ℕ) (q u : ℕ) → installer h k q ≡ Some u → is_committed h.events u ≡ true
  installer_committed k zero u e = absurd (none-some u e)
  installer_committed k (suc q) u e =
      let listed = count_at (writers h k) q u e in
      (and_parts _ _ (cond-positive (installs h.events k u) _ (checked.well_formed.orders k u) listed)).0

  -- the ends of edges are committed
  pub committed_ends : (kind : Kind) (k : List ℕ) (a b : ℕ) → Depends h kind k a b
      → (is_committed h.events a ≡ true) × (is_committed h.events b ≡ true)
  committed_ends Ww k a b (q, at, next) = (installer_committed k q a at, installer_committed k (suc q) b next)
  committed_ends Wr k a b d = (installer_committed k d.source a d.installs, d.committed)
  committed_ends Rw k a b d = (d.committed, installer_committed k d.next b d.installs)
