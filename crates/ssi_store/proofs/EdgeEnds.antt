-- The ends of an edge have committed.
use Rattle.std.proofs.Common.{true, zero, suc, ℕ, List, ◌≡◌, Some}
use Rattle.std.proofs.lemmas.Bool.{and_parts}
use Rattle.std.proofs.lemmas.Option.{none-some}
use Rattle.lemmas.proofs.Booleans.{cond-positive}
use Rattle.lemmas.proofs.Counts.{count_at}
use Rattle.adya_values.specs.Clauses.Acceptance.{IsChecked}
use Rattle.adya_values.specs.Meaning.Edges.{Depends, Kind, Rw, Wr, Ww}
use Rattle.adya_values.specs.Meaning.Events.{is_committed}
use Rattle.adya_values.specs.Meaning.Histories.{History}
use Rattle.adya_values.specs.Meaning.Orders.{installer, writers}
use Rattle.adya_values.specs.Clauses.Rules.{installs}

module _ (h : History) (checked : IsChecked h) where
  installer_committed : (k : List ℕ) (q u : ℕ) → installer h k q ≡ Some u → is_committed h.events u ≡ true
  installer_committed k zero u e = absurd (none-some u e)
  installer_committed k (suc q) u e =
      let counted = count_at (writers h k) q u e in
      (and_parts _ _ (cond-positive (installs h.events k u) _ (checked.well_formed.orders k u) counted)).0

  pub committed_ends : (kind : Kind) (k : List ℕ) (a b : ℕ) → Depends h kind k a b
      → (is_committed h.events a ≡ true) × (is_committed h.events b ≡ true)
  committed_ends Ww k a b (q, at, next) = (installer_committed k q a at, installer_committed k (suc q) b next)
  committed_ends Wr k a b d = (installer_committed k d.source a d.installs, d.committed)
  committed_ends Rw k a b d = (d.committed, installer_committed k d.next b d.installs)
