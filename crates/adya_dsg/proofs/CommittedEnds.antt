-- The ends of edges are committed transactions.
use Rattle.std.proofs.Common.{◌≡◌, ℕ, zero, suc, true, List, Some, is_some, arith, inl, inr}
use Rattle.std.proofs.lemmas.Bool.{cases_Bool, and_parts, cond-false}
use Rattle.lemmas.proofs.Counts.{count_at}
use Rattle.adya_values.specs.Meaning.Histories.{History}
use Rattle.adya_values.specs.Meaning.Events.{last_write, is_committed}
use Rattle.adya_values.specs.Meaning.Orders.{writers, installer}
use Rattle.adya_values.specs.Meaning.Edges.{Kind, Ww, Wr, Rw, Edge, IsEdge, Depends}
use Rattle.adya_values.specs.Clauses.Rules.{installs}
use Rattle.adya_values.specs.Clauses.Acceptance.{IsChecked}

module _ (h : History) (checked : IsChecked h) where
  -- whoever is in the version order of a key is committed
  installer_commits : (k : List ℕ) (q t : ℕ) → installer h k q ≡ Some t → is_committed h.events t ≡ true
  installer_commits k zero t e = absurd (cc (e))
  installer_commits k (suc p) t e =
      let listed = count_at (writers h k) p t e in
      let orders = checked.well_formed.orders k t in
      elim (cases_Bool (installs h.events k t)) [
        | inl yes' ↦ (and_parts (is_committed h.events t) (is_some (last_write t k h.events)) yes').0
        | inr no' ↦
            let none = cond-false {A = ℕ} (installs h.events k t) 1 0 no' in
            absurd (omega (arith, listed, orders, none))
      ]

  depends_commit : (kind : Kind) (k : List ℕ) (from to : ℕ) → Depends h kind k from to
      → (is_committed h.events from ≡ true) × (is_committed h.events to ≡ true)
  depends_commit Ww k from to d = (installer_commits k d.0 from d.1, installer_commits k (suc d.0) to d.2)
  depends_commit Wr k from to d = (installer_commits k d.source from d.installs, d.committed)
  depends_commit Rw k from to d = (d.committed, installer_commits k d.next to d.installs)

  pub ends_commit : (e : Edge) → IsEdge h e
      → (is_committed h.events e.from ≡ true) × (is_committed h.events e.to ≡ true)
  ends_commit e edge = depends_commit e.kind e.key e.from e.to edge.1
