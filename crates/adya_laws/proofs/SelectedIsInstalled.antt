-- In a checked history, what a committed transaction selects of another transaction is in the version order.
use Rattle.std.proofs.Common.{◌≡◌, ◌≢◌, ℕ, suc, ◌==◌, ◌<◌, true, cond, not, ◌&&◌, List, [], Option, Some, None, is_some, sym, ◌∙◌, ap, subst, arith, inl, inr, refl}
use Rattle.std.specs.List.{filter_map, Contains}
use Rattle.std.proofs.lemmas.Bool.{cases_Bool, cases_eq, eq-eqb, ne_eqb, and_parts, and_from, not-true, cond-true}
use Rattle.std.proofs.lemmas.Option.{none-some, same_Some}
use Rattle.adya_keys.specs.Meaning.Keys.{key_eq, lies_in}
use Rattle.adya_values.specs.Meaning.Histories.{Live, Entry, Event, Write, Delete, Read, Scan, Commit, Abort, History}
use Rattle.adya_values.specs.Meaning.Events.{txn_of, entry, written, writes_of, is_committed, listed}
use Rattle.adya_values.specs.Meaning.Orders.{place, writers, installer}
use Rattle.adya_values.specs.Meaning.Selections.{selected, place_of}
use Rattle.adya_values.specs.Clauses.Rules.{installs}
use Rattle.adya_values.specs.Meaning.Phenomena.{ReadsCommitted}
use Rattle.adya_values.specs.Clauses.Acceptance.{IsChecked}
use Rattle.adya_laws.proofs.CheckedReads.{read_last_write, read_committed}
use Rattle.adya_values.proofs.KeyLookups.{listed_from}
use Rattle.adya_values.proofs.Places.{place_get}
use Rattle.adya_values.proofs.Writes.{writer_of, last_contained}
use Rattle.lemmas.proofs.Filters.{filter-source}
use Rattle.lemmas.proofs.Members.{Contains-head}
use Rattle.lemmas.proofs.Orderings.{bytes_eq-same}

module _ (h : History) (checked : IsChecked h) where
  -- the transaction whose version is read or listed is in the order of its key
  reads_installed : (e : Event) (o : Entry) → ReadsCommitted h e o → o.version.txn ≢ txn_of e
      → installer h o.version.key (suc (place (writers h o.version.key) o.version.txn)) ≡ Some o.version.txn
  reads_installed e o reads ne =
      let k = o.version.key in
      let u = o.version.txn in
      let newest = read_last_write h checked e o reads ne in
      let there = filter-source (λ w. w.version.txn == u && key_eq w.version.key k) (filter_map written h.events) o
      (last_contained (writes_of u k h.events) o newest) in
      let writer = writer_of h.events o there.0 in
      let committed = read_committed h checked e o reads writer.0 writer.1 writer.2 in
      place_get (writers h k) u
      (let counted = checked.well_formed.orders k u in
      let one = cond-true {A = ℕ} (installs h.events k u) 1 0 (and_from _ _ committed (ap is_some newest)) in
      omega (arith, counted, one))

  at_place : (e : Event) (o : Entry) (k : List ℕ) (p : ℕ) → ReadsCommitted h e o → o.version.key ≡ k
      → cond (o.version.txn == txn_of e) None (Some (suc (place (writers h k) o.version.txn))) ≡ Some p
      → (t : ℕ) × (installer h k p ≡ Some t)
  at_place e o k p reads same selects =
      let u = o.version.txn in
      let there : Option ℕ = Some (suc (place (writers h k) u)) in
      elim (cases_eq u (txn_of e)) [
        | inl s ↦ absurd (none-some p (subst (λ b. cond b None there ≡ Some p) (eq-eqb u (txn_of e) s) selects))
        | inr ne ↦
            let at : suc (place (writers h k) u) ≡ p = same_Some _ p
            (subst (λ b. cond b None there ≡ Some p) (ne_eqb u (txn_of e) ne) selects) in (
              u,
              ap (installer h k) (sym at) ∙
                  subst (λ j. installer h j (suc (place (writers h j) u)) ≡ Some u) same (reads_installed e o reads ne),
            )
      ]

  at_listed : (t : ℕ) (low high : List ℕ) (es : List Entry) (k : List ℕ) (p : ℕ)
      → Contains h.events (Scan t low high es) → is_committed h.events t ≡ true → (o : Option Entry) → listed k es ≡ o
      → place_of h t k o ≡ Some p → 0 < p → (u : ℕ) × (installer h k p ≡ Some u)
  at_listed t low high es k p occurs committed None lists selects l =
      let zero : 0 ≡ p = same_Some 0 p selects in absurd (omega (arith, zero, l))
  at_listed t low high es k p occurs committed (Some w) lists selects l =
      let from = listed_from k es w lists in
      at_place (Scan t low high es) w k p (record { occurs = occurs; committed = committed; sees = from.0 }) from.1 selects

  pub selected_installed : (e : Event) (k : List ℕ) (p : ℕ) → Contains h.events e
      → is_committed h.events (txn_of e) ≡ true → selected h e k ≡ Some p → 0 < p → (t : ℕ) × (installer h k p ≡ Some t)
  selected_installed (Read t r v) k p occurs committed selects l =
      let test = key_eq r.key k && not (r.txn == t) in
      let there : Option ℕ = Some (suc (place (writers h k) r.txn)) in
      elim (cases_Bool test) [
        | inl holds ↦
            let parts = and_parts _ _ holds in
            at_place (Read t r v) (entry r (Live v)) k p
            (record { occurs = occurs; committed = committed; sees = Contains-head (entry r (Live v)) [] })
            (bytes_eq-same r.key k parts.0)
            (ap (λ b. cond b None there) (not-true _ parts.1) ∙
            subst (λ b. cond b there None ≡ Some p) holds selects)
        | inr fails ↦ absurd (none-some p (subst (λ b. cond b there None ≡ Some p) fails selects))
      ]
  selected_installed (Scan t low high es) k p occurs committed selects l =
      elim (cases_Bool (lies_in low high k)) [
        | inl inside ↦
            at_listed t low high es k p occurs committed (listed k es) refl
            (subst (λ b. cond b (place_of h t k (listed k es)) None ≡ Some p) inside selects) l
        | inr outside ↦
            absurd (none-some p
            (subst (λ b. cond b (place_of h t k (listed k es)) None ≡ Some p) outside selects))
      ]
  selected_installed (Write t j m v) k p occurs committed selects l = absurd (none-some p selects)
  selected_installed (Delete t j m) k p occurs committed selects l = absurd (none-some p selects)
  selected_installed (Commit t) k p occurs committed selects l = absurd (none-some p selects)
  selected_installed (Abort t) k p occurs committed selects l = absurd (none-some p selects)
