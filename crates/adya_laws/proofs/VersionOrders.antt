-- The writers of a version order come in the certificate in the order in which they stand there.
use Rattle.std.proofs.Common.{◌≡◌, ◌≢◌, ℕ, zero, suc, ◌+◌, ◌-◌, ◌<◌, true, List, Some, slice_get, ◌∙◌, ap, subst, arith}
use Rattle.std.proofs.lemmas.Bool.{cond-true}
use Rattle.std.proofs.lemmas.Option.{none-some, slice_get_within}
use Rattle.adya_values.specs.Meaning.Edges.{Edge, Ww}
use Rattle.adya_values.specs.Meaning.Histories.{History}
use Rattle.adya_values.specs.Meaning.Orders.{place, writers, installer}
use Rattle.adya_values.specs.Clauses.Rules.{installs}
use Rattle.adya_values.specs.Clauses.Acceptance.{IsAccepted}
use Rattle.adya_values.proofs.Places.{installer_there, place_get}
use Rattle.lemmas.proofs.Counts.{count_at, count_twice}
use Rattle.lemmas.proofs.Booleans.{cond-positive, cond-at_most_one}

module _ (h : History) (ts : List ℕ) (a : IsAccepted h ts) where
  -- a writer in the order of the key is committed and wrote it
  pub installer_installs : (k : List ℕ) (q u : ℕ) → installer h k q ≡ Some u → installs h.events k u ≡ true
  installer_installs k zero u e = absurd (none-some u e)
  installer_installs k (suc q) u e =
      cond-positive (installs h.events k u) _ (a.checked.well_formed.orders k u) (count_at (writers h k) q u e)

  -- a committed writer of the key is in its order
  pub installs_installer : (k : List ℕ) (u : ℕ) → installs h.events k u ≡ true
      → installer h k (suc (place (writers h k) u)) ≡ Some u
  installs_installer k u e =
      place_get (writers h k) u
      (let counted = a.checked.well_formed.orders k u in
      let one = cond-true {A = ℕ} (installs h.events k u) 1 0 e in
      omega (arith, counted, one))

  pub write_edge : (k : List ℕ) (q u v : ℕ) → installer h k q ≡ Some u → installer h k (suc q) ≡ Some v → u ≢ v
      → place ts u < place ts v
  write_edge k q u v e f ne =
      let edge : Edge = record { from = u; kind = Ww; key = k; to = v } in
      a.forward edge (ne, (q, e, f))

  pub differs : (k : List ℕ) (i j u : ℕ) → slice_get (writers h k) i ≡ Some u → slice_get (writers h k) j ≡ Some u
      → i < j → ⊥
  differs k i j u e f l =
      let twice = count_twice (writers h k) i j u e f l in
      let counted = a.checked.well_formed.orders k u in
      let one = cond-at_most_one (installs h.events k u) in
      omega (arith, twice, counted, one)

  -- a later writer of the order comes later in the certificate
  pub rises_by : (k : List ℕ) (d i j u v : ℕ) → j ≡ suc (i + d) → slice_get (writers h k) i ≡ Some u
      → slice_get (writers h k) j ≡ Some v → place ts u < place ts v
  rises_by k zero i j u v s e f =
      let next : j ≡ suc i = omega (arith, s) in
      let after : slice_get (writers h k) (suc i) ≡ Some v = subst (λ n. slice_get (writers h k) n ≡ Some v) next f in
      write_edge k (suc i) u v e after
      (λ same. differs k i (suc i) v (e ∙ ap Some same) after (omega arith))
  rises_by k (suc d) i j u v s e f =
      let within = slice_get_within (writers h k) j v f in
      let middle = installer_there h k (suc i) (omega (arith, within, s)) in
      let near = write_edge k (suc i) u middle.0 e middle.1
      (λ same. differs k i (suc i) middle.0 (e ∙ ap Some same) middle.1 (omega arith)) in
      let far = rises_by k d (suc i) j middle.0 v (omega (arith, s)) middle.1 f in
      omega (arith, near, far)

  pub rises : (k : List ℕ) (p q u v : ℕ) → installer h k p ≡ Some u → installer h k q ≡ Some v → p < q
      → place ts u < place ts v
  rises k zero q u v e f l = absurd (none-some u e)
  rises k (suc p) zero u v e f l = absurd (omega arith)
  rises k (suc p) (suc q) u v e f l =
      rises_by k (q - suc p) p q u v (omega arith) e f
