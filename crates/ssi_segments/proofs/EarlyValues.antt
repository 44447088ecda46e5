-- What the version of a key shows that the first commits of a log have left.
use Rattle.std.proofs.Common.{◌≡◌, ℕ, zero, suc, ◌<◌, ◌≤◌, List, ◌∷◌, [], length, Option, None, Some, slice_get, refl, sym, ◌∙◌, ap, arith, inl, inr}
use Rattle.std.proofs.lemmas.Bool.{cases_lt}
use Rattle.adya_values.specs.declared.edition.Edition.{Edition}
use Rattle.adya_values.specs.Meaning.Events.{shown}
use Rattle.adya_values.specs.Meaning.Histories.{Entry}
use Rattle.adya_values.specs.Meaning.Orders.{installer, shown_by, value_at}
use Rattle.ssi_store.specs.Meaning.Acts.{Act}
use Rattle.ssi_store.specs.Meaning.Seeing.{committed}
use Rattle.ssi_store.proofs.Installed.{writers_are}
use Rattle.ssi_store.proofs.LoggedHistories.{history_of_log, installers}
use Rattle.ssi_store.proofs.Recorded.{own_of_events}
use Rattle.ssi_store.proofs.Rules.{contents_own}
use Rattle.ssi_store.proofs.SoundLogs.{Sound, committed_stamp, stamp}
use Rattle.ssi_store.proofs.Stamps.{NewestOf, contents_newest, installer_is, installers_rise}

there : (xs : List ℕ) (p : ℕ) → p < length xs → (u : ℕ) × (slice_get xs p ≡ Some u)
there [] p l = absurd (omega (arith, l))
there (x ∷ xs) zero l = (x, refl)
there (x ∷ xs) (suc p) l = there xs p (omega (arith, l))

-- as many installers of the key as the first s commits have
pub record IsCount (k : List ℕ) (s : ℕ) (log : List Act) (n : ℕ) : Type 0 where
  pub within : n ≤ length (installers k log)
  pub done : (q u m : ℕ) → slice_get (installers k log) q ≡ Some u → stamp u log ≡ Some m → q < n → m ≤ s
  pub only : (q u m : ℕ) → slice_get (installers k log) q ≡ Some u → stamp u log ≡ Some m → m ≤ s → q < n

module _ (edition : Edition) (unfinished : List ℕ) (k : List ℕ) (s : ℕ) (log : List Act) (sound : Sound log) where
  by_newest : (o : Option Entry) → committed k s log ≡ o → NewestOf k s log o → (n : ℕ) → IsCount k s log n
      → value_at (history_of_log edition unfinished log) k n ≡ shown o
  by_newest None e newest zero is = refl
  by_newest None e newest (suc n) is =
      let last = there (installers k log) n is.within in
      let m = committed_stamp last.0 log (installer_is k n last.0 log last.1).committed in
      let above = newest n last.0 m.0 last.1 m.1 in
      let within = is.done n last.0 m.0 last.1 m.1 (omega arith) in
      absurd (omega (arith, above, within))
  by_newest (Some w) e newest zero is =
      absurd (let some = is.only newest.at w.version.txn newest.number newest.installs newest.stamped newest.within in
      omega (arith, some))
  by_newest (Some w) e newest (suc n) is =
      let last = there (installers k log) n is.within in
      let m = committed_stamp last.0 log (installer_is k n last.0 log last.1).committed in
      let most = newest.newest n last.0 m.0 last.1 m.1 (is.done n last.0 m.0 last.1 m.1 (omega arith)) in
      let few = is.only newest.at w.version.txn newest.number newest.installs newest.stamped newest.within in
      let same : newest.at ≡ n =
      elim (cases_lt newest.at n) [
        | inl less ↦ absurd (let rises = installers_rise k newest.at n w.version.txn last.0 newest.number m.0 log sound
            newest.installs last.1 newest.stamped m.1 less in omega (arith, rises, most))
        | inr more ↦ omega (arith, more, few)
      ] in
      let who : installer (history_of_log edition unfinished log) k (suc n) ≡ Some w.version.txn =
      ap (λ xs. slice_get xs n) (writers_are edition unfinished k log)
      ∙ (ap (slice_get (installers k log)) (sym same) ∙ newest.installs) in
      ap (shown_by k (history_of_log edition unfinished log).events) who
      ∙ ap shown (own_of_events w.version.txn k log ∙ (contents_own k s log w sound e).own)

  pub early_value : (n : ℕ) → IsCount k s log n
      → value_at (history_of_log edition unfinished log) k n ≡ shown (committed k s log)
  early_value n is = by_newest (committed k s log) refl (contents_newest k s log sound) n is
