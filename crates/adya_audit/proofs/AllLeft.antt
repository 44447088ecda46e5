-- Whether the commits that are left of a list of events all pass a test, at one event.
use Rattle.std.proofs.Common.{◌≡◌, ℕ, ◌+◌, ◌<◌, Bool, true, false, ◌&&◌, List, drop, length, slice_get, Option, option_and_then, sym, ◌∙◌, ap}
use Rattle.std.specs.List.{list_all}
use Rattle.lemmas.proofs.Steps.{turn_below}
use Rattle.adya_values.specs.Meaning.Events.{commit_of}
use Rattle.adya_values.specs.Meaning.Histories.{Event}
use Rattle.adya_audit.specs.Machinery.ExactlyTheCommitted.{commit_passes, passes}

module _ (test : ℕ → Bool) (events : List Event) (i : ℕ) (l : i < length events) (committed : Option ℕ)
    (found : option_and_then commit_of (slice_get events i) ≡ committed) where
  at_event : (b : Bool) → passes test committed ≡ b
      → list_all (commit_passes test) (drop i events) ≡ (b && list_all (commit_passes test) (drop (i + 1) events))
  at_event b t =
      let turn = turn_below events i l in
      ap (list_all (commit_passes test)) turn.1.rest ∙
      ap (λ c. c && list_all (commit_passes test) (drop (i + 1) events))
      (ap (passes test) (ap (option_and_then commit_of) (sym turn.1.found) ∙ found) ∙ t)

  pub fails_at : passes test committed ≡ false → list_all (commit_passes test) (drop i events) ≡ false
  fails_at t = at_event false t

  pub passes_at : passes test committed ≡ true
      → list_all (commit_passes test) (drop i events) ≡ list_all (commit_passes test) (drop (i + 1) events)
  passes_at t = at_event true t
