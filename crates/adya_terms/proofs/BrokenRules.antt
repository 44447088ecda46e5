-- The first rule that an event breaks.
use Rattle.std.proofs.Common.{◌≡◌, ℕ, true, false, List, [], ◌++◌, Some, ◌∙◌, ap}
use Rattle.adya_values.specs.Meaning.Histories.{Event}
use Rattle.adya_values.specs.declared.fault.Rule.TheVariants.{M1, M2, M3, M4, M5}
use Rattle.adya_values.specs.Meaning.Events.{written}
use Rattle.adya_values.specs.Computing.Faults.{Fault, Malformed, fault_unless, faults_at, first, is_open, is_next, was_written, sees_own, is_rising}

module _ (before : List Event) (line : ℕ) (e : Event) where
  abbrev fifth : List Fault
  fifth = fault_unless (is_rising e) line M5

  abbrev fourth : List Fault
  fourth = fault_unless (sees_own before e) line M4 ++ fifth

  abbrev third : List Fault
  third = fault_unless (was_written before e) line M3 ++ fourth

  abbrev second : List Fault
  second = fault_unless (is_next before (written e)) line M2 ++ third

  pub breaks_first : is_open before e ≡ false → first (faults_at before line e) ≡ Some (Malformed line M1)
  breaks_first fails = ap (λ b. first (fault_unless b line M1 ++ second)) fails

  module _ (still : is_open before e ≡ true) where
    past_open : faults_at before line e ≡ second
    past_open = ap (λ b. fault_unless b line M1 ++ second) still

    pub breaks_second : is_next before (written e) ≡ false → first (faults_at before line e) ≡ Some (Malformed line M2)
    breaks_second fails = ap first past_open ∙ ap (λ b. first (fault_unless b line M2 ++ third)) fails

    module _ (next : is_next before (written e) ≡ true) where
      past_next : faults_at before line e ≡ third
      past_next = past_open ∙ ap (λ b. fault_unless b line M2 ++ third) next

      pub breaks_third : was_written before e ≡ false → first (faults_at before line e) ≡ Some (Malformed line M3)
      breaks_third fails = ap first past_next ∙ ap (λ b. first (fault_unless b line M3 ++ fourth)) fails

      module _ (wrote : was_written before e ≡ true) where
        past_written : faults_at before line e ≡ fourth
        past_written = past_next ∙ ap (λ b. fault_unless b line M3 ++ fourth) wrote

        pub breaks_fourth : sees_own before e ≡ false → first (faults_at before line e) ≡ Some (Malformed line M4)
        breaks_fourth fails = ap first past_written ∙ ap (λ b. first (fault_unless b line M4 ++ fifth)) fails

        module _ (own : sees_own before e ≡ true) where
          past_own : faults_at before line e ≡ fifth
          past_own = past_written ∙ ap (λ b. fault_unless b line M4 ++ fifth) own

          pub breaks_fifth : is_rising e ≡ false → first (faults_at before line e) ≡ Some (Malformed line M5)
          breaks_fifth fails = ap first past_own ∙ ap (λ b. first (fault_unless b line M5)) fails

          pub breaks_none : is_rising e ≡ true → faults_at before line e ≡ []
          breaks_none rises = past_own ∙ ap (λ b. fault_unless b line M5) rises
