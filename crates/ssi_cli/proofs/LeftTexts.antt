-- What a run leaves of its two texts, from what is said of each fault.
use Rattle.std.proofs.Common.{◌≡◌, ℕ, true, List, Option, Result, Ok, Err, IfOk, refl, subst}
use Rattle.devices.specs.declared.watched.Watched.{Watched}
use Rattle.devices.specs.Mirror.{has_failed}
use Rattle.ssi_store.specs.Meaning.Courses.{Course}
use Rattle.ssi_cli.specs.declared.script_fault.ScriptFault.{ScriptFault}
use Rattle.ssi_cli.specs.declared.script_fault.ScriptFault.TheVariants.{History, Certificate, Memory}
use Rattle.ssi_cli.specs.Clauses.Scripts.{Certified, HistoryWritten, LeavesTexts}

module _ {H C : Type 0} (course : Course) (in_history : H → Option (List ℕ)) (old_history new_history : Watched H)
    (in_certificate : C → Option (List ℕ)) (old_certificate new_certificate : Watched C) where
  abbrev pub Leaves : {T : Type 0} → Result T ScriptFault → Type 0
  Leaves written = LeavesTexts written course in_history old_history new_history in_certificate old_certificate new_certificate

  pub leaves : {T : Type 0} (written : Result T ScriptFault)
      → IfOk written (λ _. Certified course in_history old_history new_history in_certificate old_certificate new_certificate)
      → (written ≡ Err History → (has_failed new_history ≡ true) × (new_certificate ≡ old_certificate))
      → (written ≡ Err Certificate → HistoryWritten course in_history old_history new_history)
      → (written ≡ Err Certificate → has_failed new_certificate ≡ true)
      → (written ≡ Err Memory → (new_history ≡ old_history) × (new_certificate ≡ old_certificate)) → Leaves written
  leaves (Ok x) certified history first certificate memory = certified
  leaves (Err History) certified history first certificate memory = history refl
  leaves (Err Certificate) certified history first certificate memory = (first refl, certificate refl)
  leaves (Err Memory) certified history first certificate memory = memory refl

  -- what is left if it is known what was written
  pub left_if : {T : Type 0} (written known : Result T ScriptFault) → written ≡ known → Leaves written → Leaves known
  left_if written known same left = subst (λ w. Leaves w) same left
