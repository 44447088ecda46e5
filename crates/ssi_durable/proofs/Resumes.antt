-- Why a log wasn't resumed, as seen from before it was read.
use Rattle.std.proofs.Common.{◌≡◌, inl, inr, ⊎_elim, ℕ, ◌^◌, ◌≤◌, sym, ◌∙◌, subst}
use Rattle.sqlite_disk.specs.Disk.{MoreFaults}
use Rattle.sqlite_disk.specs.declared.Disk.{Ghosts}
use Rattle.ssi_log.specs.declared.log.Log.{Log}
use Rattle.ssi_log.specs.declared.fault.LogFault.{LogFault}
use Rattle.ssi_log.specs.declared.fault.LogFault.TheVariants as fault
use Rattle.ssi_log.specs.Clauses.Faults.{ResumeFails}
use Rattle.ssi_log.specs.Machinery.Standing.{disk_of}

module _ {D : Type 0} {disk : Ghosts D} where
  pub resume_fails : (old mid new : Log D disk) (a b : ℕ) (e : LogFault) → a ≡ b
      → disk.seen (disk_of mid) ≡ disk.seen (disk_of old) → disk.is_usable (disk_of mid) ≡ disk.is_usable (disk_of old)
      → disk.faults (disk_of mid) ≡ disk.faults (disk_of old) → ResumeFails mid new a e → ResumeFails old new b e
  resume_fails old mid new a b fault.Closed is seen usable faults fails =
      (fails.0 ∙ seen, ⊎_elim (λ p. inl (sym usable ∙ p)) (λ p. inr p) fails.1)
  resume_fails old mid new a b fault.NoRoom is seen usable faults fails =
      (fails.0 ∙ seen, subst (λ (n : ℕ). 2 ^ 64 ≤ n) is fails.1)
  resume_fails old mid new a b (fault.Failed x) is seen usable faults fails =
      subst (λ (n : ℕ). MoreFaults n (disk.faults (disk_of new))) faults fails
  resume_fails old mid new a b fault.NoEnd is seen usable faults fails = absurd fails
  resume_fails old mid new a b fault.Memory is seen usable faults fails = absurd fails
  resume_fails old mid new a b (fault.Full x) is seen usable faults fails = absurd fails
