-- Whatever stops one step is its failure, or memory ran out.
use Rattle.std.proofs.Common.{◌≡◌, ℕ, List, [], ◌∷◌, inl, inr}
use Rattle.std.specs.Prelude.{Err, IfErr, Result}
use Rattle.sqlite_disk.specs.Events.{Event}
use Rattle.ssi_files.specs.declared.fault.FolderFault.{FolderFault}
use Rattle.ssi_files.specs.Meaning.FolderCalls.{FailsBy, FailsToRemove, Step, StopsIn, removed}

fails : (step : Step) (fault : FolderFault) (old new : List Event) → StopsIn (step ∷ []) fault old new → FailsBy step fault new
fails step fault old new (inl none) = inl none.0
fails step fault old new (inr (inl failed)) = inr (old, failed)
fails step fault old new (inr (inr never)) = absurd never

pub removal_fails : {T : Type 0} (result : Result T FolderFault) (n : ℕ) (fault : FolderFault) (old new : List Event)
    → result ≡ Err fault → StopsIn (removed n ∷ []) fault old new → IfErr result (λ fault. FailsToRemove fault new)
removal_fails result n fault old new same stops = rw same (n, fails (removed n) fault old new stops)
