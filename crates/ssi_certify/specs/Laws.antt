-- Which histories have a certificate because of how they came about, whatever their graph is like.
use Rattle.adya_values.specs.Meaning.Histories.{History}
use Rattle.adya_dsg.specs.Clauses.Found.{HasCertificate}
use Rattle.snapshot_histories.specs.Clauses.Snapshots.{IsSafeHistory}

-- a safe history is accepted with some certificate
abbrev pub SafeHistoriesAreAccepted : Type 0
SafeHistoriesAreAccepted = (h : History) → IsSafeHistory h → HasCertificate h
