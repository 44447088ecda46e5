use Rattle.ssi_store.proofs.SeenByEvents.{scanned_lists, scanned_rises}
use Rattle.ssi_store.proofs.laws.scans_list_seen.Goals as goal

pub returns : goal.returns
returns c t low high log =
    record { rising = scanned_rises t low high log; each = λ k. scanned_lists t low high k log }
