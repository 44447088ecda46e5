-- What a conflict tracker is told of a log: no writes before their commit, and no get of a key that the transaction has
-- written, since that is answered from its own writes.
use Rattle.std.specs.Prelude.{suc, if◌then◌else◌, List, [], ◌∷◌}
use Rattle.ssi_conflict.specs.Meaning.Calls.{Call, Begins as Enters, Reads, Commits as Ends, Aborts as Drops}
use Rattle.ssi_store.specs.Meaning.Acts.{Act, Begins, Gets, Scans, Commits, Aborts}
use Rattle.ssi_store.specs.Meaning.Seeing.{commit_count, wrote, own_keys}

abbrev pub tracked : List Act → List Call
tracked [] = []
tracked (Begins t ∷ log) = Enters t (commit_count log) ∷ tracked log
tracked (Gets t k ∷ log) = if wrote t k log then tracked log else Reads t k k ∷ tracked log
tracked (Scans t low high ∷ log) = Reads t low high ∷ tracked log
tracked (Commits t ∷ log) = Ends t (suc (commit_count log)) (own_keys t log) ∷ tracked log
tracked (Aborts t ∷ log) = Drops t ∷ tracked log
tracked (_ ∷ log) = tracked log
