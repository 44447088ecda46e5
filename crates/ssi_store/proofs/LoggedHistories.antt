-- The history of a log, made from the log itself.
use Rattle.std.specs.List.{filter_map}
use Rattle.std.proofs.Common.{List, [], if◌then◌else◌, ℕ, ◌++◌, ◌∷◌}
use Rattle.adya_values.specs.Meaning.Events.{shown}
use Rattle.adya_values.specs.Meaning.Histories.{History}
use Rattle.adya_values.specs.Meaning.Serial.{visible_pair_of}
use Rattle.adya_values.specs.declared.edition.Edition.{Edition}
use Rattle.ssi_recorder.specs.Meaning.Recorded.{order_line}
use Rattle.ssi_store.specs.Meaning.Acts.{Act, Commits}
use Rattle.ssi_store.specs.Meaning.Recording.{events}
use Rattle.ssi_store.specs.Meaning.Seeing.{commit_count, committed, keys, wrote}

-- the committed transactions that wrote the key, by stamp
abbrev pub installers : List ℕ → List Act → List ℕ
installers k [] = []
installers k (Commits t ∷ log) = if wrote t k log then installers k log ++ t ∷ [] else installers k log
installers k (a ∷ log) = installers k log

abbrev pub history_of_log : Edition → List ℕ → List Act → History
history_of_log edition unfinished log = record {
  edition = edition;
  events = events log;
  unfinished = unfinished;
  orders = filter_map (λ k. order_line k (installers k log)) (keys log);
  finals = filter_map (λ k. visible_pair_of k (shown (committed k (commit_count log) log))) (keys log);
}
