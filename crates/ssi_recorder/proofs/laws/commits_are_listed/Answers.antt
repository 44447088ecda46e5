use Rattle.std.specs.List.{filter_map}
use Rattle.adya_values.specs.Meaning.Events.{commit_of}
use Rattle.ssi_recorder.proofs.Committed.{distinct_listed}
use Rattle.ssi_recorder.proofs.laws.commits_are_listed.Goals as goal

pub returns : goal.returns
returns c events distinct = distinct_listed (filter_map commit_of events) distinct
