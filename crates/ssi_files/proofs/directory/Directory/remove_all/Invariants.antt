-- What is left to remove makes the calls that are wanted.
use Rattle.std.proofs.Common.{◌≡◌, map}
use Rattle.ssi_files.specs.Meaning.FolderCalls.{after, removed}
use Rattle.ssi_files.proofs.directory.Directory.remove_all.Given as goal

abbrev pub invariant-loop-number : goal.invariant-loop-number
invariant-loop-number l = after (map removed l.number-iterator) l.self.calls.events ≡ after (map removed l.numbers.keys) l.fn.self.calls.events
