-- The names so far are noted, and their numbers are there.
use Rattle.std.proofs.Common.{◌≡◌, ℕ}
use Rattle.std.specs.BTreeSet.{contains}
use Rattle.std.specs.Ordering.{nat_cmp}
use Rattle.ssi_files.specs.Meaning.FolderCalls.{Lists, is_listed}
use Rattle.ssi_files.specs.Meaning.Names.{IsNumber, file_name}
use Rattle.ssi_files.proofs.directory.Directory.list.Given as goal

abbrev pub invariant-loop-entry : goal.invariant-loop-entry
invariant-loop-entry l = record {
  lists : Lists l.fn.self.calls.events l.self.calls.events;
  numbers : (n : ℕ) → IsNumber n → contains nat_cmp l.numbers n ≡ is_listed l.self.calls.events (file_name n l.ending);
}
