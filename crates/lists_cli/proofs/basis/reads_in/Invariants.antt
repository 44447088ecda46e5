use Rattle.std.proofs.Common.{◌≡◌, take}
use Rattle.std.specs.List.{sum_by}
use Rattle.append_text.specs.Meaning.Texts.{counted}
use Rattle.lists_cli.specs.Meaning.Rests.{reads_of}
use Rattle.lists_cli.proofs.basis.reads_in.Given as goal

abbrev pub invariant-loop-operation : goal.invariant-loop-operation
invariant-loop-operation l = l.all ≡ counted (sum_by reads_of (take l.operation-index l.operations))
