use Rattle.std.proofs.Common.{◌≡◌, drop, map, string_bytes}
use Rattle.ssi_arguments.specs.Clauses.Storage.{has_option}
use Rattle.ssi_arguments.proofs.storage.has_option.Given as goal

-- the option is among the arguments if it is among those that are left
abbrev pub invariant-loop-argument : goal.invariant-loop-argument
invariant-loop-argument l =
    has_option l.option (map string_bytes (drop l.argument-index l.arguments)) ≡ has_option l.option (map string_bytes l.arguments)
