use Rattle.std.proofs.Common.{refl}
use Rattle.clap.specs.Words.{found_of, rows_of}
use Rattle.ssi_arguments.proofs.Subcommands.{rows_of_subcommand}
use Rattle.ssi_arguments.proofs.arguments.task_in.Goals as goal

pub returns-in-Some : goal.returns-in-Some
returns-in-Some c =
    let arm = c.in-Some in
    let rows = rows_of (found_of arm.given.now) in
    let met = rows_of_subcommand c.args.matches.now arm.name.now rows arm.ensures.name arm.ensures.rows in
    rw (met, c.task_named.ensures) refl
