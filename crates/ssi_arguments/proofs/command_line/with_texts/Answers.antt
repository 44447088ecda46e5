use Rattle.std.proofs.Common.{◌≡◌, codes, subst}
use Rattle.std.specs.Prelude.{IfOk}
use Rattle.clap.specs.Words.{app_of, with_rule}
use Rattle.ssi_arguments.specs.Clauses.CommandLine.{file_rule}
use Rattle.ssi_arguments.proofs.command_line.with_texts.Goals as goal

pub returns-clause-app : goal.returns-clause-app
returns-clause-app c =
    subst (λ a. IfOk c.with_file-2.result (λ d. app_of d ≡ with_rule a (file_rule (codes "CERTIFICATE"))))
    c.in_ok-command.ensures.app c.with_file-2.ensures.app
