use Rattle.std.proofs.Common.{◌≡◌, ◌∙◌, false, ap}
use Rattle.std.proofs.lemmas.Result.{IfOk-at_ok, IfOk-weaker}
use Rattle.clap.specs.Words.{App, AddsSubcommand, app_of, with_subcommand}
use Rattle.clap.specs.declared.builder.command.Command.TheViews.{out-Command as fields_of}
use Rattle.ssi_arguments.proofs.command_line.with_command.Goals as goal

pub returns : goal.returns
returns c = λ app made local.
    let command = c.args.command in
    let one = c.in_ok-made.field-0 in
    let same = IfOk-at_ok (λ m. app_of m ≡ app) c.in_ok-made.was made in
    let none = IfOk-at_ok (λ m. (fields_of m).has_globals ≡ false) c.in_ok-made.was local in
    IfOk-weaker c.subcommand.result (AddsSubcommand command one) (λ d. app_of d ≡ with_subcommand (app_of command) app.top)
    (λ d adds. adds.shape none ∙ ap (λ (a : App). with_subcommand (app_of command) a.top) same) c.subcommand.ensures
