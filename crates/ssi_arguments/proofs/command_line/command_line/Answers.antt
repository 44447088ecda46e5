use Rattle.std.proofs.Common.{◌≡◌, ◌∙◌, ap}
use Rattle.std.proofs.lemmas.Result.{IfOk-weaker}
use Rattle.clap.specs.Words.{app_of, with_subcommand}
use Rattle.ssi_arguments.specs.Clauses.CommandLine.{audit_app, order_app, script_app, seal_app, serve_app, ssi_app, with_version}
use Rattle.ssi_arguments.proofs.command_line.command_line.Goals as goal

pub returns : goal.returns
returns c =
    let storage = c.args.storage in
    let bare = c.versioned-ssi.ensures ∙ ap with_version c.bare.ensures.app in
    let audit = c.in_ok-ssi.ensures audit_app c.audit.ensures.app c.audit.ensures.local ∙ ap (λ a. with_subcommand a audit_app.top) bare in
    let order = c.in_ok-ssi-2.ensures order_app c.order.ensures.app c.order.ensures.local ∙ ap (λ a. with_subcommand a order_app.top) audit in
    let script = c.in_ok-ssi-3.ensures script_app c.script.ensures.app c.script.ensures.local ∙ ap (λ a. with_subcommand a script_app.top) order in
    let serve = c.in_ok-ssi-4.ensures (serve_app storage) c.serve.ensures.app c.serve.ensures.local
    ∙ ap (λ a. with_subcommand a (serve_app storage).top) script in
    IfOk-weaker c.with_command-5.result _ (λ d. app_of d ≡ ssi_app storage)
    (λ d whole. whole ∙ ap (λ a. with_subcommand a seal_app.top) serve)
    (c.with_command-5.ensures seal_app c.seal.ensures.app c.seal.ensures.local)
