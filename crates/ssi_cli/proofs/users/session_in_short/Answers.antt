use Rattle.std.proofs.Common.{sym, ap, ◌∙◌}
use Rattle.ssi_line.specs.Clauses.Reading.{line_of}
use Rattle.ssi_cli.proofs.UsedLines.{line_named, no_line_named, session_of_line}
use Rattle.ssi_cli.proofs.users.session_in_short.Goals as goal

pub returns-in_default : goal.returns-in_default
returns-in_default c = no_line_named c.args.line.now c.in_default.ensures c.requires

pub returns-in-Stop : goal.returns-in-Stop
returns-in-Stop c = λ keeps text step same is.
    line_named c.args.line.now (line_of c.in-Some.asked) c.in-Some.ensures c.requires keeps text step same is
    ∙ ap (λ v. session_of_line (line_of v)) c.in-Stop.is

pub returns-in-Do : goal.returns-in-Do
returns-in-Do c = λ keeps text step same is.
    line_named c.args.line.now (line_of c.in-Some.asked) c.in-Some.ensures c.requires keeps text step same is
    ∙ ap (λ v. session_of_line (line_of v)) c.in-Do.is ∙ sym c.session_of.ensures

pub returns-in-Dump : goal.returns-in-Dump
returns-in-Dump c = λ keeps text step same is.
    line_named c.args.line.now (line_of c.in-Some.asked) c.in-Some.ensures c.requires keeps text step same is
    ∙ ap (λ v. session_of_line (line_of v)) c.in-Dump.is
