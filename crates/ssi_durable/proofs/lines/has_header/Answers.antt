use Rattle.std.proofs.Common.{sym, subst}
use Rattle.std.proofs.lemmas.Bool.{false≢true}
use Rattle.ssi_durable.specs.Meaning.Lines.{HasHeader}
use Rattle.ssi_durable.proofs.WholeLines.{lines_next, lines_none}
use Rattle.ssi_durable.proofs.lines.has_header.Goals as goal

pub returns-in-Some : goal.returns-in-Some
returns-in-Some c =
    let e = lines_next c.args.text.now c.in-Some.line.now c.in-Some.field-0-1.now c.in-Some.ensures.some.0 c.in-Some.ensures.some.1 in
    (λ t. subst (HasHeader c.args.number) (sym e) (c.is_header.ensures.0 t), λ h. c.is_header.ensures.1 (subst (HasHeader c.args.number) e h))

pub returns-in-None : goal.returns-in-None
returns-in-None c =
    let e = lines_none c.args.text.now c.in-None.ensures.none in
    (λ t. absurd (false≢true t), λ h. absurd (subst (HasHeader c.args.number) e h))
