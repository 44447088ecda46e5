use Rattle.std.proofs.Common.{sym, subst, arith}
use Rattle.std.specs.Prelude.{IfSome}
use Rattle.lemmas.proofs.Indices.{all_more}
use Rattle.adya_values.specs.Mirror.Lines.{finals_of}
use Rattle.adya_line.specs.Meaning.Limits.{IsFinal}
use Rattle.adya_text.proofs.laws.finals_within.Goals as goal

pub loop-i-preserved : goal.loop-i-preserved
loop-i-preserved c =
    all_more IsFinal (finals_of c.args.finals.now) c.loop-i.i (omega arith)
    (subst (λ o. IfSome o IsFinal) (sym c.at-pair.ensures) c.final_within.ensures) c.loop-i.invariant
