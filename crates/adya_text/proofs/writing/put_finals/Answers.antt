use Rattle.std.proofs.Common.{sym, subst, arith}
use Rattle.std.proofs.lemmas.Grind.{common_steps}
use Rattle.lemmas.proofs.Indices.{flat_map_more}
use Rattle.adya_values.specs.Mirror.Events.{final_of}
use Rattle.adya_values.specs.Mirror.Lines.{finals_of}
use Rattle.devices.specs.Clauses.Writing.{Grew}
use Rattle.adya_line.specs.Meaning.Spelling.{final_text}
use Rattle.adya_text.specs.Machinery.TextParts.{ended}
use Rattle.adya_text.proofs.writing.put_finals.Goals as goal

pub loop-i-preserved : goal.loop-i-preserved
loop-i-preserved g c =
    let finals = finals_of c.args.finals.now in
    let more = flat_map_more (λ f. ended (final_text f)) finals c.loop-i.i (final_of c.at-pair.result) c.at-pair.ensures in
    subst (λ bytes. Grew g.W.Write.contents c.args.out.now c.put.new.out bytes) (sym more)
    (grind (arith, common_steps))
