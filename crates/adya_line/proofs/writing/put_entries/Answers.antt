use Rattle.std.proofs.Common.{arith, subst, sym}
use Rattle.std.proofs.lemmas.Grind.{common_steps}
use Rattle.lemmas.proofs.Indices.{flat_map_more}
use Rattle.adya_values.specs.Mirror.Events.{entries_of, entry_of}
use Rattle.devices.specs.Clauses.Writing.{Grew}
use Rattle.adya_line.specs.Meaning.Spelling.{entry_text}
use Rattle.adya_line.proofs.Written.{not_wrote}
use Rattle.adya_line.proofs.writing.put_entries.Goals as goal

pub loop-j-preserved : goal.loop-j-preserved
loop-j-preserved g c =
    let more = flat_map_more entry_text (entries_of c.args.entries.now) c.loop-j.j (entry_of c.at.result) c.at.ensures in
    subst (λ bytes. Grew g.W.Write.contents c.args.out.now c.put_entry.new.out bytes) (sym more)
    (grind (arith, common_steps))

pub returns-in_err-put_entry : goal.returns-in_err-put_entry
returns-in_err-put_entry g c =
    not_wrote g.W.Write.contents _ _ _ c.from_residual.result c.from_residual.ensures.0 c.in_err-put_entry.ensures
