use Rattle.std.proofs.Common.{◌++◌, length, map, arith}
use Rattle.std.proofs.lemmas.Grind.{common_steps}
use Rattle.std.specs.Prelude.{codes, decimal, flat_map}
use Rattle.adya_values.specs.Mirror.Events.{final_of}
use Rattle.ssi_line.specs.Meaning.Replies.{row_text}
use Rattle.ssi_line.proofs.Drafts.{added_then, added_as}
use Rattle.ssi_line.proofs.replies.put_rows.Goals as goal

pub returns : goal.returns
returns g c =
    let rows = map final_of c.args.rows.now in
    let counted = codes "rows " ++ decimal (length rows) in
    added_then g.W.Write.contents _ _ _ _ _ _ counted (flat_map row_text rows)
    (added_as g.W.Write.contents _ _ _ _ (codes "rows " ++ decimal (length c.args.rows.now)) counted (grind (arith, common_steps))
    c.put_count.ensures)
    c.put_each.ensures
