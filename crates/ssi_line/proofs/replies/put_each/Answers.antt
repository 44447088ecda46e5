use Rattle.std.proofs.Common.{◌++◌, take, map, arith}
use Rattle.std.proofs.lemmas.Grind.{common_steps}
use Rattle.std.specs.List.{flat_map}
use Rattle.adya_values.specs.Mirror.Events.{final_of}
use Rattle.ssi_line.specs.Meaning.Replies.{row_text}
use Rattle.ssi_line.proofs.Drafts.{added_none, added_then, added_as}
use Rattle.ssi_line.proofs.replies.put_each.Goals as goal

pub loop-row-init : goal.loop-row-init
loop-row-init g c = added_none g.W.Write.contents _ _

pub loop-row-preserved : goal.loop-row-preserved
loop-row-preserved g c =
    let before = flat_map row_text (map final_of (take c.loop-row.row-index c.args.rows.now)) in
    let row = row_text (final_of c.row-item.result) in
    added_as g.W.Write.contents _ _ _ _ (before ++ row) _ (grind (arith, common_steps))
    (added_then g.W.Write.contents _ _ _ _ _ _ before row c.loop-row.invariant c.put_row.ensures)

pub returns : goal.returns
returns g c =
    added_as g.W.Write.contents _ _ _ _ (flat_map row_text (map final_of (take c.loop-row.row-index c.args.rows.now)))
    (flat_map row_text (map final_of c.args.rows.now)) (grind (arith, common_steps)) c.loop-row.invariant
