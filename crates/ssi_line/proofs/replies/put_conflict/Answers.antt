use Rattle.std.proofs.Common.{◌++◌, arith}
use Rattle.std.proofs.lemmas.Grind.{common_steps}
use Rattle.std.specs.Prelude.{codes, decimal}
use Rattle.ssi_line.proofs.Drafts.{added_then, added_then_both, added_as}
use Rattle.ssi_line.proofs.replies.put_conflict.Goals as goal

pub returns : goal.returns
returns g c =
    let front = codes "conflict " ++ c.bytes.result.now in
    let number = decimal c.from.result in
    added_as g.W.Write.contents _ _ _ _ (front ++ codes " " ++ number)
    (codes "conflict " ++ c.args.key.now ++ codes " " ++ decimal c.args.writer) (grind (arith, common_steps))
    (added_then_both g.W.Write.contents _ _ _ _ _ _ front (codes " ") number
    (added_then g.W.Write.contents _ _ _ _ _ _ (codes "conflict ") c.bytes.result.now c.put.ensures c.put-2.ensures) c.put_count.ensures)
