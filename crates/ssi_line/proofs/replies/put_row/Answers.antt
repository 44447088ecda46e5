use Rattle.std.proofs.Common.{◌++◌, rules}
use Rattle.std.specs.Prelude.{codes}
use Rattle.adya_values.specs.Mirror.Events.{final_of}
use Rattle.ssi_line.specs.Meaning.Replies.{row_text}
use Rattle.ssi_line.proofs.Drafts.{added_then, added_as}
use Rattle.ssi_line.proofs.replies.put_row.Goals as goal

pub returns : goal.returns
returns g c =
    let key = c.bytes.result.now in
    let value = c.bytes-2.result.now in
    added_as g.W.Write.contents _ _ _ _ (codes " " ++ key ++ codes "," ++ value) (row_text (final_of c.args.row.now))
    (search rules)
    (added_then g.W.Write.contents _ _ _ _ _ _ (codes " " ++ key ++ codes ",") value
    (added_then g.W.Write.contents _ _ _ _ _ _ (codes " " ++ key) (codes ",")
    (added_then g.W.Write.contents _ _ _ _ _ _ (codes " ") key c.put.ensures c.put-2.ensures) c.put-3.ensures) c.put-4.ensures)
