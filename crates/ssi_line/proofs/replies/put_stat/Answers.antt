use Rattle.std.proofs.Common.{◌++◌}
use Rattle.std.specs.Prelude.{codes, decimal}
use Rattle.ssi_line.proofs.Drafts.{added_then_both}
use Rattle.ssi_line.proofs.replies.put_stat.Goals as goal

pub returns : goal.returns
returns g c =
    let first = codes "stat open " ++ decimal c.args.open_txns in
    let second = first ++ codes " kept " ++ decimal c.args.kept in
    let third = second ++ codes " versions " ++ decimal c.args.versions in
    added_then_both g.W.Write.contents _ _ _ _ _ _ third (codes " keys ") (decimal c.args.keys)
    (added_then_both g.W.Write.contents _ _ _ _ _ _ second (codes " versions ") (decimal c.args.versions)
    (added_then_both g.W.Write.contents _ _ _ _ _ _ first (codes " kept ") (decimal c.args.kept) c.put_count.ensures c.put_count-2.ensures)
    c.put_count-3.ensures)
    c.put_count-4.ensures
