-- The rows so far were added.
use Rattle.std.proofs.Common.{take, map}
use Rattle.std.specs.List.{flat_map}
use Rattle.adya_values.specs.Mirror.Events.{final_of}
use Rattle.ssi_line.specs.Meaning.Replies.{row_text}
use Rattle.ssi_line.specs.Machinery.Drafts.{Added}
use Rattle.ssi_line.proofs.replies.put_each.Given as goal

abbrev pub invariant-loop-row : goal.invariant-loop-row
invariant-loop-row g l =
    Added g.W.Write.contents l.initial.out l.initial.draft l.out l.draft
    (flat_map row_text (map final_of (take l.row-index l.rows)))
