use Rattle.std.proofs.Common.{sym, ◌∙◌}
use Rattle.adya_line.proofs.Scans.{none_more, one_more, entry_shorter}
use Rattle.adya_line.proofs.entries.after_entries.Goals as goal

pub entries-smaller : goal.entries-smaller
entries-smaller c = entry_shorter c.entries.left.now _ _ c.in-Some.ensures

pub entries-preserved : goal.entries-preserved
entries-preserved c = sym (one_more c.entries.left.now _ _ c.in-Some.ensures).1 ∙ c.entries.invariant

pub returns : goal.returns
returns c = sym (none_more c.entries.left.now c.in_default.ensures).1 ∙ c.entries.invariant
