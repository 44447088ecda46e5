-- The rows so far are written, and within their limits.
use Rattle.std.proofs.Common.{◌≡◌, ◌++◌, map, take}
use Rattle.adya_values.specs.Mirror.Events.{final_of}
use Rattle.adya_text.specs.Meaning.Texts.{with_ends}
use Rattle.ssi_loads.specs.Meaning.Loads.{put_line}
use Rattle.ssi_loads.proofs.Texts.{AreWithin}
use Rattle.ssi_loads.proofs.writing.put_rows.Given as goal

abbrev pub invariant-loop-row : goal.invariant-loop-row
invariant-loop-row l =
    (l.text.items ≡ l.initial.text.items ++ with_ends (map put_line (map final_of (take l.row-index l.rows))))
    × AreWithin (take l.row-index l.rows)
