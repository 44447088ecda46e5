-- The text and the loads of the rows that are left are the header and the loads of all rows. All rows are within their limits
-- if those that are left are.
use Rattle.std.proofs.Common.{◌≡◌, ◌++◌, ◌∷◌, []}
use Rattle.adya_text.specs.Meaning.Texts.{with_ends}
use Rattle.ssi_durable.specs.Meaning.Lines.{header}
use Rattle.ssi_loads.proofs.Texts.{load_text, AreWithin}
use Rattle.ssi_loads.proofs.writing.first_lines.Given as goal

abbrev pub invariant-loop-group : goal.invariant-loop-group
invariant-loop-group l =
    (l.group-iterator.size ≡ 65535)
    × (l.text.items ++ load_text l.group-iterator.rest.now ≡ with_ends (header l.number ∷ []) ++ load_text l.rows)
    × (AreWithin l.group-iterator.rest.now → AreWithin l.rows)
