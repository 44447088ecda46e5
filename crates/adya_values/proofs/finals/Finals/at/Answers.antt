use Rattle.std.proofs.Common.{◌∙◌, Some, ap, sym}
use Rattle.adya_keys.specs.Meaning.Keys.{Bytes, Key, is_value}
use Rattle.adya_keys.specs.Machinery.Lines.{lines_of}
use Rattle.adya_keys.proofs.PackedLines.{of_parts, one_of_all}
use Rattle.adya_values.proofs.finals.Finals.at.Goals as goal

pub from_valid-requires : goal.from_valid-requires
from_valid-requires c =
    one_of_all is_value (λ p. p.1) (lines_of c.args.self.now.lines) c.args.i c.items.result.now c.items.ensures c.args.self.now.values

pub returns : goal.returns
returns c =
    of_parts (λ (k : Key) (v : Bytes). record { key = k; value = v }) (lines_of c.args.self.now.lines) c.args.i c.key.result c.items.result.now
    c.key.ensures c.items.ensures ∙
    ap (λ (v : Bytes). Some (record { key = c.key.result; value = v })) (sym c.from_valid.ensures)
