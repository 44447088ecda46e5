use Rattle.std.proofs.Common.{◌∙◌, sym}
use Rattle.adya_keys.specs.Machinery.Parts.{parts_of}
use Rattle.adya_keys.proofs.PackedLines.{length-pairs}
use Rattle.adya_keys.proofs.lines.Lines.len.Goals as goal

pub returns-clause-length : goal.returns-clause-length
returns-clause-length g c =
    let ls = c.args.self.now in
    c.len.ensures.length ∙ sym (length-pairs (parts_of ls.keys) (parts_of ls.items) ls.paired)
