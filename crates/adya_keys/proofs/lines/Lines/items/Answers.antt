use Rattle.std.proofs.Common.{◌∙◌, ◌<◌, subst, sym}
use Rattle.adya_keys.specs.Machinery.Parts.{parts_of}
use Rattle.adya_keys.proofs.PackedLines.{length-pairs, second_found}
use Rattle.adya_keys.proofs.lines.Lines.items.Goals as goal

pub at-requires : goal.at-requires
at-requires g c =
    let ls = c.args.self.now in
    subst (λ n. c.args.i < n) (length-pairs (parts_of ls.keys) (parts_of ls.items) ls.paired ∙ sym ls.paired) c.requires

pub returns : goal.returns
returns g c =
    let ls = c.args.self.now in
    second_found (parts_of ls.keys) (parts_of ls.items) c.args.i c.at.result.now ls.paired c.at.ensures
