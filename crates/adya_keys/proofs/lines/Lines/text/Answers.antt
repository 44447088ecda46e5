use Rattle.std.proofs.Common.{◌<◌, subst}
use Rattle.lemmas.proofs.Members.{Contains-slice_get}
use Rattle.lemmas.proofs.Tests.{all_pass}
use Rattle.adya_keys.specs.Meaning.Keys.{is_key}
use Rattle.adya_keys.specs.Machinery.Parts.{parts_of}
use Rattle.adya_keys.proofs.PackedLines.{first_found, length-pairs}
use Rattle.adya_keys.proofs.lines.Lines.text.Goals as goal

pub at-requires : goal.at-requires
at-requires g c =
    let ls = c.args.self.now in
    subst (λ n. c.args.i < n) (length-pairs (parts_of ls.keys) (parts_of ls.items) ls.paired) c.requires

pub returns-clause-same : goal.returns-clause-same
returns-clause-same g c =
    let ls = c.args.self.now in
    first_found (parts_of ls.keys) (parts_of ls.items) c.args.i c.at.result.now ls.paired c.at.ensures

pub returns-clause-limits : goal.returns-clause-limits
returns-clause-limits g c =
    let ks = parts_of c.args.self.now.keys in
    all_pass is_key ks c.at.result.now c.args.self.now.valid (Contains-slice_get ks c.args.i c.at.result.now c.at.ensures)
