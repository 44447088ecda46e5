use Rattle.std.proofs.Common.{◌∙◌, sym}
use Rattle.adya_keys.specs.Machinery.Indices.{indices_in}
use Rattle.adya_keys.proofs.PackedLists.{length-parts_in}
use Rattle.adya_keys.proofs.parts.Parts.len.Goals as goal

pub returns-clause-length : goal.returns-clause-length
returns-clause-length g c =
    let p = c.args.self.now in
    c.len.ensures.length ∙ sym (length-parts_in p.all.items (indices_in p.ends) 0)
