use Rattle.std.proofs.Common.{◌≡◌, ◌∙◌, ◌-◌, ap, arith, suc, sym}
use Rattle.adya_keys.specs.Machinery.Ends.{end_before}
use Rattle.adya_keys.specs.Machinery.Indices.{indices_in}
use Rattle.adya_keys.proofs.PackedLists.{begins_after, length-parts_in}
use Rattle.adya_keys.proofs.parts.Parts.begin.Goals as goal

pub at-requires : goal.at-requires
at-requires g c =
    let p = c.args.self.now in
    omega (arith, c.requires, length-parts_in p.all.items (indices_in p.ends) 0, c.if-i-eq0.false)

pub returns : goal.returns
returns g c =
    let es = indices_in c.args.self.now.ends in
    let j = c.args.i - 1 in
    let next : suc j ≡ c.args.i = omega (arith, c.if-i-eq0.false) in
    sym (begins_after es 0 j c.at.result c.at.ensures) ∙ ap (end_before es 0) next
