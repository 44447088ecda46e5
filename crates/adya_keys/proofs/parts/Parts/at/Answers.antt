use Rattle.std.proofs.Common.{◌∙◌, ◌-◌, ◌≤◌, Some, ap, arith, length, subst, sym}
use Rattle.adya_keys.specs.Machinery.Indices.{indices_in}
use Rattle.adya_keys.specs.Machinery.Within.{part}
use Rattle.adya_keys.proofs.PackedLists.{found, length-parts_in}
use Rattle.adya_keys.proofs.parts.Parts.at.Goals as goal

pub at-requires : goal.at-requires
at-requires g c =
    let p = c.args.self.now in
    omega (arith, c.requires, length-parts_in p.all.items (indices_in p.ends) 0)

pub between-requires-clause-order : goal.between-requires-clause-order
between-requires-clause-order g c =
    let p = c.args.self.now in
    (found p.all.items (indices_in p.ends) c.args.i c.begin.result c.at.result p.valid c.begin.ensures c.at.ensures).between.order

pub between-requires-clause-within : goal.between-requires-clause-within
between-requires-clause-within g c =
    let p = c.args.self.now in
    subst (λ xs. c.at.result ≤ length xs) (sym c.deref.ensures.value)
    (found p.all.items (indices_in p.ends) c.args.i c.begin.result c.at.result p.valid c.begin.ensures c.at.ensures).between.within

pub returns : goal.returns
returns g c =
    let p = c.args.self.now in
    let b = c.begin.result in
    let e = c.at.result in
    (found p.all.items (indices_in p.ends) c.args.i b e p.valid c.begin.ensures c.at.ensures).get ∙
    ap Some (sym (c.between.ensures ∙ ap (part b (e - b)) c.deref.ensures.value))
