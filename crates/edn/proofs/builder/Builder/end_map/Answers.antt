use Rattle.std.proofs.Common.{◌∙◌, ◌∷◌, ◌≤◌, length, reverse, take, Ok, sym, ap, inl, arith}
use Rattle.edn.specs.declared.token.Closing.TheVariants.{Curly}
use Rattle.edn.specs.Meaning.Tapes.{collection}
use Rattle.edn.specs.Machinery.Frames.{count_in}
use Rattle.edn.specs.Machinery.TapeForms.{tape_forms}
use Rattle.edn.specs.Computing.Building.{close, frames, or_top, outer_of, put, width}
use Rattle.edn.proofs.Rows.{map_closes, map_lacks}
use Rattle.edn.proofs.builder.Builder.end_map.Goals as goal

pub returns-then-count-eq1-clause-refused : goal.returns-then-count-eq1-clause-refused
returns-then-count-eq1-clause-refused c =
    let b = c.args.self.now in
    let here = ap count_in c.requires.open in
    let counted = b.counted in
    let within : width c.args.row c.args.count ≤ length (tape_forms b.forms) = omega (arith, here, counted) in
    inl (ap (λ o. close (frames (o ∷ reverse b.outer.items) (tape_forms b.forms)) Curly) c.requires.open
    ∙ map_lacks c.args.row c.args.count (reverse b.outer.items) (tape_forms b.forms) c.requires.map within c.if-count-eq1.true)

pub returns-clause-ok : goal.returns-clause-ok
returns-clause-ok c =
    let b = c.args.self.now in
    let fs = tape_forms b.forms in
    let here = ap count_in c.requires.open in
    let counted = b.counted in
    let within : width c.args.row c.args.count ≤ length fs = omega (arith, here, counted) in
    let form = collection c.args.row (reverse (take (width c.args.row c.args.count) fs)) in
    ap (λ o. close (frames (o ∷ reverse b.outer.items) fs) Curly) c.requires.open
    ∙ map_closes c.args.row c.args.count (reverse b.outer.items) fs c.requires.map within c.if-count-eq1.false
    ∙ ap Ok (ap (λ o. put (or_top (outer_of (frames (o ∷ reverse b.outer.items) fs))) form) (sym c.requires.open) ∙ c.in_ok-end.ensures)
