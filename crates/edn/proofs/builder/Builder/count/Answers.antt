use Rattle.std.proofs.Common.{◌∙◌, ◌∷◌, ◌<◌, length, reverse, drop, ap, arith}
use Rattle.edn.specs.Meaning.Tapes.{first_of}
use Rattle.edn.specs.Machinery.Frames.{count_in}
use Rattle.edn.specs.Machinery.TapeForms.{tape_forms}
use Rattle.edn.specs.Computing.Building.{frames, into_stack, width}
use Rattle.edn.proofs.Rows.{forms_within, row_counts, width_beyond}
use Rattle.edn.proofs.Tapes.{length_back}
use Rattle.edn.proofs.builder.Builder.count.Goals as goal

pub overflow_add-self : goal.overflow_add-self
overflow_add-self c =
    let nodes = c.args.self.now.forms.nodes in
    let here = ap count_in c.in-Row.is in
    let wide = width_beyond c.in-Row.row c.in-Row.count in
    let more = c.requires.more in
    let within = forms_within (reverse nodes.items) in
    let back = length_back nodes.items in
    let len = nodes.ok.0 in
    let cap = nodes.ok.1 in
    let small = nodes.small in
    omega (arith, here, wide, more, within, back, len, cap, small)

pub overflow_add-self-in-Top : goal.overflow_add-self-in-Top
overflow_add-self-in-Top c =
    let nodes = c.args.self.now.forms.nodes in
    let here = ap count_in c.in-Top.is in
    let more = c.requires.more in
    let within = forms_within (reverse nodes.items) in
    let back = length_back nodes.items in
    let len = nodes.ok.0 in
    let cap = nodes.ok.1 in
    let small = nodes.small in
    omega (arith, here, more, within, back, len, cap, small)

pub returns-in-Row : goal.returns-in-Row
returns-in-Row c =
    let b = c.args.self.now in
    let fs = tape_forms b.forms in
    let more = c.requires.more in
    let here = ap count_in c.in-Row.is in
    let some : width c.in-Row.row c.in-Row.count < length fs = omega (arith, here, more) in
    ap (λ o. into_stack (frames (o ∷ reverse b.outer.items) (drop 1 fs)) (first_of fs)) c.in-Row.is
    ∙ row_counts c.in-Row.row c.in-Row.count (reverse b.outer.items) fs some
