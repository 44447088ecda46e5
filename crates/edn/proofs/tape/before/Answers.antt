use Rattle.std.proofs.Common.{◌∙◌, ◌∷◌, ◌-◌, sym, ap, length, take, reverse}
use Rattle.edn.specs.Machinery.Tapes.{skip}
use Rattle.edn.proofs.Tapes.{back_last, end_before, end_sound, end_within, skip_zero}
use Rattle.edn.proofs.tape.before.Goals as goal

pub slice_bounds-result-end : goal.slice_bounds-result-end
slice_bounds-result-end c =
    let nodes = c.args.nodes.now in
    let front = take (length nodes - 1) nodes in
    end_within nodes front c.in-End.field-0 c.in-End.field-1 c.in-End.start
    (back_last nodes c.last-item.result c.in-len1-up.len_at_least c.last-item.is ∙ ap (λ x. x ∷ reverse front) c.in-End.is) c.requires

pub returns-in-Atom-clause-before : goal.returns-in-Atom-clause-before
returns-in-Atom-clause-before c =
    let nodes = c.args.nodes.now in
    let front = take (length nodes - 1) nodes in
    sym (skip_zero (reverse front))
    ∙ ap (λ xs. skip xs 1) (sym (back_last nodes c.last-item.result c.in-len1-up.len_at_least c.last-item.is ∙ ap (λ x. x ∷ reverse front) c.in-Atom.is))

pub returns-in-End-clause-before : goal.returns-in-End-clause-before
returns-in-End-clause-before c =
    let nodes = c.args.nodes.now in
    let front = take (length nodes - 1) nodes in
    end_before nodes front c.in-End.field-0 c.in-End.field-1 c.in-End.start
    (back_last nodes c.last-item.result c.in-len1-up.len_at_least c.last-item.is ∙ ap (λ x. x ∷ reverse front) c.in-End.is) c.requires

pub returns-in-End-clause-sound : goal.returns-in-End-clause-sound
returns-in-End-clause-sound c =
    let nodes = c.args.nodes.now in
    let front = take (length nodes - 1) nodes in
    end_sound nodes front c.in-End.field-0 c.in-End.field-1 c.in-End.start
    (back_last nodes c.last-item.result c.in-len1-up.len_at_least c.last-item.is ∙ ap (λ x. x ∷ reverse front) c.in-End.is) c.requires
