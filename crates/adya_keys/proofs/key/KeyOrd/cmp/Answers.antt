use Rattle.std.proofs.Common.{◌∙◌, ap, nat_cmp, sym, take}
use Rattle.std.specs.Cmp.Lexicographic.{slice_cmp}
use Rattle.std.specs.Ordering.{ordering_reverse}
use Rattle.std.proofs.lemmas.Cmp.{nat_list_cmp_total}
use Rattle.adya_keys.proofs.Words.{less_array}
use Rattle.adya_keys.proofs.key.KeyOrd.cmp.Goals as goal

pub returns-then-first-others : goal.returns-then-first-others
returns-then-first-others c =
    let own = c.self.inside in
    let other = c.other.inside in
    let less = less_array own.bytes other.bytes own.len other.len c.self.invariant c.other.invariant
    (rw (← c.first_word-first.ensures, ← c.first_word-others.ensures) c.if-first-others.true) in
    sym less ∙ (ap (λ k. slice_cmp nat_cmp k (take other.len other.bytes)) c.self.view_is ∙ ap (slice_cmp nat_cmp c.args.self.now) c.other.view_is)

pub returns-then-others-first : goal.returns-then-others-first
returns-then-others-first c =
    let own = c.self.inside in
    let other = c.other.inside in
    let less = less_array other.bytes own.bytes other.len own.len c.other.invariant c.self.invariant
    (rw (← c.first_word-first.ensures, ← c.first_word-others.ensures) c.if-others-first.true) in
    let turned = sym less ∙ (ap (λ k. slice_cmp nat_cmp k (take own.len own.bytes)) c.other.view_is ∙ ap (slice_cmp nat_cmp c.args.other.now) c.self.view_is) in
    ap ordering_reverse turned ∙ sym (nat_list_cmp_total.antisymm c.args.self.now c.args.other.now)
