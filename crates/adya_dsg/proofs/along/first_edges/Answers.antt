use Rattle.std.proofs.Common.{◌<◌, ◌++◌, ◌∙◌, sym, ap, subst, arith, falls}
use Rattle.std.proofs.lemmas.Result.{IfOk-from_err}
use Rattle.adya_dsg.specs.Machinery.VersionOrders.{ordered_history}
use Rattle.adya_dsg.specs.Machinery.Along.{first_along}
use Rattle.adya_dsg.proofs.Parts.{edges_before, one_more, all_parts, pushed}
use Rattle.adya_dsg.proofs.along.first_edges.Goals as goal

pub loop-part-preserved : goal.loop-part-preserved
loop-part-preserved c a there =
    let h = ordered_history c.args.versions.now in
    let i = c.loop-part.part in
    let l = subst (λ n. i < n) c.count_parts-part-end.ensures c.loop-part-test.true in
    let given = pushed h i c.deref.result.now _ _ c.deref.ensures.value c.in_ok-push_part_edges.ensures c.clear.ensures.items in
    c.in_ok-note_first.ensures c.args.cycle.now (edges_before h i) c.in_ok-wanted.ensures c.loop-part.invariant a there ∙
    ap (λ zs. first_along zs a) (ap (λ zs. edges_before h i ++ zs) given ∙ sym (one_more h i l))

pub returns : goal.returns
returns c a there =
    let n = c.count_parts-part-end.ensures in
    c.loop-part.invariant a there ∙
    ap (λ zs. first_along zs a)
    (all_parts (ordered_history c.args.versions.now) c.loop-part.part (omega (arith, c.loop-part-test.false, n)))

pub ends_of-requires : goal.ends_of-requires
ends_of-requires c = tt

pub of-requires : goal.of-requires
of-requires c = tt

pub count_parts-part-end-requires : goal.count_parts-part-end-requires
count_parts-part-end-requires c = tt

pub note_first-requires : goal.note_first-requires
note_first-requires c = tt

pub returns-in_err-wanted : goal.returns-in_err-wanted
returns-in_err-wanted c = IfOk-from_err c.from_residual.result _ c.from_residual.ensures.0

pub returns-in_err-selector : goal.returns-in_err-selector
returns-in_err-selector c = IfOk-from_err c.from_residual-in_err-selector.result _ c.from_residual-in_err-selector.ensures.0

pub push_part_edges-requires : goal.push_part_edges-requires
push_part_edges-requires c = subst (λ n. c.loop-part.part < n) c.count_parts-part-end.ensures c.loop-part-test.true

pub returns-in_err-push_part_edges : goal.returns-in_err-push_part_edges
returns-in_err-push_part_edges c = IfOk-from_err c.from_residual-in_err-push_part_edges.result _ c.from_residual-in_err-push_part_edges.ensures.0

pub returns-in_err-note_first : goal.returns-in_err-note_first
returns-in_err-note_first c = IfOk-from_err c.from_residual-in_err-note_first.result _ c.from_residual-in_err-note_first.ensures.0

pub loop-part-smaller : goal.loop-part-smaller
loop-part-smaller c = falls _ _ c.loop-part-test.true
