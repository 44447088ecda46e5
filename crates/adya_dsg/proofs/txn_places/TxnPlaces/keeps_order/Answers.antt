use Rattle.std.proofs.Common.{◌∷◌, ◌+◌, ◌-◌, Some, length, take, drop, falls, le_refl, sym, ◌∙◌, ap}
use Rattle.std.specs.List.{list_all}
use Rattle.adya_values.specs.Meaning.Edges.{Ww}
use Rattle.adya_values.specs.Computing.Certificates.{is_forward}
use Rattle.adya_values.specs.Computing.EdgeList.{joined}
use Rattle.lemmas.proofs.Steps.{drop_step}
use Rattle.adya_dsg.specs.Machinery.PartEdges.{line_edges}
use Rattle.adya_dsg.proofs.FlatMaps.{passes_in_front, fails_in_front}
use Rattle.adya_dsg.proofs.LineEdges.{no_line, first_and_rest, after_last}
use Rattle.adya_dsg.proofs.txn_places.TxnPlaces.keeps_order.Goals as goal

pub returns-in_default : goal.returns-in_default
returns-in_default c k = sym (ap (list_all (is_forward c.args.self.now.txns.now)) (no_line k c.args.writers.now c.in_default.len_below))

pub slice_bounds-rest-count : goal.slice_bounds-rest-count
slice_bounds-rest-count c = c.in-len1-up.len_at_least

pub bounds-writers-0 : goal.bounds-writers-0
bounds-writers-0 c = c.in-len1-up.len_at_least

pub slice_bounds-rest-start : goal.slice_bounds-rest-start
slice_bounds-rest-start c = c.in-len1-up.len_at_least

pub slice_bounds-rest-end : goal.slice_bounds-rest-end
slice_bounds-rest-end c = le_refl _

pub loop-to-init : goal.loop-to-init
loop-to-init c k =
    sym (ap (λ ws. list_all (is_forward c.args.self.now.txns.now) (line_edges k ws))
    (first_and_rest c.args.writers.now c.first-item.result c.in-len1-up.len_at_least c.first-item.is))

pub bounds-rest-to-index : goal.bounds-rest-to-index
bounds-rest-to-index c = c.loop-to-test.true

pub goes_forward-requires : goal.goes_forward-requires
goes_forward-requires c = tt

pub returns-then-not-goes_forward : goal.returns-then-not-goes_forward
returns-then-not-goes_forward c k =
    let rest = take (length c.args.writers.now - 1) (drop 1 c.args.writers.now) in
    let i = c.loop-to.to-index in
    let x = c.to-item.result in
    let last = c.loop-to.last in
    sym (c.loop-to.invariant k ∙
    fails_in_front (is_forward c.args.self.now.txns.now) _ (joined Ww k (Some last) (Some x)) (line_edges k (x ∷ drop (i + 1) rest))
    (ap (λ zs. line_edges k (last ∷ zs)) (drop_step rest i x c.loop-to-test.true c.to-item.is))
    (sym (c.goes_forward.ensures Ww k) ∙ c.if-not-goes_forward.true))

pub loop-to-smaller : goal.loop-to-smaller
loop-to-smaller c = falls _ _ c.loop-to-test.true

pub loop-to-preserved : goal.loop-to-preserved
loop-to-preserved c k =
    let rest = take (length c.args.writers.now - 1) (drop 1 c.args.writers.now) in
    let i = c.loop-to.to-index in
    let x = c.to-item.result in
    let last = c.loop-to.last in
    c.loop-to.invariant k ∙
    passes_in_front (is_forward c.args.self.now.txns.now) _ (joined Ww k (Some last) (Some x)) (line_edges k (x ∷ drop (i + 1) rest))
    (ap (λ zs. line_edges k (last ∷ zs)) (drop_step rest i x c.loop-to-test.true c.to-item.is))
    (sym (c.goes_forward.ensures Ww k) ∙ c.if-not-goes_forward.false)

pub returns : goal.returns
returns c k =
    sym (c.loop-to.invariant k ∙
    ap (list_all (is_forward c.args.self.now.txns.now))
    (after_last k c.loop-to.last _ c.loop-to.to-index c.loop-to-test.false))
