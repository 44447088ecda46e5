use Rattle.std.proofs.Common.{◌-◌, ◌≤◌, ℕ, List, take, drop, length, sym, ◌∙◌, ap, subst, arith}
use Rattle.adya_dsg.proofs.LineChanges.{start_first, end_within, are_places}
use Rattle.adya_dsg.proofs.changes.LineChanges.of.Goals as goal

pub index-requires : goal.index-requires
index-requires c = omega arith

pub index-requires-2 : goal.index-requires-2
index-requires-2 c = omega arith

pub slice_bounds-result-count : goal.slice_bounds-result-count
slice_bounds-result-count c =
    let now = c.args.self.now in
    start_first now.places.items now.starts.items now.ordered _ _ _ (omega arith) c.index.ensures c.index-2.ensures

pub slice_bounds-result-start : goal.slice_bounds-result-start
slice_bounds-result-start c =
    let now = c.args.self.now in
    start_first now.places.items now.starts.items now.ordered _ _ _ (omega arith) c.index.ensures c.index-2.ensures

pub slice_bounds-result-end : goal.slice_bounds-result-end
slice_bounds-result-end c =
    let now = c.args.self.now in
    subst (λ (ps : List ℕ). c.index-2.result.now ≤ length ps) (sym c.deref.ensures.value)
    (end_within now.places.items now.starts.items now.ordered _ _ _ (omega arith) c.index.ensures c.index-2.ensures)

pub returns : goal.returns
returns c =
    let now = c.args.self.now in
    ap (λ (ps : List ℕ). take (c.index-2.result.now - c.index.result.now) (drop c.index.result.now ps)) c.deref.ensures.value ∙
    are_places now.places.items now.starts.items now.ordered c.args.line _ _ c.requires c.index.ensures c.index-2.ensures

pub overflow_add-line : goal.overflow_add-line
overflow_add-line c =
    let starts = c.args.self.now.starts in
    let (count, room) = starts.ok in
    let small = starts.small in
    record { fits = omega (arith, count, room, small) }

pub offset_bounds-deref-index : goal.offset_bounds-deref-index
offset_bounds-deref-index c =
    let now = c.args.self.now in
    let first = start_first now.places.items now.starts.items now.ordered _ _ _ (omega arith) c.index.ensures c.index-2.ensures in
    let within = end_within now.places.items now.starts.items now.ordered _ _ _ (omega arith) c.index.ensures c.index-2.ensures in
    let same = ap length c.deref.ensures.value in
    record { fits = omega (arith, first, within, same) }
