use Rattle.std.proofs.Common.{rules, arith, ◌∙◌, ap, if◌then◌else◌, ◌-◌, map, take}
use Rattle.adya_values.specs.Mirror.Events.{entry_of}
use Rattle.ssi_snapshot.proofs.Cutting.{cut_more, cut_all}
use Rattle.ssi_snapshot.proofs.limit.end_of_first.Goals as goal
use Rattle.ssi_snapshot.proofs.limit.end_of_first.Goals.{then-is_visible, else-is_visible}

pub entries-preserved : goal.entries-preserved
entries-preserved c =
    cut_more c.args.n c.args.entries.now c.entries.i c.entries.left c.if-is_visible.left c.index-entries-i.result (omega arith) (Prim.search rules) (omega arith)
    (elim c.if-is_visible.branch [
      | then-is_visible w ↦ w.left-is ∙ ap (λ b. if b then c.entries.left - 1 else c.entries.left) w.if-is_visible.ensures
      | else-is_visible w ↦ w.left-is ∙ ap (λ b. if b then c.entries.left - 1 else c.entries.left) w.if-is_visible.ensures
    ]) c.entries.invariant

pub returns : goal.returns
returns c =
    ap (λ m. map entry_of (take m c.args.entries.now)) (omega arith)
    ∙ cut_all c.args.n c.args.entries.now c.entries.i c.entries.left (omega arith) c.entries.invariant
