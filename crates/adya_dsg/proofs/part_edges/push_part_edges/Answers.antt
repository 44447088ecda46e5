use Rattle.std.proofs.Common.{◌≡◌, ◌++◌, List, map, OnOk, append-nil, sym, ◌∙◌, ap, subst, arith, ◌<◌}
use Rattle.std.proofs.lemmas.Result.{IfOk-from_err}
use Rattle.adya_values.specs.Meaning.Edges.{Edge}
use Rattle.adya_values.specs.Meaning.Orders.{writers}
use Rattle.adya_dsg.specs.Machinery.Choices.{key_at}
use Rattle.adya_dsg.specs.Machinery.PartEdges.{line_edges}
use Rattle.adya_dsg.specs.Machinery.VersionOrders.{ordered_history}
use Rattle.adya_dsg.specs.Mirror.{edge_of}
use Rattle.adya_dsg.proofs.Parts.{of_line, of_committed, of_other, event_within}
use Rattle.adya_dsg.proofs.part_edges.push_part_edges.Goals as goal

pub returns-then-part-lines : goal.returns-then-part-lines
returns-then-part-lines c =
    let h = ordered_history c.args.versions.now in
    let n = c.line_count-lines.ensures in
    let l = c.if-part-lines.true in
    let k = key_at h c.args.part in
    subst (λ (es : List Edge). OnOk c.push_write_edges.result (map edge_of c.push_write_edges.new.edges.items ≡ map edge_of c.args.edges.now.items ++ es))
    (ap (line_edges c.key.result) c.writers.ensures ∙
    (ap (λ j. line_edges j (writers h k)) c.key.ensures ∙ of_line h c.args.part (omega (arith, n, l))))
    c.push_write_edges.ensures

pub returns-in_ok-push_event_edges : goal.returns-in_ok-push_event_edges
returns-in_ok-push_event_edges c =
    let h = ordered_history c.args.versions.now in
    c.in_ok-push_event_edges.ensures ∙
    ap (λ es. map edge_of c.args.edges.now.items ++ es)
    (of_committed h c.line_count-lines.result c.args.part (sym c.line_count-lines.ensures) (omega (arith, c.if-part-lines.false)) c.requires
    (sym c.is_committed.ensures ∙ c.if-is_committed.true))

pub returns-else-is_committed : goal.returns-else-is_committed
returns-else-is_committed c =
    let h = ordered_history c.args.versions.now in
    sym (ap (λ es. map edge_of c.args.edges.now.items ++ es)
    (of_other h c.line_count-lines.result c.args.part (sym c.line_count-lines.ensures) (omega (arith, c.if-part-lines.false)) c.requires
    (sym c.is_committed.ensures ∙ c.if-is_committed.false)) ∙ append-nil (map edge_of c.args.edges.now.items))

pub line_count-lines-requires : goal.line_count-lines-requires
line_count-lines-requires c = tt

pub key-requires : goal.key-requires
key-requires c = subst (λ n. c.args.part < n) c.line_count-lines.ensures c.if-part-lines.true

pub writers-requires : goal.writers-requires
writers-requires c = subst (λ n. c.args.part < n) c.line_count-lines.ensures c.if-part-lines.true

pub push_write_edges-requires : goal.push_write_edges-requires
push_write_edges-requires c = tt

pub is_committed-requires : goal.is_committed-requires
is_committed-requires c =
    event_within (ordered_history c.args.versions.now) c.line_count-lines.result c.args.part (sym c.line_count-lines.ensures)
    c.if-part-lines.false c.requires

pub push_event_edges-requires : goal.push_event_edges-requires
push_event_edges-requires c =
    event_within (ordered_history c.args.versions.now) c.line_count-lines.result c.args.part (sym c.line_count-lines.ensures)
    c.if-part-lines.false c.requires

pub returns-in_err-push_event_edges : goal.returns-in_err-push_event_edges
returns-in_err-push_event_edges c = IfOk-from_err c.from_residual.result _ c.from_residual.ensures.0
