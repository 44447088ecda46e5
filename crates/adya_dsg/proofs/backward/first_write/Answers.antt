use Rattle.std.proofs.Common.{◌≡◌, ◌+◌, Option, drop, flat_map, option_map, sym, ◌∙◌}
use Rattle.std.specs.List.{find}
use Rattle.std.proofs.lemmas.Result.{IfOk-weaker}
use Rattle.adya_values.specs.Meaning.Histories.{Order}
use Rattle.adya_values.specs.Mirror.Lines.{orders_of}
use Rattle.adya_dsg.specs.declared.edge.Edge.{Edge}
use Rattle.adya_dsg.specs.Mirror.{edge_of}
use Rattle.adya_dsg.specs.Machinery.PartEdges.{line_edges, is_backward}
use Rattle.adya_dsg.proofs.FlatMaps.{found_in_front, none_in_front}
use Rattle.adya_dsg.proofs.LineEdges.{edges_from, edges_here}
use Rattle.adya_dsg.proofs.LinksDecide.{all_forward_none, not_all_forward}
use Rattle.adya_dsg.proofs.backward.first_write.Goals as goal

pub returns-then-not-keeps_order : goal.returns-then-not-keeps_order
returns-then-not-keeps_order c =
    let ts = c.args.certificate.now.txns.now in
    let f = λ (x : Order). line_edges x.key x.writers in
    let os = orders_of c.args.orders.now in
    let i = c.loop-line.line in
    let es = line_edges c.key.result c.writers-writers.result.now in
    let there = not_all_forward ts es (sym (c.keeps_order.ensures c.key.result) ∙ c.if-not-keeps_order.true) in
    let all = c.loop-line.invariant ∙
    found_in_front (is_backward ts) (flat_map f (drop i os)) es (flat_map f (drop (i + 1) os)) there.0
    (edges_from os i c.key.result c.writers-writers.result.now c.key.ensures c.writers-writers.ensures) there.1 in
    IfOk-weaker c.first_of_line.result
    (λ (o : Option Edge). option_map edge_of o ≡ find (is_backward ts) es)
    (λ (o : Option Edge). option_map edge_of o ≡ find (is_backward ts) (flat_map f os))
    (λ o is. is ∙ (there.1 ∙ sym all)) c.first_of_line.ensures

pub loop-line-preserved : goal.loop-line-preserved
loop-line-preserved c =
    let ts = c.args.certificate.now.txns.now in
    let f = λ (x : Order). line_edges x.key x.writers in
    let os = orders_of c.args.orders.now in
    let i = c.loop-line.line in
    let ws = c.writers-writers.result.now in
    let here = edges_here os i ws c.writers-writers.ensures in
    c.loop-line.invariant ∙
    none_in_front (is_backward ts) (flat_map f (drop i os)) (line_edges here.0 ws) (flat_map f (drop (i + 1) os)) here.1
    (all_forward_none ts (line_edges here.0 ws) (sym (c.keeps_order.ensures here.0) ∙ c.if-not-keeps_order.false))
