use Rattle.std.proofs.Common.{◌++◌, Some, map, ◌∙◌, ap, append_assoc}
use Rattle.std.proofs.lemmas.Result.{IfOk-from_err, on_ok_weaker}
use Rattle.adya_values.specs.Meaning.Edges.{Wr, Rw}
use Rattle.adya_values.specs.Meaning.Orders.{installer}
use Rattle.adya_values.specs.Computing.EdgeList.{joined}
use Rattle.adya_dsg.specs.Machinery.VersionOrders.{ordered_history}
use Rattle.adya_dsg.specs.Mirror.{edge_of}
use Rattle.adya_dsg.specs.Machinery.Choices.{event_at, key_at}
use Rattle.adya_dsg.specs.Machinery.Links.{overwriter}
use Rattle.adya_dsg.proofs.event_edges.push_read_edges.Goals as goal

pub key-key-requires : goal.key-key-requires
key-key-requires c = c.requires.within

pub txn-txn-requires : goal.txn-txn-requires
txn-txn-requires c = c.requires.there

pub installer-writer-requires : goal.installer-writer-requires
installer-writer-requires c = c.requires.within

pub push_edge-requires : goal.push_edge-requires
push_edge-requires c = tt

pub returns-in_err-push_edge : goal.returns-in_err-push_edge
returns-in_err-push_edge c = IfOk-from_err c.from_residual.result _ c.from_residual.ensures.0

pub overwriter-to-requires : goal.overwriter-to-requires
overwriter-to-requires c = c.requires.within

pub push_edge-requires-2 : goal.push_edge-requires-2
push_edge-requires-2 c = tt

pub returns : goal.returns
returns c =
    let h = ordered_history c.args.versions.now in
    let k = key_at h c.args.at.line in
    let old = map edge_of c.args.edges.now.items in
    let t = c.txn-txn.result in
    let o = c.overwriter-to.result in
    let from = installer h k c.args.at.place in
    on_ok_weaker c.push_edge-2.result
    (λ is. is ∙
    (ap (λ es. es ++ joined Rw c.key-key.result (Some t) o) c.in_ok-push_edge.ensures ∙
    (append_assoc old (joined Wr c.key-key.result c.installer-writer.result (Some t)) (joined Rw c.key-key.result (Some t) o) ∙
    (ap (λ j. old ++ (joined Wr j c.installer-writer.result (Some t) ++ joined Rw j (Some t) o)) c.key-key.ensures ∙
    (ap (λ w. old ++ (joined Wr k w (Some t) ++ joined Rw k (Some t) o)) c.installer-writer.ensures ∙
    (ap (λ w. old ++ (joined Wr k from (Some t) ++ joined Rw k (Some t) w)) c.overwriter-to.ensures ∙
    ap (λ u. old ++ (joined Wr k from (Some u) ++ joined Rw k (Some u) (overwriter h (event_at h c.args.event) k c.args.at.place))) c.txn-txn.ensures))))))
    c.push_edge-2.ensures
