use Rattle.std.proofs.Common.{◌++◌, Some, map, sym, ◌∙◌, ap, append_assoc}
use Rattle.std.proofs.lemmas.List.{map-append}
use Rattle.std.proofs.lemmas.Result.{on_ok_weaker}
use Rattle.adya_values.specs.Meaning.Edges.{Wr, Rw}
use Rattle.adya_values.specs.Meaning.Orders.{installer}
use Rattle.adya_values.specs.Computing.EdgeList.{joined}
use Rattle.adya_dsg.specs.Machinery.VersionOrders.{ordered_history}
use Rattle.adya_dsg.specs.Machinery.Arcs.{ends}
use Rattle.adya_dsg.specs.Machinery.Choices.{event_at, key_at}
use Rattle.adya_dsg.specs.Machinery.Links.{overwriter}
use Rattle.adya_dsg.proofs.event_links.push_links_at.Goals as goal

pub returns : goal.returns
returns c =
    let h = ordered_history c.args.versions.now in
    let k = key_at h c.args.at.line in
    let old = c.args.links.now.items in
    let t = c.txn-txn.result in
    let xs = joined Wr k c.installer-from.result (Some t) in
    let ys = joined Rw k (Some t) c.overwriter-to.result in
    on_ok_weaker c.push_arc-2.result
    (λ is. is Rw k ∙
    (ap (λ zs. zs ++ map ends ys) (c.in_ok-push_arc.ensures Wr k) ∙
    (append_assoc old (map ends xs) (map ends ys) ∙
    (ap (λ zs. old ++ zs) (sym (map-append ends xs ys)) ∙
    (ap (λ o. old ++ map ends (joined Wr k o (Some t) ++ ys)) c.installer-from.ensures ∙
    (ap (λ o. old ++ map ends (joined Wr k (installer h k c.args.at.place) (Some t) ++ joined Rw k (Some t) o)) c.overwriter-to.ensures ∙
    ap (λ u. old ++ map ends (joined Wr k (installer h k c.args.at.place) (Some u) ++ joined Rw k (Some u) (overwriter h (event_at h c.args.event) k c.args.at.place))) c.txn-txn.ensures))))))
    c.push_arc-2.ensures
