use Rattle.std.proofs.Common.{◌≡◌, ◌+◌, ◌++◌, ℕ, Vec, Global, Some, map, drop, filter, flat_map, get_or, nat_lt, sym, ◌∙◌, ap, append_assoc, falls, refl}
use Rattle.std.proofs.lemmas.Bool.{lt-ltb, le-ltb}
use Rattle.std.proofs.lemmas.Result.{on_ok_weaker, IfOk-from_err}
use Rattle.adya_values.specs.Meaning.Orders.{installer}
use Rattle.adya_values.specs.Meaning.Edges.{Wr}
use Rattle.adya_values.specs.Computing.EdgeList.{joined, read_edges}
use Rattle.adya_dsg.specs.Machinery.VersionOrders.{ordered_history}
use Rattle.adya_dsg.specs.declared.edge.Edge.{Edge as EdgeValue}
use Rattle.adya_dsg.specs.Mirror.{edge_of}
use Rattle.adya_dsg.specs.Machinery.Choices.{event_at, key_at}
use Rattle.adya_dsg.specs.Machinery.Links.{changed_places}
use Rattle.adya_dsg.proofs.FlatMaps.{kept_step, passed_step, at_end, drop_at}
use Rattle.adya_dsg.proofs.ChoiceEdges.{read_edges_are}
use Rattle.adya_dsg.proofs.event_edges.push_sources.Goals as goal
use Rattle.adya_dsg.proofs.event_edges.push_sources.Goals.{then-place-at+in_ok-push_edge, else-place-at}

pub loop-place-preserved : goal.loop-place-preserved
loop-place-preserved c =
    let h = ordered_history c.args.versions.now in
    let k = key_at h c.args.at.line in
    let gives = λ (q : ℕ). joined Wr k (installer h k q) (Some c.txn-txn.result) in
    let test = λ (q : ℕ). nat_lt q c.args.at.place in
    let qs = c.changes-changes.result.now in
    let i = c.loop-place.place-index in
    let q = get_or qs i 0 in
    let rest = flat_map gives (filter test (drop (i + 1) qs)) in
    let done = map edge_of c.loop-place.edges.items in
    let splits = drop_at qs i 0 c.loop-place-test.true in
    elim c.if-place-at.branch [
      | then-place-at+in_ok-push_edge w ↦
          ap (λ (v : Vec EdgeValue Global). map edge_of v.items ++ rest) w.edges-is ∙
          (ap (λ es. es ++ rest) w.in_ok-push_edge.ensures ∙
          (ap (λ j. (done ++ joined Wr j w.installer-from.result (Some c.txn-txn.result)) ++ rest) c.key-key.ensures ∙
          (ap (λ o. (done ++ joined Wr k o (Some c.txn-txn.result)) ++ rest) w.installer-from.ensures ∙
          kept_step test gives (drop i qs) (drop (i + 1) qs) q splits done _ (lt-ltb q c.args.at.place w.if-place-at.true)
          c.loop-place.invariant)))
      | else-place-at w ↦
          ap (λ (v : Vec EdgeValue Global). map edge_of v.items ++ rest) w.edges-is ∙
          passed_step test gives (drop i qs) (drop (i + 1) qs) q splits done _ (le-ltb q c.args.at.place w.if-place-at.false)
          c.loop-place.invariant
    ]

pub returns : goal.returns
returns c =
    let h = ordered_history c.args.versions.now in
    let e = event_at h c.args.event in
    let k = key_at h c.args.at.line in
    let p = c.args.at.place in
    let t = c.txn-txn.result in
    let test = λ (q : ℕ). nat_lt q p in
    let gives = λ (u q : ℕ). joined Wr k (installer h k q) (Some u) in
    let qs = c.changes-changes.result.now in
    let old = map edge_of c.args.edges.now.items in
    let front = flat_map (gives t) (filter test qs) in
    let done = at_end test (gives t) qs c.loop-place.place-index (map edge_of c.loop-place.edges.items) (old ++ front)
    c.loop-place-test.false c.loop-place.invariant in
    let all : old ++ (front ++ gives t p) ≡ old ++ read_edges h e k p =
    ap (λ zs. old ++ (flat_map (gives t) (filter test zs) ++ gives t p)) c.changes-changes.ensures ∙
    (ap (λ u. old ++ (flat_map (gives u) (filter test (changed_places h k)) ++ gives u p)) c.txn-txn.ensures ∙
    ap (λ es. old ++ es) (sym (read_edges_are h e k p c.requires.scan))) in
    on_ok_weaker c.push_edge-2.result
    (λ is. is ∙
    (ap (λ j. map edge_of c.loop-place.edges.items ++ joined Wr j c.installer-from-2.result (Some t)) c.key-key.ensures ∙
    (ap (λ o. map edge_of c.loop-place.edges.items ++ joined Wr k o (Some t)) c.installer-from-2.ensures ∙
    (ap (λ es. es ++ gives t p) done ∙ (append_assoc old front (gives t p) ∙ all)))))
    c.push_edge-2.ensures

pub key-key-requires : goal.key-key-requires
key-key-requires c = c.requires.within

pub txn-txn-requires : goal.txn-txn-requires
txn-txn-requires c = c.requires.there

pub changes-changes-requires-clause-scans : goal.changes-changes-requires-clause-scans
changes-changes-requires-clause-scans c = c.requires.scans

pub changes-changes-requires-clause-within : goal.changes-changes-requires-clause-within
changes-changes-requires-clause-within c = c.requires.within

pub loop-place-init : goal.loop-place-init
loop-place-init c = refl

pub bounds-changes-place-index : goal.bounds-changes-place-index
bounds-changes-place-index c = c.loop-place-test.true

pub installer-from-requires : goal.installer-from-requires
installer-from-requires c = c.requires.within

pub push_edge-requires : goal.push_edge-requires
push_edge-requires c = tt

pub returns-in_err-push_edge : goal.returns-in_err-push_edge
returns-in_err-push_edge c = IfOk-from_err c.from_residual.result _ c.from_residual.ensures.0

pub loop-place-smaller : goal.loop-place-smaller
loop-place-smaller c = falls _ _ c.loop-place-test.true

pub installer-from-requires-2 : goal.installer-from-requires-2
installer-from-requires-2 c = c.requires.within

pub push_edge-requires-2 : goal.push_edge-requires-2
push_edge-requires-2 c = tt
