use Rattle.std.proofs.Common.{◌+◌, ◌++◌, ℕ, suc, Vec, Global, Some, map, drop, filter, flat_map, get_or, slice_get, nat_lt, sym, ◌∙◌, ap, append_assoc, add-one, falls, refl, length, arith}
use Rattle.std.proofs.lemmas.Result.{IfOk-from_err}
use Rattle.std.proofs.lemmas.Bool.{lt-ltb, le-ltb}
use Rattle.adya_values.specs.Meaning.Events.{txn_of}
use Rattle.adya_values.specs.Meaning.Orders.{installer}
use Rattle.adya_values.specs.Meaning.Edges.{Rw}
use Rattle.adya_values.specs.Computing.EdgeList.{joined}
use Rattle.adya_dsg.specs.Machinery.VersionOrders.{ordered_history}
use Rattle.adya_dsg.specs.declared.edge.Edge.{Edge as EdgeValue}
use Rattle.adya_dsg.specs.Mirror.{edge_of}
use Rattle.adya_dsg.specs.Machinery.Choices.{event_at, key_at}
use Rattle.adya_dsg.proofs.Visibility.{visible_within}
use Rattle.adya_dsg.proofs.FlatMaps.{kept_step, passed_step, at_end, drop_at}
use Rattle.adya_dsg.proofs.Numbers.{got}
use Rattle.adya_dsg.proofs.ChoiceEdges.{overwrite_edges_visible, overwrite_edges_hidden}
use Rattle.adya_dsg.proofs.event_edges.push_overwriters.Goals as goal
use Rattle.adya_dsg.proofs.event_edges.push_overwriters.Goals.{then-is_visible+in_ok-push_edge, else-is_visible, then-seen-place+in_ok-push_edge-2, else-seen-place}

pub loop-place-preserved : goal.loop-place-preserved
loop-place-preserved c =
    let h = ordered_history c.args.versions.now in
    let k = key_at h c.args.at.line in
    let t = c.txn-txn.result in
    let seen = c.if-is_visible.seen in
    let gives = λ (q : ℕ). joined Rw k (Some t) (installer h k q) in
    let test = λ (q : ℕ). nat_lt seen q in
    let qs = c.changes-changes.result.now in
    let i = c.loop-place.place-index in
    let q = get_or qs i 0 in
    let rest = flat_map gives (filter test (drop (i + 1) qs)) in
    let done = map edge_of c.loop-place.edges.items in
    let splits = drop_at qs i 0 c.loop-place-test.true in
    elim c.if-seen-place.branch [
      | then-seen-place+in_ok-push_edge-2 w ↦
          ap (λ (v : Vec EdgeValue Global). map edge_of v.items ++ rest) w.edges-is ∙
          (ap (λ es. es ++ rest) w.in_ok-push_edge-2.ensures ∙
          (ap (λ j. (done ++ joined Rw j (Some t) w.installer-to.result) ++ rest) c.key-key.ensures ∙
          (ap (λ o. (done ++ joined Rw k (Some t) o) ++ rest) w.installer-to.ensures ∙
          kept_step test gives (drop i qs) (drop (i + 1) qs) q splits done _ (lt-ltb seen q w.if-seen-place.true)
          c.loop-place.invariant)))
      | else-seen-place w ↦
          ap (λ (v : Vec EdgeValue Global). map edge_of v.items ++ rest) w.edges-is ∙
          passed_step test gives (drop i qs) (drop (i + 1) qs) q splits done _ (le-ltb seen q w.if-seen-place.false)
          c.loop-place.invariant
    ]

pub returns : goal.returns
returns c =
    let h = ordered_history c.args.versions.now in
    let e = event_at h c.args.event in
    let k = key_at h c.args.at.line in
    let p = c.args.at.place in
    let t = c.txn-txn.result in
    let seen = c.if-is_visible.seen in
    let after = λ (s q : ℕ). nat_lt s q in
    let gives = λ (u q : ℕ). joined Rw k (Some u) (installer h k q) in
    let qs = c.changes-changes.result.now in
    let old = map edge_of c.args.edges.now.items in
    let behind = λ (s : ℕ). flat_map (gives t) (filter (after s) qs) in
    let done = at_end (after seen) (gives t) qs c.loop-place.place-index (map edge_of c.loop-place.edges.items)
    (map edge_of c.if-is_visible.edges.items ++ behind seen) c.loop-place-test.false c.loop-place.invariant in
    done ∙
    elim c.if-is_visible.branch [
      | then-is_visible+in_ok-push_edge w ↦
          let to = w.copied-to.ensures ∙
          (got w.writers.result.now p w.get.result w.get.ensures.lookup.0 w.get.ensures.lookup.1 ∙
          ap (λ xs. slice_get xs p) w.writers.ensures) in
          ap (λ (v : Vec EdgeValue Global). map edge_of v.items ++ behind seen) w.edges-is ∙
          (ap (λ es. es ++ behind seen) w.in_ok-push_edge.ensures ∙
          (ap (λ j. (old ++ joined Rw j (Some t) w.copied-to.result) ++ behind seen) c.key-key.ensures ∙
          (ap (λ o. (old ++ joined Rw k (Some t) o) ++ behind seen) to ∙
          (ap (λ s. (old ++ gives t (suc p)) ++ behind s) (w.seen-is ∙ add-one p) ∙
          (append_assoc old (gives t (suc p)) (behind (suc p)) ∙
          (ap (λ u. old ++ (gives u (suc p) ++ flat_map (gives u) (filter (after (suc p)) qs))) c.txn-txn.ensures ∙
          (ap (λ zs. old ++ (gives (txn_of e) (suc p) ++ flat_map (gives (txn_of e)) (filter (after (suc p)) zs))) c.changes-changes.ensures ∙
          ap (λ es. old ++ es)
          (sym (overwrite_edges_visible h e k p c.requires.scan (sym c.is_visible.ensures ∙ w.if-is_visible.true))))))))))
      | else-is_visible w ↦
          ap (λ (v : Vec EdgeValue Global). map edge_of v.items ++ behind seen) w.edges-is ∙
          (ap (λ s. old ++ behind s) w.seen-is ∙
          (ap (λ u. old ++ flat_map (gives u) (filter (after p) qs)) c.txn-txn.ensures ∙
          (ap (λ zs. old ++ flat_map (gives (txn_of e)) (filter (after p) zs)) c.changes-changes.ensures ∙
          ap (λ es. old ++ es)
          (sym (overwrite_edges_hidden h e k p c.requires.scan (sym c.is_visible.ensures ∙ w.if-is_visible.false))))))
    ]

pub key-key-requires : goal.key-key-requires
key-key-requires c = c.requires.within

pub txn-txn-requires : goal.txn-txn-requires
txn-txn-requires c = c.requires.there

pub is_visible-requires-clause-scans : goal.is_visible-requires-clause-scans
is_visible-requires-clause-scans c = c.requires.scans

pub is_visible-requires-clause-within : goal.is_visible-requires-clause-within
is_visible-requires-clause-within c = c.requires.within

pub writers-requires : goal.writers-requires
writers-requires c = c.requires.within

pub push_edge-requires : goal.push_edge-requires
push_edge-requires c = tt

pub returns-in_err-push_edge : goal.returns-in_err-push_edge
returns-in_err-push_edge c = IfOk-from_err c.from_residual.result _ c.from_residual.ensures.0

pub changes-changes-requires-clause-scans : goal.changes-changes-requires-clause-scans
changes-changes-requires-clause-scans c = c.requires.scans

pub changes-changes-requires-clause-within : goal.changes-changes-requires-clause-within
changes-changes-requires-clause-within c = c.requires.within

pub loop-place-init : goal.loop-place-init
loop-place-init c = refl

pub bounds-changes-place-index : goal.bounds-changes-place-index
bounds-changes-place-index c = c.loop-place-test.true

pub installer-to-requires : goal.installer-to-requires
installer-to-requires c = c.requires.within

pub push_edge-requires-then-seen-place : goal.push_edge-requires-then-seen-place
push_edge-requires-then-seen-place c = tt

pub returns-in_err-push_edge-2 : goal.returns-in_err-push_edge-2
returns-in_err-push_edge-2 c = IfOk-from_err c.from_residual-in_err-push_edge-2.result _ c.from_residual-in_err-push_edge-2.ensures.0

pub loop-place-smaller : goal.loop-place-smaller
loop-place-smaller c = falls _ _ c.loop-place-test.true

pub overflow_add-seen : goal.overflow_add-seen
overflow_add-seen c =
    let h = ordered_history c.args.versions.now in
    let k = key_at h c.args.at.line in
    let within = visible_within h k c.args.at.place (sym c.is_visible.ensures ∙ c.if-is_visible.true) in
    let same = ap length c.writers.ensures in
    record { fits = omega (arith, within, same) }
