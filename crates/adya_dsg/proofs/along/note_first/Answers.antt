use Rattle.std.proofs.Common.{◌∙◌, ◌==◌, ◌&&◌, ◌++◌, Some, cond, is_some, option_map, map, take, sym, ap, arith}
use Rattle.std.specs.List.{list_any}
use Rattle.std.proofs.lemmas.List.{take_all}
use Rattle.std.specs.Ordering.{is_eq}
use Rattle.std.specs.BTreeMap.{get}
use Rattle.digraph.specs.declared.arc.Arc.{Arc}
use Rattle.adya_dsg.specs.Mirror.{edge_of}
use Rattle.adya_dsg.specs.Machinery.Along.{ends_cmp, first_along}
use Rattle.adya_dsg.proofs.FirstAlong.{noted, had_before, unwanted, front_more}
use Rattle.adya_dsg.proofs.along.note_first.Goals as goal
use Rattle.adya_dsg.proofs.along.note_first.Goals.{then-contains+then-not-contains_key+in_ok-insert, else-contains, else-contains-via-then-contains+else-not-contains_key, else-contains-via-else-contains}

pub loop-e-preserved : goal.loop-e-preserved
loop-e-preserved c cycle before wants first a there =
    let es = before ++ map edge_of (take c.loop-e.e-index c.args.edges.now) in
    let e = c.e-item.result in
    let m = c.loop-e.first in
    let arc = c.arc-arc.result in
    let same = c.arc-arc.ensures in
    let had = c.loop-e.invariant cycle before wants first a there in
    let more = front_more before c.args.edges.now c.loop-e.e-index e c.loop-e-test.true c.e-item.is in
    elim c.if-contains.branch [
      | then-contains+then-not-contains_key+in_ok-insert w ↦ ap (λ x. option_map edge_of (get ends_cmp x (a.from, a.to))) w.first-is ∙
          (noted es e a m had
          (ap (λ (x : Arc). is_some (get ends_cmp m (x.from, x.to))) (sym same) ∙
          (sym w.contains_key.ensures ∙ w.if-not-contains_key.true)) _
          (w.in_ok-insert.ensures.updates.0 (a.from, a.to) ∙
          ap (λ (x : Arc). cond (is_eq (ends_cmp (x.from, x.to) (a.from, a.to))) (Some e) (get ends_cmp m (a.from, a.to))) same) ∙
          ap (λ xs. first_along xs a) (sym more))
      | else-contains w ↦ ap (λ x. option_map edge_of (get ends_cmp x (a.from, a.to))) w.first-is ∙
          (elim w.else-contains.branch [
            | else-contains-via-then-contains+else-not-contains_key w' ↦
                had_before es e a m had
                (ap (λ (x : Arc). is_some (get ends_cmp m (x.from, x.to))) (sym same) ∙
                (sym w'.contains_key.ensures ∙ w'.if-not-contains_key.false))
            | else-contains-via-else-contains w' ↦
                unwanted es e a m had cycle there
                (ap (λ (x : Arc). list_any (λ y. (y.from == x.from) && (y.to == x.to)) cycle) (sym same) ∙
                (sym (wants (arc.from, arc.to)) ∙ (sym c.contains.ensures ∙ w'.if-contains.false)))
          ] ∙ ap (λ xs. first_along xs a) (sym more))
    ]

pub returns : goal.returns
returns c cycle before wants first a there =
    c.loop-e.invariant cycle before wants first a there ∙
    ap (λ zs. first_along (before ++ map edge_of zs) a) (take_all c.loop-e.e-index c.args.edges.now (omega (arith, c.loop-e-test.false)))
