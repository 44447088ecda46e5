use Rattle.std.proofs.Common.{◌≡◌, ◌+◌, ◌∙◌, ap, arith, sym}
use Rattle.std.proofs.lemmas.List.{drop_all}
use Rattle.adya_values.specs.Computing.Faults.{final_faults, first}
use Rattle.adya_values.specs.Mirror.Events.{final_of}
use Rattle.adya_values.specs.Mirror.Lines.{finals_of, orders_of}
use Rattle.adya_terms.specs.Machinery.Checks.{parts}
use Rattle.adya_terms.specs.Machinery.EventIndex.{indexed}
use Rattle.adya_terms.proofs.Firsts.{final_here, final_later}
use Rattle.adya_terms.proofs.finals.check_lines.Goals as goal
use Rattle.lemmas.proofs.Steps.{turn_at}

pub loop-i-init : goal.loop-i-init
loop-i-init c =
    let fs = finals_of c.args.finals.now in
    let h = parts (indexed c.args.index.now) (orders_of c.args.orders.now) fs in
    let same : c.args.first ≡ c.args.first + 0 = omega arith in
    ap (λ n. final_faults h n fs) same

pub returns-then-not-is_final : goal.returns-then-not-is_final
returns-then-not-is_final c =
    let fs = finals_of c.args.finals.now in
    let h = parts (indexed c.args.index.now) (orders_of c.args.orders.now) fs in
    let i = c.loop-i.i in
    let f = final_of c.at-pair.result in
    ap first c.loop-i.invariant ∙
    final_here h (c.args.first + i) fs i f (turn_at fs i f c.at-pair.ensures) (sym c.is_final.ensures ∙ c.if-not-is_final.true)

pub loop-i-preserved : goal.loop-i-preserved
loop-i-preserved c =
    let fs = finals_of c.args.finals.now in
    let h = parts (indexed c.args.index.now) (orders_of c.args.orders.now) fs in
    let i = c.loop-i.i in
    let f = final_of c.at-pair.result in
    c.loop-i.invariant ∙
    final_later h c.args.first fs i f (turn_at fs i f c.at-pair.ensures) (sym c.is_final.ensures ∙ c.if-not-is_final.false)

pub returns : goal.returns
returns c =
    let fs = finals_of c.args.finals.now in
    let h = parts (indexed c.args.index.now) (orders_of c.args.orders.now) fs in
    let past = c.loop-i-test.false in
    let count = c.len-i-end.ensures.length in
    c.loop-i.invariant ∙ ap (final_faults h (c.args.first + c.loop-i.i)) (drop_all c.loop-i.i fs (omega (arith, past, count)))
