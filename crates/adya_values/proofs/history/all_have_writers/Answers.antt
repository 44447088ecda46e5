use Rattle.std.proofs.Common.{◌≡◌, ◌∙◌, ◌+◌, ◌==◌, ◌&&◌, ap, arith, drop, length, not, suc, sym, List, ℕ}
use Rattle.std.specs.List.{list_all}
use Rattle.adya_values.specs.Meaning.Histories.{Order}
use Rattle.adya_values.specs.Mirror.Lines.{orders_of}
use Rattle.adya_keys.proofs.PackedLines.{all_from, none_left}
use Rattle.adya_values.proofs.history.all_have_writers.Goals as goal

pub returns-then-is_empty : goal.returns-then-is_empty
returns-then-is_empty c =
    let os = orders_of c.args.orders.now in
    sym (c.loop-i.invariant ∙
    (all_from (λ (ws : List ℕ). not (length ws == 0)) (λ (o : Order). o.writers) os c.loop-i.i c.writers.result.now c.writers.ensures ∙
    ap (λ b. not b && list_all (λ (o : Order). not (length o.writers == 0)) (drop (suc c.loop-i.i) os)) (sym c.is_empty.ensures ∙ c.if-is_empty.true)))

pub loop-i-preserved : goal.loop-i-preserved
loop-i-preserved c =
    let os = orders_of c.args.orders.now in
    let next : suc c.loop-i.i ≡ c.loop-i.i + 1 = omega arith in
    c.loop-i.invariant ∙
    (all_from (λ (ws : List ℕ). not (length ws == 0)) (λ (o : Order). o.writers) os c.loop-i.i c.writers.result.now c.writers.ensures ∙
    (ap (λ b. not b && list_all (λ (o : Order). not (length o.writers == 0)) (drop (suc c.loop-i.i) os)) (sym c.is_empty.ensures ∙ c.if-is_empty.false) ∙
    ap (λ n. list_all (λ (o : Order). not (length o.writers == 0)) (drop n os)) next))

pub returns : goal.returns
returns c =
    let os = orders_of c.args.orders.now in
    sym (c.loop-i.invariant ∙ none_left (λ (o : Order). not (length o.writers == 0)) os c.loop-i.i (omega (arith, c.loop-i-test.false, c.len-i-end.ensures)))
