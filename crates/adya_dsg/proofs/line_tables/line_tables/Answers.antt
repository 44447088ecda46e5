use Rattle.std.proofs.Common.{◌<◌, ◌∙◌, ℕ, List, option_map, length, slice_get, subst, sym, ap}
use Rattle.adya_values.specs.Meaning.Histories.{Order}
use Rattle.adya_terms.specs.Clauses.Checked.{checked_history, history_in}
use Rattle.adya_dsg.specs.Machinery.Places.{AreTables}
use Rattle.adya_dsg.proofs.LineTables.{table_added}
use Rattle.adya_dsg.proofs.Lines.{lent_lines, lines_rise, writers_at}
use Rattle.adya_dsg.proofs.line_tables.line_tables.Goals as goal
use Rattle.adya_dsg.proofs.line_tables.line_tables.Goals.{then-txns-gt-SHORT_LINE+in_ok-of+in_ok-insert+in-Some-1, then-txns-gt-SHORT_LINE+in_ok-of+in_ok-insert+in-None-1, else-txns-gt-SHORT_LINE}

pub loop-line-preserved : goal.loop-line-preserved
loop-line-preserved c =
    let history = history_in c.args.checked.now in
    let h = checked_history c.args.checked.now in
    let i = c.loop-line.line in
    let lent = lent_lines history c.history.result.now c.orders-orders.result.now c.history.ensures.same c.orders-orders.ensures.value in
    let within = subst (λ (n : ℕ). i < n) (c.len-line-end.ensures.length ∙ ap length lent) c.loop-line-test.true in
    let ws = writers_at h.orders (lines_rise history) i within c.writers-txns.result.now
    (ap (λ (os : List Order). option_map (λ o. o.writers) (slice_get os i)) (sym lent) ∙ c.writers-txns.ensures) in
    let old = c.loop-line.tables in
    elim c.if-txns-gt-SHORT_LINE.branch [
      | then-txns-gt-SHORT_LINE+in_ok-of+in_ok-insert+in-Some-1 w ↦
          subst (AreTables h) (sym w.tables-is)
          (table_added h old w.insert.new.self i w.in_ok-of.field-0 c.loop-line.invariant (w.in_ok-of.ensures ∙ ws)
          w.in_ok-insert.ensures.updates.0)
      | then-txns-gt-SHORT_LINE+in_ok-of+in_ok-insert+in-None-1 w ↦
          subst (AreTables h) (sym w.tables-is)
          (table_added h old w.insert.new.self i w.in_ok-of.field-0 c.loop-line.invariant (w.in_ok-of.ensures ∙ ws)
          w.in_ok-insert.ensures.updates.0)
      | else-txns-gt-SHORT_LINE w ↦ subst (AreTables h) (sym w.tables-is) c.loop-line.invariant
    ]
