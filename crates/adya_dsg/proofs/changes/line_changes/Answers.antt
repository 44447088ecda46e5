use Rattle.std.proofs.Common.{◌≡◌, ◌<◌, ℕ, List, Some, length, option_map, slice_get, refl, sym, ◌∙◌, ap, subst, arith, falls}
use Rattle.std.proofs.lemmas.Result.{IfOk-from_err}
use Rattle.adya_values.specs.Meaning.Histories.{Order}
use Rattle.adya_terms.specs.Clauses.Checked.{checked_history, history_in}
use Rattle.adya_dsg.specs.Machinery.Choices.{key_at}
use Rattle.adya_dsg.specs.Machinery.LineChanges.{AreChanges}
use Rattle.adya_dsg.specs.Machinery.Links.{changed_places}
use Rattle.adya_terms.proofs.LineParts.{line_added}
use Rattle.adya_dsg.proofs.Lines.{lent_lines, lines_rise, writers_at}
use Rattle.adya_dsg.proofs.changes.line_changes.Goals as goal

-- the line at hand has these writers
here : (c : goal.After-writers)
    → option_map (λ o. o.writers) (slice_get (checked_history c.args.checked.now).orders c.loop-line.line) ≡ Some c.writers.result.now
here c =
    ap (λ (os : List Order). option_map (λ o. o.writers) (slice_get os c.loop-line.line))
    (sym (lent_lines (history_in c.args.checked.now) c.history.result.now c.orders-orders.result.now c.history.ensures.same c.orders-orders.ensures.value)) ∙
    c.writers.ensures

pub push_changed-requires-clause-here : goal.push_changed-requires-clause-here
push_changed-requires-clause-here c = here c

pub push_changed-requires-clause-writers : goal.push_changed-requires-clause-writers
push_changed-requires-clause-writers c =
    let history = history_in c.args.checked.now in
    let h = checked_history c.args.checked.now in
    let i = c.loop-line.line in
    let lent = lent_lines history c.history.result.now c.orders-orders.result.now c.history.ensures.same c.orders-orders.ensures.value in
    let within = subst (λ (n : ℕ). i < n) (c.len-line-end.ensures.length ∙ ap length lent) c.loop-line-test.true in
    writers_at h.orders (lines_rise history) i within c.writers.result.now (here c)

pub loop-line-preserved : goal.loop-line-preserved
loop-line-preserved c =
    let h = checked_history c.args.checked.now in
    let i = c.loop-line.line in
    line_added (λ line. changed_places h (key_at h line)) c.loop-line.places.items c.loop-line.starts.items i c.loop-line.invariant (changed_places h (key_at h i))
    refl c.push_changed.new.places.items c.push-in-loop-line.new.self.items c.len-in-loop-line.result
    c.in_ok-push_changed.ensures (c.len-in-loop-line.ensures ∙ c.push_changed.new.places.ok.0) c.in_ok-push-2.ensures.items

pub returns : goal.returns
returns c =
    let h = checked_history c.args.checked.now in
    let lent = lent_lines (history_in c.args.checked.now) c.history.result.now c.orders-orders.result.now c.history.ensures.same c.orders-orders.ensures.value in
    let n = c.len-line-end.ensures.length ∙ ap length lent in
    let end = c.loop-line.auto.line-end in
    let past = c.loop-line-test.false in
    let all : c.loop-line.line ≡ length h.orders = omega (arith, n, end, past) in
    subst (AreChanges h c.loop-line.places.items c.loop-line.starts.items) all c.loop-line.invariant

pub history-requires : goal.history-requires
history-requires c = tt

pub orders-orders-requires : goal.orders-orders-requires
orders-orders-requires c = tt

pub len-requires : goal.len-requires
len-requires c = tt

pub saturating_add-requires : goal.saturating_add-requires
saturating_add-requires c = tt

pub len-line-end-requires : goal.len-line-end-requires
len-line-end-requires c = tt

pub returns-in_err-starts : goal.returns-in_err-starts
returns-in_err-starts c = IfOk-from_err c.from_residual.result _ c.from_residual.ensures.0

pub returns-in_err-push : goal.returns-in_err-push
returns-in_err-push c = IfOk-from_err c.from_residual-in_err-push.result _ c.from_residual-in_err-push.ensures.0

pub writers-requires : goal.writers-requires
writers-requires c = subst (λ n. c.loop-line.line < n) c.len-line-end.ensures.length c.loop-line-test.true

pub returns-in_err-push_changed : goal.returns-in_err-push_changed
returns-in_err-push_changed c = IfOk-from_err c.from_residual-in_err-push_changed.result _ c.from_residual-in_err-push_changed.ensures.0

pub returns-in_err-push-2 : goal.returns-in_err-push-2
returns-in_err-push-2 c = IfOk-from_err c.from_residual-in_err-push-2.result _ c.from_residual-in_err-push-2.ensures.0

pub loop-line-smaller : goal.loop-line-smaller
loop-line-smaller c = falls _ _ c.loop-line-test.true

pub invariant_of-result : goal.invariant_of-result
invariant_of-result c = record { ordered = c.loop-line.invariant.ordered }
