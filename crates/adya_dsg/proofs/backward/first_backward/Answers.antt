use Rattle.std.proofs.Common.{◌≡◌, Option, None, option_map, flat_map, ◌∙◌, sym, ap, subst}
use Rattle.std.specs.List.{find}
use Rattle.std.proofs.lemmas.Result.{IfOk-weaker, IfOk-from_err}
use Rattle.adya_values.specs.declared.history.History.{History as HistoryValue}
use Rattle.adya_values.specs.Mirror.Histories.{history_of, serial_txns}
use Rattle.adya_values.specs.Mirror.Lines.{orders_of}
use Rattle.adya_values.specs.Computing.EdgeList.{event_edges}
use Rattle.adya_values.specs.Computing.Certificates.{first_backward}
use Rattle.adya_terms.specs.Clauses.Checked.{history_in}
use Rattle.adya_dsg.specs.declared.edge.Edge.{Edge}
use Rattle.adya_dsg.specs.Mirror.{edge_of}
use Rattle.adya_dsg.specs.Machinery.PartEdges.{is_backward}
use Rattle.adya_values.specs.Clauses.Acceptance.{IsChecked}
use Rattle.adya_dsg.proofs.Lines.{lent_lines, lines_rise}
use Rattle.adya_dsg.proofs.LinksDecide.{all_writes, readers, no_backward_write, first_is_of_writes, first_is_of_reads}
use Rattle.adya_dsg.proofs.backward.first_backward.Goals as goal

pub returns-then-is_some : goal.returns-then-is_some
returns-then-is_some c =
    let history = history_in c.args.checked.now in
    let h = history_of history in
    let lent = lent_lines history c.history.result.now c.orders.result.now c.history.ensures.same c.orders.ensures.value in
    first_is_of_writes h (lines_rise history) (orders_of c.orders.result.now) lent c.in_ok-certificate.certificate.txns.now
    c.in_ok-found.found c.in_ok-found.ensures c.edge_list_keeps_first.ensures (sym c.is_some.ensures ∙ c.if-is_some.true) ∙
    ap (first_backward h) (c.in_ok-certificate.ensures ∙ c.txns-txns.ensures)

pub first_read-requires-clause-writes : goal.first_read-requires-clause-writes
first_read-requires-clause-writes c =
    let history = history_in c.args.checked.now in
    let lent = lent_lines history c.history.result.now c.orders.result.now c.history.ensures.same c.orders.ensures.value in
    let ts = c.in_ok-certificate.certificate.txns.now in
    subst (λ (x : HistoryValue). find (is_backward ts) (all_writes (history_of x)) ≡ None)
    (sym c.in_ok-versions.ensures.same)
    (no_backward_write (history_of history) (lines_rise history) (orders_of c.orders.result.now) lent ts c.in_ok-found.found
    c.in_ok-found.ensures (sym c.is_some.ensures ∙ c.if-is_some.false))

pub returns : goal.returns
returns c =
    let history = history_in c.args.checked.now in
    let h = history_of history in
    let lent = lent_lines history c.history.result.now c.orders.result.now c.history.ensures.same c.orders.ensures.value in
    let ts = c.in_ok-certificate.certificate.txns.now in
    let of_reads = λ (x : HistoryValue). find (is_backward ts)
    (flat_map (event_edges (history_of x)) (readers (history_of x))) in
    let none = first_is_of_reads h (lines_rise history) (orders_of c.orders.result.now) lent ts c.in_ok-found.found
    c.in_ok-found.ensures c.edge_list_keeps_first.ensures (sym c.is_some.ensures ∙ c.if-is_some.false) in
    IfOk-weaker c.first_read.result
    (λ (o : Option Edge). option_map edge_of o ≡ of_reads (history_in c.in_ok-versions.versions.checked.now))
    (λ (o : Option Edge). option_map edge_of o ≡ first_backward h (serial_txns c.args.serial.now))
    (λ o e. e ∙
    (ap of_reads c.in_ok-versions.ensures.same ∙
    (none ∙ ap (first_backward h) (c.in_ok-certificate.ensures ∙ c.txns-txns.ensures)))) c.first_read.ensures

pub edge_list_keeps_first-requires : goal.edge_list_keeps_first-requires
edge_list_keeps_first-requires c = tt

pub txns-txns-requires : goal.txns-txns-requires
txns-txns-requires c = tt

pub saturating_mul-requires : goal.saturating_mul-requires
saturating_mul-requires c = tt

pub of-requires : goal.of-requires
of-requires c = tt

pub history-requires : goal.history-requires
history-requires c = tt

pub orders-requires : goal.orders-requires
orders-requires c = tt

pub first_write-requires : goal.first_write-requires
first_write-requires c = tt

pub of-requires-2 : goal.of-requires-2
of-requires-2 c = tt

pub returns-in_err-certificate : goal.returns-in_err-certificate
returns-in_err-certificate c = IfOk-from_err c.from_residual.result _ c.from_residual.ensures.0

pub returns-in_err-found : goal.returns-in_err-found
returns-in_err-found c = IfOk-from_err c.from_residual-in_err-found.result _ c.from_residual-in_err-found.ensures.0

pub returns-in_err-versions : goal.returns-in_err-versions
returns-in_err-versions c = IfOk-from_err c.from_residual-in_err-versions.result _ c.from_residual-in_err-versions.ensures.0

pub first_read-requires-clause-checked : goal.first_read-requires-clause-checked
first_read-requires-clause-checked c =
    subst (λ (x : HistoryValue). IsChecked (history_of x)) (c.history.ensures.same ∙ sym c.in_ok-versions.ensures.same)
    c.history.ensures.checked
