use Rattle.adya_terms.specs.Clauses.Checked.{history_in}
use Rattle.adya_dsg.proofs.Lines.{lent_lines, lines_rise}
use Rattle.adya_dsg.proofs.version_orders.VersionOrders.orders.Goals as goal

pub history-requires : goal.history-requires
history-requires c = tt

pub orders-requires : goal.orders-requires
orders-requires c = tt

pub returns-clause-value : goal.returns-clause-value
returns-clause-value c = lent_lines (history_in c.args.self.now.checked.now) c.history.result.now c.orders.result.now c.history.ensures.same c.orders.ensures.value

pub returns-clause-rise : goal.returns-clause-rise
returns-clause-rise c = lines_rise (history_in c.args.self.now.checked.now)
