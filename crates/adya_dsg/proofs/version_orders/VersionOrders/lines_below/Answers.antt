use Rattle.adya_terms.specs.Clauses.Checked.{history_in}
use Rattle.adya_dsg.specs.Machinery.VersionOrders.{ordered_history, numbered}
use Rattle.adya_dsg.proofs.Lines.{lines_rise, line_below, line_from}
use Rattle.adya_dsg.proofs.version_orders.VersionOrders.lines_below.Goals as goal

pub returns-in-Some-clause-below : goal.returns-in-Some-clause-below
returns-in-Some-clause-below c =
    let g = c.args.self.now in
    line_below (ordered_history g).orders (lines_rise (history_in g.checked.now)) (numbered g c.args.key) c.in-Some.line
    c.in-Some.ensures.within c.in-Some.ensures.found

pub returns-in-Some-clause-others : goal.returns-in-Some-clause-others
returns-in-Some-clause-others c =
    let g = c.args.self.now in
    line_from (ordered_history g).orders (lines_rise (history_in g.checked.now)) (numbered g c.args.key) c.in-Some.line
    c.in-Some.ensures.found
