use Rattle.std.proofs.Common.{rules, refl}
use Rattle.adya_values.specs.declared.edition.Edition.TheVariants.{One, Two}
use Rattle.adya_values.specs.Mirror.Events.{order_of, final_of}
use Rattle.adya_line.specs.Mirror.{view}
use Rattle.adya_line.specs.Clauses.HistoryLines.{HeadLine, TailLine}
use Rattle.adya_line.proofs.HistoryLines.{only_line, event_line, unfinished_line, order_line, final_line, no_line}
use Rattle.adya_line.proofs.history_lines.history_line.Goals as goal

pub returns-in-Some : goal.returns-in-Some
returns-in-Some c = event_line c.args.text.now (view c.in-Some.event) c.in-Some.ensures.exact

pub returns-in-Some-unfinished : goal.returns-in-Some-unfinished
returns-in-Some-unfinished c =
    unfinished_line c.args.text.now c.in-Some-unfinished.txn c.in-Some-unfinished.ensures

pub returns-in-Some-2 : goal.returns-in-Some-2
returns-in-Some-2 c = order_line c.args.text.now (order_of c.in-Some-2.order) (search rules)

pub returns-in-Some-final_pair : goal.returns-in-Some-final_pair
returns-in-Some-final_pair c =
    final_line c.args.text.now (final_of c.in-Some-final_pair.pair) c.in-Some-final_pair.ensures

pub returns-then-is_history_head : goal.returns-then-is_history_head
returns-then-is_history_head c = only_line (HeadLine One) c.args.text.now tt (c.if-is_history_head.ensures.0 refl)

pub returns-then-is_second_head : goal.returns-then-is_second_head
returns-then-is_second_head c = only_line (HeadLine Two) c.args.text.now tt (c.if-is_second_head.ensures.0 refl)

pub returns-then-is_tail : goal.returns-then-is_tail
returns-then-is_tail c = only_line TailLine c.args.text.now tt (c.if-is_tail.ensures.0 refl)

pub returns : goal.returns
returns c = no_line c.args.text.now (search rules) (search rules) (search rules) (search rules) (search rules)
    (search rules) (search rules)
