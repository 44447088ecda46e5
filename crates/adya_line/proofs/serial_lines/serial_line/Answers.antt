use Rattle.std.proofs.Common.{rules, refl}
use Rattle.adya_line.specs.Clauses.SerialLines.{HeadLine, TailLine}
use Rattle.adya_line.proofs.SerialLines.{only_line, txn_line, no_line}
use Rattle.adya_line.proofs.serial_lines.serial_line.Goals as goal

pub returns-in-Some : goal.returns-in-Some
returns-in-Some c = txn_line c.args.text.now c.in-Some.txn c.in-Some.ensures

pub returns-then-is_serial_head : goal.returns-then-is_serial_head
returns-then-is_serial_head c = only_line HeadLine c.args.text.now tt (c.if-is_serial_head.ensures.0 refl)

pub returns-then-is_tail : goal.returns-then-is_tail
returns-then-is_tail c = only_line TailLine c.args.text.now tt (c.if-is_tail.ensures.0 refl)

pub returns : goal.returns
returns c = no_line c.args.text.now c.in_default.ensures (search rules) (search rules)
