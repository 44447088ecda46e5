use Rattle.std.proofs.Common.{arith}
use Rattle.adya_text.proofs.SerialDrafts.{next_is}
use Rattle.adya_text.proofs.serial_draft.SerialDraftDraft.next_line.Goals as goal

pub returns : goal.returns
returns c = λ past run. omega (arith, next_is c.args.self.now past run, c.line_after.ensures, c.number_of.ensures.count, c.deref.ensures.len)
