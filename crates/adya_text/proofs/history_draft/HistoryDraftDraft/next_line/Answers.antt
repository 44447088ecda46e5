use Rattle.std.proofs.Common.{arith}
use Rattle.adya_text.proofs.HistoryDrafts.{next_is}
use Rattle.adya_text.proofs.history_draft.HistoryDraftDraft.next_line.Goals as goal

pub returns : goal.returns
returns c = λ past run. omega (arith, next_is c.args.self.now past run, c.line_after.ensures, c.total.ensures.count, c.deref.ensures.len)
