use Rattle.std.proofs.Common.{◌∙◌}
use Rattle.append_check.specs.Meaning.Verdicts.{history_of}
use Rattle.append_check.proofs.Holding.{not_true, intermediate_holds}
use Rattle.append_check.proofs.reasons.intermediate.Goals as goal

pub returns : goal.returns
returns c b =
    intermediate_holds (history_of c.args.transactions.now) c.args.read c.in-Some.seen c.in-Some.ensures c.args.writer
    c.as_slice-block.result.now (c.as_slice-block.ensures.value ∙ c.in_ok-block.ensures) (c.meet.ensures.yes c.if-not-meet.false)
    c.if-writer-read.false (c.has_block-whole.ensures (not_true c.has_block-whole.result b))
