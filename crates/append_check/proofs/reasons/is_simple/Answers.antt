use Rattle.std.proofs.Common.{◌∙◌}
use Rattle.append_check.specs.Meaning.Verdicts.{history_of}
use Rattle.append_check.proofs.Starts.{flagged_are_simple, starts_are_kept}
use Rattle.append_check.proofs.reasons.is_simple.Goals as goal

pub returns-in-Some : goal.returns-in-Some
returns-in-Some c b =
    let links = c.args.links.now in
    let told = rw c.in-Some.is at c.in_ok-listed.ensures in
    let starts = c.as_slice-starts.result.now in
    let is = c.as_slice-starts.ensures.value ∙ c.in_ok-starts.ensures in (
      flagged_are_simple links starts is c.in-Some.field-0.items told.1,
      starts_are_kept links starts is (history_of c.args.transactions.now) (c.one_aborted.ensures c.if-one_aborted.false),
    )
