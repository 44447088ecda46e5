use Rattle.adya_values.specs.Mirror.Histories.{history_of}
use Rattle.adya_text.proofs.HaveTexts.{within_has_text}
use Rattle.adya_text.proofs.laws.history_has_text.Goals as goal

pub returns : goal.returns
returns c =
    within_has_text (history_of c.args.history.now) c.unfinished.ensures.edited c.orders.ensures.shape
    (rw c.unfinished.ensures.value at c.txns_within.ensures) (rw c.events.ensures at c.events_within.ensures)
    (rw c.orders.ensures.value at c.orders_within.ensures) (rw c.finals.ensures at c.finals_within.ensures)
