use Rattle.adya_values.specs.Meaning.Histories.{Order}
use Rattle.adya_values.specs.Mirror.Lines.{orders_of}
use Rattle.adya_terms.proofs.BelowKeys.{missing}
use Rattle.adya_terms.proofs.listed.line_of.Goals as goal

pub returns : goal.returns
returns c =
    missing (λ (o : Order). o.key) (orders_of c.args.orders.now) c.args.key c.requires c.below-at.result (c.below-at.ensures.below c.requires) c.if-is_of-2.ensures.no
