use Rattle.std.proofs.Common.{◌∙◌, sym, ap}
use Rattle.adya_terms.specs.Machinery.EventIndex.{keys_in, last_in}
use Rattle.adya_terms.specs.Machinery.Tables.{own}
use Rattle.adya_terms.proofs.Numbers.{key_is}
use Rattle.adya_terms.proofs.event_index.EventIndex.last_place.Goals as goal

pub returns-in-Some : goal.returns-in-Some
returns-in-Some c k number =
    let x = c.args.self.now in
    c.last_place.ensures ∙ ap (λ j. last_in x (own c.args.txn j)) (key_is (keys_in x) k c.in-Some.number (sym number ∙ c.in-Some.is))
