use Rattle.std.proofs.Common.{◌≡◌, ◌∙◌, ◌||◌, ◌==◌, sym, ap}
use Rattle.std.specs.List.{list_any}
use Rattle.std.proofs.lemmas.Bool.{or_left}
use Rattle.adya_values.specs.Meaning.Events.{txn_of}
use Rattle.adya_terms.specs.Machinery.EventIndex.{unfinished_in, is_done}
use Rattle.adya_terms.proofs.Found.{found_is}
use Rattle.adya_terms.proofs.ends.is_done.Goals as goal

pub returns-then-has_ended : goal.returns-then-has_ended
returns-then-has_ended c e found =
    let x = c.args.index.now in
    let t = c.txn_at-txn.result in
    let of_event : txn_of e ≡ t = found_is txn_of _ e t c.txn_at-txn.ensures (rw c.events.ensures found) in
    c.if-has_ended.true ∙ sym (ap (is_done x) of_event ∙ or_left _ _ (sym c.has_ended.ensures ∙ c.if-has_ended.true))

pub returns-else-has_ended : goal.returns-else-has_ended
returns-else-has_ended c e found =
    let x = c.args.index.now in
    let t = c.txn_at-txn.result in
    let of_event : txn_of e ≡ t = found_is txn_of _ e t c.txn_at-txn.ensures (rw c.events.ensures found) in
    c.is_unfinished.ensures ∙
    (ap (λ b. b || list_any (λ u. u == t) (unfinished_in x)) (sym (sym c.has_ended.ensures ∙ c.if-has_ended.false)) ∙ sym (ap (is_done x) of_event))
