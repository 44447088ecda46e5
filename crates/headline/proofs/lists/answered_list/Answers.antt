use Rattle.std.proofs.Common.{◌≡◌, ℕ, List, [], Option, Some, Vec, Global, refl, ap}
use Rattle.append_text.specs.Meaning.Notations.{after_mark}
use Rattle.lists_cli.specs.Meaning.Answers.{notation_for}
use Rattle.headline.proofs.ListWords.{list_answer}
use Rattle.headline.proofs.lists.answered_list.Goals as goal

abbrev bytes_in : Vec ℕ Global → Option (List ℕ)
bytes_in v = Some v.items

pub returns-in-Ok-clause-answer : goal.returns-in-Ok-clause-answer
returns-in-Ok-clause-answer c =
    let reads : Some c.new-source.result.device.now ≡ Some c.args.text.now = rw c.new-source.ensures.device refl in
    let order : c.new-order.result.device.items ≡ [] = rw c.new-order.ensures.device c.new.ensures.items in
    let out : c.new-out.result.device.items ≡ [] = rw c.new-out.ensures.device c.new-3.ensures.items in
    let order' : c.judge.new.order.device.items ≡ c.into_inner-in-Ok.result.items = rw c.into_inner-in-Ok.ensures refl in
    let out' : c.judge.new.out.device.items ≡ c.into_inner.result.items = rw c.into_inner.ensures refl in
    list_answer bytes_in bytes_in (notation_for c.args.form (after_mark c.args.text.now)) (after_mark c.args.text.now)
    c.in-Ok.field-0.answer c.in-Ok.field-0.basis c.new-order.result c.judge.new.order c.new-out.result c.judge.new.out
    (c.in-Ok.ensures.answered c.args.text.now reads) c.into_inner.result.items c.into_inner-in-Ok.result.items
    (ap Some order) (ap Some order') (ap Some out) (ap Some out')

pub returns-in-Err-clause-refused : goal.returns-in-Err-clause-refused
returns-in-Err-clause-refused c =
    let text = after_mark c.args.text.now in
    let reads : Some c.new-source.result.device.now ≡ Some c.args.text.now = rw c.new-source.ensures.device refl in
    c.in_memory.ensures (notation_for c.args.form text) text (c.in-Err.ensures.refused c.args.text.now reads)
