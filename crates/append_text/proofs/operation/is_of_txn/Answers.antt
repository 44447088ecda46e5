use Rattle.std.proofs.Common.{false, ap, sym, ◌∙◌}
use Rattle.std.specs.Prelude.{codes}
use Rattle.std.specs.Option.{option_map_or}
use Rattle.append_text.specs.Meaning.Data.{field, is_word}
use Rattle.append_text.proofs.operation.is_of_txn.Goals as goal

pub returns-in-Some : goal.returns-in-Some
returns-in-Some g c =
    let n = g.D.Data.notation in
    let (ps, entries, has) = c.in-Some.ensures.some in
    c.is_word.ensures ∙ ap (λ o. option_map_or (is_word n (codes "txn")) o false) has.f
    ∙ sym (ap (λ o. option_map_or (λ qs. option_map_or (is_word n (codes "txn")) (field n (codes "f") qs) false) o false) entries)

pub returns-in-None : goal.returns-in-None
returns-in-None g c =
    let n = g.D.Data.notation in
    sym (ap (λ o. option_map_or (λ qs. option_map_or (is_word n (codes "txn")) (field n (codes "f") qs) false) o false) c.in-None.ensures.none)
