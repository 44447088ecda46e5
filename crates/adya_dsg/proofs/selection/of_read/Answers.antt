use Rattle.std.proofs.Common.{option_map, option_to_list, ◌∷◌, [], sym, ◌∙◌, ap}
use Rattle.adya_terms.specs.Clauses.Checked.{history_in}
use Rattle.adya_dsg.specs.Machinery.VersionOrders.{ordered_history, ordered_entry}
use Rattle.adya_dsg.specs.Machinery.Choices.{choice, choice_of, key_at}
use Rattle.adya_dsg.proofs.Lines.{lines_rise}
use Rattle.adya_dsg.proofs.Selections.{read_own, read_nowhere, read_found}
use Rattle.adya_dsg.proofs.selection.of_read.Goals as goal

pub returns-then-eq-clause-choice : goal.returns-then-eq-clause-choice
returns-then-eq-clause-choice c = λ v.
    read_own (ordered_history c.args.versions.now) c.args.txn (ordered_entry c.args.versions.now c.args.read.now).version v
    (sym c.eq.ensures ∙ c.if-eq.true)

pub returns-in_err-line-clause-choice : goal.returns-in_err-line-clause-choice
returns-in_err-line-clause-choice c = λ v.
    let h = ordered_history c.args.versions.now in
    ap (λ o. option_to_list (option_map (choice_of h) o)) c.from_residual.ensures ∙
    read_nowhere h c.args.txn (ordered_entry c.args.versions.now c.args.read.now).version v
    c.in_err-line.ensures.none

pub returns-clause-choice : goal.returns-clause-choice
returns-clause-choice c = λ v.
    let h = ordered_history c.args.versions.now in
    let i = c.in_ok-line.line in
    let rise = lines_rise (history_in c.args.versions.now.checked.now) in
    ap (λ p. choice (key_at h i) p ∷ []) c.place.ensures ∙
    read_found h c.args.txn (ordered_entry c.args.versions.now c.args.read.now).version v rise (sym c.eq.ensures ∙ c.if-eq.false) i
    c.in_ok-line.ensures.within c.in_ok-line.ensures.found
