use Rattle.std.proofs.Common.{◌++◌, ◌∷◌, [], length, map, sym, ◌∙◌, ap, arith, ◌<◌}
use Rattle.std.proofs.lemmas.List.Sums.{AllPass-from_list_all}
use Rattle.std.proofs.lemmas.List.Elements.{All-nil, All-cons, All-same}
use Rattle.std.proofs.lemmas.Result.{IfOk-from_err}
use Rattle.std.proofs.lemmas.List.{length-map}
use Rattle.adya_values.specs.Meaning.Histories.{Read}
use Rattle.adya_dsg.specs.Machinery.VersionOrders.{ordered_history, ordered_entry, ordered_events}
use Rattle.adya_dsg.specs.Machinery.Choices.{choice_of, choices}
use Rattle.adya_values.specs.Mirror.Numbers.{has_seen}
use Rattle.adya_dsg.specs.declared.selection.Selection.{Selection}
use Rattle.adya_dsg.proofs.EventsAt.{alone, read_is}
use Rattle.adya_dsg.proofs.Selections.{nothing_chosen}
use Rattle.adya_dsg.proofs.selection.select_read.Goals as goal

pub returns-in_default-clause-choices : goal.returns-in_default-clause-choices
returns-in_default-clause-choices c = λ e t b o.
    let h = ordered_history c.args.versions.now in
    let n = ap length o ∙ length-map c.args.seen.now (ordered_entry c.args.versions.now) in
    ap (map (choice_of h)) c.requires.none ∙
    nothing_chosen h e b (λ one. omega (arith, one, n, c.in_default.len_below))

pub returns-in_default-2-clause-choices : goal.returns-in_default-2-clause-choices
returns-in_default-2-clause-choices c = λ e t b o.
    let h = ordered_history c.args.versions.now in
    let n = ap length o ∙ length-map c.args.seen.now (ordered_entry c.args.versions.now) in
    ap (map (choice_of h)) c.requires.none ∙
    nothing_chosen h e b (λ one. omega (arith, one, n, c.in_default.len_at_least))

pub returns-in_ok-push-clause-choices : goal.returns-in_ok-push-clause-choices
returns-in_ok-push-clause-choices c = λ e t b o.
    let h = ordered_history c.args.versions.now in
    let w = ordered_entry c.args.versions.now in
    let s = c.read-item.result in
    let one = alone c.args.seen.now s c.in-len1.len_at_least c.in-len1.len_below c.read-item.is in
    let read = read_is e (w s) b (o ∙ ap (map w) one) in
    ap (map (choice_of h)) (c.in_ok-push.ensures.items ∙ ap (λ ss. ss ++ c.in-Some.selection ∷ []) c.requires.none) ∙
    (c.in-Some.ensures.choice read.0 ∙
    ap (choices h) (sym (read.1 ∙ ap (λ u. Read u (w s).version read.0) t)))

pub returns-in_default-of_read-clause-choices : goal.returns-in_default-of_read-clause-choices
returns-in_default-of_read-clause-choices c = λ e t b o.
    let h = ordered_history c.args.versions.now in
    let w = ordered_entry c.args.versions.now in
    let s = c.read-item.result in
    let one = alone c.args.seen.now s c.in-len1.len_at_least c.in-len1.len_below c.read-item.is in
    let read = read_is e (w s) b (o ∙ ap (map w) one) in
    ap (map (choice_of h)) c.requires.none ∙
    (c.in_default-of_read.ensures.choice read.0 ∙
    ap (choices h) (sym (read.1 ∙ ap (λ u. Read u (w s).version read.0) t)))

pub bounds-seen-0 : goal.bounds-seen-0
bounds-seen-0 c = c.in-len1.len_at_least

pub returns-in_default-clause-within : goal.returns-in_default-clause-within
returns-in_default-clause-within c =
    let within = λ (s : Selection). s.line < length (ordered_history c.args.versions.now).orders in
    All-same within _ [] c.requires.none (All-nil within)

pub returns-in_default-2-clause-within : goal.returns-in_default-2-clause-within
returns-in_default-2-clause-within c =
    let within = λ (s : Selection). s.line < length (ordered_history c.args.versions.now).orders in
    All-same within _ [] c.requires.none (All-nil within)

pub of_read-requires : goal.of_read-requires
of_read-requires c =
    let test = has_seen (ordered_events c.args.versions.now) in
    ap test c.read-item.is ∙ AllPass-from_list_all test c.args.seen.now c.requires.there 0 _ c.in-len1.len_at_least

pub returns-in_err-push-clause-within : goal.returns-in_err-push-clause-within
returns-in_err-push-clause-within c = IfOk-from_err c.from_residual.result _ c.from_residual.ensures.0

pub returns-in_err-push-clause-choices : goal.returns-in_err-push-clause-choices
returns-in_err-push-clause-choices c = λ e t b o. IfOk-from_err c.from_residual.result _ c.from_residual.ensures.0

pub returns-in_ok-push-clause-within : goal.returns-in_ok-push-clause-within
returns-in_ok-push-clause-within c =
    let within = λ (s : Selection). s.line < length (ordered_history c.args.versions.now).orders in
    All-same within _ _ (c.in_ok-push.ensures.items ∙ ap (λ ss. ss ++ c.in-Some.selection ∷ []) c.requires.none)
    (All-cons within c.in-Some.selection [] c.in-Some.ensures.within (All-nil within))

pub returns-in_default-of_read-clause-within : goal.returns-in_default-of_read-clause-within
returns-in_default-of_read-clause-within c =
    let within = λ (s : Selection). s.line < length (ordered_history c.args.versions.now).orders in
    All-same within _ [] c.requires.none (All-nil within)
