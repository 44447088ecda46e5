use Rattle.std.proofs.Common.{refl, sym, ◌∙◌, ap, arith}
use Rattle.std.proofs.lemmas.Bool.{ltb-true, ltb-false}
use Rattle.adya_terms.specs.Clauses.Checked.{history_in}
use Rattle.adya_keys.specs.Meaning.Keys.{key_lt}
use Rattle.adya_dsg.specs.Machinery.Choices.{key_at}
use Rattle.adya_dsg.specs.Machinery.VersionOrders.{ordered_history}
use Rattle.adya_dsg.proofs.Lines.{lines_rise, line_from, line_once}
use Rattle.adya_dsg.proofs.selection.is_passed.Goals as goal

pub returns-in-Some-clause-passed : goal.returns-in-Some-clause-passed
returns-in-Some-clause-passed c = λ e i l m same.
    let g = c.args.versions.now in
    let less = ltb-true c.in-Some.own c.args.line e in
    let once = line_once (ordered_history g).orders (lines_rise (history_in g.checked.now)) c.in-Some.own i c.in-Some.ensures.within m
    (c.in-Some.ensures.found ∙ sym same) in
    omega (arith, less, l, once)

pub returns-in-Some-clause-reached : goal.returns-in-Some-clause-reached
returns-in-Some-clause-reached c = λ e.
    let g = c.args.versions.now in
    let k = key_at (ordered_history g) c.args.line in
    ap (λ j. key_lt j k) (sym c.in-Some.ensures.found) ∙
    line_from (ordered_history g).orders (lines_rise (history_in g.checked.now)) k c.args.line refl c.in-Some.own
    (ltb-false c.in-Some.own c.args.line e) c.in-Some.ensures.within
