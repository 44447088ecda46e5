use Rattle.std.proofs.Common.{◌+◌, ◌∙◌, sym, subst}
use Rattle.std.proofs.lemmas.Result.{IfOk-from_err}
use Rattle.adya_keys.specs.declared.indices.Indices.{Indices}
use Rattle.adya_keys.specs.Machinery.Indices.{indices_in}
use Rattle.adya_values.specs.Mirror.Lines.{orders_of}
use Rattle.adya_values.specs.Mirror.Numbers.{keys_of}
use Rattle.adya_terms.specs.Mirror.LineNumbers.{FindsLines}
use Rattle.adya_terms.proofs.LineNumbers.{all_seen, fits_number, none_found, none_more, one_more}
use Rattle.adya_terms.proofs.line_numbers.lines_by_number.Goals as goal
use Rattle.adya_terms.proofs.line_numbers.lines_by_number.Goals.{in-Some+in_ok-set, in_default}

pub loop-i-preserved : goal.loop-i-preserved
loop-i-preserved c =
    let ks = keys_of c.args.events.now in
    let os = orders_of c.args.orders.now in
    let i = c.loop-i.i in
    let ls = (indices_in c.loop-i.lines) in
    let k = c.key.result in
    let at = c.key.ensures in
    let is = c.number_of.ensures.number in
    elim c.match-number_of.branch [
      | in-Some+in_ok-set w ↦
          subst (λ (v : Indices). FindsLines (indices_in v) ks os (i + 1)) (sym w.lines-is)
          (subst (λ xs. FindsLines xs ks os (i + 1)) (sym w.in_ok-set.ensures.ok)
          (one_more ls ks c.key_count-count.ensures.numbered os i k at c.loop-i.invariant w.in-Some.number (sym is ∙ w.in-Some.is)))
      | in_default w ↦
          subst (λ (v : Indices). FindsLines (indices_in v) ks os (i + 1)) (sym w.lines-is)
          (none_more ls ks c.key_count-count.ensures.numbered os i k at c.loop-i.invariant (sym is ∙ w.in_default.is))
    ]

pub overflow_cast-number : goal.overflow_cast-number
overflow_cast-number c =
    let count = c.key_count-count.ensures in
    fits_number c.in-Some.number c.key_count-count.result (keys_of c.args.events.now) c.in-Some.ensures.there count.count count.near

pub loop-i-init : goal.loop-i-init
loop-i-init c =
    none_found _ _ _ _ c.key_count-count.result c.in_ok-add_zeros.ensures.ok c.in_ok-lines.ensures.numbers c.key_count-count.ensures.count

pub returns-in_err-lines : goal.returns-in_err-lines
returns-in_err-lines c = IfOk-from_err _ _ c.from_residual.ensures.0

pub returns-in_err-add_zeros : goal.returns-in_err-add_zeros
returns-in_err-add_zeros c = IfOk-from_err _ _ c.from_residual-in_err-add_zeros.ensures.0

pub returns-in_err-set : goal.returns-in_err-set
returns-in_err-set c = IfOk-from_err _ _ c.from_residual-in_err-set.ensures.0

pub returns : goal.returns
returns c =
    subst (FindsLines (indices_in c.loop-i.lines) (keys_of c.args.events.now) (orders_of c.args.orders.now))
    (all_seen c.loop-i.i c.len-i-end.result _ c.loop-i.auto.i-end c.loop-i-test.false c.len-i-end.ensures.length) c.loop-i.invariant
