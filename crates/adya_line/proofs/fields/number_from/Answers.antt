use Rattle.std.proofs.Common.{◌+◌, ◌*◌, sym, ◌∙◌, arith}
use Rattle.adya_line.proofs.Digits.{one_digit, digit_shorter, too_large, no_digit}
use Rattle.adya_line.proofs.fields.number_from.Goals as goal

pub returns-then-longer-gt4294967295 : goal.returns-then-longer-gt4294967295
returns-then-longer-gt4294967295 c =
    let on = one_digit c.digits.number c.digits.rest.now c.in-Some.left.now c.in-Some.digit c.in-Some.ensures.exact in
    let large = too_large (c.digits.number * 10 + c.in-Some.digit) c.in-Some.left.now (omega (arith, c.if-longer-gt4294967295.true, c.from.ensures, c.from-in-Some.ensures)) in
    sym c.digits.invariant.1 ∙ on ∙ large

pub digits-smaller : goal.digits-smaller
digits-smaller c = digit_shorter c.digits.rest.now _ _ c.in-Some.ensures.exact

pub digits-preserved : goal.digits-preserved
digits-preserved c =
    let on = one_digit c.digits.number c.digits.rest.now c.in-Some.left.now c.in-Some.digit c.in-Some.ensures.exact in
    (omega (arith, c.if-longer-gt4294967295.false), rw (c.from.ensures, c.from-in-Some.ensures) (sym on ∙ c.digits.invariant.1))

pub returns : goal.returns
returns c = sym c.digits.invariant.1 ∙ no_digit c.digits.number c.digits.rest.now c.in_default.ensures.exact c.digits.invariant.0
