use Rattle.adya_line.specs.Machinery.Fronts.{front_text}
use Rattle.adya_line.proofs.Written.{grew_on, wrote_on, not_wrote}
use Rattle.adya_line.proofs.writing.put_front.Goals as goal

pub returns-in_err-put : goal.returns-in_err-put
returns-in_err-put g c =
    not_wrote g.W.Write.contents _ _ _ c.from_residual.result c.from_residual.ensures.0 c.in_err-put.ensures.wrote

pub returns-in_err-put_number : goal.returns-in_err-put_number
returns-in_err-put_number g c =
    let fault = c.from_residual-in_err-put_number in
    not_wrote g.W.Write.contents _ _ _ fault.result fault.ensures.0 c.in_err-put_number.ensures

pub returns : goal.returns
unfolding front_text
returns g c =
    rw (c.from.ensures, c.get.ensures.same) at
    (wrote_on _ _ _ c.put-2.result (grew_on _ _ c.in_ok-put.ensures.wrote c.in_ok-put_number.ensures) c.put-2.ensures.wrote)
