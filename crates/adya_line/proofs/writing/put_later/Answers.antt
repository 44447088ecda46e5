use Rattle.adya_line.proofs.Written.{not_wrote}
use Rattle.adya_line.proofs.writing.put_later.Goals as goal

pub returns-in_err-put : goal.returns-in_err-put
returns-in_err-put g c =
    not_wrote g.W.Write.contents _ _ _ c.from_residual.result c.from_residual.ensures.0 c.in_err-put.ensures.wrote

pub returns-in_err-put_number : goal.returns-in_err-put_number
returns-in_err-put_number g c =
    let fault = c.from_residual-in_err-put_number in
    not_wrote g.W.Write.contents _ _ _ fault.result fault.ensures.0 c.in_err-put_number.ensures
