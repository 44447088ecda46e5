use Rattle.adya_line.proofs.Written.{not_wrote}
use Rattle.adya_line.proofs.writing.put_writers.Goals as goal

pub returns-in_err-put_number : goal.returns-in_err-put_number
returns-in_err-put_number g c =
    not_wrote g.W.Write.contents _ _ _ c.from_residual.result c.from_residual.ensures.0 c.in_err-put_number.ensures
