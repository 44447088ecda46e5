use Rattle.adya_line.proofs.Written.{wrote_on, not_wrote}
use Rattle.adya_line.proofs.writing.put_end.Goals as goal

pub returns-in_err-put : goal.returns-in_err-put
returns-in_err-put g c =
    not_wrote g.W.Write.contents _ _ _ c.from_residual.result c.from_residual.ensures.0 c.in_err-put.ensures.wrote

pub returns : goal.returns
returns g c =
    rw (c.from.ensures, c.get.ensures.same) at
    (wrote_on _ _ _ c.put_number.result c.in_ok-put.ensures.wrote c.put_number.ensures)
