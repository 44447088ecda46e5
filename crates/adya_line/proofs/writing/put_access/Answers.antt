use Rattle.adya_line.proofs.Written.{grew_on, wrote_on, not_wrote}
use Rattle.adya_line.proofs.writing.put_access.Goals as goal

pub returns-in_err-put_front : goal.returns-in_err-put_front
returns-in_err-put_front g c =
    not_wrote g.W.Write.contents _ _ _ c.from_residual.result c.from_residual.ensures.0 c.in_err-put_front.ensures

pub returns-in_err-write_version : goal.returns-in_err-write_version
returns-in_err-write_version g c =
    let fault = c.from_residual-in_err-write_version in
    not_wrote g.W.Write.contents _ _ _ fault.result fault.ensures.0 c.in_err-write_version.ensures

pub returns-in_err-put : goal.returns-in_err-put
returns-in_err-put g c =
    let fault = c.from_residual-in_err-put in
    not_wrote g.W.Write.contents _ _ _ fault.result fault.ensures.0 c.in_err-put.ensures.wrote

pub returns-in_err-put-2 : goal.returns-in_err-put-2
returns-in_err-put-2 g c =
    let fault = c.from_residual-in_err-put-2 in
    not_wrote g.W.Write.contents _ _ _ fault.result fault.ensures.0 c.in_err-put-2.ensures.wrote

pub returns : goal.returns
returns g c =
    wrote_on _ _ _ c.put-3.result
    (grew_on _ _ (grew_on _ _ (grew_on _ _ c.in_ok-put_front.ensures c.in_ok-write_version.ensures)
    c.in_ok-put.ensures.wrote) c.in_ok-put-2.ensures.wrote)
    c.put-3.ensures.wrote
