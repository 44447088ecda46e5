use Rattle.adya_line.proofs.Written.{grew_on, wrote_on, not_wrote}
use Rattle.adya_line.proofs.writing.put_scan.Goals as goal

pub returns-in_err-put_front : goal.returns-in_err-put_front
returns-in_err-put_front g c =
    not_wrote g.W.Write.contents _ _ _ c.from_residual.result c.from_residual.ensures.0 c.in_err-put_front.ensures

pub returns-in_err-put_range : goal.returns-in_err-put_range
returns-in_err-put_range g c =
    let fault = c.from_residual-in_err-put_range in
    not_wrote g.W.Write.contents _ _ _ fault.result fault.ensures.0 c.in_err-put_range.ensures

pub returns-in_err-put_entries : goal.returns-in_err-put_entries
returns-in_err-put_entries g c =
    let fault = c.from_residual-in_err-put_entries in
    not_wrote g.W.Write.contents _ _ _ fault.result fault.ensures.0 c.in_err-put_entries.ensures

pub returns : goal.returns
returns g c =
    wrote_on _ _ _ c.put.result
    (grew_on _ _ (grew_on _ _ c.in_ok-put_front.ensures c.in_ok-put_range.ensures) c.in_ok-put_entries.ensures)
    c.put.ensures.wrote
