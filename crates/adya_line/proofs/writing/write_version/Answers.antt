use Rattle.adya_line.specs.Meaning.Spelling.{version_text}
use Rattle.adya_line.proofs.Written.{grew_on, wrote_on, not_wrote}
use Rattle.adya_line.proofs.writing.write_version.Goals as goal

pub returns-in_err-put : goal.returns-in_err-put
returns-in_err-put g c =
    not_wrote g.W.Write.contents _ _ _ c.from_residual.result c.from_residual.ensures.0 c.in_err-put.ensures.wrote

pub returns-in_err-put-2 : goal.returns-in_err-put-2
returns-in_err-put-2 g c =
    let fault = c.from_residual-in_err-put-2 in
    not_wrote g.W.Write.contents _ _ _ fault.result fault.ensures.0 c.in_err-put-2.ensures.wrote

pub returns-in_err-put_number : goal.returns-in_err-put_number
returns-in_err-put_number g c =
    let fault = c.from_residual-in_err-put_number in
    not_wrote g.W.Write.contents _ _ _ fault.result fault.ensures.0 c.in_err-put_number.ensures

pub returns-in_err-put-3 : goal.returns-in_err-put-3
returns-in_err-put-3 g c =
    let fault = c.from_residual-in_err-put-3 in
    not_wrote g.W.Write.contents _ _ _ fault.result fault.ensures.0 c.in_err-put-3.ensures.wrote

pub returns : goal.returns
unfolding version_text
returns g c =
    rw (c.bytes.ensures.same, c.from.ensures, c.get.ensures.same, c.from-2.ensures, c.get-2.ensures.same) at
    (wrote_on _ _ _ c.put_number-2.result
    (grew_on _ _ (grew_on _ _ (grew_on _ _ c.in_ok-put.ensures.wrote c.in_ok-put-2.ensures.wrote)
    c.in_ok-put_number.ensures) c.in_ok-put-3.ensures.wrote)
    c.put_number-2.ensures)
