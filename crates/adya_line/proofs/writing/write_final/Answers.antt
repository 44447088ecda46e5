use Rattle.adya_line.specs.Meaning.Spelling.{final_text}
use Rattle.adya_line.proofs.Written.{grew_on, wrote_on, not_wrote}
use Rattle.adya_line.proofs.writing.write_final.Goals as goal

pub returns-in_err-put : goal.returns-in_err-put
returns-in_err-put g c =
    not_wrote g.W.Write.contents _ _ _ c.from_residual.result c.from_residual.ensures.0 c.in_err-put.ensures.wrote

pub returns-in_err-put-2 : goal.returns-in_err-put-2
returns-in_err-put-2 g c =
    let fault = c.from_residual-in_err-put-2 in
    not_wrote g.W.Write.contents _ _ _ fault.result fault.ensures.0 c.in_err-put-2.ensures.wrote

pub returns-in_err-put-3 : goal.returns-in_err-put-3
returns-in_err-put-3 g c =
    let fault = c.from_residual-in_err-put-3 in
    not_wrote g.W.Write.contents _ _ _ fault.result fault.ensures.0 c.in_err-put-3.ensures.wrote

pub returns-in_err-put-4 : goal.returns-in_err-put-4
returns-in_err-put-4 g c =
    let fault = c.from_residual-in_err-put-4 in
    not_wrote g.W.Write.contents _ _ _ fault.result fault.ensures.0 c.in_err-put-4.ensures.wrote

pub returns : goal.returns
unfolding final_text
returns g c =
    rw (c.bytes.ensures.same, c.bytes-2.ensures.same) at
    (wrote_on _ _ _ c.put-5.result
    (grew_on _ _ (grew_on _ _ (grew_on _ _ c.in_ok-put.ensures.wrote c.in_ok-put-2.ensures.wrote)
    c.in_ok-put-3.ensures.wrote) c.in_ok-put-4.ensures.wrote)
    c.put-5.ensures.wrote)
