use Rattle.adya_line.specs.Meaning.Spelling.{order_text}
use Rattle.adya_line.proofs.Written.{grew_on, wrote_on, not_wrote}
use Rattle.adya_line.proofs.writing.write_order.Goals as goal

pub returns-in_err-put : goal.returns-in_err-put
returns-in_err-put g c =
    not_wrote g.W.Write.contents _ _ _ c.from_residual.result c.from_residual.ensures.0 c.in_err-put.ensures.wrote

pub returns-in_err-put-2 : goal.returns-in_err-put-2
returns-in_err-put-2 g c =
    let fault = c.from_residual-in_err-put-2 in
    not_wrote g.W.Write.contents _ _ _ fault.result fault.ensures.0 c.in_err-put-2.ensures.wrote

pub returns-in_err-put-3 : goal.returns-in_err-put-3
returns-in_err-put-3 g c =
    let fault = c.from_residual-in_err-put-3 in
    not_wrote g.W.Write.contents _ _ _ fault.result fault.ensures.0 c.in_err-put-3.ensures.wrote

pub returns-in_err-put_writers : goal.returns-in_err-put_writers
returns-in_err-put_writers g c =
    let fault = c.from_residual-in_err-put_writers in
    not_wrote g.W.Write.contents _ _ _ fault.result fault.ensures.0 c.in_err-put_writers.ensures

pub returns : goal.returns
unfolding order_text
returns g c =
    rw c.bytes.ensures.same at
    (wrote_on _ _ _ c.put-4.result
    (grew_on _ _ (grew_on _ _ (grew_on _ _ c.in_ok-put.ensures.wrote c.in_ok-put-2.ensures.wrote)
    c.in_ok-put-3.ensures.wrote) c.in_ok-put_writers.ensures)
    c.put-4.ensures.wrote)
