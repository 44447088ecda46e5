use Rattle.std.proofs.Common.{◌∙◌}
use Rattle.std.proofs.lemmas.Result.{IfOk-from_err}
use Rattle.adya_values.proofs.arena.Arena.copy.Goals as goal

pub returns-in_err-copy : goal.returns-in_err-copy
returns-in_err-copy c =
    let r = c.from_residual.result in
    let e = c.from_residual.ensures.0 in
    record { keys = IfOk-from_err r _ e; bytes = IfOk-from_err r _ e; listings = IfOk-from_err r _ e; seen = IfOk-from_err r _ e }

pub returns-in_err-from_slice : goal.returns-in_err-from_slice
returns-in_err-from_slice c =
    let r = c.from_residual-in_err-from_slice.result in
    let e = c.from_residual-in_err-from_slice.ensures.0 in
    record { keys = IfOk-from_err r _ e; bytes = IfOk-from_err r _ e; listings = IfOk-from_err r _ e; seen = IfOk-from_err r _ e }

pub returns-in_err-from_slice-2 : goal.returns-in_err-from_slice-2
returns-in_err-from_slice-2 c =
    let r = c.from_residual-in_err-from_slice-2.result in
    let e = c.from_residual-in_err-from_slice-2.ensures.0 in
    record { keys = IfOk-from_err r _ e; bytes = IfOk-from_err r _ e; listings = IfOk-from_err r _ e; seen = IfOk-from_err r _ e }

pub returns-in_err-from_slice-3 : goal.returns-in_err-from_slice-3
returns-in_err-from_slice-3 c =
    let r = c.from_residual-in_err-from_slice-3.result in
    let e = c.from_residual-in_err-from_slice-3.ensures.0 in
    record { keys = IfOk-from_err r _ e; bytes = IfOk-from_err r _ e; listings = IfOk-from_err r _ e; seen = IfOk-from_err r _ e }

pub returns-in_err-from_slice-4 : goal.returns-in_err-from_slice-4
returns-in_err-from_slice-4 c =
    let r = c.from_residual-in_err-from_slice-4.result in
    let e = c.from_residual-in_err-from_slice-4.ensures.0 in
    record { keys = IfOk-from_err r _ e; bytes = IfOk-from_err r _ e; listings = IfOk-from_err r _ e; seen = IfOk-from_err r _ e }

pub invariant_of-result : goal.invariant_of-result
invariant_of-result c = record {
  there = rw (c.in_ok-copy.ensures, c.in_ok-from_slice.ensures.items, c.deref.ensures.value, c.in_ok-from_slice-4.ensures.items, c.deref-4.ensures.value) c.args.self.now.there;
}

pub returns : goal.returns
returns c = record {
  keys = c.in_ok-copy.ensures;
  bytes = c.in_ok-from_slice.ensures.items ∙ c.deref.ensures.value;
  listings = c.in_ok-from_slice-3.ensures.items ∙ c.deref-3.ensures.value;
  seen = c.in_ok-from_slice-4.ensures.items ∙ c.deref-4.ensures.value;
}
