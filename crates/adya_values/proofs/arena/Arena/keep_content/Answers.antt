use Rattle.std.proofs.Common.{◌∙◌, ap, sym}
use Rattle.std.proofs.Math.Bool.{false≢true}
use Rattle.std.proofs.lemmas.Result.{IfOk-from_err}
use Rattle.std.specs.Result.{is_ok}
use Rattle.adya_values.proofs.arena.Arena.keep_content.Goals as goal

pub returns-in_err-at-in-Live : goal.returns-in_err-at-in-Live
returns-in_err-at-in-Live c =
    let r = c.from_residual.result in
    let e = c.from_residual.ensures.0 in
    record {
      kept = IfOk-from_err r _ e;
      content = IfOk-from_err r _ e;
      front = c.keep_value.ensures.front;
      keys = c.keep_value.ensures.keys;
      listings = c.keep_value.ensures.listings;
      seen = c.keep_value.ensures.seen;
      len = c.keep_value.ensures.len;
      capacity = c.keep_value.ensures.capacity;
      places = c.keep_value.ensures.places;
      succeeds = λ room. absurd (false≢true (sym (ap is_ok c.in_err-at-in-Live.was) ∙ c.keep_value.ensures.succeeds room));
    }
