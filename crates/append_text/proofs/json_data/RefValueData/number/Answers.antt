use Rattle.std.proofs.Common.{◌≡◌, sym, ◌∙◌, w64, arith}
use Rattle.std.proofs.lemmas.Int.{to_z-of_z, ints}
use mir.Val.{to_z, of_z}
use Rattle.serde_json.specs.View.{view}
use Rattle.append_text.specs.Meaning.Json.{form_of}
use Rattle.append_text.proofs.EdnForms.{number_of}
use Rattle.append_text.proofs.JsonForms.{integer_form}
use Rattle.append_text.proofs.json_data.RefValueData.number.Goals as goal

pub returns-in-Some : goal.returns-in-Some
returns-in-Some c =
    let same : to_z w64 (of_z w64 c.in-Some.integer) ≡ c.in-Some.integer =
    grind (arith, ints, to_z-of_z, rw c.in-Some.is at c.as_i64.type_inv) in
    number_of c.number_of_integer.result (to_z w64 (of_z w64 c.in-Some.integer)) c.in-Some.integer (form_of (view c.args.self.now))
    (integer_form (view c.args.self.now) c.in-Some.integer (sym c.as_i64.ensures ∙ c.in-Some.is)) same c.number_of_integer.ensures.some
