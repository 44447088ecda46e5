use Rattle.std.proofs.Common.{◌≡◌, sym, ap, ◌∙◌, w64, arith}
use Rattle.std.proofs.lemmas.Int.{to_z-of_z, ints}
use mir.Val.{to_z, of_z}
use Rattle.edn.specs.Meaning.Views.{form_of, kind_of}
use Rattle.append_text.proofs.EdnForms.{number_of}
use Rattle.append_text.proofs.edn_data.FormData.number.Goals as goal

pub returns-in-Integer : goal.returns-in-Integer
returns-in-Integer c =
    let same : to_z w64 (of_z w64 c.in-Integer.number) ≡ c.in-Integer.number = grind (arith, ints, to_z-of_z, rw c.in-Integer.is at c.kind.type_inv) in
    number_of c.number_of_integer.result (to_z w64 (of_z w64 c.in-Integer.number)) c.in-Integer.number (form_of c.args.self)
    (sym c.kind.ensures.form ∙ ap kind_of c.in-Integer.is) same c.number_of_integer.ensures.some
