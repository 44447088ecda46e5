use Rattle.std.proofs.Common.{◌++◌, map, reverse, sym, ap, ◌∙◌}
use Rattle.edn.specs.Meaning.Views.{form_of}
use Rattle.append_text.proofs.EdnForms.{map-reverse}
use Rattle.append_text.proofs.edn_data.elements_in.Goals as goal

pub returns : goal.returns
returns c = ap (map form_of) c.reverse.ensures.items ∙ map-reverse form_of c.loop-form.elements.items
    ∙ sym (c.loop-form.invariant ∙ ap (λ r. r ++ reverse (map form_of c.loop-form.elements.items)) c.in_default.ensures.none.0)
