use Rattle.std.proofs.Common.{◌∙◌}
use Rattle.serde_json.specs.View.{view}
use Rattle.append_text.proofs.JsonForms.{array_values}
use Rattle.append_text.proofs.json_data.RefValueData.elements.Goals as goal

pub returns-in_ok-each_of-in-Some : goal.returns-in_ok-each_of-in-Some
returns-in_ok-each_of-in-Some c = array_values (view c.args.self.now) c.in-Some.values.now.items
    c.in_ok-each_of-in-Some.field-0.items c.in-Some.ensures (c.in_ok-each_of-in-Some.ensures ∙ c.deref.ensures.value)
