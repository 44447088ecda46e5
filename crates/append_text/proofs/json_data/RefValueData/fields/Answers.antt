use Rattle.std.proofs.Common.{sym, ◌∙◌}
use Rattle.std.specs.Prelude.{codes}
use Rattle.serde_json.specs.View.{view}
use Rattle.append_text.proofs.JsonForms.{object_fields, got_field}
use Rattle.append_text.proofs.json_data.RefValueData.fields.Goals as goal

pub returns-clause-some : goal.returns-clause-some
returns-clause-some c =
    let d = view c.args.self.now in
    let (ps, is, fields) = object_fields d (sym c.is_object.ensures ∙ c.if-not-is_object.false) in (
      ps,
      is,
      record {
        kind = got_field c.field_of.result (codes "type") d ps c.field_of.ensures fields;
        f = got_field c.field_of-2.result (codes "f") d ps c.field_of-2.ensures fields;
        value = got_field c.field_of-3.result (codes "value") d ps c.field_of-3.ensures fields;
        process = got_field c.field_of-4.result (codes "process") d ps c.field_of-4.ensures fields;
        index = got_field c.field_of-5.result (codes "index") d ps c.field_of-5.ensures fields;
      },
    )
