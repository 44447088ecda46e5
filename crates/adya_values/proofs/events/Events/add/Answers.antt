use Rattle.std.proofs.Common.{◌∙◌, ◌∷◌, [], ap, map}
use Rattle.std.specs.List.{list_all}
use Rattle.std.proofs.lemmas.List.{map-append}
use Rattle.std.specs.Result.{is_ok}
use Rattle.adya_values.specs.Machinery.Packed.{is_row_of}
use Rattle.adya_values.specs.Mirror.Events.{event_of_row}
use Rattle.adya_values.proofs.PackedRows.{all_with, on_err}
use Rattle.adya_values.proofs.events.Events.add.Goals as goal

pub invariant_of-self : goal.invariant_of-self
invariant_of-self c =
    let a = c.args.self.now.arena in
    let rows = c.args.self.now.rows.items in
    record {
      valid = ap (list_all (is_row_of a)) c.push.ensures.items ∙
          all_with (is_row_of a) rows c.args.row (is_ok c.push.result) c.args.self.now.valid c.requires;
    }

pub returns-in_err-push-clause-err : goal.returns-in_err-push-clause-err
returns-in_err-push-clause-err c =
    on_err c.from_residual.result (ap (map (event_of_row c.args.self.now.arena)) c.in_err-push.ensures.items)

pub returns-clause-ok : goal.returns-clause-ok
returns-clause-ok c =
    ap (map (event_of_row c.args.self.now.arena)) c.in_ok-push.ensures.items ∙
    map-append (event_of_row c.args.self.now.arena) c.args.self.now.rows.items (c.args.row ∷ [])
