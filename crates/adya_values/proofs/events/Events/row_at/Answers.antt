use Rattle.std.proofs.Common.{◌≡◌, ◌∙◌, ◌<◌, Some, ap, option_map, slice_get, subst, sym}
use Rattle.std.proofs.lemmas.List.{length-map}
use Rattle.std.proofs.lemmas.Option.{slice_get-map, slice_get_read}
use Rattle.adya_values.specs.Mirror.Events.{event_of_row}
use Rattle.adya_values.specs.Machinery.Packed.{is_row_of}
use Rattle.adya_keys.proofs.Within.{all_found}
use Rattle.adya_values.proofs.events.Events.row_at.Goals as goal

pub index-requires : goal.index-requires
index-requires c =
    let rows = c.args.self.now.rows in
    subst (λ n. c.args.i < n) (length-map rows.items (event_of_row c.args.self.now.arena) ∙ sym rows.ok.0) c.requires

found : (c : goal.After-result-1) → slice_get c.args.self.now.rows.items c.args.i ≡ Some c.index.result.now
found c =
    let rows = c.args.self.now.rows.items in
    slice_get_read rows _ c.args.i c.index.result.now (length-map rows (event_of_row c.args.self.now.arena)) c.requires c.index.ensures

pub returns-clause-event : goal.returns-clause-event
returns-clause-event c =
    let f = event_of_row c.args.self.now.arena in
    slice_get-map f c.args.self.now.rows.items c.args.i ∙ ap (option_map f) (found c)

pub returns-clause-there : goal.returns-clause-there
returns-clause-there c =
    let es = c.args.self.now in
    all_found (is_row_of es.arena) es.rows.items c.args.i c.index.result.now (found c) es.valid
