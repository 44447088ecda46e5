use Rattle.std.proofs.Common.{◌∙◌, ◌++◌, ◌∷◌, [], ap, map}
use Rattle.std.proofs.lemmas.Result.{on_err_weaker, on_ok_weaker}
use Rattle.adya_values.specs.Mirror.Events.{event_of_row}
use Rattle.adya_values.proofs.PackedRows.{on_err, same_events, valid_stays}
use Rattle.adya_values.proofs.events.Events.push_read.Goals as goal

pub invariant_of-self : goal.invariant_of-self
invariant_of-self c = record {
  valid = valid_stays c.args.self.now.arena c.keep_read.new.self c.keep_read.ensures.extends c.args.self.now.rows.items c.args.self.now.valid;
}

pub returns-in_err-row-clause-err : goal.returns-in_err-row-clause-err
returns-in_err-row-clause-err c =
    on_err c.from_residual.result (same_events c.args.self.now.arena c.keep_read.new.self c.keep_read.ensures.extends c.args.self.now.rows.items c.args.self.now.valid)

pub returns-clause-ok : goal.returns-clause-ok
returns-clause-ok c =
    let b = c.keep_read.new.self in
    let rows = c.args.self.now.rows.items in
    let same = same_events c.args.self.now.arena b c.keep_read.ensures.extends rows c.args.self.now.valid in
    on_ok_weaker c.add.result (λ p. p ∙ (ap (λ es. es ++ event_of_row b c.in_ok-row.row ∷ []) same ∙
    ap (λ e. map (event_of_row c.args.self.now.arena) rows ++ e ∷ []) c.in_ok-row.ensures.event)) c.add.ensures.ok

pub returns-clause-err : goal.returns-clause-err
returns-clause-err c =
    on_err_weaker c.add.result
    (λ p. p ∙ same_events c.args.self.now.arena c.keep_read.new.self c.keep_read.ensures.extends c.args.self.now.rows.items c.args.self.now.valid) c.add.ensures.err
