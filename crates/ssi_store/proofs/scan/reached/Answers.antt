use Rattle.std.proofs.Common.{sym, ◌∙◌}
use Rattle.ssi_store.proofs.LastRows.{to_last}
use Rattle.ssi_store.proofs.scan.reached.Goals as goal

pub returns-in-Some : goal.returns-in-Some
returns-in-Some c = to_last c.args.high c.args.n c.args.rows.now c.in-Some.row.now (c.if-rows-from.false ∙ c.from.ensures)
    (sym c.in-Some.ensures.value)
