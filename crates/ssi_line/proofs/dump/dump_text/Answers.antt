use Rattle.adya_values.specs.Mirror.Histories.{history_of, serial_txns}
use Rattle.ssi_store.specs.Mirror.Finished.{recorded_in}
use Rattle.ssi_store.specs.Mirror.Stores.{IsAt}
use Rattle.ssi_line.proofs.Dumps.{dump_told}
use Rattle.ssi_line.proofs.dump.dump_text.Goals as goal

pub returns : goal.returns
returns g c =
    dump_told c.both_texts.result (λ text. text.items)
    (IsAt {g = g.C.Chains} {h = g.M.Marks} g.C.Chains.held g.M.Marks.marked c.args.store.now)
    (history_of c.history.result.now)
    (recorded_in c.in_ok-finished.finished) (serial_txns c.in_ok-serial.serial) c.both_texts.ensures
    c.history.ensures.same c.in_ok-serial.ensures.accepted
    (λ course at. (c.in_ok-finished.ensures.history course at, c.in_ok-finished.ensures.records course at))
