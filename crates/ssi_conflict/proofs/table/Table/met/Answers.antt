use Rattle.ssi_conflict.specs.Machinery.Index.{writer_in}
use Rattle.ssi_conflict.specs.Machinery.Tables.{row_at}
use Rattle.ssi_conflict.proofs.LowestMet.{smallest_row, least_stamp}
use Rattle.ssi_conflict.proofs.table.Table.met.Goals as goal

pub returns-clause-pivot : goal.returns-clause-pivot
returns-clause-pivot c tidy =
    let m = c.args.self.now in
    let r = c.args.reading.now in
    smallest_row (row_at m) (writer_in m.writes) m.last m.judged.items tidy.indexed r
    c.met.result.pivot c.met.ensures.pivot

pub returns-clause-first : goal.returns-clause-first
returns-clause-first c tidy =
    let m = c.args.self.now in
    let r = c.args.reading.now in
    least_stamp (row_at m) (writer_in m.writes) m.last m.judged.items tidy.indexed r
    c.met.result.first c.met.ensures.first
