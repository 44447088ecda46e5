use Rattle.adya_text.proofs.LineReaders.{stops_if}
use Rattle.adya_text.proofs.line_reader.LineReader.has_failed.Goals as goal

pub returns-clause-stops : goal.returns-clause-stops
returns-clause-stops g c =
    let reader = c.args.self.now in
    stops_if g.D.Draft.grammar g.D.Draft.has_lines reader.draft reader.fault c.is_some.result c.is_some.ensures
