use Rattle.std.proofs.Common.{sym, ◌∙◌}
use Rattle.adya_text.proofs.LineReaders.{fed_long}
use Rattle.adya_text.proofs.line_reader.LineReader.longest_line.Goals as goal

pub returns-then-is_some : goal.returns-then-is_some
returns-then-is_some g c = λ past fed start longer.
    fed_long g.D.Draft.grammar g.D.Draft.has_lines c.args.self.now.draft c.args.self.now.fault past fed
    (sym c.is_some.ensures ∙ c.if-is_some.true) start longer
