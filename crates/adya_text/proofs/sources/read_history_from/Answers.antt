use Rattle.std.proofs.Common.{refl}
use Rattle.adya_text.specs.Meaning.Texts.{history_text}
use Rattle.adya_text.specs.Clauses.Reading.{ReadsHistory}
use Rattle.adya_text.proofs.TextLaws.{only_history}
use Rattle.adya_text.proofs.LinesRead.{of_all, of_known}
use Rattle.adya_text.proofs.sources.read_history_from.Goals as goal

pub returns-clause-only : goal.returns-clause-only
returns-clause-only g c = λ value is known.
    let laws = c.history_lines.ensures in
    let reads = of_known _ _ (history_text value) (λ text. ReadsHistory text c.read_rest.result) c.new-lines.ensures
    known c.read_rest.ensures.answer in
    only_history laws.one_text laws.no_line_feed (history_text value) c.read_rest.result reads value is refl

pub returns-clause-answer : goal.returns-clause-answer
returns-clause-answer g c = of_all _ _ (λ text. ReadsHistory text c.read_rest.result) c.new-lines.ensures c.read_rest.ensures.answer

pub returns-clause-line_read : goal.returns-clause-line_read
returns-clause-line_read g c = c.read_rest.ensures.line_read refl c.new-lines.ensures
