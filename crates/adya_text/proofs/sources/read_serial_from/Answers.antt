use Rattle.std.proofs.Common.{refl}
use Rattle.adya_text.specs.Meaning.Texts.{serial_text}
use Rattle.adya_text.specs.Clauses.Reading.{ReadsSerial}
use Rattle.adya_text.proofs.TextLaws.{only_serial}
use Rattle.adya_text.proofs.LinesRead.{of_known}
use Rattle.adya_text.proofs.sources.read_serial_from.Goals as goal

pub returns-clause-only : goal.returns-clause-only
returns-clause-only g c = λ value is known.
    let laws = c.serial_lines.ensures in
    let reads = of_known _ _ (serial_text value) (λ text. ReadsSerial text c.read_rest.result) c.new-lines.ensures
    known c.read_rest.ensures.answer in
    only_serial laws.one_text laws.no_line_feed (serial_text value) c.read_rest.result reads value is refl

pub returns-clause-line_read : goal.returns-clause-line_read
returns-clause-line_read g c = c.read_rest.ensures.line_read refl c.new-lines.ensures
