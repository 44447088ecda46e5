use Rattle.adya_text.proofs.TextLaws.{only_serial, but_device}
use Rattle.adya_text.proofs.reading.read_serial.Goals as goal

pub returns-clause-only : goal.returns-clause-only
returns-clause-only c = λ value is same.
    let laws = c.serial_lines.ensures in
    but_device _ c.read_lines.result c.read_lines.ensures.no_device
    (only_serial laws.one_text laws.no_line_feed c.args.text.now c.read_lines.result c.read_lines.ensures.answer
    value is same)
