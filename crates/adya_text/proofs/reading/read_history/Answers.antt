use Rattle.adya_text.proofs.TextLaws.{only_history, but_device}
use Rattle.adya_text.proofs.reading.read_history.Goals as goal

pub returns-clause-only : goal.returns-clause-only
returns-clause-only c = λ value is same.
    let laws = c.history_lines.ensures in
    but_device _ c.read_lines.result c.read_lines.ensures.no_device
    (only_history laws.one_text laws.no_line_feed c.args.text.now c.read_lines.result c.read_lines.ensures.answer
    value is same)
