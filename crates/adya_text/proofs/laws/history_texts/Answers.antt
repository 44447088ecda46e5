use Rattle.adya_text.proofs.TextLaws.{one_value, no_longer}
use Rattle.adya_text.proofs.HistoryTexts.{is_machine}
use Rattle.adya_text.proofs.laws.history_texts.Goals as goal

pub returns-clause-one_text : goal.returns-clause-one_text
returns-clause-one_text c =
    one_value is_machine c.history_lines.ensures.one_text c.history_lines.ensures.no_line_feed

pub returns-clause-no_proper_prefix : goal.returns-clause-no_proper_prefix
returns-clause-no_proper_prefix c =
    no_longer is_machine c.history_lines.ensures.one_text c.history_lines.ensures.no_line_feed
