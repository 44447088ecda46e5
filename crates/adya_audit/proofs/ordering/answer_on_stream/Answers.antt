use Rattle.adya_audit.proofs.TextAnswers.{answer_to_text}
use Rattle.adya_audit.proofs.ordering.answer_on_stream.Goals as goal

pub returns-in_ok-answer_on-in-Ok-clause-answer : goal.returns-in_ok-answer_on-in-Ok-clause-answer
returns-in_ok-answer_on-in-Ok-clause-answer g c =
    answer_to_text c.history_texts.ensures.one_text c.accepted_texts_are_serializable.ensures _ c.in-Ok.history _
    c.in-Ok.ensures.answer c.in_ok-answer_on-in-Ok.ensures

pub returns-in-Err-Device-clause-memory : goal.returns-in-Err-Device-clause-memory
returns-in-Err-Device-clause-memory g c = λ e. absurd (cc e)
