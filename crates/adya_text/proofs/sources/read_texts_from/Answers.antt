use Rattle.std.proofs.Common.{Ok, ◌∙◌}
use Rattle.adya_values.specs.declared.history.History.{History as HistoryValue}
use Rattle.adya_text.specs.Clauses.Reading.{ReadsTexts}
use Rattle.adya_text.proofs.LinesRead.{of_all, on_err}
use Rattle.adya_text.proofs.ReadFaults.{ok_no_error, text_no_device}
use Rattle.adya_text.proofs.FewReads.{took_then}
use Rattle.adya_text.proofs.BothTexts.{with_rest, weaker, history_fault, serial_fault, passed_to, passed_from, passed_of}
use Rattle.adya_text.proofs.sources.read_texts_from.Goals as goal

pub returns-in_err-history-clause-answer : goal.returns-in_err-history-clause-answer
returns-in_err-history-clause-answer g c =
    let fault = c.from_residual in
    of_all _ _ (λ stream. ReadsTexts stream fault.result) c.new-lines.ensures
    (weaker _ _ (λ stream. ReadsTexts stream fault.result) c.in_err-history.ensures.answer
    (λ stream reads. history_fault stream _ fault.result fault.ensures.1 reads))

pub returns-in_err-history-clause-ended : goal.returns-in_err-history-clause-ended
returns-in_err-history-clause-ended g c = on_err _ c.from_residual.result c.from_residual.ensures.0

pub returns-in_err-history-clause-fault : goal.returns-in_err-history-clause-fault
returns-in_err-history-clause-fault g c = λ is.
    c.in_err-history.ensures.fault (passed_to c.from_residual.result _ _ c.from_residual.ensures.1 is)

pub returns-in_err-history-clause-unfailed : goal.returns-in_err-history-clause-unfailed
returns-in_err-history-clause-unfailed g c = λ none.
    c.in_err-history.ensures.unfailed (λ is. none (passed_from c.from_residual.result _ _ c.from_residual.ensures.1 is))

pub returns-in_err-history-clause-works : goal.returns-in_err-history-clause-works
returns-in_err-history-clause-works g c = λ of.
    c.in_err-history.ensures.works c.new-lines.ensures (passed_of HistoryValue c.from_residual.result _ c.from_residual.ensures.1 of)

pub returns-in_err-history-clause-stream : goal.returns-in_err-history-clause-stream
returns-in_err-history-clause-stream g c = c.read_history_part.ensures.stream

pub returns-in_err-serial-clause-answer : goal.returns-in_err-serial-clause-answer
returns-in_err-serial-clause-answer g c =
    let fault = c.from_residual-in_err-serial in
    let history = c.in_ok-history in
    of_all _ _ (λ stream. ReadsTexts stream fault.result) c.new-lines.ensures
    (with_rest _ _ _ _ (λ stream. ReadsTexts stream fault.result) history.ensures.answer history.ensures.rest
    c.in_err-serial.ensures.answer
    (λ stream reads faulty. serial_fault stream history.history _ fault.result fault.ensures.1 reads faulty))

pub returns-in_err-serial-clause-ended : goal.returns-in_err-serial-clause-ended
returns-in_err-serial-clause-ended g c = on_err _ c.from_residual-in_err-serial.result c.from_residual-in_err-serial.ensures.0

pub returns-in_err-serial-clause-fault : goal.returns-in_err-serial-clause-fault
returns-in_err-serial-clause-fault g c = λ is. c.in_err-serial.ensures.fault
    (passed_to c.from_residual-in_err-serial.result _ _ c.from_residual-in_err-serial.ensures.1 is)

pub returns-in_err-serial-clause-unfailed : goal.returns-in_err-serial-clause-unfailed
returns-in_err-serial-clause-unfailed g c = λ none.
    c.in_err-serial.ensures.unfailed (λ is.
    none (passed_from c.from_residual-in_err-serial.result _ _ c.from_residual-in_err-serial.ensures.1 is))
    ∙ c.in_ok-history.ensures.unfailed ok_no_error

pub returns-in_err-serial-clause-works : goal.returns-in_err-serial-clause-works
returns-in_err-serial-clause-works g c = λ of.
    c.in_err-serial.ensures.unfailed (λ is. text_no_device c.from_residual-in_err-serial.result of
    (passed_from c.from_residual-in_err-serial.result _ _ c.from_residual-in_err-serial.ensures.1 is))
    ∙ c.in_ok-history.ensures.works c.new-lines.ensures tt

pub returns-in_err-serial-clause-stream : goal.returns-in_err-serial-clause-stream
returns-in_err-serial-clause-stream g c =
    g.met.S.Source.same_trans _ _ _ c.read_history_part.ensures.stream c.read_serial_rest.ensures.stream

pub returns-clause-answer : goal.returns-clause-answer
returns-clause-answer g c =
    let history = c.in_ok-history in
    let serial = c.in_ok-serial in
    of_all _ _ (λ stream. ReadsTexts stream (Ok (history.history, serial.serial))) c.new-lines.ensures
    (with_rest _ _ _ _ (λ stream. ReadsTexts stream (Ok (history.history, serial.serial))) history.ensures.answer history.ensures.rest
    serial.ensures.answer (λ stream first second. (first, second)))

pub returns-clause-ended : goal.returns-clause-ended
returns-clause-ended g c = c.in_ok-serial.ensures.ended.1

pub returns-clause-fault : goal.returns-clause-fault
returns-clause-fault g c = λ is. absurd (ok_no_error is)

pub returns-clause-unfailed : goal.returns-clause-unfailed
returns-clause-unfailed g c = λ none.
    c.in_ok-serial.ensures.unfailed ok_no_error ∙ c.in_ok-history.ensures.unfailed ok_no_error

pub returns-clause-works : goal.returns-clause-works
returns-clause-works g c = λ of.
    c.in_ok-serial.ensures.unfailed ok_no_error ∙ c.in_ok-history.ensures.works c.new-lines.ensures tt

pub returns-clause-stream : goal.returns-clause-stream
returns-clause-stream g c =
    g.met.S.Source.same_trans _ _ _ c.read_history_part.ensures.stream c.read_serial_rest.ensures.stream

pub returns-in_err-history-clause-few : goal.returns-in_err-history-clause-few
returns-in_err-history-clause-few g c = c.read_history_part.ensures.few

pub returns-in_err-serial-clause-few : goal.returns-in_err-serial-clause-few
returns-in_err-serial-clause-few g c =
    took_then _ _ _ _ _ 0 1 c.in_ok-history.ensures.no_idle c.read_serial_rest.ensures.few

pub returns-clause-few : goal.returns-clause-few
returns-clause-few g c = took_then _ _ _ _ _ 0 1 c.in_ok-history.ensures.no_idle c.read_serial_rest.ensures.few
