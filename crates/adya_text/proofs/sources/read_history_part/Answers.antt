use Rattle.std.proofs.Common.{◌≡◌, ◌≢◌, List, [], ◌∷◌, ◌++◌, ℕ, Some, refl, sym, ap, ◌∙◌, subst, inl, inr}
use Rattle.std.specs.Io.KnownBytes.{prepend_known}
use Rattle.std.proofs.lemmas.Bool.{false≢true}
use Rattle.adya_line.specs.Meaning.Spelling.{tail}
use Rattle.adya_text.specs.Clauses.Faults.{IsCut}
use Rattle.adya_text.specs.Machinery.LineReaders.{complete, stopped, long}
use Rattle.adya_text.specs.Machinery.LongLines.{HasStart, StartsNoLine}
use Rattle.adya_text.specs.Clauses.Grammars.{AreHistoryLines}
use Rattle.adya_text.specs.Clauses.Reading.{IsOfText, ReadsHistory}
use Rattle.adya_text.specs.Clauses.Streams.{history_part, serial_part}
use Rattle.std.proofs.lemmas.List.Elements.{All-nil, All-push}
use Rattle.adya_text.specs.Meaning.Texts.{with_ends}
use Rattle.adya_text.proofs.FewReads.{took_none, took_then}
use Rattle.adya_text.proofs.HistoryEnds.{no_history}
use Rattle.adya_text.proofs.LinesRead.{none_read, line_read, rest_unread, prefix_read, start_read, all_read, on_ok, on_err}
use Rattle.adya_text.specs.Laws.{HasNoEnd}
use Rattle.adya_text.proofs.ReadFaults.{of_any, text_no_device, ok_no_error, of_memory, memory_no_device, of_no_line, line_device, device_line}
use Rattle.adya_text.proofs.StreamParts.{part_front, part_start, part_at_end, part_of_all}
use Rattle.adya_text.proofs.sources.read_history_part.Goals as goal

pub loop-line-init : goal.loop-line-init
loop-line-init g c =
    (g.met.S.Source.same_refl _, refl, λ none. inl none, took_none _ _ _, ([], c.new-reader.ensures [] c.new.ensures, All-nil _, none_read))

pub returns-then-is_tail-clause-answer : goal.returns-then-is_tail-clause-answer
returns-then-is_tail-clause-answer g c =
    let (stream, same, works, few, (past, fed, other, read)) = c.loop-line.invariant in
    let line = c.next_line.new.line.items in
    let next = c.in_ok-next_line.ensures in
    let more = rw c.deref.ensures.value at (c.in_ok-line.ensures past fed) in
    let after = line_read _ line read c.if-branch.true next.plain next.bytes in
    let is_end : line ≡ tail = sym c.deref-in-loop-line.ensures.value ∙ c.if-is_tail.ensures.0 refl in
    rest_unread (λ stream. ReadsHistory (history_part stream) c.finish.result) after
    (λ rest left. c.finish.ensures.answer (past ++ line ∷ []) more _
    (complete (part_at_end past line rest other is_end after.plain read.plain).0))

pub returns-then-is_tail-clause-rest : goal.returns-then-is_tail-clause-rest
returns-then-is_tail-clause-rest g c =
    let (stream, same, works, few, (past, fed, other, read)) = c.loop-line.invariant in
    let line = c.next_line.new.line.items in
    let next = c.in_ok-next_line.ensures in
    let after = line_read _ line read c.if-branch.true next.plain next.bytes in
    let is_end : line ≡ tail = sym c.deref-in-loop-line.ensures.value ∙ c.if-is_tail.ensures.0 refl in
    let left = prepend_known c.next_line.new.self (g.S.Read.remaining c.next_line.new.source) in
    on_ok c.finish.result
    (rest_unread (λ stream. left ≡ Some (serial_part stream)) after
    (λ rest is. is ∙ ap (λ (l : List ℕ). Some l)
    (sym (part_at_end past line rest other is_end after.plain read.plain).1)))

pub returns-then-has_failed-clause-answer : goal.returns-then-has_failed-clause-answer
returns-then-has_failed-clause-answer g c =
    let (stream, same, works, few, (past, fed, other, read)) = c.loop-line.invariant in
    let line = c.next_line.new.line.items in
    let next = c.in_ok-next_line.ensures in
    let more = rw c.deref.ensures.value at (c.in_ok-line.ensures past fed) in
    let no_end : HasNoEnd (past ++ line ∷ []) = All-push (λ l. l ≢ tail) past line other
    (λ is. false≢true (c.if-is_tail.ensures.1 (c.deref-in-loop-line.ensures.value ∙ is))) in
    prefix_read (λ stream. ReadsHistory (history_part stream) c.finish-then-has_failed.result)
    (line_read _ line read c.if-branch.true next.plain next.bytes)
    (λ stream front. c.finish-then-has_failed.ensures.answer (past ++ line ∷ []) more (history_part stream)
    (stopped (c.if-has_failed.ensures.stops (past ++ line ∷ []) more)
    (part_front stream (past ++ line ∷ []) no_end front)))

pub loop-line-preserved : goal.loop-line-preserved
loop-line-preserved g c =
    let (stream, same, works, few, (past, fed, other, read)) = c.loop-line.invariant in
    let line = c.next_line.new.line.items in
    let next = c.in_ok-next_line.ensures in (
      g.met.S.Source.same_trans _ _ _ stream c.next_line.ensures.stream,
      next.unfailed ok_no_error ∙ same,
      λ empty. inr (next.works (works empty)),
      took_then _ _ _ _ _ 0 0 few (next.no_idle (inl c.if-branch.true)),
      (
        past ++ line ∷ [],
        rw c.deref.ensures.value at (c.in_ok-line.ensures past fed),
        All-push (λ l. l ≢ tail) past line other
            (λ is. false≢true (c.if-is_tail.ensures.1 (c.deref-in-loop-line.ensures.value ∙ is))),
        line_read _ line read c.if-branch.true next.plain next.bytes,
      ),
    )

pub returns-clause-answer : goal.returns-clause-answer
returns-clause-answer g c =
    let (stream, same, works, few, (past, fed, other, read)) = c.loop-line.invariant in
    let line = c.next_line.new.line.items in
    let next = c.in_ok-next_line.ensures in
    elim (next.end c.if-branch.false) [
      | inl longer ↦
          let none = subst (StartsNoLine AreHistoryLines past) (sym c.deref-2.ensures.value)
          (c.longest_line.ensures past fed line longer) in
          start_read _ line (λ stream. ReadsHistory (history_part stream) c.finish-2.result) read c.if-branch.false
          next.plain next.bytes
          (λ stream start. c.finish-2.ensures.answer past fed (history_part stream)
          (long none (subst (HasStart (history_part stream) past) (sym c.deref-2.ensures.value)
          (part_start stream past line other start))))
      | inr end ↦
          all_read _ _ line (λ stream. ReadsHistory (history_part stream) c.finish-2.result) read c.if-branch.false
          next.plain next.bytes end
          (λ stream cut left.
          let here : IsCut (history_part stream) past line =
          subst (λ t. IsCut t past line) (sym (part_of_all stream past line other cut).0) cut in
          c.finish-2.ensures.answer past fed (history_part stream)
          (complete (subst (IsCut (history_part stream) past) (sym c.deref-2.ensures.value) here)))
    ]

pub returns-clause-rest : goal.returns-clause-rest
returns-clause-rest g c =
    let (stream, same, works, few, (past, fed, other, read)) = c.loop-line.invariant in
    let line = c.next_line.new.line.items in
    let next = c.in_ok-next_line.ensures in
    let left = prepend_known c.next_line.new.self (g.S.Read.remaining c.next_line.new.source) in
    elim (next.end c.if-branch.false) [
      | inl longer ↦ on_err _ c.finish-2.result (c.finish-2.ensures.refused past fed
          (inr (subst (StartsNoLine AreHistoryLines past) (sym c.deref-2.ensures.value)
          (c.longest_line.ensures past fed line longer))))
      | inr end ↦
          on_ok c.finish-2.result
          (all_read _ _ line (λ stream. left ≡ Some (serial_part stream)) read c.if-branch.false next.plain next.bytes
          end
          (λ stream cut is. is ∙ ap (λ (l : List ℕ). Some l) (sym (part_of_all stream past line other cut).1)))
    ]

pub returns-clause-stream : goal.returns-clause-stream
returns-clause-stream g c = g.met.S.Source.same_trans _ _ _ c.loop-line.invariant.0 c.next_line.ensures.stream

pub returns-then-is_tail-clause-stream : goal.returns-then-is_tail-clause-stream
returns-then-is_tail-clause-stream g c = g.met.S.Source.same_trans _ _ _ c.loop-line.invariant.0 c.next_line.ensures.stream

pub returns-then-has_failed-clause-stream : goal.returns-then-has_failed-clause-stream
returns-then-has_failed-clause-stream g c = g.met.S.Source.same_trans _ _ _ c.loop-line.invariant.0 c.next_line.ensures.stream

pub returns-clause-fault : goal.returns-clause-fault
returns-clause-fault g c = λ is. absurd (text_no_device c.finish-2.result c.finish-2.ensures.of_text is)

pub returns-then-is_tail-clause-fault : goal.returns-then-is_tail-clause-fault
returns-then-is_tail-clause-fault g c = λ is. absurd (text_no_device c.finish.result c.finish.ensures.of_text is)

pub returns-then-has_failed-clause-fault : goal.returns-then-has_failed-clause-fault
returns-then-has_failed-clause-fault g c = λ is.
    absurd (text_no_device c.finish-then-has_failed.result c.finish-then-has_failed.ensures.of_text is)

pub returns-clause-unfailed : goal.returns-clause-unfailed
returns-clause-unfailed g c = λ none. c.in_ok-next_line.ensures.unfailed ok_no_error ∙ c.loop-line.invariant.1

pub returns-then-is_tail-clause-unfailed : goal.returns-then-is_tail-clause-unfailed
returns-then-is_tail-clause-unfailed g c = λ none. c.in_ok-next_line.ensures.unfailed ok_no_error ∙ c.loop-line.invariant.1

pub returns-then-has_failed-clause-unfailed : goal.returns-then-has_failed-clause-unfailed
returns-then-has_failed-clause-unfailed g c = λ none. c.in_ok-next_line.ensures.unfailed ok_no_error ∙ c.loop-line.invariant.1

pub returns-clause-works : goal.returns-clause-works
returns-clause-works g c = λ empty of. c.in_ok-next_line.ensures.works (c.loop-line.invariant.2 empty)

pub returns-then-is_tail-clause-works : goal.returns-then-is_tail-clause-works
returns-then-is_tail-clause-works g c = λ empty of. c.in_ok-next_line.ensures.works (c.loop-line.invariant.2 empty)

pub returns-then-has_failed-clause-works : goal.returns-then-has_failed-clause-works
returns-then-has_failed-clause-works g c = λ empty of. c.in_ok-next_line.ensures.works (c.loop-line.invariant.2 empty)

pub returns-then-has_failed-clause-rest : goal.returns-then-has_failed-clause-rest
returns-then-has_failed-clause-rest g c =
    let (stream, same, works, few, (past, fed, other, read)) = c.loop-line.invariant in
    let line = c.next_line.new.line.items in
    let more = rw c.deref.ensures.value at (c.in_ok-line.ensures past fed) in
    on_err _ c.finish-then-has_failed.result (c.finish-then-has_failed.ensures.refused (past ++ line ∷ []) more
    (inl (c.if-has_failed.ensures.stops (past ++ line ∷ []) more)))

pub returns-in_err-next_line-clause-answer : goal.returns-in_err-next_line-clause-answer
returns-in_err-next_line-clause-answer g c =
    of_any _ _ (λ stream. of_no_line (ReadsHistory (history_part stream)) c.from_residual.result _ c.from_residual.ensures.1 tt tt)

pub returns-in_err-next_line-clause-rest : goal.returns-in_err-next_line-clause-rest
returns-in_err-next_line-clause-rest g c = on_err _ c.from_residual.result c.from_residual.ensures.0

pub returns-in_err-next_line-clause-fault : goal.returns-in_err-next_line-clause-fault
returns-in_err-next_line-clause-fault g c = λ is.
    c.in_err-next_line.ensures.fault (line_device c.from_residual.result _ c.from_residual.ensures.1 is)

pub returns-in_err-next_line-clause-unfailed : goal.returns-in_err-next_line-clause-unfailed
returns-in_err-next_line-clause-unfailed g c = λ none.
    c.in_err-next_line.ensures.unfailed (λ is. none (device_line c.from_residual.result _ c.from_residual.ensures.1 is))
    ∙ c.loop-line.invariant.1

pub returns-in_err-next_line-clause-works : goal.returns-in_err-next_line-clause-works
returns-in_err-next_line-clause-works g c = λ empty of.
    absurd (of_no_line (λ r. IsOfText r → ⊥) c.from_residual.result _ c.from_residual.ensures.1 (λ no. no) (λ no. no) of)

pub returns-in_err-next_line-clause-stream : goal.returns-in_err-next_line-clause-stream
returns-in_err-next_line-clause-stream g c = g.met.S.Source.same_trans _ _ _ c.loop-line.invariant.0 c.next_line.ensures.stream

pub returns-in_err-line-clause-answer : goal.returns-in_err-line-clause-answer
returns-in_err-line-clause-answer g c =
    of_any _ _ (λ stream. of_memory (ReadsHistory (history_part stream)) c.from_residual-in_err-line.result
    c.from_residual-in_err-line.ensures.1 tt)

pub returns-in_err-line-clause-rest : goal.returns-in_err-line-clause-rest
returns-in_err-line-clause-rest g c = on_err _ c.from_residual-in_err-line.result c.from_residual-in_err-line.ensures.0

pub returns-in_err-line-clause-fault : goal.returns-in_err-line-clause-fault
returns-in_err-line-clause-fault g c = λ is.
    absurd (memory_no_device c.from_residual-in_err-line.result c.from_residual-in_err-line.ensures.1 is)

pub returns-in_err-line-clause-unfailed : goal.returns-in_err-line-clause-unfailed
returns-in_err-line-clause-unfailed g c = λ none. c.in_ok-next_line.ensures.unfailed ok_no_error ∙ c.loop-line.invariant.1

pub returns-in_err-line-clause-works : goal.returns-in_err-line-clause-works
returns-in_err-line-clause-works g c = λ empty of. c.in_ok-next_line.ensures.works (c.loop-line.invariant.2 empty)

pub returns-in_err-line-clause-stream : goal.returns-in_err-line-clause-stream
returns-in_err-line-clause-stream g c = g.met.S.Source.same_trans _ _ _ c.loop-line.invariant.0 c.next_line.ensures.stream

pub returns-clause-few : goal.returns-clause-few
returns-clause-few g c = took_then _ _ _ _ _ 0 1 c.loop-line.invariant.3 c.next_line.ensures.few

pub returns-then-is_tail-clause-few : goal.returns-then-is_tail-clause-few
returns-then-is_tail-clause-few g c = took_then _ _ _ _ _ 0 1 c.loop-line.invariant.3 c.next_line.ensures.few

pub returns-then-has_failed-clause-few : goal.returns-then-has_failed-clause-few
returns-then-has_failed-clause-few g c = took_then _ _ _ _ _ 0 1 c.loop-line.invariant.3 c.next_line.ensures.few

pub returns-in_err-next_line-clause-few : goal.returns-in_err-next_line-clause-few
returns-in_err-next_line-clause-few g c = took_then _ _ _ _ _ 0 1 c.loop-line.invariant.3 c.next_line.ensures.few

pub returns-in_err-line-clause-few : goal.returns-in_err-line-clause-few
returns-in_err-line-clause-few g c = took_then _ _ _ _ _ 0 1 c.loop-line.invariant.3 c.next_line.ensures.few

pub returns-then-is_tail-clause-no_idle : goal.returns-then-is_tail-clause-no_idle
returns-then-is_tail-clause-no_idle g c =
    on_ok c.finish.result
    (took_then _ _ _ _ _ 0 0 c.loop-line.invariant.3 (c.in_ok-next_line.ensures.no_idle (inl c.if-branch.true)))

pub returns-then-has_failed-clause-no_idle : goal.returns-then-has_failed-clause-no_idle
returns-then-has_failed-clause-no_idle g c =
    on_ok c.finish-then-has_failed.result
    (took_then _ _ _ _ _ 0 0 c.loop-line.invariant.3 (c.in_ok-next_line.ensures.no_idle (inl c.if-branch.true)))

pub returns-in_err-next_line-clause-no_idle : goal.returns-in_err-next_line-clause-no_idle
returns-in_err-next_line-clause-no_idle g c = on_err _ c.from_residual.result c.from_residual.ensures.0

pub returns-in_err-line-clause-no_idle : goal.returns-in_err-line-clause-no_idle
returns-in_err-line-clause-no_idle g c = on_err _ c.from_residual-in_err-line.result c.from_residual-in_err-line.ensures.0

pub returns-clause-no_idle : goal.returns-clause-no_idle
returns-clause-no_idle g c =
    let (stream, same, works, few, (past, fed, other, read)) = c.loop-line.invariant in
    let line = c.next_line.new.line.items in
    let next = c.in_ok-next_line.ensures in
    elim (next.end c.if-branch.false) [
      | inl longer ↦ on_ok c.finish-2.result (took_then _ _ _ _ _ 0 0 few (next.no_idle (inr longer)))
      | inr end ↦
          let text = with_ends past ++ line in
          let cut : IsCut text past line = record { plain = read.plain; plain_rest = next.plain; whole = refl } in
          let reads = c.finish-2.ensures.answer past fed text
          (complete (subst (IsCut text past) (sym c.deref-2.ensures.value) cut)) in
          let laws = c.history_lines.ensures in
          on_err _ c.finish-2.result (no_history laws.one_text laws.no_line_feed past line c.finish-2.result read.plain
          next.plain other reads)
    ]

pub loop-line-smaller : goal.loop-line-smaller
loop-line-smaller g c = c.in_ok-next_line.ensures.less c.if-branch.true
