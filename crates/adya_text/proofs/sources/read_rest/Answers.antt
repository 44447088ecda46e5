use Rattle.std.proofs.Common.{[], ◌∷◌, ◌++◌, refl, sym, ◌∙◌, subst, inl, inr}
use Rattle.std.proofs.Common.{arith}
use Rattle.std.proofs.lemmas.List.{length-append}
use Rattle.std.specs.Io.KnownBytes.{IsAtEnd}
use Rattle.devices.specs.Clauses.Reading.{TookFewReads}
use Rattle.adya_text.specs.Clauses.Faults.{IsCut}
use Rattle.adya_text.specs.Clauses.Reading.{HasReadLine, IsOfText}
use Rattle.adya_text.proofs.FewReads.{took_none, took_then}
use Rattle.adya_text.specs.Machinery.LineReaders.{complete, stopped, long}
use Rattle.adya_text.specs.Machinery.LongLines.{HasStart, IsLonger, StartsNoLine}
use Rattle.adya_text.proofs.LinesRead.{none_read, line_read, line_passed, lines_read, prefix_read, start_read, all_read, on_err}
use Rattle.adya_text.proofs.ReadFaults.{of_any, text_no_device, ok_no_error, of_memory, memory_no_device, of_no_line, line_device, device_line}
use Rattle.adya_text.proofs.sources.read_rest.Goals as goal

pub loop-line-init : goal.loop-line-init
loop-line-init g c = (g.met.S.Source.same_refl _, refl, λ none. inl none, took_none _ _ _, ([], c.new-reader.ensures [] c.requires, none_read))

pub returns-then-has_failed-clause-answer : goal.returns-then-has_failed-clause-answer
returns-then-has_failed-clause-answer g c =
    let (stream, same, works, few, (past, fed, read)) = c.loop-line.invariant in
    let line = c.next_line.new.line.items in
    let next = c.in_ok-next_line.ensures in
    let more = rw c.deref-in-loop-line.ensures.value at (c.in_ok-line.ensures past fed) in
    prefix_read (λ text. g.D.Draft.reads text c.finish-then-has_failed.result)
    (line_read _ line read c.if-not-branch.false next.plain next.bytes)
    (λ text front. c.finish-then-has_failed.ensures.answer (past ++ line ∷ []) more text
    (stopped (c.if-has_failed.ensures.stops (past ++ line ∷ []) more) front))

pub loop-line-preserved : goal.loop-line-preserved
loop-line-preserved g c =
    let (stream, same, works, few, (past, fed, read)) = c.loop-line.invariant in
    let line = c.next_line.new.line.items in
    let next = c.in_ok-next_line.ensures in (
      g.met.S.Source.same_trans _ _ _ stream c.next_line.ensures.stream,
      next.unfailed ok_no_error ∙ same,
      λ empty. inr (next.works (works empty)),
      took_then _ _ _ _ _ 0 0 few (next.no_idle (inl c.if-not-branch.false)),
      (
        past ++ line ∷ [],
        rw c.deref-in-loop-line.ensures.value at (c.in_ok-line.ensures past fed),
        line_read _ line read c.if-not-branch.false next.plain next.bytes,
      ),
    )

pub returns-then-has_failed-clause-fault : goal.returns-then-has_failed-clause-fault
returns-then-has_failed-clause-fault g c = λ is.
    absurd (text_no_device c.finish-then-has_failed.result c.finish-then-has_failed.ensures.of_text is)

pub returns-then-has_failed-clause-unfailed : goal.returns-then-has_failed-clause-unfailed
returns-then-has_failed-clause-unfailed g c = λ none. c.in_ok-next_line.ensures.unfailed ok_no_error ∙ c.loop-line.invariant.1

pub returns-then-has_failed-clause-works : goal.returns-then-has_failed-clause-works
returns-then-has_failed-clause-works g c = λ empty of. c.in_ok-next_line.ensures.works (c.loop-line.invariant.2 empty)

pub returns-then-has_failed-clause-ended : goal.returns-then-has_failed-clause-ended
returns-then-has_failed-clause-ended g c =
    let (stream, same, works, few, (past, fed, read)) = c.loop-line.invariant in
    let line = c.next_line.new.line.items in
    let more = rw c.deref-in-loop-line.ensures.value at (c.in_ok-line.ensures past fed) in
    on_err _ c.finish-then-has_failed.result (c.finish-then-has_failed.ensures.refused (past ++ line ∷ []) more
    (inl (c.if-has_failed.ensures.stops (past ++ line ∷ []) more)))

pub returns-in_err-next_line-clause-answer : goal.returns-in_err-next_line-clause-answer
returns-in_err-next_line-clause-answer g c =
    of_any _ _ (λ text. of_no_line (g.D.Draft.reads text) c.from_residual.result _ c.from_residual.ensures.1
    (g.met.D.Draft.no_device text) (g.met.D.Draft.no_memory text))

pub returns-in_err-next_line-clause-ended : goal.returns-in_err-next_line-clause-ended
returns-in_err-next_line-clause-ended g c = on_err _ c.from_residual.result c.from_residual.ensures.0

pub returns-in_err-next_line-clause-fault : goal.returns-in_err-next_line-clause-fault
returns-in_err-next_line-clause-fault g c = λ is.
    c.in_err-next_line.ensures.fault (line_device c.from_residual.result _ c.from_residual.ensures.1 is)

pub returns-in_err-next_line-clause-unfailed : goal.returns-in_err-next_line-clause-unfailed
returns-in_err-next_line-clause-unfailed g c = λ none.
    c.in_err-next_line.ensures.unfailed (λ is. none (device_line c.from_residual.result _ c.from_residual.ensures.1 is))
    ∙ c.loop-line.invariant.1

pub returns-in_err-next_line-clause-works : goal.returns-in_err-next_line-clause-works
returns-in_err-next_line-clause-works g c = λ empty of.
    absurd (of_no_line (λ r. IsOfText r → ⊥) c.from_residual.result _ c.from_residual.ensures.1 (λ no. no) (λ no. no) of)

pub returns-in_err-next_line-clause-stream : goal.returns-in_err-next_line-clause-stream
returns-in_err-next_line-clause-stream g c = g.met.S.Source.same_trans _ _ _ c.loop-line.invariant.0 c.next_line.ensures.stream

pub returns-in_err-line-clause-answer : goal.returns-in_err-line-clause-answer
returns-in_err-line-clause-answer g c =
    of_any _ _ (λ text. of_memory (g.D.Draft.reads text) c.from_residual-in_err-line.result
    c.from_residual-in_err-line.ensures.1 (g.met.D.Draft.no_memory text))

pub returns-in_err-line-clause-ended : goal.returns-in_err-line-clause-ended
returns-in_err-line-clause-ended g c = on_err _ c.from_residual-in_err-line.result c.from_residual-in_err-line.ensures.0

pub returns-in_err-line-clause-fault : goal.returns-in_err-line-clause-fault
returns-in_err-line-clause-fault g c = λ is.
    absurd (memory_no_device c.from_residual-in_err-line.result c.from_residual-in_err-line.ensures.1 is)

pub returns-in_err-line-clause-unfailed : goal.returns-in_err-line-clause-unfailed
returns-in_err-line-clause-unfailed g c = λ none. c.in_ok-next_line.ensures.unfailed ok_no_error ∙ c.loop-line.invariant.1

pub returns-in_err-line-clause-works : goal.returns-in_err-line-clause-works
returns-in_err-line-clause-works g c = λ empty of. c.in_ok-next_line.ensures.works (c.loop-line.invariant.2 empty)

pub returns-in_err-line-clause-stream : goal.returns-in_err-line-clause-stream
returns-in_err-line-clause-stream g c = g.met.S.Source.same_trans _ _ _ c.loop-line.invariant.0 c.next_line.ensures.stream

pub returns-then-has_failed-clause-stream : goal.returns-then-has_failed-clause-stream
returns-then-has_failed-clause-stream g c = g.met.S.Source.same_trans _ _ _ c.loop-line.invariant.0 c.next_line.ensures.stream

pub returns-in_err-next_line-clause-few : goal.returns-in_err-next_line-clause-few
returns-in_err-next_line-clause-few g c = took_then _ _ _ _ _ 0 1 c.loop-line.invariant.3 c.next_line.ensures.few

pub returns-in_err-line-clause-few : goal.returns-in_err-line-clause-few
returns-in_err-line-clause-few g c = took_then _ _ _ _ _ 0 1 c.loop-line.invariant.3 c.next_line.ensures.few

pub returns-then-has_failed-clause-few : goal.returns-then-has_failed-clause-few
returns-then-has_failed-clause-few g c = took_then _ _ _ _ _ 0 1 c.loop-line.invariant.3 c.next_line.ensures.few

pub returns-then-has_failed-clause-line_read : goal.returns-then-has_failed-clause-line_read
returns-then-has_failed-clause-line_read g c = λ whole empty k is.
    let (stream, same, works, few, (past, fed, read)) = c.loop-line.invariant in
    let line = c.next_line.new.line.items in
    let next = c.in_ok-next_line.ensures in
    let more = rw c.deref-in-loop-line.ensures.value at (c.in_ok-line.ensures past fed) in
    inl (lines_read _ _ _ _ (past ++ line ∷ []) k empty (line_read _ line read c.if-not-branch.false next.plain next.bytes)
    (c.finish-then-has_failed.ensures.fed k is (past ++ line ∷ []) more
    (c.if-has_failed.ensures.stops (past ++ line ∷ []) more)))

pub returns-in_err-pass_over-clause-few : goal.returns-in_err-pass_over-clause-few
returns-in_err-pass_over-clause-few g c =
    elim c.pass_over.ensures.untouched [
      | inl same ↦ subst (λ s. TookFewReads g.S.Read.remaining g.S.Source.left c.args.source.now s 1) (sym same.1)
          (took_then _ _ _ _ _ 0 1 c.loop-line.invariant.3 c.next_line.ensures.few)
      | inr longer ↦ took_then _ _ _ _ _ 0 1
          (took_then _ _ _ _ _ 0 0 c.loop-line.invariant.3 (c.in_ok-next_line.ensures.no_idle
          (inr (subst (IsLonger _) c.deref.ensures.value longer)))) c.pass_over.ensures.few
    ]

pub returns-then-not-branch-clause-few : goal.returns-then-not-branch-clause-few
returns-then-not-branch-clause-few g c =
    elim c.pass_over.ensures.untouched [
      | inl same ↦ subst (λ s. TookFewReads g.S.Read.remaining g.S.Source.left c.args.source.now s 1) (sym same.1)
          (took_then _ _ _ _ _ 0 1 c.loop-line.invariant.3 c.next_line.ensures.few)
      | inr longer ↦ took_then _ _ _ _ _ 0 1
          (took_then _ _ _ _ _ 0 0 c.loop-line.invariant.3 (c.in_ok-next_line.ensures.no_idle
          (inr (subst (IsLonger _) c.deref.ensures.value longer)))) c.pass_over.ensures.few
    ]

pub returns-then-not-branch-clause-answer : goal.returns-then-not-branch-clause-answer
returns-then-not-branch-clause-answer g c =
    let (stream, same, works, few, (past, fed, read)) = c.loop-line.invariant in
    let line = c.next_line.new.line.items in
    let next = c.in_ok-next_line.ensures in
    let value = c.deref-then-not-branch.ensures.value in
    elim (next.end c.if-not-branch.true) [
      | inl longer ↦
          let none = subst (StartsNoLine g.D.Draft.grammar past) (sym value)
          (c.longest_line-longest.ensures past fed line longer) in
          start_read _ line (λ text. g.D.Draft.reads text c.finish.result) read c.if-not-branch.true next.plain
          next.bytes
          (λ text start. c.finish.ensures.answer past fed text
          (long none (subst (HasStart text past) (sym value) start)))
      | inr end ↦
          all_read _ _ line (λ text. g.D.Draft.reads text c.finish.result) read c.if-not-branch.true next.plain
          next.bytes end
          (λ text cut left. c.finish.ensures.answer past fed text
          (complete (subst (IsCut text past) (sym value) cut)))
    ]

pub returns-then-not-branch-clause-line_read : goal.returns-then-not-branch-clause-line_read
returns-then-not-branch-clause-line_read g c = λ whole empty k is.
    let (stream, same, works, few, (past, fed, read)) = c.loop-line.invariant in
    let line = c.next_line.new.line.items in
    let next = c.in_ok-next_line.ensures in
    let within = c.finish.ensures.within k is past fed in
    let passed : IsLonger c.longest_line-longest.result c.deref.result.now
    → HasReadLine k (g.S.Read.remaining c.args.source.now) (g.S.Read.remaining c.pass_over.new.source) = λ longer.
    elim (c.in_ok-pass_over.ensures.ended whole longer) [
      | inl ends ↦ inl (lines_read _ _ _ _ (past ++ (line ++ ends.rest) ∷ []) k empty
          (line_passed _ _ line read c.if-not-branch.true next.plain next.bytes ends)
          (omega (arith, within, length-append past ((line ++ ends.rest) ∷ []))))
      | inr end ↦ inr end.1
    ] in
    elim (next.end c.if-not-branch.true) [
      | inl longer ↦ passed (subst (IsLonger c.longest_line-longest.result) (sym c.deref.ensures.value) longer)
      | inr end ↦ elim c.pass_over.ensures.untouched [
        | inl kept ↦ inr (subst (λ s. IsAtEnd (g.S.Read.remaining s)) (sym kept.1) end.1)
        | inr longer ↦ passed longer
      ]
    ]

pub loop-line-smaller : goal.loop-line-smaller
loop-line-smaller g c = c.in_ok-next_line.ensures.less c.if-not-branch.false
