use Rattle.std.proofs.Common.{rules, ◌∙◌, ◌++◌, ◌∷◌, [], true, false, arith, ap, refl}
use Rattle.ssi_store.specs.Mirror.Stores.{IsAt}
use Rattle.ssi_line.specs.Meaning.Steps.{Stopped}
use Rattle.ssi_line.specs.Machinery.Lines.{has_ended}
use Rattle.ssi_line.proofs.KeptLines.{kept_again}
use Rattle.ssi_line.proofs.StepLists.{went_on_more, stopped}
use Rattle.ssi_line.proofs.Runs.{took_start, took_more, took_rest, took_pending, ended_so, told_so, ends_with}
use Rattle.ssi_line.proofs.Runs.{go_on_more, wrote_none, wrote_more, told_broken, ends_broken}
use Rattle.ssi_line.proofs.serving.serve.Goals as goal

pub loop-line-init : goal.loop-line-init
loop-line-init g c = (
  search rules,
  search rules,
  (
    [],
    [],
    took_start _ c.new-buffer.result c.new-buffer.ensures,
    λ course at. (tt, at),
    λ k d below. absurd (omega arith),
    wrote_none g.W.Write.contents _,
  ),
)

pub returns-in-Ok-false-clause-run : goal.returns-in-Ok-false-clause-run
returns-in-Ok-false-clause-run g c =
    let (stream, unfailed, (lines, steps, took, went_on, go_on, written)) = c.loop-line.invariant in
    let (rest, plain, room, eaten) = c.next_line.ensures.bytes in
    let ended = ended_so c.next_line.result _ false c.in-Ok-false.is c.in-Ok-false.field-0-test in
    let (none, at_end) = c.in-Ok-false.ensures.end c.in-Ok-false.field-0-test in (
      lines,
      steps,
      rest,
      took_rest _ _ _ lines steps rest c.next_line.new.buffer (has_ended c.next_line.result) took ended none eaten,
      went_on,
      (record { go_on = go_on; unfinished = plain; written = written }, at_end),
    )

pub returns-in-Err-clause-run : goal.returns-in-Err-clause-run
returns-in-Err-clause-run g c =
    let (stream, unfailed, (lines, steps, took, went_on, go_on, written)) = c.loop-line.invariant in
    let (rest, plain, room, eaten) = c.next_line.ensures.bytes in (
      lines,
      steps,
      rest,
      took_rest _ _ _ lines steps rest c.next_line.new.buffer (has_ended c.next_line.result) took
          (ap has_ended c.in-Err.is) (c.in-Err.ensures.broken refl) eaten,
      went_on,
      record { go_on = go_on; unfinished = plain; written = written },
    )

pub returns-in-Ok-true-answer-clause-run : goal.returns-in-Ok-true-answer-clause-run
returns-in-Ok-true-answer-clause-run g c =
    let (stream, unfailed, (lines, steps, took, went_on, go_on, written)) = c.loop-line.invariant in
    let (text, plain, room, eaten) = c.next_line.ensures.bytes in
    let (step, answered, goes) = c.answer.ensures.answered text (kept_again text _ (c.text.ensures ∙ room)) in
    let ended = ended_so c.next_line.result _ true c.in-Ok-true.is c.in-Ok-true.field-0-test in
    let told = told_so g.W.Write.contents c.answer.result _ true step _ _ c.in-Ok-true-answer.is c.in-Ok-true-answer.field-0-test answered.told in (
      lines ++ text ∷ [],
      steps ++ step ∷ [],
      c.next_line.new.buffer,
      took_pending _ _ _ _ c.next_line.new.buffer
          (took_more _ _ _ lines steps text step (has_ended c.next_line.result) took ended plain eaten answered.made),
      went_on_more (IsAt {g = g.C.Chains} {h = g.M.Marks} g.C.Chains.held g.M.Marks.marked) c.args.store.now c.loop-line.store
          c.answer.new.store steps step went_on goes,
      (
        ends_with steps step Stopped go_on (stopped step told.0),
        wrote_more g.W.Write.contents _ _ _ steps step written told.1,
      ),
    )

pub loop-line-preserved : goal.loop-line-preserved
loop-line-preserved g c =
    let (stream, unfailed, (lines, steps, took, went_on, go_on, written)) = c.loop-line.invariant in
    let (text, plain, room, eaten) = c.next_line.ensures.bytes in
    let (step, answered, goes) = c.answer.ensures.answered text (kept_again text _ (c.text.ensures ∙ room)) in
    let ended = ended_so c.next_line.result _ true c.in-Ok-true.is c.in-Ok-true.field-0-test in
    let told = told_so g.W.Write.contents c.answer.result _ false step _ _ c.in-Ok-false-answer.is c.in-Ok-false-answer.field-0-test answered.told in (
      g.met.S.Source.same_trans _ _ _ stream c.next_line.ensures.stream,
      search rules,
      (
        lines ++ text ∷ [],
        steps ++ step ∷ [],
        took_more _ _ _ lines steps text step (has_ended c.next_line.result) took ended plain eaten answered.made,
        went_on_more (IsAt {g = g.C.Chains} {h = g.M.Marks} g.C.Chains.held g.M.Marks.marked) c.args.store.now c.loop-line.store
            c.answer.new.store steps step went_on goes,
        go_on_more steps step go_on told.0,
        wrote_more g.W.Write.contents _ _ _ steps step written told.1,
      ),
    )

pub returns-in-Err-answer-clause-run : goal.returns-in-Err-answer-clause-run
returns-in-Err-answer-clause-run g c =
    let (stream, unfailed, (lines, steps, took, went_on, go_on, written)) = c.loop-line.invariant in
    let (text, plain, room, eaten) = c.next_line.ensures.bytes in
    let (step, answered, goes) = c.answer.ensures.answered text (kept_again text _ (c.text.ensures ∙ room)) in
    let ended = ended_so c.next_line.result _ true c.in-Ok-true.is c.in-Ok-true.field-0-test in (
      lines ++ text ∷ [],
      steps ++ step ∷ [],
      c.next_line.new.buffer,
      took_pending _ _ _ _ c.next_line.new.buffer
          (took_more _ _ _ lines steps text step (has_ended c.next_line.result) took ended plain eaten answered.made),
      went_on_more (IsAt {g = g.C.Chains} {h = g.M.Marks} g.C.Chains.held g.M.Marks.marked) c.args.store.now c.loop-line.store
          c.answer.new.store steps step went_on goes,
      ends_broken g.W.Write.contents _ _ _ steps step go_on written
          (told_broken g.W.Write.contents c.answer.result _ step _ _ c.in-Err-answer.is answered.told),
    )
