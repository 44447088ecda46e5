use Rattle.std.proofs.Common.{◌++◌, sym, ap, ◌∙◌, subst}
use Rattle.edn.specs.Computing.Gaps.{after_gap}
use Rattle.std.specs.Io.KnownBytes.{prepend_known}
use Rattle.edn.specs.Meaning.Lines.{IsAt}
use Rattle.edn.proofs.GapTexts.{IsPast, gap_past, gap_rest, gap_split}
use Rattle.edn.proofs.LinesPassed.{at_count}
use Rattle.edn.proofs.input.Input.pass_gap.Goals as goal

pub returns-clause-passed : goal.returns-clause-passed
returns-clause-passed c =
    let (gap, g, e) = gap_split c.args.self.now.pending c.after_gap.result.now
    (c.after_gap.ensures.value ∙ ap after_gap c.bytes-bytes.ensures) in
    (gap, g, e ∙ ap (λ x. gap ++ x) (sym (rw c.bytes-bytes.ensures at c.pass_lines.ensures.rest)))

pub returns-clause-all : goal.returns-clause-all
returns-clause-all c =
    subst IsPast (sym (rw c.bytes-bytes.ensures at c.pass_lines.ensures.rest))
    (gap_past c.args.self.now.pending c.after_gap.result.now (c.after_gap.ensures.value ∙ ap after_gap c.bytes-bytes.ensures))

pub returns-clause-rest : goal.returns-clause-rest
returns-clause-rest c =
    (rw c.bytes-bytes.ensures at c.pass_lines.ensures.rest)
    ∙ gap_rest c.args.self.now.pending c.after_gap.result.now (c.after_gap.ensures.value ∙ ap after_gap c.bytes-bytes.ensures)

pub returns-clause-line : goal.returns-clause-line
returns-clause-line c = λ text left at.
    subst (λ x. IsAt text (prepend_known x left) c.pass_lines.new.self.line) (sym c.pass_lines.ensures.rest)
    (at_count text c.args.self.now.pending _ left _ _ c.pass_lines.ensures.line at)
