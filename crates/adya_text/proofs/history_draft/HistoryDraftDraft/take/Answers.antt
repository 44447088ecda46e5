use Rattle.std.proofs.Common.{rules}
use Rattle.adya_line.specs.Clauses.HistoryLines.{line_of}
use Rattle.adya_text.specs.Computing.Runs.{IsAllowed, IsRefused}
use Rattle.adya_text.specs.Computing.HistoryRuns.{history_machine}
use Rattle.adya_text.specs.Machinery.HistoryDrafts.{Takes}
use Rattle.adya_text.proofs.Runs.{taken}
use Rattle.adya_text.proofs.Machines.{run_stops}
use Rattle.adya_text.proofs.HistoryDrafts.{still_allowed, still_has, still_refused, still_takes}
use Rattle.adya_text.proofs.HistoryTexts.{is_machine}
use Rattle.adya_text.proofs.history_draft.HistoryDraftDraft.take.Goals as goal

pub returns-then-branch-clause-taken : goal.returns-then-branch-clause-taken
returns-then-branch-clause-taken c = λ _ past run.
    let (x, allowed, takes) = c.in_ok-take_event.ensures.taken c.if-branch.true in
    taken run allowed takes.stage takes.holds

pub returns-in_default-clause-left : goal.returns-in_default-clause-left
returns-in_default-clause-left c = λ _ past run.
    let left = c.in_ok-take_event.ensures.left c.if-branch.false in
    still_has c.args.self.now c.take_event.new.self left.0 left.1 past run

pub returns-in_default-clause-refused : goal.returns-in_default-clause-refused
returns-in_default-clause-refused c = λ _ past run.
    let left = c.in_ok-take_event.ensures.left c.if-branch.false in
    let none : IsRefused history_machine c.take_event.new.self.stage c.args.line.now = search rules in
    run_stops is_machine c.history_lines.ensures.one_text run
    (still_refused c.args.self.now c.take_event.new.self left.0 left.1 c.args.line.now none)

pub returns-clause-taken : goal.returns-clause-taken
returns-clause-taken c = λ _ past run.
    let left = c.in_ok-take_event.ensures.left c.if-branch.false in
    let x = line_of c.in-Some.line in
    let allowed : IsAllowed history_machine c.take_event.new.self.stage c.args.line.now x = search rules in
    let takes : Takes c.take_event.new.self c.take_allowed.new.self x = search rules in
    let all = still_takes c.args.self.now c.take_event.new.self left.0 left.1 c.take_allowed.new.self x takes in
    taken run (still_allowed c.args.self.now c.take_event.new.self left.0 left.1 c.args.line.now x allowed) all.stage all.holds
