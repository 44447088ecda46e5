use Rattle.std.proofs.Common.{◌≡◌, Some, refl, rules}
use Rattle.adya_line.specs.Mirror.{view}
use Rattle.adya_line.specs.Clauses.HistoryLines.{EventLine}
use Rattle.adya_line.specs.Computing.Reading.{event_at}
use Rattle.adya_text.proofs.history_draft.HistoryDraft.take_event.Goals as goal

pub returns-clause-taken : goal.returns-clause-taken
returns-clause-taken c =
    let v = view c.in-Some.event in
    let at : event_at c.args.line.now ≡ Some v = search rules in
    let reads = (c.event_lines.ensures.reading c.args.line.now v).0 at in
    let takes = c.in_ok-push_with_entries.ensures in
    λ _. (EventLine v, (record { good = reads.0; same = reads.1 }, rw c.in-Events.is refl), record { stage = takes.stage; holds = takes.holds })
