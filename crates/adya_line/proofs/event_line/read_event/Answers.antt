use Rattle.adya_line.proofs.Events.{answers_found, answers_only}
use Rattle.adya_line.proofs.event_line.read_event.Goals as goal

pub returns-clause-found : goal.returns-clause-found
returns-clause-found c = answers_found c.args.line.now c.event_at.result c.event_at.ensures

pub returns-clause-only : goal.returns-clause-only
returns-clause-only c = answers_only c.args.line.now c.event_at.result c.event_at.ensures
