use Rattle.ssi_durable.proofs.Courses.{one_course}
use Rattle.ssi_durable.proofs.laws.replays_lead_to_one_course.Goals as goal

pub returns : goal.returns
returns c = one_course c.lines_ask_for_one_thing.ensures
