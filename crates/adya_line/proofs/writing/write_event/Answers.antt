use Rattle.std.proofs.Common.{rules}
use Rattle.adya_line.specs.Meaning.Spelling.{event_text}
use Rattle.adya_line.specs.Machinery.Fronts.{front_text}
use Rattle.adya_line.proofs.writing.write_event.Goals as goal

pub returns-in-Commit : goal.returns-in-Commit
unfolding event_text front_text
returns-in-Commit g c = search rules
