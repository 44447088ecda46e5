-- Which steps count: those that have to be carried out again for the same answers to the lines after them.
use Rattle.std.specs.Prelude.{Bool, true, false, not, ◌&&◌, if◌then◌else◌}
use Rattle.ssi_store.specs.Meaning.Courses.{Command, Stat, Answer, Refused, Course}
use Rattle.ssi_line.specs.Meaning.Steps.{Step, Given, course_with}

abbrev pub is_stat : Command → Bool
is_stat Stat = true
is_stat command = false

abbrev pub is_refusal : Answer → Bool
is_refusal (Refused r) = true
is_refusal answer = false

-- a command that wasn't refused, also for memory, and that isn't `stat`
abbrev pub counts : Step → Bool
counts (Given c a) = not (is_stat c) && not (is_refusal a)
counts _ = false

-- the course with the step, if it counts
abbrev pub logged_course : Course → Step → Course
logged_course course step = if counts step then course_with course step else course
