-- The commands and answers of the code, as those of a course.
use Rattle.std.specs.Prelude.{map, Result, Ok, Err}
use Rattle.std.specs.Int.NonZero.{non_zero_u16_get}
use Rattle.adya_keys.specs.Meaning.Keys.{Key, Bytes}
use Rattle.adya_values.specs.Meaning.Histories.{Content, Live, Dead}
use Rattle.adya_values.specs.Mirror.Events.{final_of}
use Rattle.adya_keys.specs.Mirror.{value_of}
use Rattle.ssi_store.specs.Meaning.Courses.{Command, Command as Do, Answer, Answer as Is, Refusal, Refusal as Why}
use Rattle.ssi_store.specs.declared.command.Command.{Command as CommandValue}
use Rattle.ssi_store.specs.declared.command.Command.TheVariants as Given
use Rattle.ssi_store.specs.declared.command.Reply.{Reply}
use Rattle.ssi_store.specs.declared.command.Reply.TheVariants as Gives
use Rattle.ssi_store.specs.declared.command.Refusal.{Refusal as RefusalValue}
use Rattle.ssi_store.specs.declared.command.Refusal.TheVariants as For

abbrev pub command_of : CommandValue → Command
command_of (Given.Begin s) = Do.Begin s
command_of (Given.Get s k) = Do.Get s k
command_of (Given.Put s k v) = Do.Put s k (value_of v)
command_of (Given.Del s k) = Do.Del s k
command_of (Given.Scan s low high) = Do.Scan s low high
command_of (Given.ScanFirst s low high n) = Do.ScanFirst s low high (non_zero_u16_get n)
command_of (Given.Commit s) = Do.Commit s
command_of (Given.Abort s) = Do.Abort s
command_of Given.Collect = Do.Collect
command_of Given.Stat = Do.Stat

abbrev pub refusal_of : RefusalValue → Refusal
refusal_of For.Busy = Why.Busy
refusal_of For.Idle = Why.Idle
refusal_of For.Range = Why.Range
refusal_of For.Long = Why.Long
refusal_of For.Spent = Why.Spent
refusal_of For.Memory = Why.Memory

abbrev pub reply_of : Reply → Answer
reply_of (Gives.Begun t) = Is.Begun t
reply_of (Gives.Value v) = Is.Value (value_of v)
reply_of Gives.Absent = Is.Absent
reply_of Gives.Done = Is.Done
reply_of (Gives.Rows rows) = Is.Rows (map final_of rows.items)
reply_of Gives.Committed = Is.Committed
reply_of Gives.Aborted = Is.Aborted
reply_of (Gives.Conflict k t) = Is.Conflict k t
reply_of (Gives.Unsafe p) = Is.Unsafe p
reply_of (Gives.Kept n) = Is.Kept n
reply_of (Gives.Stat open_txns kept versions keys) = Is.Counts open_txns kept versions keys

-- what was answered: a reply or a refusal
abbrev pub answer_of : Result Reply RefusalValue → Answer
answer_of (Ok reply) = reply_of reply
answer_of (Err refusal) = Is.Refused (refusal_of refusal)

-- the command that writes this
abbrev pub written : Bytes → Key → Content → Command
written s k (Live v) = Do.Put s k v
written s k Dead = Do.Del s k
