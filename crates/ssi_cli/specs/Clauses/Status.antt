-- The exit statuses, and which status or fault a run ends with.
use Rattle.std.specs.Prelude.{◌≡◌, ◌≢◌, ◌↔◌, ℕ, List, Option, Result, Ok, Err}
use Rattle.adya_keys.specs.Meaning.Keys.{Bytes}
use Rattle.devices.specs.declared.watched.Watched.{Watched}
use Rattle.devices.specs.Clauses.Writing.{Grew}
use Rattle.adya_audit.specs.declared.verdict.Verdict.{Verdict}
use Rattle.adya_audit.specs.declared.verdict.Verdict.TheVariants.{Yes, Syntax}
use Rattle.adya_text.specs.declared.read_fault.Text.TheVariants as Of
use Rattle.adya_audit.specs.Computing.Verdicts.{plain_verdict}
use Rattle.adya_audit.specs.Clauses.Output.{verdict_line}
use Rattle.adya_audit.specs.Clauses.Answers.{Answer, Certificate, answer_text}
use Rattle.ssi_line.specs.declared.end.End.{End}
use Rattle.ssi_line.specs.declared.end.End.TheVariants.{Eof, Stop, ReadFault, WriteFault}
use Rattle.ssi_cli.specs.declared.script_fault.ScriptFault.{ScriptFault}
use Rattle.ssi_cli.specs.declared.runs.CommandsFault.{CommandsFault}
use Rattle.ssi_cli.specs.declared.runs.CommandsFault.TheVariants as commands
use Rattle.ssi_cli.specs.declared.runs.ServingFault.{ServingFault}
use Rattle.ssi_cli.specs.declared.runs.ServingFault.TheVariants as serving
use Rattle.ssi_cli.specs.declared.socket.Served.{Served}
use Rattle.ssi_cli.specs.declared.socket.Served.TheVariants.{Stopped, SocketFault}
use Rattle.ssi_cli.specs.declared.status.Status.{Status}
use Rattle.ssi_cli.specs.declared.status.Status.TheVariants.{Fine, Refused, WrongArguments, Failed}

-- the number that the process ends with
abbrev pub code_of : Status → ℕ
code_of Fine = 0
code_of Refused = 1
code_of WrongArguments = 2
code_of Failed = 3

-- this verdict was written, and the status is that of it
pub record Told {D : Type 0} (contents : D → Option Bytes) (old new : Watched D) (verdict : Verdict) (status : Status)
    : Type 0 where
  pub written : Grew contents old new (verdict_line (plain_verdict verdict))
  pub fine : (status ≡ Fine) ↔ (verdict ≡ Yes)
  pub refused : (status ≡ Refused) ↔ (verdict ≢ Yes)

-- the verdict is a syntax fault of the history
abbrev pub IsHistorySyntax : Verdict → Type 0
IsHistorySyntax verdict = (line : ℕ) × (verdict ≡ Syntax Of.History line)

-- this answer to the search for a certificate was written, and the status is that of it
pub record Answered {D : Type 0} (contents : D → Option Bytes) (old new : Watched D) (answer : Answer) (status : Status)
    : Type 0 where
  pub written : Grew contents old new (answer_text answer)
  pub fine : (status ≡ Fine) ↔ ((txns : List ℕ) × (answer ≡ Certificate txns))
  pub refused : (status ≡ Refused) ↔ ((txns : List ℕ) → answer ≢ Certificate txns)

-- a run that no device ended: whether both texts are written
abbrev pub texts_outcome : {T : Type 0} → Result T ScriptFault → Result Status CommandsFault
texts_outcome (Ok _) = Ok Fine
texts_outcome (Err fault) = Err (commands.Texts fault)

-- the first fault of a run over commands
abbrev pub commands_outcome : {T : Type 0} → End → Result T ScriptFault → Result Status CommandsFault
commands_outcome ReadFault written = Err commands.Input
commands_outcome WriteFault written = Err commands.Output
commands_outcome Eof written = texts_outcome written
commands_outcome Stop written = texts_outcome written

-- the first fault of a run over a socket
abbrev pub serving_outcome : {T : Type 0} → Served → Result T ScriptFault → Result Status ServingFault
serving_outcome SocketFault written = Err serving.Socket
serving_outcome Stopped (Ok _) = Ok Fine
serving_outcome Stopped (Err fault) = Err (serving.Texts fault)
