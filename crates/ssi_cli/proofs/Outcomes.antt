-- What the first fault of a run says of how it ended and of what was written.
use Rattle.std.proofs.Common.{◌≡◌, Result, Ok, Err, refl}
use Rattle.ssi_line.specs.declared.end.End.{End}
use Rattle.ssi_line.specs.declared.end.End.TheVariants.{Eof, Stop, ReadFault, WriteFault}
use Rattle.ssi_cli.specs.declared.script_fault.ScriptFault.{ScriptFault}
use Rattle.ssi_cli.specs.declared.status.Status.{Status}
use Rattle.ssi_cli.specs.declared.runs.CommandsFault.{CommandsFault}
use Rattle.ssi_cli.specs.declared.runs.CommandsFault.TheVariants.{Input, Output, Texts}
use Rattle.ssi_cli.specs.Clauses.Status.{commands_outcome}

pub ended_reading : {T : Type 0} (end : End) (written : Result T ScriptFault) (result : Result Status CommandsFault)
    → result ≡ commands_outcome end written → result ≡ Err Input → end ≡ ReadFault
ended_reading ReadFault written result is same = refl
ended_reading WriteFault written result is same = absurd (cc (is, same))
ended_reading Eof (Ok x) result is same = absurd (cc (is, same))
ended_reading Eof (Err f) result is same = absurd (cc (is, same))
ended_reading Stop (Ok x) result is same = absurd (cc (is, same))
ended_reading Stop (Err f) result is same = absurd (cc (is, same))

pub ended_writing : {T : Type 0} (end : End) (written : Result T ScriptFault) (result : Result Status CommandsFault)
    → result ≡ commands_outcome end written → result ≡ Err Output → end ≡ WriteFault
ended_writing ReadFault written result is same = absurd (cc (is, same))
ended_writing WriteFault written result is same = refl
ended_writing Eof (Ok x) result is same = absurd (cc (is, same))
ended_writing Eof (Err f) result is same = absurd (cc (is, same))
ended_writing Stop (Ok x) result is same = absurd (cc (is, same))
ended_writing Stop (Err f) result is same = absurd (cc (is, same))

pub unwritten : {T : Type 0} (end : End) (written : Result T ScriptFault) (result : Result Status CommandsFault) (fault : ScriptFault)
    → result ≡ commands_outcome end written → result ≡ Err (Texts fault) → written ≡ Err fault
unwritten ReadFault written result fault is same = absurd (cc (is, same))
unwritten WriteFault written result fault is same = absurd (cc (is, same))
unwritten Eof (Ok x) result fault is same = absurd (cc (is, same))
unwritten Eof (Err f) result fault is same = cc (is, same)
unwritten Stop (Ok x) result fault is same = absurd (cc (is, same))
unwritten Stop (Err f) result fault is same = cc (is, same)
