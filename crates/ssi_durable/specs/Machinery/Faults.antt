-- What is said of a line that couldn't be carried out.
use Rattle.std.specs.Prelude.{ℕ}
use Rattle.ssi_store.specs.declared.command.Refusal.{Refusal}
use Rattle.ssi_store.specs.declared.command.Refusal.TheVariants as For
use Rattle.ssi_durable.specs.declared.fault.LineFault.{LineFault}
use Rattle.ssi_durable.specs.declared.fault.LineFault.TheVariants as line_fault
use Rattle.ssi_durable.specs.declared.fault.ReplayFault.{ReplayFault}
use Rattle.ssi_durable.specs.declared.fault.ReplayFault.TheVariants as replay_fault

-- the fault is that of the line with this number
abbrev pub at_line : LineFault → ℕ → ReplayFault
at_line line_fault.Damaged number = replay_fault.Damaged number
at_line line_fault.Memory number = replay_fault.Memory number

-- a command that is refused is damage, unless memory ran out
abbrev pub fault_of : Refusal → LineFault
fault_of For.Memory = line_fault.Memory
fault_of _ = line_fault.Damaged
