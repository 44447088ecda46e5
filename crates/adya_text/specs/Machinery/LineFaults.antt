-- Why no line came.
use Rattle.adya_text.specs.declared.lines.LineFault.{LineFault}
use Rattle.adya_text.specs.declared.lines.LineFault.TheVariants as OfLine
use Rattle.adya_text.specs.declared.read_fault.ReadFault.{ReadFault}
use Rattle.adya_text.specs.declared.read_fault.ReadFault.TheVariants.{Device, Memory}

-- no line came, and so no text
abbrev pub fault_of : LineFault → ReadFault
fault_of OfLine.Device = Device
fault_of OfLine.Memory = Memory
