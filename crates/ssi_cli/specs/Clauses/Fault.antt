-- The lines on standard error.
use Rattle.std.specs.Prelude.{◌++◌, codes}
use Rattle.ssi_cli.specs.declared.fault.Fault.{Fault}
use Rattle.ssi_cli.specs.declared.fault.Fault.TheVariants.{Read, Write, Socket, Memory}
use Rattle.adya_keys.specs.Meaning.Keys.{Bytes}

-- reading at this place failed
abbrev pub read_fault : Bytes → Bytes
read_fault place = codes "ssi: read fault: " ++ place

-- writing to this place failed
abbrev pub write_fault : Bytes → Bytes
write_fault place = codes "ssi: write fault: " ++ place

-- the socket at this place failed
abbrev pub socket_fault : Bytes → Bytes
socket_fault place = codes "ssi: socket fault: " ++ place

abbrev pub out_of_memory : Bytes
out_of_memory = codes "ssi: memory"

-- the line of the fault, without its line feed
abbrev pub line_of : Fault → Bytes
line_of (Read place) = read_fault place.now
line_of (Write place) = write_fault place.now
line_of (Socket place) = socket_fault place.now
line_of Memory = out_of_memory
