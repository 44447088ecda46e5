-- What a line is read as.
use Rattle.adya_keys.specs.Meaning.Keys.{Bytes}
use Rattle.ssi_store.specs.Mirror.Commands.{command_of}
use Rattle.ssi_line.specs.declared.line.Line.{Line as LineValue}
use Rattle.adya_line.specs.Clauses.OnlyLines.{SpellsOnly}
use Rattle.ssi_line.specs.declared.line.Line.TheVariants as Of
use Rattle.ssi_line.specs.Meaning.Spelling.{Do, Dump, IsLine, Line, Stop, line_text}

-- the plain line that a line of the code holds
abbrev pub line_of : LineValue → Line
line_of (Of.Do c) = Do (command_of c)
line_of Of.Stop = Stop
line_of Of.Dump = Dump

-- the text is that of this line, and of no other
abbrev pub IsOnlyLineOf : Line → Bytes → Type 0
IsOnlyLineOf = SpellsOnly IsLine line_text
