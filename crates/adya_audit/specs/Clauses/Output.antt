-- The lines of verdicts and of cycles.
use Rattle.std.specs.Prelude.{List, ◌++◌, length, flat_map, decimal, codes}
use Rattle.adya_values.specs.declared.fault.Rule.{Rule}
use Rattle.adya_values.specs.declared.fault.Rule.TheVariants.{M1, M2, M3, M4, M5, M6, M7, M8}
use Rattle.adya_keys.specs.Meaning.Keys.{Bytes}
use Rattle.adya_values.specs.Meaning.Edges.{Kind, Ww, Wr, Rw, Edge}
use Rattle.adya_line.specs.Meaning.Spelling.{version_text}
use Rattle.adya_text.specs.declared.read_fault.Text.{Text}
use Rattle.adya_text.specs.declared.read_fault.Text.TheVariants as In
use Rattle.adya_audit.specs.Meaning.Verdicts.{Verdict, Yes, Syntax, Malformed, AbortedRead, IntermediateRead, NotTheCommitted, Backward}

abbrev pub text_name : Text → Bytes
text_name In.History = codes "history"
text_name In.Serial = codes "serial"

abbrev pub rule_name : Rule → Bytes
rule_name M1 = codes "M1"
rule_name M2 = codes "M2"
rule_name M3 = codes "M3"
rule_name M4 = codes "M4"
rule_name M5 = codes "M5"
rule_name M6 = codes "M6"
rule_name M7 = codes "M7"
rule_name M8 = codes "M8"

abbrev pub kind_name : Kind → Bytes
kind_name Ww = codes "ww"
kind_name Wr = codes "wr"
kind_name Rw = codes "rw"

-- KIND K FROM TO: the kind, the key and the two transactions
unfoldable pub edge_text : Edge → Bytes
edge_text e = kind_name e.kind ++ codes " " ++ e.key ++ codes " " ++ decimal e.from ++ codes " " ++ decimal e.to

abbrev pub verdict_text : Verdict → Bytes
verdict_text Yes = codes "yes"
verdict_text (Syntax text line) = codes "no 1 syntax " ++ text_name text ++ codes " " ++ decimal line
verdict_text (Malformed line rule) = codes "no 2 malformed " ++ decimal line ++ codes " " ++ rule_name rule
verdict_text (AbortedRead line version) =
    codes "no 3 aborted-read " ++ decimal line ++ codes " " ++ version_text version
verdict_text (IntermediateRead line version) =
    codes "no 4 intermediate-read " ++ decimal line ++ codes " " ++ version_text version
verdict_text NotTheCommitted = codes "no 5 not-the-committed"
verdict_text (Backward e) = codes "no 6 backward " ++ edge_text e

-- the text of the verdict, and a line feed
abbrev pub verdict_line : Verdict → Bytes
verdict_line v = verdict_text v ++ codes "\n"

-- the text of the edge, and a line feed
abbrev pub edge_line : Edge → Bytes
edge_line e = edge_text e ++ codes "\n"

-- the line `cycle N`, and a line for each of the N edges
abbrev pub cycle_text : List Edge → Bytes
cycle_text es = codes "cycle " ++ decimal (length es) ++ codes "\n" ++ flat_map edge_line es
