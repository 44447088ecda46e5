-- The verdict on a history and a certificate, and the plain verdict that a verdict of the code holds.
use Rattle.std.specs.Prelude.{if◌then◌else◌, Option, Some, None}
use Rattle.adya_values.specs.Meaning.Histories.{Txns, History}
use Rattle.adya_values.specs.Meaning.Edges.{Edge}
use Rattle.adya_values.specs.Computing.Faults.{Fault, first_fault}
use Rattle.adya_values.specs.Computing.Certificates.{lists_the_committed, first_backward}
use Rattle.adya_audit.specs.declared.verdict.Verdict.{Verdict as VerdictValue}
use Rattle.adya_dsg.specs.Mirror.{edge_of}
use Rattle.adya_values.specs.Computing.Faults as faults
use Rattle.adya_audit.specs.declared.verdict.Verdict.TheVariants as Said
use Rattle.adya_audit.specs.Meaning.Verdicts.{AbortedRead, Backward, IntermediateRead, Malformed, NotTheCommitted, Syntax, Verdict, Yes}

-- the plain verdict that a verdict holds
abbrev pub plain_verdict : VerdictValue → Verdict
plain_verdict Said.Yes = Yes
plain_verdict (Said.Syntax text line) = Syntax text line
plain_verdict (Said.Malformed line rule) = Malformed line rule
plain_verdict (Said.AbortedRead line version) = AbortedRead line version
plain_verdict (Said.IntermediateRead line version) = IntermediateRead line version
plain_verdict Said.NotTheCommitted = NotTheCommitted
plain_verdict (Said.Backward edge) = Backward (edge_of edge)

abbrev pub edge_verdict : Option Edge → Verdict
edge_verdict None = Yes
edge_verdict (Some e) = Backward e

-- the verdict on a certificate of a history that has no fault
abbrev pub certificate_verdict : History → Txns → Verdict
certificate_verdict h ts = if lists_the_committed h ts then edge_verdict (first_backward h ts) else NotTheCommitted

-- the verdict on the fault of a history, else that on the certificate
abbrev pub fault_verdict : Option Fault → Verdict → Verdict
fault_verdict None v = v
fault_verdict (Some (faults.Malformed line rule)) v = Malformed line rule
fault_verdict (Some (faults.AbortedRead line version)) v = AbortedRead line version
fault_verdict (Some (faults.IntermediateRead line version)) v = IntermediateRead line version

-- the verdict on a history and a certificate
abbrev pub verdict_of : History → Txns → Verdict
verdict_of h ts = fault_verdict (first_fault h) (certificate_verdict h ts)
