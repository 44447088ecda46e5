-- Verdicts as plain values.
use Rattle.std.specs.Prelude.{ℕ}
use Rattle.adya_values.specs.declared.event.Version.{Version}
use Rattle.adya_values.specs.declared.fault.Rule.{Rule}
use Rattle.adya_values.specs.Meaning.Edges.{Edge}
use Rattle.adya_text.specs.declared.read_fault.Text.{Text}

pub data Verdict : Type 0 where
  Yes : Verdict
  Syntax : (text : Text) (line : ℕ) → Verdict
  Malformed : (line : ℕ) (rule : Rule) → Verdict
  AbortedRead : (line : ℕ) (version : Version) → Verdict
  IntermediateRead : (line : ℕ) (version : Version) → Verdict
  NotTheCommitted : Verdict
  Backward : (edge : Edge) → Verdict
