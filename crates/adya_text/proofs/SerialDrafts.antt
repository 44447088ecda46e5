-- What a draft of a certificate tells of the lines so far.
use Rattle.std.proofs.Common.{◌≡◌, ℕ, suc, true, List, [], ◌∷◌, length, arith}
use Rattle.std.proofs.lemmas.Fmt.{length-decimal-le}
use Rattle.std.proofs.lemmas.List.{length-append}
use Rattle.adya_line.specs.Clauses.SerialLines.{Line, HeadLine, TxnLine, TailLine, IsLine, line_text}
use Rattle.adya_text.specs.Computing.SerialRuns.{allows, stage_after, with_line, serial_machine}
use Rattle.adya_text.specs.Machinery.SerialDrafts.{HasLines, longest_line, next_line}
use Rattle.adya_text.specs.Machinery.LongLines.{IsLonger}
use Rattle.adya_text.specs.declared.serial_draft.Stage.{Stage}
use Rattle.adya_text.specs.declared.serial_draft.Stage.TheVariants.{Head, Txns}
use Rattle.adya_text.specs.declared.serial_draft.SerialDraft.{SerialDraft}
use Rattle.adya_text.proofs.Machines.{run_counts}

-- a line that may come in the stage is not longer than the most
pub within : (s : Stage) (x : Line) → IsLine x → allows s x ≡ true → IsLonger (longest_line s) (line_text x) → ⊥
within Head HeadLine good may longer = absurd (omega (arith, longer))
within Txns (TxnLine t) good may longer =
    omega (arith, longer, length-decimal-le 10 t (omega arith) (omega (arith, good.1)) (omega (arith, good.1)))
within Txns TailLine good may longer = absurd (omega (arith, longer))
within s x good may longer = absurd cc

-- a line that may come is the head, the tail, or one of a transaction
line_counts : (s : Stage) (ts : List ℕ) (x : Line) → allows s x ≡ true
    → next_line (stage_after x) (with_line ts x) ≡ suc (next_line s ts)
line_counts Head ts HeadLine may = omega arith
line_counts Txns ts (TxnLine t) may = omega (arith, length-append ts (t ∷ []))
line_counts Txns ts TailLine may = omega arith
line_counts s ts x may = absurd cc

pub next_is : (d : SerialDraft) (past : List (List ℕ)) → HasLines d past
    → next_line d.stage d.txns.items ≡ suc (length past)
next_is d past run = omega (arith, run_counts serial_machine next_line line_counts d.stage d.txns.items past run)
