-- Why there is no answer.
use Rattle.std.specs.Prelude.{◌≡◌, ◌⊎◌, ◌≤◌, ℕ, ◌++◌, Bool, true, List, [], length}
use Rattle.append_check.specs.declared.verdict.Verdict.{Verdict}
use Rattle.append_check.specs.declared.verdict.Verdict.TheVariants.{Serializable, NotSerializable, AppendedTwice}
use Rattle.append_text.specs.declared.text_form.TextForm.{TextForm}
use Rattle.append_text.specs.declared.history.History.{History}
use Rattle.append_text.specs.Meaning.JsonTexts.{IsFaultIn, IsHistoryIn}
use Rattle.append_text.specs.declared.read_fault.ReadFault.{ReadFault}
use Rattle.append_text.specs.declared.read_fault.ReadFault.TheVariants.{Text as TextFault, Device, Memory}
use Rattle.lists_verdicts.specs.declared.answer.Answer.{Answer}
use Rattle.lists_verdicts.specs.Meaning.Status.{words_of}
use Rattle.lists_cli.specs.declared.fault.Fault.{Fault}
use Rattle.lists_cli.specs.declared.fault.Fault.TheVariants as fault

-- what is blamed on the text in this notation is there: it is at fault, or says a history of too many transactions
abbrev pub IsRefusal : TextForm → List ℕ → Fault → Type 0
IsRefusal n text (fault.Text place problem) = IsFaultIn n text (TextFault place problem)
IsRefusal n text fault.Many = (h : History) × IsHistoryIn n text h × (2147483648 ≤ length h.transactions.items)
IsRefusal n text fault.Read = Unit {0}
IsRefusal n text fault.Order = Unit {0}
IsRefusal n text fault.Drawing = Unit {0}
IsRefusal n text fault.Write = Unit {0}
IsRefusal n text fault.Memory = Unit {0}

abbrev pub fault_of : ReadFault → Fault
fault_of (TextFault place problem) = fault.Text place problem
fault_of Device = fault.Read
fault_of Memory = fault.Memory

-- no writer is blamed
abbrev pub IsReading : Fault → Type 0
IsReading (fault.Text place problem) = Unit {0}
IsReading fault.Many = ⊥
IsReading fault.Read = Unit {0}
IsReading fault.Order = ⊥
IsReading fault.Drawing = ⊥
IsReading fault.Write = ⊥
IsReading fault.Memory = Unit {0}

-- memory ran out, or this writer is blamed, and has failed
abbrev pub IsWriting : Fault → Bool → Fault → Type 0
IsWriting f has_failed e = (e ≡ fault.Memory) ⊎ ((e ≡ f) × (has_failed ≡ true))

-- the text begins with the words of the answer
abbrev pub BeginsSo : Answer → List ℕ → Type 0
BeginsSo a text = (rest : List ℕ) × (text ≡ words_of a ++ rest)

-- the order of a verdict
abbrev pub order_in : Verdict → List ℕ
order_in (Serializable order) = order.items
order_in (NotSerializable reason) = []
order_in (AppendedTwice key element) = []
