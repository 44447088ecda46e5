-- That a verdict names a syntax fault of the history exactly if the text has one.
use Rattle.std.proofs.Common.{◌≡◌, ℕ, List, Option, Some, None, IfSome, Ok, Err, sym, ◌∙◌, ap, subst}
use Rattle.adya_values.specs.declared.history.History.{History}
use Rattle.adya_values.specs.Mirror.Histories.{history_of}
use Rattle.adya_values.specs.Computing.Faults.{first_fault}
use Rattle.adya_values.specs.Computing.Certificates.{lists_the_committed, first_backward}
use Rattle.adya_text.specs.declared.read_fault.ReadFault.TheVariants.{Syntax}
use Rattle.adya_text.specs.declared.read_fault.Text.{Text}
use Rattle.adya_text.specs.declared.read_fault.Text.TheVariants as Of
use Rattle.adya_text.specs.Clauses.Grammars.{AreHistoryLines}
use Rattle.adya_text.specs.Clauses.Faults.{IsFaultLine}
use Rattle.adya_text.specs.Laws.{HasOneFaultLine, HasNoFaultWithin}
use Rattle.adya_text.specs.Clauses.Reading.{ReadsHistory}
use Rattle.adya_audit.specs.Meaning.Verdicts.{Verdict}
use Rattle.adya_audit.specs.Computing.Verdicts.{verdict_of}
use Rattle.adya_audit.specs.Meaning.Verdicts as Said
use Rattle.adya_audit.specs.Clauses.TextVerdicts.{NamesHistoryFault}
use Rattle.adya_audit.proofs.TextVerdicts.{history_fault, no_syntax, text_read}
use Rattle.adya_audit.proofs.YesIffTextsAccepted.{no_history_fault}

-- the fault that reading met
pub fault_named : HasOneFaultLine AreHistoryLines → (known : Option (List ℕ)) (text : Text) (line : ℕ)
    → IfSome known (λ h. ReadsHistory h (Err (Syntax text line)))
    → IfSome known (λ h. NamesHistoryFault h (Said.Syntax Of.History line))
fault_named one None text line r = tt
fault_named one (Some h) text line r =
    let fault = history_fault h text line r in
    λ k. (
      λ e. let same : line ≡ k = cc e in subst (λ (j : ℕ). IsFaultLine AreHistoryLines h j) same fault,
      λ other. ap (Said.Syntax Of.History) (one h line k fault other),
    )

-- a history was read, and the verdict names no fault of it
pub none_named : HasNoFaultWithin AreHistoryLines → (known : Option (List ℕ)) (x : History) (v : Verdict)
    → IfSome known (λ h. ReadsHistory h (Ok x)) → ((k : ℕ) → v ≡ Said.Syntax Of.History k → ⊥)
    → IfSome known (λ h. NamesHistoryFault h v)
none_named none None x v r other = tt
none_named none (Some h) x v r other = λ k. (
  λ e. absurd (other k e),
  λ fault. absurd (no_history_fault none h (history_of x) k (text_read h x r) fault),
)

-- the same, if the verdict is that on what was read
pub verdict_names_none : HasNoFaultWithin AreHistoryLines → (known : Option (List ℕ)) (x : History) (ts : List ℕ)
    (v : Verdict) → IfSome known (λ h. ReadsHistory h (Ok x)) → v ≡ verdict_of (history_of x) ts
    → IfSome known (λ h. NamesHistoryFault h v)
verdict_names_none none known x ts v r e =
    let h = history_of x in
    none_named none known x v r (λ k s.
    no_syntax (first_fault h) (lists_the_committed h ts) (first_backward h ts) Of.History k (sym s ∙ e))
