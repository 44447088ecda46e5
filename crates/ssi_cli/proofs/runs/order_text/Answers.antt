use Rattle.std.proofs.Common.{◌≡◌, ◌≢◌, ◌↔◌, ◌∙◌, List, ℕ, refl, sym}
use Rattle.adya_audit.specs.declared.ordered.Ordered.{Ordered}
use Rattle.adya_audit.specs.declared.ordered.Ordered.TheVariants.{Serial, Cycle, No}
use Rattle.adya_audit.specs.Clauses.Answers.{Answer, Certificate, Tells}
use Rattle.ssi_cli.proofs.runs.order_text.Goals as goal

fine : {Said : Type 0} (ordered : Ordered) (answer : Answer) → Tells ordered answer → Said ↔ (ordered ≡ Serial)
    → Said ↔ ((txns : List ℕ) × (answer ≡ Certificate txns))
fine Serial answer tells said = (λ _. tells, λ _. said.1 refl)
fine Cycle answer tells said = (λ is. absurd (cc (said.0 is)), λ found. absurd (cc (sym found.1 ∙ tells.1)))
fine (No v) answer tells said = (λ is. absurd (cc (said.0 is)), λ found. absurd (cc (sym found.1 ∙ tells)))

refused : {Said : Type 0} (ordered : Ordered) (answer : Answer) → Tells ordered answer → Said ↔ (ordered ≢ Serial)
    → Said ↔ ((txns : List ℕ) → answer ≢ Certificate txns)
refused Serial answer tells said = (λ is. absurd (said.0 is refl), λ none. absurd (none tells.0 tells.1))
refused Cycle answer tells said = (λ _ txns is. absurd (cc (sym is ∙ tells.1)), λ _. said.1 (λ same. absurd (cc same)))
refused (No v) answer tells said = (λ _ txns is. absurd (cc (sym is ∙ tells)), λ _. said.1 (λ same. absurd (cc same)))

pub returns-clause-answer : goal.returns-clause-answer
returns-clause-answer g c =
    let (answer, tells, on_text, written) = c.in_ok-ordered.ensures.answer in (
      answer,
      record {
        written = written;
        fine = fine c.in_ok-ordered.ordered answer tells c.of_ordered.ensures.fine;
        refused = refused c.in_ok-ordered.ordered answer tells c.of_ordered.ensures.refused;
      },
      on_text,
    )
