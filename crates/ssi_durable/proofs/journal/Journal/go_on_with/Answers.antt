use Rattle.std.proofs.Common.{true, false, subst, sym, List, ℕ}
use Rattle.ssi_durable.specs.Clauses.Journals.{IsJournal}
use Rattle.ssi_durable.proofs.Journaling.{begins}
use Rattle.ssi_durable.proofs.journal.Journal.go_on_with.Goals as goal

pub returns-clause-keeps : goal.returns-clause-keeps
returns-clause-keeps g c = λ lines all.
    subst (λ (b : List ℕ). IsJournal c.args.log b true false lines lines) (sym c.clear.ensures)
    (begins c.args.log lines all c.open_logs_keep_their_text.ensures.kept)
