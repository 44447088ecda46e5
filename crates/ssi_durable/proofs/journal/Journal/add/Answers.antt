use Rattle.std.proofs.Common.{false, refl, subst, sym, List, ℕ, ◌∷◌, [], ◌++◌}
use Rattle.ssi_durable.specs.Clauses.Journals.{IsJournal}
use Rattle.ssi_durable.proofs.Journaling.{line_added, with_flags}
use Rattle.ssi_durable.proofs.journal.Journal.add.Goals as goal

pub returns : goal.returns
returns g c = λ sure all keeps plain clean.
    let self = c.args.self.now in
    let line = c.args.line.now in
    let was = with_flags self.log self.buffer self.is_settled self.is_settled self.has_failed false sure all refl c.requires.going keeps in
    with_flags self.log c.add.new.self false false false self.has_failed sure (all ++ (line ∷ [])) refl (sym c.requires.going)
    (subst (λ (b : List ℕ). IsJournal self.log b false false sure (all ++ (line ∷ []))) (sym c.add.ensures)
    (line_added self.log self.buffer line self.is_settled sure all was plain clean))
