use Rattle.std.proofs.Common.{false, true, refl, subst, sym, ◌∙◌, List, ℕ}
use Rattle.ssi_log.specs.declared.log.Log.{Log}
use Rattle.ssi_durable.specs.Clauses.Journals.{IsJournal}
use Rattle.ssi_durable.proofs.Journaling.{stays, syncs, fails_to_stay, with_flags, full_is_same, may_go_on}
use Rattle.ssi_durable.proofs.journal.Journal.extend.Goals as goal

pub returns-in_default-clause-keeps : goal.returns-in_default-clause-keeps
returns-in_default-clause-keeps g c = λ sure all keeps.
    let self = c.args.self.now in
    let was = with_flags self.log self.buffer self.is_settled self.is_settled self.has_failed false sure all refl c.requires keeps in
    with_flags c.extend.new.self self.buffer self.is_settled self.is_settled false self.has_failed sure all refl (sym c.requires)
    (syncs self.log c.extend.new.self self.buffer self.is_settled sure all was c.open_logs_keep_their_text.ensures.synced
    c.in_default.ensures.text c.extend.ensures.crash)

pub returns-then-is_full-clause-keeps : goal.returns-then-is_full-clause-keeps
returns-then-is_full-clause-keeps g c = λ sure all keeps.
    let self = c.args.self.now in
    let was = with_flags self.log self.buffer self.is_settled self.is_settled self.has_failed false sure all refl c.requires keeps in
    let full = sym c.is_full.ensures ∙ c.if-is_full.true in
    with_flags c.extend.new.self self.buffer self.is_settled self.is_settled false self.has_failed sure all refl (sym c.requires)
    (stays self.log c.extend.new.self self.buffer self.is_settled sure all was
    (λ text has. c.in-Err.ensures.full text has (may_go_on c.in-Err.fault full)) c.extend.ensures.crash
    (full_is_same self.log c.extend.new.self 1048576 c.in-Err.fault full c.in-Err.ensures.fault))

pub returns-clause-keeps : goal.returns-clause-keeps
returns-clause-keeps g c = λ sure all keeps.
    let self = c.args.self.now in
    let was = with_flags self.log self.buffer self.is_settled self.is_settled self.has_failed false sure all refl c.requires keeps in
    let now = c.fail.new.self in
    with_flags now.log now.buffer false now.is_settled true now.has_failed sure all (sym c.fail.ensures.settled) (sym c.fail.ensures.failed)
    (subst (λ (b : List ℕ). IsJournal now.log b false true sure all) (sym c.fail.ensures.buffer)
    (subst (λ (l : Log _ _). IsJournal l self.buffer false true sure all) (sym c.fail.ensures.log)
    (fails_to_stay self.log c.extend.new.self self.buffer self.is_settled sure all was c.extend.ensures.crash)))
