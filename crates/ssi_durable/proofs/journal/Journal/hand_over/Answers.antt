use Rattle.std.proofs.Common.{false, true, refl, subst, sym, List, ℕ, ◌++◌}
use Rattle.ssi_log.specs.declared.log.Log.{Log}
use Rattle.ssi_log.specs.Meaning.Texts.{HasNoZero}
use Rattle.ssi_log.specs.Meaning.Crashes.{Keeps}
use Rattle.ssi_log.specs.Machinery.Standing.{HasText, disk_of, synced_of}
use Rattle.ssi_durable.specs.Clauses.Journals.{IsJournal}
use Rattle.ssi_durable.proofs.Journaling.{handed, not_handed, with_flags}
use Rattle.ssi_durable.proofs.journal.Journal.hand_over.Goals as goal

pub returns-in-Ok-clause-keeps : goal.returns-in-Ok-clause-keeps
returns-in-Ok-clause-keeps g c = λ sure all keeps.
    let self = c.args.self.now in
    let same = c.bytes.ensures in
    let was = with_flags self.log self.buffer self.is_settled self.is_settled self.has_failed false sure all refl c.requires keeps in
    with_flags c.append.new.self c.clear.new.self self.is_settled self.is_settled false self.has_failed sure all refl (sym c.requires)
    (subst (λ (b : List ℕ). IsJournal c.append.new.self b self.is_settled false sure all) (sym c.clear.ensures)
    (handed self.log c.append.new.self self.buffer self.is_settled sure all was
    (λ text has clean. subst (λ (b : List ℕ). HasText c.append.new.self (text ++ b)) same
    (c.in-Ok.ensures.text text has (subst HasNoZero (sym same) clean)))
    (λ text has clean. subst (λ (b : List ℕ). Keeps (g.D.Disk.may_leave (disk_of c.append.new.self)) (text ++ b) (synced_of self.log)) same
    (c.append.ensures.crash text has (subst HasNoZero (sym same) clean)))
    c.append.ensures.synced))

pub returns-in-Err-clause-keeps : goal.returns-in-Err-clause-keeps
returns-in-Err-clause-keeps g c = λ sure all keeps.
    let self = c.args.self.now in
    let same = c.bytes.ensures in
    let was = with_flags self.log self.buffer self.is_settled self.is_settled self.has_failed false sure all refl c.requires keeps in
    let now = c.fail.new.self in
    with_flags now.log now.buffer false now.is_settled true now.has_failed sure all (sym c.fail.ensures.settled) (sym c.fail.ensures.failed)
    (subst (λ (b : List ℕ). IsJournal now.log b false true sure all) (sym c.fail.ensures.buffer)
    (subst (λ (l : Log _ _). IsJournal l self.buffer false true sure all) (sym c.fail.ensures.log)
    (not_handed self.log c.append.new.self self.buffer self.is_settled sure all was
    (λ text has clean. subst (λ (b : List ℕ). Keeps (g.D.Disk.may_leave (disk_of c.append.new.self)) (text ++ b) (synced_of self.log)) same
    (c.append.ensures.crash text has (subst HasNoZero (sym same) clean))))))
