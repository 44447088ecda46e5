use Rattle.ssi_durable.proofs.Journaling.{all_sure}
use Rattle.ssi_durable.proofs.journal.Journal.settled_lines_are_sure.Goals as goal

pub returns : goal.returns
returns g c = λ settled sure all keeps.
    all_sure c.args.self.now.log c.args.self.now.buffer c.args.self.now.is_settled c.args.self.now.has_failed sure all settled keeps
    c.open_logs_keep_their_text.ensures.kept
