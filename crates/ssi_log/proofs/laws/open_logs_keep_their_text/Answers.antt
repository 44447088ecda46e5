use Rattle.ssi_log.proofs.Standings.{keeps_text}
use Rattle.ssi_log.proofs.laws.open_logs_keep_their_text.Goals as goal

pub returns-clause-kept : goal.returns-clause-kept
returns-clause-kept g c = λ text has. keeps_text c.args.log.now text has
