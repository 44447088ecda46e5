use Rattle.ssi_log.proofs.Standings.{keeps_text}
use Rattle.ssi_log.proofs.log.Log.sync.Goals as goal

pub returns-in-Err-clause-crash : goal.returns-in-Err-clause-crash
returns-in-Err-clause-crash g c = λ text has file left. keeps_text c.args.self.now text has file (c.sync.ensures.crash file left)

pub returns-clause-crash : goal.returns-clause-crash
returns-clause-crash g c = λ text has file left. keeps_text c.args.self.now text has file (c.sync.ensures.crash file left)
