use Rattle.adya_terms.proofs.NewestWrites.{written_quiet, written_write}
use Rattle.adya_terms.proofs.newest_writes.NewestWrites.keep.Goals as goal

pub returns-in_default : goal.returns-in_default
returns-in_default c all before e m found = written_quiet c.args.self.now.places.items all before e m

pub returns-in-Some : goal.returns-in-Some
returns-in-Some c all before e m found = written_write c.args.self.now.places.items all before e m c.args.number c.args.at c.counted.result c.counted.ensures found
