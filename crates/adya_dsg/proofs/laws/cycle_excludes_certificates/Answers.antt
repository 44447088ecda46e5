use Rattle.adya_dsg.proofs.Certificates.{no_cycle}
use Rattle.adya_dsg.proofs.laws.cycle_excludes_certificates.Goals as goal

pub returns : goal.returns
returns c = no_cycle c.cycle_excludes_order.ensures
