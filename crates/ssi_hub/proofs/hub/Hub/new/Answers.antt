use Rattle.ssi_hub.specs.Machinery.Changes.{buffers_in}
use Rattle.ssi_hub.proofs.Standing.{new_so}
use Rattle.ssi_hub.proofs.hub.Hub.new.Goals as goal

pub returns-clause-stands : goal.returns-clause-stands
returns-clause-stands c = λ keeps. new_so keeps (buffers_in c.new.result) c.new.ensures
