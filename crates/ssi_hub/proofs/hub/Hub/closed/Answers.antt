use Rattle.ssi_hub.specs.Machinery.Changes.{buffers_in}
use Rattle.ssi_hub.proofs.Standing.{closed_so}
use Rattle.ssi_hub.proofs.hub.Hub.closed.Goals as goal

pub returns-clause-stands : goal.returns-clause-stands
returns-clause-stands c = λ keeps calls s.
    closed_so keeps (buffers_in c.args.self.now.connections) (buffers_in c.remove.new.self) c.args.self.now.next
    c.args.self.now.stopped c.args.token calls s c.remove.ensures
