use Rattle.ssi_hub.specs.Machinery.Changes.{buffers_in}
use Rattle.ssi_hub.proofs.Standing.{wrote_so}
use Rattle.ssi_hub.proofs.hub.Hub.written.Goals as goal

pub returns-clause-stands : goal.returns-clause-stands
returns-clause-stands c = λ keeps calls s.
    wrote_so keeps (buffers_in c.args.self.now.connections) (buffers_in c.written.new.self) c.args.self.now.next
    c.args.self.now.stopped c.args.token c.args.count calls s c.written.ensures
