use Rattle.ssi_hub.specs.Machinery.Changes.{buffers_in}
use Rattle.ssi_hub.proofs.Standing.{received_so}
use Rattle.ssi_hub.proofs.hub.Hub.received.Goals as goal

pub returns-clause-stands : goal.returns-clause-stands
returns-clause-stands c = λ keeps calls s.
    received_so keeps c.received.result (buffers_in c.args.self.now.connections) (buffers_in c.received.new.self)
    c.args.self.now.next c.args.self.now.stopped c.args.token c.args.bytes.now calls s
    c.received.ensures.ok c.received.ensures.err
