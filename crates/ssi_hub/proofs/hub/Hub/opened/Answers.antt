use Rattle.std.proofs.Common.{refl}
use Rattle.ssi_hub.specs.Machinery.Changes.{buffers_in}
use Rattle.ssi_hub.proofs.Standing.{opened_so, stands_same}
use Rattle.ssi_hub.proofs.hub.Hub.opened.Goals as goal

pub returns-in_default-add-clause-stands : goal.returns-in_default-add-clause-stands
returns-in_default-add-clause-stands c = λ keeps calls s.
    stands_same keeps (buffers_in c.args.self.now.connections) (buffers_in c.add.new.self) c.args.self.now.next
    c.args.self.now.next c.args.self.now.stopped c.args.self.now.stopped calls c.in_default-add.ensures.err refl refl s

pub returns-clause-stands : goal.returns-clause-stands
returns-clause-stands c = λ keeps calls s.
    opened_so keeps (buffers_in c.args.self.now.connections) (buffers_in c.add.new.self) c.args.self.now.next c.in-Some.next
    c.args.self.now.stopped calls s c.in-Ok.ensures.ok c.in-Some.ensures.1
