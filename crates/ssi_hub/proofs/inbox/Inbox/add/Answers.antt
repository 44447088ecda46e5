use Rattle.std.proofs.Common.{◌++◌, ◌∙◌, List, ℕ, ap}
use Rattle.ssi_hub.specs.Clauses.Clipping.{clipped}
use Rattle.ssi_hub.proofs.Clips.{inbox_grows}
use Rattle.ssi_hub.proofs.inbox.Inbox.add.Goals as goal

pub invariant_of-self : goal.invariant_of-self
invariant_of-self c =
    let (whole, last) = c.self.invariant in
    let grown = inbox_grows c.self.inside.waiting c.add_clipped.new.to c.args.bytes.now c.self.inside.unfinished
    c.in-Ok.unfinished whole last c.in-Ok.ensures.ok c.in-Ok.ensures.unfinished in
    (grown.1, grown.2)

pub returns-in-Ok-clause-ok : goal.returns-in-Ok-clause-ok
returns-in-Ok-clause-ok c =
    let (whole, last) = c.self.invariant in
    (inbox_grows c.self.inside.waiting c.add_clipped.new.to c.args.bytes.now c.self.inside.unfinished
    c.in-Ok.unfinished whole last c.in-Ok.ensures.ok c.in-Ok.ensures.unfinished).0
    ∙ ap (λ (l : List ℕ). clipped (l ++ c.args.bytes.now)) c.self.view_is
