use Rattle.std.proofs.Common.{List, ℕ, ap, ◌∙◌}
use Rattle.ssi_hub.specs.Clauses.Clipping.{has_line}
use Rattle.ssi_hub.proofs.Clips.{waits_so}
use Rattle.ssi_hub.proofs.inbox.Inbox.has_line.Goals as goal

pub returns : goal.returns
returns c =
    let (whole, last) = c.self.invariant in
    waits_so c.self.inside.waiting c.self.inside.unfinished c.len.result whole last c.len.ensures
    ∙ ap (λ (l : List ℕ). has_line l) c.self.view_is
