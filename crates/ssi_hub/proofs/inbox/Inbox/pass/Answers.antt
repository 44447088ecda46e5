use Rattle.std.proofs.Common.{◌∙◌, List, ℕ, ap, drop}
use Rattle.ssi_hub.proofs.Clips.{pass_keeps}
use Rattle.ssi_hub.proofs.inbox.Inbox.pass.Goals as goal

pub invariant_of-self : goal.invariant_of-self
invariant_of-self c =
    let (whole, last) = c.self.invariant in
    let (line, rest, plain, is, counted) = c.requires in
    pass_keeps c.self.inside.waiting c.take-2.new.self c.args.len c.self.inside.unfinished
    (line, rest, plain, c.self.view_is ∙ is, counted) whole last
    (c.take-2.ensures ∙ ap (λ (l : List ℕ). drop 1 l) c.take.ensures)
