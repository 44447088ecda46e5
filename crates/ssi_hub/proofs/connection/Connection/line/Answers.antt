use Rattle.std.proofs.Common.{◌∙◌, sym, ap}
use Rattle.ssi_hub.specs.Clauses.Buffers.{Buffers}
use Rattle.ssi_hub.specs.Clauses.Clipping.{has_line}
use Rattle.ssi_hub.proofs.Clips.{plain_has_none}
use Rattle.ssi_hub.proofs.connection.Connection.line.Goals as goal

pub returns-in_default-clause-none : goal.returns-in_default-clause-none
returns-in_default-clause-none c =
    sym (ap (λ (b : Buffers). has_line b.waiting) c.self.view_is)
    ∙ plain_has_none c.self.inside.inbox c.in_default.ensures.none
