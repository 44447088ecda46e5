use Rattle.std.proofs.Common.{Option, None, ◌∙◌, ap, if◌then◌else◌}
use Rattle.ssi_hub.specs.Clauses.Buffers.{Buffers}
use Rattle.ssi_hub.specs.Clauses.Outcomes.{lost_by}
use Rattle.ssi_hub.proofs.connections.Connections.run.Goals as goal

pub returns : goal.returns
returns g c =
    let (old, now, has, changes, carried) = c.in-Some.ensures.some in
    record {
      before = old;
      now = now;
      has = has;
      changes = record {
        own = c.remove_lost.ensures.own
            ∙ ap (λ (o : Option Buffers). if lost_by c.in-Some.outcome then None else o) changes.own;
        others = λ u apart. c.remove_lost.ensures.others u apart ∙ changes.others u apart;
      };
      carried = carried;
    }
