use Rattle.std.proofs.Common.{Option, None, ◌∙◌, ap, if◌then◌else◌}
use Rattle.ssi_hub.specs.Clauses.Buffers.{Buffers}
use Rattle.ssi_hub.specs.Clauses.Outcomes.{lost_by}
use Rattle.ssi_hub.proofs.connections.Connections.step.Goals as goal

pub returns : goal.returns
returns g c =
    let (old, now, has, ready, changes, steps) = c.in-Some.ensures.some in
    record {
      before = old;
      now = now;
      has = has;
      ready = ready;
      changes = record {
        own = c.remove_lost.ensures.own
            ∙ ap (λ (o : Option Buffers). if lost_by c.in-Some.carried.outcome then None else o) changes.own;
        others = λ u apart. c.remove_lost.ensures.others u apart ∙ changes.others u apart;
      };
      steps = steps;
    }
