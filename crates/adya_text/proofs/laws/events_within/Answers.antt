use Rattle.std.proofs.Common.{arith}
use Rattle.lemmas.proofs.Indices.{all_more}
use Rattle.adya_values.specs.Mirror.Events.{events_of}
use Rattle.adya_line.specs.Meaning.Limits.{IsEvent}
use Rattle.adya_text.proofs.laws.events_within.Goals as goal

pub loop-i-preserved : goal.loop-i-preserved
loop-i-preserved c =
    all_more IsEvent (events_of c.args.events.now) c.loop-i.i (omega arith) c.event_at_within.ensures c.loop-i.invariant
