use Rattle.std.proofs.Common.{sym, subst, arith}
use Rattle.std.proofs.lemmas.Grind.{common_steps}
use Rattle.lemmas.proofs.Indices.{flat_map_more}
use Rattle.adya_values.specs.Mirror.Events.{events_of, view_of}
use Rattle.devices.specs.Clauses.Writing.{Grew}
use Rattle.adya_line.specs.Meaning.Spelling.{event_text}
use Rattle.adya_text.specs.Machinery.TextParts.{ended}
use Rattle.adya_text.proofs.writing.put_events.Goals as goal

pub loop-i-preserved : goal.loop-i-preserved
loop-i-preserved g c =
    let events = events_of c.args.events.now in
    let more = flat_map_more (λ e. ended (event_text e)) events c.loop-i.i (view_of c.at-event.result) c.at-event.ensures in
    subst (λ bytes. Grew g.W.Write.contents c.args.out.now c.put.new.out bytes) (sym more)
    (grind (arith, common_steps))
