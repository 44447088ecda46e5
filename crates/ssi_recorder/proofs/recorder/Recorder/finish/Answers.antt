use Rattle.std.proofs.Common.{rules, ◌≡◌, [], ◌++◌, map, ◌∙◌}
use Rattle.adya_values.specs.declared.edition.Edition.TheVariants as Edition
use Rattle.adya_values.specs.Meaning.Histories.{Abort}
use Rattle.adya_values.specs.Mirror.Lines.{finals_of, orders_of}
use Rattle.adya_values.specs.Mirror.Events as lists
use Rattle.ssi_recorder.specs.Meaning.Recorded.{orders_of_events, finals_of_events}
use Rattle.ssi_recorder.specs.Mirror.{events_of}
use Rattle.ssi_recorder.proofs.Ended.{orders_ended, finals_ended, same_history}
use Rattle.ssi_recorder.proofs.recorder.Recorder.finish.Goals as goal

pub returns-clause-history : goal.returns-clause-history
returns-clause-history c =
    let made = c.unwrap.result in
    let events = events_of c.args.self in
    let is_one : made.edition ≡ Edition.One = Prim.search rules in
    let has_events : lists.events_of made.events ≡ events ++ map Abort c.args.active.now = Prim.search rules in
    let none_unfinished : made.unfinished.items ≡ [] = Prim.search rules in
    let orders : orders_of made.orders ≡ orders_of_events events = Prim.search rules in
    let finals : finals_of made.finals ≡ finals_of_events events = Prim.search rules in
    same_history is_one has_events none_unfinished (orders ∙ orders_ended events c.args.active.now)
    (finals ∙ finals_ended events c.args.active.now)

pub returns-in-Err-clause-err : goal.returns-in-Err-clause-err
returns-in-Err-clause-err c = search rules

pub invariant_of-self : goal.invariant_of-self
invariant_of-self c = record { kept = c.reserve.ensures.kept c.args.self.places c.args.self.kept }
