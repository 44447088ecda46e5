use Rattle.std.proofs.Common.{rules, ◌≡◌}
use Rattle.adya_values.specs.declared.edition.Edition.TheVariants as Edition
use Rattle.adya_values.specs.Mirror.Lines.{finals_of, orders_of}
use Rattle.adya_values.specs.Mirror.Events as lists
use Rattle.ssi_recorder.specs.Meaning.Recorded.{orders_of_events, finals_of_events}
use Rattle.ssi_recorder.specs.Mirror.{events_of}
use Rattle.ssi_recorder.proofs.Ended.{same_history}
use Rattle.ssi_recorder.proofs.recorder.Recorder.dump.Goals as goal

pub returns : goal.returns
returns c =
    let made = c.unwrap-history.result in
    let events = events_of c.args.self.now in
    let is_two : made.edition ≡ Edition.Two = Prim.search rules in
    let has_events : lists.events_of made.events ≡ events = Prim.search rules in
    let names_unfinished : made.unfinished.items ≡ c.args.active.now = Prim.search rules in
    let orders : orders_of made.orders ≡ orders_of_events events = Prim.search rules in
    let finals : finals_of made.finals ≡ finals_of_events events = Prim.search rules in
    same_history is_two has_events names_unfinished orders finals
