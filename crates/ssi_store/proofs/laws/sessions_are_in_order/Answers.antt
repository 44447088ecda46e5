use Rattle.ssi_store.specs.Meaning.Acts.{acts}
use Rattle.ssi_store.proofs.SoundCourses.{course_stands}
use Rattle.ssi_store.proofs.Snapshots.{begun_rise}
use Rattle.ssi_store.proofs.laws.sessions_are_in_order.Goals as goal

pub returns : goal.returns
returns c pivot d f =
    let stands = course_stands pivot d f in
    record {
      opened = stands.opened;
      held = stands.held;
      apart = stands.apart;
      rising = begun_rise (acts d) stands.sound;
      below = stands.below;
    }
