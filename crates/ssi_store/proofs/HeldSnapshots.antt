-- The store keeps to the conditions of its parts, and what open transactions see is held.
use Rattle.ssi_versions.specs.Laws.Changes.{HeldShows}
use Rattle.ssi_store.specs.Meaning.Acts.{acts}
use Rattle.ssi_store.specs.Laws.{CallsAreAllowed, OpenSnapshotsAreHeld}
use Rattle.ssi_store.specs.Meaning.Seeing.{changed, snapshot}
use Rattle.ssi_store.proofs.ChangesAllowed.{changed_installable, open_protected}
use Rattle.ssi_store.proofs.SoundCourses.{course_stands}
use Rattle.ssi_store.proofs.TrackedCalls.{tracked_allowed}

pub calls_are_allowed : CallsAreAllowed
calls_are_allowed pivot c f = (tracked_allowed (acts c) (course_stands pivot c f).sound, changed_installable (acts c))

pub open_snapshots_are_held : HeldShows → OpenSnapshotsAreHeld
open_snapshots_are_held shows pivot c f t e =
    let p = open_protected (acts c) (course_stands pivot c f).sound t e in record {
      protected = p;
      is_held = λ k. shows (changed (acts c)) (changed_installable (acts c)) k (snapshot t (acts c)) p;
    }
