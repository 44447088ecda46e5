-- The history of a course records it.
use Rattle.std.proofs.Common.{ap, map, refl, ◌++◌, ◌∙◌}
use Rattle.ssi_store.specs.Meaning.Acts.{acts, open_txns, begun}
use Rattle.ssi_store.specs.Meaning.Faces.{Face as Seen}
use Rattle.ssi_store.specs.Laws.{DumpedRecord, FinishedRecord}
use Rattle.ssi_store.proofs.RecordedCourses.{close_faces, faces_are}
use Rattle.ssi_store.proofs.SoundCourses.{course_stands}
use Rattle.ssi_store.proofs.Snapshots.{begun_rise}

pub finished_record : FinishedRecord
finished_record pivot c f =
    let s = course_stands pivot c f in
    close_faces (begun (acts c)) (acts c) (begun_rise (acts c) s.sound) ∙
    ap (λ l. l ++ map Seen.Aborts (open_txns (acts c))) (faces_are pivot c f)

pub dumped_record : DumpedRecord
dumped_record pivot c f = record { steps = faces_are pivot c f; still_open = refl }
