use Rattle.ssi_store.specs.Meaning.Courses.{New}
use Rattle.ssi_hub.specs.Clauses.Calls.{all_steps}
use Rattle.ssi_line.specs.Meaning.Steps.{course_after}
use Rattle.ssi_cli.proofs.together.run_together.Goals as goal

pub returns-clause-run : goal.returns-clause-run
returns-clause-run g c =
    let (together, went_on) = c.serve_together-served.ensures.served in
    let (follow, at) = went_on (New 1) c.new_store-store.ensures in
    (together, follow, c.write_texts-written.ensures.texts (course_after (New 1) (all_steps together.calls)) at)
