use Rattle.ssi_store.specs.Meaning.Courses.{New}
use Rattle.ssi_line.specs.Meaning.Steps.{course_after}
use Rattle.ssi_cli.specs.Clauses.Connections.{steps_of}
use Rattle.ssi_cli.proofs.socket.run_socket.Goals as goal

pub returns-clause-run : goal.returns-clause-run
returns-clause-run g c =
    let (turns, went_on) = c.serve_socket-served.ensures in
    let (follow, at) = went_on (New 1) c.new_store-store.ensures in
    (turns, follow, c.write_texts-written.ensures.texts (course_after (New 1) (steps_of turns.connections)) at)
