use Rattle.std.proofs.Common.{refl}
use Rattle.ssi_store.specs.Meaning.Courses.{New}
use Rattle.ssi_line.specs.Meaning.Steps.{course_after}
use Rattle.ssi_cli.proofs.script.follow_script.Goals as goal

pub returns-clause-run : goal.returns-clause-run
returns-clause-run g c =
    let (lines, steps, after, took, went_on, ends) = c.serve-end.ensures.run in
    let (follow, at) = went_on (New 1) c.new_store-store.ensures in (
      record {
        end = c.serve-end.result;
        lines = lines;
        steps = steps;
        after = after;
        took = took;
        follow = follow;
        ends = ends;
      },
      refl,
      c.write_texts-written.ensures.texts (course_after (New 1) steps) at,
    )

pub returns-clause-shown : goal.returns-clause-shown
returns-clause-shown g c = record {
  read_fault = c.serve-end.ensures.read_fault;
  write_fault = c.serve-end.ensures.write_fault;
  eof = c.serve-end.ensures.eof;
  unfailed = c.serve-end.ensures.unfailed;
}

pub returns-clause-stream : goal.returns-clause-stream
returns-clause-stream g c = c.serve-end.ensures.stream
