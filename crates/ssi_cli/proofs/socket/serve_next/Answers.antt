use Rattle.std.proofs.Common.{refl}
use Rattle.ssi_cli.proofs.socket.serve_next.Goals as goal

pub returns-clause-served : goal.returns-clause-served
returns-clause-served g c =
    let (lines, steps, rest, took, went_on, ends) = c.serve-end.ensures.run in (
      record {
        before = c.args.listener.now;
        during = c.accept.new.self;
        after = c.close.new.self;
        reader = c.in-Ok.reader;
        writer = c.in-Ok.writer;
        last_reader = c.serve-end.new.reader;
        last_writer = c.serve-end.new.writer;
        lines = lines;
        steps = steps;
        rest = rest;
        end = c.serve-end.result;
        accepted = c.in-Ok.ensures.accepted;
        took = took;
        ends = ends;
        shown = record {
          read_fault = c.serve-end.ensures.read_fault;
          write_fault = c.serve-end.ensures.write_fault;
          eof = c.serve-end.ensures.eof;
          unfailed = c.serve-end.ensures.unfailed;
        };
        closed = c.close.ensures;
      },
      refl,
      refl,
      refl,
      went_on,
    )
