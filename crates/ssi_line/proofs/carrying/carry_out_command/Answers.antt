use Rattle.std.proofs.Common.{refl, sym}
use Rattle.ssi_store.specs.Mirror.Commands.{command_of, answer_of}
use Rattle.ssi_line.proofs.Counted.{logged}
use Rattle.ssi_line.proofs.Drafts.{said}
use Rattle.ssi_line.proofs.carrying.carry_out_command.Goals as goal

pub returns-clause-carried : goal.returns-clause-carried
returns-clause-carried g c =
    let answer = answer_of c.apply-reply.result in (
      answer,
      record {
        stops = refl;
        counted = sym c.counts.ensures;
        said = said g.W.Write.contents c.write_reply.result c.args.out.now c.write_reply.new.out _
            c.write_reply.ensures.wrote c.write_reply.ensures.broke;
      },
      λ course at. ((c.apply-reply.ensures.answers course at, tt), c.apply-reply.ensures.stands course at),
      λ course at. (
        c.apply-reply.ensures.answers course at,
        logged g.S.AnyStore.is_at c.apply-reply.new.self course
            (command_of c.args.command) answer (c.stats_change_nothing.ensures course)
            (c.refusals_change_nothing.ensures course) (c.apply-reply.ensures.stands course at),
      ),
    )
