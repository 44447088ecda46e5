use Rattle.ssi_line.proofs.Runs.{told_and}
use Rattle.ssi_line.proofs.serving.answer.Goals as goal

pub returns-clause-answered : goal.returns-clause-answered
returns-clause-answered g c = λ text is.
    let (step, made, carried, went, logged) = c.carry_out-carried.ensures.carried in (
      step,
      record {
        made = made text is;
        told = told_and g.W.Write.contents c.carry_out-carried.result.written c.and.result
            c.carry_out-carried.result.stops step c.args.out.now c.carry_out-carried.new.out c.and.ensures carried.stops
            carried.said;
      },
      went,
    )
