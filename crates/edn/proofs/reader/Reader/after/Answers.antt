use Rattle.std.proofs.Common.{ap, ◌∙◌}
use Rattle.edn.proofs.TextsRead.{begins}
use Rattle.edn.proofs.reader.Reader.after.Goals as goal

pub returns-clause-begins : goal.returns-clause-begins
returns-clause-begins c = λ text.
    begins text c.args.front.now c.of.result (ap (λ i. i.beyond) c.of.ensures.input ∙ c.in_ok-after.ensures.0)
    (ap (λ i. i.pending) c.of.ensures.input ∙ c.in_ok-after.ensures.1)
    (ap (λ i. i.line) c.of.ensures.input ∙ c.in_ok-after.ensures.2) c.of.ensures.stage c.of.ensures.idle
