use Rattle.std.proofs.Common.{ap, ◌∙◌, []}
use Rattle.edn.proofs.TextsRead.{begins}
use Rattle.edn.proofs.reader.Reader.new.Goals as goal

pub returns-clause-begins : goal.returns-clause-begins
returns-clause-begins c = λ text.
    begins text [] c.of.result (ap (λ i. i.beyond) c.of.ensures.input ∙ c.new.ensures.beyond)
    (ap (λ i. i.pending) c.of.ensures.input ∙ c.new.ensures.pending) (ap (λ i. i.line) c.of.ensures.input ∙ c.new.ensures.line) c.of.ensures.stage c.of.ensures.idle
