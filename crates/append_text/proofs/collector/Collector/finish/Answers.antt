use Rattle.append_text.proofs.Collecting.{history_of}
use Rattle.append_text.proofs.collector.Collector.finish.Goals as goal

pub returns : goal.returns
returns c = λ notation forms has. history_of notation forms c.args.self c.finish.result has c.args.self.names.one_to_one
    c.finish.ensures.names c.finish.ensures.passed_over c.finish.ensures.transactions c.finish.ensures.labels
