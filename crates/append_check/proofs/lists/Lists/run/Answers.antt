use Rattle.append_values.specs.Meaning.Histories.{transaction_of}
use Rattle.append_check.specs.Machinery.Running.{lists_of}
use Rattle.append_check.proofs.Running.{claims_of}
use Rattle.append_check.proofs.lists.Lists.run.Goals as goal

pub returns : goal.returns
returns c b =
    let t = transaction_of c.args.transaction.now in
    let said = rw c.effects.ensures at (c.in_ok-fine.ensures b) in
    (claims_of (lists_of c.args.self.now) t.outcome t.operations c.is_committed-claims.result c.is_committed-claims.ensures said.0, said.1)
