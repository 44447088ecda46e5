use Rattle.edn.proofs.OneReading.{token_again}
use Rattle.edn.proofs.laws.tokens_are_read.Goals as goal

pub returns : goal.returns
returns c = λ t text rest h. token_again h
