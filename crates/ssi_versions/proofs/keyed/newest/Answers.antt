use Rattle.std.proofs.Common.{arith, length, ◌-◌, get_or}
use Rattle.std.proofs.lemmas.List.{get_or_default}
use Rattle.ssi_versions.proofs.Rising.{newest_whole}
use Rattle.ssi_versions.proofs.keyed.newest.Goals as goal

pub returns : goal.returns
returns c = newest_whole c.args.chain.now (length c.args.chain.now - 1) (get_or c.args.chain.now (length c.args.chain.now - 1) c.index-chain-n.result) (omega arith)
    (get_or_default c.args.chain.now (length c.args.chain.now - 1) c.index-chain-n.result _ (omega arith))
