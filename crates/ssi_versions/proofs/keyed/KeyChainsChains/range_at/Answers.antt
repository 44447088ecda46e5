use Rattle.std.proofs.Common.{◌∙◌, ap, map}
use Rattle.adya_keys.specs.Meaning.Keys.{keys_rise}
use Rattle.ssi_versions.specs.Mirror.{found_in, key_in}
use Rattle.ssi_versions.proofs.Entries.{chains_by_stamp, range_by_stamp}
use Rattle.ssi_versions.proofs.InRange.{found_between, rising_between}
use Rattle.ssi_versions.proofs.keyed.KeyChainsChains.range_at.Goals as goal

pub returns-clause-rising : goal.returns-clause-rising
returns-clause-rising c = ap (λ hs. keys_rise (map key_in hs)) c.in_ok-found.ensures
    ∙ rising_between c.args.low c.args.high c.args.stamp c.args.self.now.chains.entries c.args.self.now.owned c.len-ordered.ensures.ordered

pub returns-clause-found : goal.returns-clause-found
returns-clause-found c = λ q. ap (found_in q) c.in_ok-found.ensures
    ∙ found_between c.args.low c.args.high c.args.stamp q c.args.self.now.chains.entries c.args.self.now.owned c.len-ordered.ensures.ordered

pub seen_between-requires-clause-rising : goal.seen_between-requires-clause-rising
seen_between-requires-clause-rising c =
    range_by_stamp c.args.low c.args.high c.args.self.now.chains.entries
    (chains_by_stamp c.args.self.now.chains.entries c.args.self.now.owned c.len-ordered.ensures.ordered c.args.self.now.rise)
