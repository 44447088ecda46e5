use Rattle.std.proofs.Common.{◌∙◌, ap, map}
use Rattle.adya_keys.specs.Meaning.Keys.{keys_rise}
use Rattle.ssi_versions.specs.Mirror.{found_in, key_in}
use Rattle.ssi_versions.proofs.Entries.{chains_by_stamp, values_by_stamp}
use Rattle.ssi_versions.proofs.InRange.{found_all, rising_all}
use Rattle.ssi_versions.proofs.keyed.KeyChainsChains.all_at.Goals as goal

pub returns-clause-rising : goal.returns-clause-rising
returns-clause-rising c = ap (λ hs. keys_rise (map key_in hs)) c.in_ok-found.ensures
    ∙ rising_all c.args.stamp c.args.self.now.chains.entries c.args.self.now.owned c.len-ordered.ensures.ordered

pub returns-clause-found : goal.returns-clause-found
returns-clause-found c = λ q. ap (found_in q) c.in_ok-found.ensures
    ∙ found_all c.args.stamp q c.args.self.now.chains.entries c.args.self.now.owned c.len-ordered.ensures.ordered

pub seen_in_all-requires : goal.seen_in_all-requires
seen_in_all-requires c =
    values_by_stamp c.args.self.now.chains.entries
    (chains_by_stamp c.args.self.now.chains.entries c.args.self.now.owned c.len-ordered.ensures.ordered c.args.self.now.rise)
