use Rattle.std.proofs.Common.{arith, map}
use Rattle.ssi_versions.specs.Mirror.{write_of}
use Rattle.ssi_versions.specs.Machinery.Keyed.{versions}
use Rattle.ssi_versions.proofs.ByKey.{still_by_stamp}
use Rattle.ssi_versions.proofs.Entries.{chain_added}
use Rattle.ssi_versions.proofs.keyed.KeyChainsChains.install.Goals as goal

pub returns-clause-added : goal.returns-clause-added
returns-clause-added c = λ q.
    chain_added q c.args.stamp c.add_all.new.chains.entries c.args.self.now.chains.entries c.args.writes.now c.requires.apart
    c.in_ok-opened.ensures.owned c.args.self.now.owned c.in_ok-opened.ensures.ordered.1 c.in_ok-opened.ensures.ordered.0
    (c.in_ok-opened.ensures.added q)

pub invariant_of-self-2 : goal.invariant_of-self-2
invariant_of-self-2 c = record {
  owned = c.in_ok-opened.ensures.owned;
  rise = λ q. still_by_stamp q c.args.stamp (map write_of c.args.writes.now) (versions c.args.self.now.chains.entries) (versions c.add_all.new.chains.entries) (c.args.self.now.rise q) c.requires.above
      (chain_added q c.args.stamp c.add_all.new.chains.entries c.args.self.now.chains.entries c.args.writes.now c.requires.apart
      c.in_ok-opened.ensures.owned c.args.self.now.owned c.in_ok-opened.ensures.ordered.1 c.in_ok-opened.ensures.ordered.0
      (c.in_ok-opened.ensures.added q));
  counted = omega (arith, c.in-Some.ensures, c.in_ok-opened.ensures.count, c.args.self.now.counted);
  named = omega (arith, c.in_ok-opened.ensures.filled, c.args.self.now.named);
}
