use Rattle.std.proofs.Common.{ap, ◌∙◌, map, true}
use Rattle.adya_keys.specs.Meaning.Keys.{keys_rise}
use Rattle.ssi_versions.specs.Mirror.{held_of, found_in, key_in}
use Rattle.ssi_versions.proofs.Ranges.{found_values, rising_values, seen_at}
use Rattle.ssi_versions.proofs.plain.PlainChainsChains.all_at.Goals as goal

pub returns-clause-rising : goal.returns-clause-rising
returns-clause-rising c = ap (λ xs. keys_rise (map key_in (map held_of xs))) c.in_ok-found.ensures.all
    ∙ rising_values c.in_ok-seen.seen.entries c.in_ok-seen.ensures.owned c.in_ok-found.ensures.ordered

pub returns-clause-found : goal.returns-clause-found
returns-clause-found c = λ key. ap (λ xs. found_in key (map held_of xs)) c.in_ok-found.ensures.all
    ∙ found_values key c.in_ok-seen.seen.entries c.in_ok-seen.ensures.owned ∙ c.in_ok-seen.ensures.seen key
    ∙ ap (seen_at (λ k. true) c.args.stamp key) c.deref.ensures.value
