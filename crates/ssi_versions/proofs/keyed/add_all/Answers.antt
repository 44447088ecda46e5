use Rattle.std.proofs.Common.{arith, ◌∙◌, ◌++◌, ap, map}
use Rattle.ssi_versions.specs.Mirror.{held_of, chain_of}
use Rattle.ssi_versions.specs.Machinery.Plain.{as_held}
use Rattle.ssi_versions.proofs.Entries.{filled_within}
use Rattle.ssi_versions.proofs.keyed.add_all.Goals as goal

pub returns-in-len1-clause-fits : goal.returns-in-len1-clause-fits
returns-in-len1-clause-fits c = omega (arith, filled_within c.add.new.chains.entries, c.len-after.ensures.len, c.len-after.ensures.small)

pub returns-clause-added : goal.returns-clause-added
returns-clause-added c = λ q. c.put_all.ensures.added q ∙ ap (λ hs. hs ++ chain_of q (map held_of (map (as_held c.args.stamp) c.args.writes.now))) (c.in_ok-make_room_for.ensures.same q)
