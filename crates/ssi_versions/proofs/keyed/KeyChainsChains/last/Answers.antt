use Rattle.std.proofs.Common.{rules, ◌∙◌, ap, map}
use Rattle.ssi_versions.specs.Clauses.ByStamp.{newest}
use Rattle.ssi_versions.specs.Machinery.Keyed.{placed}
use Rattle.ssi_versions.proofs.Entries.{under_some, under_none}
use Rattle.ssi_versions.proofs.keyed.KeyChainsChains.last.Goals as goal

pub returns-in-Some : goal.returns-in-Some
returns-in-Some c = c.newest.ensures ∙ ap (λ xs. newest (map placed xs)) c.as_slice.ensures
    ∙ ap (newest) (under_some c.args.key c.args.self.now.chains.entries c.in-Some.chain.now c.args.self.now.owned c.len-ordered.ensures.ordered (Prim.search rules))

pub returns-in-None : goal.returns-in-None
returns-in-None c = ap (newest) (under_none c.args.key c.args.self.now.chains.entries c.args.self.now.owned c.len-ordered.ensures.ordered (Prim.search rules))
