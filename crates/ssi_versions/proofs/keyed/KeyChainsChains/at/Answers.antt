use Rattle.std.proofs.Common.{rules, subst, sym, ◌∙◌, ap, map}
use Rattle.ssi_versions.specs.Clauses.ByStamp.{newest_within, IsByStamp}
use Rattle.ssi_versions.specs.Machinery.Keyed.{placed}
use Rattle.ssi_versions.proofs.Entries.{under_some, under_none}
use Rattle.ssi_versions.proofs.keyed.KeyChainsChains.at.Goals as goal

pub returns-in-Some : goal.returns-in-Some
returns-in-Some c = c.newest_at.ensures ∙ ap (λ xs. newest_within c.args.stamp (map placed xs)) c.as_slice.ensures
    ∙ ap (newest_within c.args.stamp) (under_some c.args.key c.args.self.now.chains.entries c.in-Some.chain.now c.args.self.now.owned c.len-ordered.ensures.ordered (Prim.search rules))

pub returns-in-None : goal.returns-in-None
returns-in-None c = ap (newest_within c.args.stamp) (under_none c.args.key c.args.self.now.chains.entries c.args.self.now.owned c.len-ordered.ensures.ordered (Prim.search rules))

pub newest_at-requires : goal.newest_at-requires
newest_at-requires c =
    subst IsByStamp (sym (ap (map placed) c.as_slice.ensures ∙ under_some c.args.key c.args.self.now.chains.entries c.in-Some.chain.now c.args.self.now.owned c.len-ordered.ensures.ordered (Prim.search rules)))
    (c.args.self.now.rise c.args.key)
