use Rattle.std.proofs.Common.{◌∙◌, sym, ap, not}
use Rattle.std.specs.List.{filter_map}
use Rattle.std.proofs.lemmas.Bool.{or_left}
use Rattle.adya_values.specs.Meaning.Events.{written}
use Rattle.adya_terms.specs.declared.scans.Owed.{Owed}
use Rattle.adya_terms.proofs.Owed.{chain_fails, owed_is}
use Rattle.adya_terms.proofs.Selected.{nothing_between}
use Rattle.adya_terms.proofs.scans.Scan.lists_own.Goals as goal
use Rattle.lemmas.proofs.Tests.{list_all_when}

pub returns-then-lt : goal.returns-then-lt
returns-then-lt c before places =
    sym (list_all_when _ (filter_map written before)
    (λ w d. or_left _ _ (ap not (nothing_between c.args.self.now.low c.args.self.now.high w.version.key (sym c.lt.ensures ∙ c.if-lt.true)))))

pub returns-then-has_chain : goal.returns-then-has_chain
returns-then-has_chain c before places =
    let owed : Owed = record { writes = c.args.writes; txn = c.args.txn; scan = c.args.self } in
    owed_is owed before places (sym c.has_chain.ensures ∙ c.if-has_chain.true) c.has_later.result c.has_later.ensures.shown c.has_later.ensures.missed

pub returns-else-has_chain : goal.returns-else-has_chain
returns-else-has_chain c before places =
    let owed : Owed = record { writes = c.args.writes; txn = c.args.txn; scan = c.args.self } in
    c.if-has_chain.false ∙ chain_fails owed before places (sym c.has_chain.ensures ∙ c.if-has_chain.false)
