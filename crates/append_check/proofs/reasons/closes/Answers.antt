use Rattle.std.proofs.Common.{◌≡◌, subst, sym}
use Rattle.std.proofs.lemmas.Bool.Decides.{Decides-eqb}
use Rattle.std.proofs.lemmas.List.{drop_all}
use Rattle.append_values.specs.Meaning.Reasons.{IsChain}
use Rattle.append_check.specs.Meaning.Verdicts.{history_of}
use Rattle.append_check.proofs.Holding.{round}
use Rattle.append_check.proofs.reasons.closes.Goals as goal

pub returns : goal.returns
returns c b =
    let h = history_of c.args.transactions.now in
    let links = c.args.links.now in
    let first = c.in-Some.first.now in
    let back : c.links.at ≡ first.from = (Decides-eqb c.links.at first.from).0 b in
    round h links c.in-Some.field-0-1.now first c.in-Some.ensures.cases.0
    (c.links.invariant first.from (subst (λ ls. IsChain h c.links.at ls first.from) (sym (drop_all c.links.link-index links c.links-test.false)) back))
