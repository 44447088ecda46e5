use Rattle.std.proofs.Common.{◌≡◌, suc, ◌+◌, ◌-◌, ◌∙◌, sym, ap, Some, arith}
use Rattle.std.proofs.lemmas.Bool.{eq-eqb, ne_eqb}
use Rattle.adya_terms.specs.Machinery.Chains.{row_at, walk}
use Rattle.adya_terms.proofs.Chains.{walk_finds, walk_goes_on}
use Rattle.adya_terms.proofs.own_writes.OwnWrites.in_chain.Goals as goal

pub loop-preserved : goal.loop-preserved
loop-preserved c =
    let rows = c.args.self.now.rows.items in
    let less = c.loop-test.true in
    let step : c.args.chain.len - c.loop.counter ≡ suc (c.args.chain.len - (c.loop.counter + 1)) = omega (arith, less) in
    let here : row_at rows c.loop.link ≡ Some c.in-Some.row = sym c.row.ensures ∙ c.in-Some.is in
    c.loop.invariant
    ∙ ap (λ n. walk rows c.args.number n c.loop.link) step
    ∙ walk_goes_on rows c.args.number (c.args.chain.len - (c.loop.counter + 1)) c.loop.link c.in-Some.row here (ne_eqb _ _ c.if-row-number.false)

pub returns-then-row-number : goal.returns-then-row-number
returns-then-row-number c =
    let rows = c.args.self.now.rows.items in
    let less = c.loop-test.true in
    let step : c.args.chain.len - c.loop.counter ≡ suc (c.args.chain.len - (c.loop.counter + 1)) = omega (arith, less) in
    let here : row_at rows c.loop.link ≡ Some c.in-Some.row = sym c.row.ensures ∙ c.in-Some.is in
    sym (c.loop.invariant
    ∙ ap (λ n. walk rows c.args.number n c.loop.link) step
    ∙ walk_finds rows c.args.number (c.args.chain.len - (c.loop.counter + 1)) c.loop.link c.in-Some.row here (eq-eqb _ _ c.if-row-number.true))
