use Rattle.std.proofs.Common.{◌≡◌, suc, ◌+◌, ◌-◌, ◌∙◌, ℕ, Bool, sym, ap, None, Some, arith}
use Rattle.adya_keys.specs.Machinery.Within.{key_at}
use Rattle.adya_values.specs.Mirror.Numbers.{keys_of}
use Rattle.adya_terms.specs.Machinery.Chains.{chain_passes, row_at}
use Rattle.adya_terms.specs.Machinery.Owed.{passes}
use Rattle.adya_terms.proofs.Chains.{passes_ends, passes_fails, passes_goes_on}
use Rattle.adya_terms.proofs.scans.Owed.has_chain.Goals as goal

pub returns-then-not-has_key : goal.returns-then-not-has_key
returns-then-not-has_key c =
    let w = c.args.self.now.writes.now in
    let rows = w.rows.items in
    let test : ℕ → Bool = λ n. passes c.args.self.now (key_at (keys_of w.events.now) n) in
    let less = c.loop-test.true in
    let len = c.chain-chain.result.len in
    let step : len - c.loop.counter ≡ suc (len - (c.loop.counter + 1)) = omega (arith, less) in
    let here : row_at rows c.loop.link ≡ Some c.in-Some.row = sym c.row.ensures ∙ c.in-Some.is in
    sym (c.loop.invariant
    ∙ ap (λ n. chain_passes rows test n c.loop.link) step
    ∙ passes_fails rows test (len - (c.loop.counter + 1)) c.loop.link c.in-Some.row here (sym c.has_key.ensures ∙ c.if-not-has_key.true))

pub loop-preserved : goal.loop-preserved
loop-preserved c =
    let w = c.args.self.now.writes.now in
    let rows = w.rows.items in
    let test : ℕ → Bool = λ n. passes c.args.self.now (key_at (keys_of w.events.now) n) in
    let less = c.loop-test.true in
    let len = c.chain-chain.result.len in
    let step : len - c.loop.counter ≡ suc (len - (c.loop.counter + 1)) = omega (arith, less) in
    let here : row_at rows c.loop.link ≡ Some c.in-Some.row = sym c.row.ensures ∙ c.in-Some.is in
    c.loop.invariant
    ∙ ap (λ n. chain_passes rows test n c.loop.link) step
    ∙ passes_goes_on rows test (len - (c.loop.counter + 1)) c.loop.link c.in-Some.row here (sym c.has_key.ensures ∙ c.if-not-has_key.false)

pub returns-in_default : goal.returns-in_default
returns-in_default c =
    let w = c.args.self.now.writes.now in
    let rows = w.rows.items in
    let test : ℕ → Bool = λ n. passes c.args.self.now (key_at (keys_of w.events.now) n) in
    let none : row_at rows c.loop.link ≡ None = sym c.row.ensures ∙ c.in_default.is in
    sym (c.loop.invariant ∙ passes_ends rows test (c.chain-chain.result.len - c.loop.counter) c.loop.link none)
