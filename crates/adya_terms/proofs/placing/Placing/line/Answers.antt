use Rattle.std.proofs.Common.{◌≡◌, ◌∙◌, ◌-◌, ℕ, List, Option, ap, arith, slice_get, slice_index, suc, sym}
use Rattle.std.specs.Option.{unwrap_or}
use Rattle.std.proofs.lemmas.Option.{unwrap_or-slice_get}
use Rattle.adya_keys.specs.Machinery.Indices.{indices_in}
use Rattle.adya_terms.proofs.placing.Placing.line.Goals as goal

found : (xs : List ℕ) (k : ℕ) (o : Option ℕ) (above : ℕ) → o ≡ slice_get xs k → above ≡ unwrap_or o 0 → slice_index xs k ≡ above
found xs k o above is e = sym (unwrap_or-slice_get xs k 0) ∙ (ap (λ p. unwrap_or p 0) (sym is) ∙ sym e)

pub returns-then-above-eq0 : goal.returns-then-above-eq0
returns-then-above-eq0 c =
    found (indices_in c.args.self.now.numbers) c.args.key c.get.result c.unwrap_or-above.result c.get.ensures c.unwrap_or-above.ensures ∙ c.if-above-eq0.true

pub returns : goal.returns
returns c =
    let above = c.unwrap_or-above.result in
    let next : above ≡ suc (above - 1) = omega (arith, c.if-above-eq0.false) in
    found (indices_in c.args.self.now.numbers) c.args.key c.get.result above c.get.ensures c.unwrap_or-above.ensures ∙ next
