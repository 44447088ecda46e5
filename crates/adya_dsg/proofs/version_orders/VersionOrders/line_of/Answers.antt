use Rattle.std.proofs.Common.{◌≡◌, ◌<◌, ◌∙◌, ◌-◌, arith, length, slice_get, suc, sym, subst, pos_of_ne-zero}
use Rattle.std.proofs.lemmas.Option.{get_or_from_slice_get}
use Rattle.adya_keys.specs.Machinery.Indices.{indices_in}
use Rattle.adya_terms.specs.Mirror.LineNumbers.{key_of}
use Rattle.adya_dsg.specs.Machinery.VersionOrders.{ordered_history, numbered}
use Rattle.adya_dsg.proofs.version_orders.VersionOrders.line_of.Goals as goal

line_found : (c : goal.Else-above-eq0)
    → (c.at-above.result - 1 < length (ordered_history c.args.self.now).orders)
    × (key_of (slice_get (ordered_history c.args.self.now).orders (c.at-above.result - 1)) ≡ numbered c.args.self.now c.args.key)
line_found c =
    let above = c.at-above.result in
    let next : above ≡ suc (above - 1) = omega (arith, c.if-above-eq0.false) in
    let g = c.args.self.now in
    g.found.found c.args.key (above - 1) c.requires (get_or_from_slice_get (indices_in g.lines.now) c.args.key above 0 c.at-above.ensures ∙ next)

pub returns-clause-within : goal.returns-clause-within
returns-clause-within c = (line_found c).0

pub returns-clause-found : goal.returns-clause-found
returns-clause-found c = (line_found c).1

pub at-above-requires : goal.at-above-requires
at-above-requires c = subst (λ n. c.args.key < n) (sym c.args.self.now.found.count) c.requires

pub returns-then-above-eq0-clause-within : goal.returns-then-above-eq0-clause-within
returns-then-above-eq0-clause-within c = tt

pub returns-then-above-eq0-clause-found : goal.returns-then-above-eq0-clause-found
returns-then-above-eq0-clause-found c = tt

pub returns-then-above-eq0-clause-none : goal.returns-then-above-eq0-clause-none
returns-then-above-eq0-clause-none c =
    let g = c.args.self.now in
    g.found.missing c.args.key c.requires
    (get_or_from_slice_get (indices_in g.lines.now) c.args.key c.at-above.result 0 c.at-above.ensures ∙ c.if-above-eq0.true)

pub overflow_sub-result : goal.overflow_sub-result
overflow_sub-result c = pos_of_ne-zero c.if-above-eq0.false

pub returns-clause-none : goal.returns-clause-none
returns-clause-none c = tt
