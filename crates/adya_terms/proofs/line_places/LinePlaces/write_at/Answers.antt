use Rattle.std.proofs.Common.{◌≡◌, ◌≢◌, ◌∙◌, None, ap, sym, option_and_then, rules}
use Rattle.adya_terms.specs.Machinery.Places.{held}
use Rattle.adya_terms.proofs.ReadPlaces.{below_next, below_suc, held_from, in_order, past_end, place_read}
use Rattle.adya_terms.proofs.line_places.LinePlaces.write_at.Goals as goal

pub at-start-requires : goal.at-start-requires
at-start-requires c = below_suc c.args.line _ c.requires

pub at-requires : goal.at-requires
at-requires c = below_next c.args.line _ c.requires

pub overflow_sub-at : goal.overflow_sub-at
overflow_sub-at c =
    in_order _ _ c.args.self.now.ordered c.args.line c.requires _ _ c.at-start.ensures c.at.ensures

pub returns-then-place-at : goal.returns-then-place-at
returns-then-place-at c =
    past_end _ _ c.args.self.now.ordered c.args.line c.requires _ _ c.at-start.ensures c.at.ensures c.args.place c.if-place-at.true

pub returns-in-None : goal.returns-in-None
returns-in-None c =
    let none : c.get.result ≡ None = search rules in
    ap (option_and_then held) (sym none ∙ (c.get.ensures ∙
    place_read _ _ c.args.self.now.ordered c.args.line c.requires _ _ c.at-start.ensures c.at.ensures c.args.place c.if-place-at.false))

pub returns-in-Some : goal.returns-in-Some
returns-in-Some c =
    let some : c.in-Some.above ≢ 0 = search rules in
    sym (held_from c.in-Some.above some) ∙
    ap (option_and_then held) (c.in-Some.ensures ∙
    place_read _ _ c.args.self.now.ordered c.args.line c.requires _ _ c.at-start.ensures c.at.ensures c.args.place c.if-place-at.false)
