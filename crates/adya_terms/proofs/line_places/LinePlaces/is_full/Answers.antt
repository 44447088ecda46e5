use Rattle.std.proofs.Common.{◌∙◌, ap}
use Rattle.std.specs.List.{list_all}
use Rattle.std.specs.Prelude.{◌==◌, not}
use Rattle.adya_terms.proofs.ReadPlaces.{below_next, below_suc, ends_within, in_order, places_read}
use Rattle.adya_terms.proofs.line_places.LinePlaces.is_full.Goals as goal

pub at-requires : goal.at-requires
at-requires c = below_suc c.args.line _ c.requires

pub at-requires-2 : goal.at-requires-2
at-requires-2 c = below_next c.args.line _ c.requires

pub none_is_zero-requires-clause-order : goal.none_is_zero-requires-clause-order
none_is_zero-requires-clause-order c =
    let x = c.args.self.now in
    in_order _ _ x.ordered c.args.line c.requires _ _ c.at.ensures c.at-2.ensures

pub none_is_zero-requires-clause-within : goal.none_is_zero-requires-clause-within
none_is_zero-requires-clause-within c =
    let x = c.args.self.now in
    ends_within _ _ x.ordered c.args.line c.requires _ _ c.at.ensures c.at-2.ensures

pub returns : goal.returns
returns c =
    let x = c.args.self.now in
    c.none_is_zero.ensures ∙
    ap (list_all (λ w. not (w == 0))) (places_read _ _ x.ordered c.args.line c.requires _ _ c.at.ensures c.at-2.ensures)
