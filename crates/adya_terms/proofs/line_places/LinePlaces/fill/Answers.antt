use Rattle.std.proofs.Common.{◌<◌, ◌^◌, ◌∙◌, length, refl, rules, sym}
use Rattle.adya_keys.specs.Machinery.Indices.{indices_in}
use Rattle.adya_terms.proofs.ReadPlaces.{filled_at, fits_more, no_line, starts_kept}
use Rattle.adya_terms.proofs.line_places.LinePlaces.fill.Goals as goal

pub overflow_add-at : goal.overflow_add-at
overflow_add-at c = fits_more c.args.at c.requires

pub returns-in_default : goal.returns-in_default
returns-in_default c =
    record {
      starts = refl;
      writes = λ there less. no_line _ c.args.line (sym c.get.ensures ∙ c.in_default.is) there;
    }

pub invariant_of-self : goal.invariant_of-self
invariant_of-self c =
    record { ordered = starts_kept _ _ c.args.self.now.ordered c.args.line c.set.result _ _ _ c.set.ensures.ok c.set.ensures.err }

pub returns : goal.returns
returns c =
    let fits : length (indices_in c.args.self.now.writes) < 2 ^ 64 = search rules in
    record {
      starts = refl;
      writes = filled_at _ _ c.args.self.now.ordered c.args.line c.set.result _ _ c.args.place _ c.args.at
          (sym c.get.ensures ∙ c.in-Some.is) c.saturating_add.ensures fits c.set.ensures.ok;
    }
