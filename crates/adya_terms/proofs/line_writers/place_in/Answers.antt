use Rattle.std.proofs.Common.{◌∙◌, arith, ap, inl, inr, slice_get}
use Rattle.std.proofs.lemmas.Bool.{cases_lt}
use Rattle.adya_values.proofs.Places.{place_get}
use Rattle.lemmas.proofs.Counts.{count}
use Rattle.adya_terms.proofs.line_writers.place_in.Goals as goal

pub returns : goal.returns
returns c =
    let ts = c.args.writers.now in
    let t = c.args.txn in
    elim (cases_lt 0 (count ts t)) [
      | inl more ↦ absurd (c.if-is_at.ensures.no (ap (slice_get ts) (c.get-place.ensures ∙ c.requires t) ∙ place_get ts t more))
      | inr none ↦ omega (arith, none)
    ]
