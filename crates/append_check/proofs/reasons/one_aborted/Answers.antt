use Rattle.std.proofs.Common.{◌≡◌, ℕ, get_or}
use Rattle.std.proofs.lemmas.Option.{slice_get-get_or}
use Rattle.append_values.specs.declared.transaction.Outcome.TheVariants.{Aborted}
use Rattle.append_values.specs.Meaning.Histories.{History, outcome}
use Rattle.append_check.specs.Meaning.Verdicts.{history_of}
use Rattle.append_check.proofs.Each.{each_all, each_more}
use Rattle.append_check.proofs.reasons.one_aborted.Goals as goal

abbrev IsKept : History → ℕ → Type 0
IsKept h t = outcome h t ≡ Aborted → ⊥

pub places-preserved : goal.places-preserved
places-preserved c =
    let places = c.args.places.now in
    let i = c.places.place-index in
    each_more (IsKept (history_of c.args.transactions.now)) places i (get_or places i 0) (slice_get-get_or places i 0 c.places-test.true)
    c.places.invariant (c.is_aborted.ensures.no c.if-is_aborted.false)

pub returns : goal.returns
returns c off =
    each_all (IsKept (history_of c.args.transactions.now)) c.args.places.now c.places.place-index c.places-test.false c.places.invariant
