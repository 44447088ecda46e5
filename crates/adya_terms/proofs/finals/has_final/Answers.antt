use Rattle.std.proofs.Common.{◌∙◌, sym}
use Rattle.adya_values.specs.Meaning.Histories.{FinalPair}
use Rattle.adya_values.specs.Mirror.Lines.{finals_of}
use Rattle.adya_values.proofs.KeyLookups.{final_any}
use Rattle.adya_terms.proofs.BelowKeys.{found_at, is_there_if}
use Rattle.adya_terms.proofs.finals.has_final.Goals as goal

pub returns-then-is_of : goal.returns-then-is_of
returns-then-is_of c =
    let fs = finals_of c.args.finals.now in
    let k = c.args.key in
    sym (final_any fs k ∙ found_at (λ (f : FinalPair). f.key) fs k c.args.first c.if-is_of.ensures.yes)

pub returns : goal.returns
returns c =
    let fs = finals_of c.args.finals.now in
    let k = c.args.key in
    is_there_if (λ (f : FinalPair). f.key) fs k c.requires c.below.result (c.below.ensures.below c.requires) c.is_of-2.result c.is_of-2.ensures.yes c.is_of-2.ensures.no ∙
    sym (final_any fs k)
