use Rattle.std.proofs.Common.{◌++◌, ◌∷◌, [], ◌∙◌, ap}
use Rattle.adya_values.specs.Mirror.Events.{final_of}
use Rattle.adya_text.specs.Meaning.Texts.{with_ends}
use Rattle.ssi_loads.specs.Meaning.Loads.{put_line}
use Rattle.ssi_loads.proofs.Texts.{row_more, one_within}
use Rattle.ssi_loads.proofs.writing.put_rows.Goals as goal

pub loop-row-preserved : goal.loop-row-preserved
loop-row-preserved c =
    let row = c.row-item.result in
    let (so_far, within) = c.loop-row.invariant in (
      c.in_ok-put_row.ensures.grown ∙ ap (λ t. t ++ with_ends (put_line (final_of row) ∷ [])) so_far
          ∙ row_more c.args.text.now.items c.args.rows.now c.loop-row.row-index row c.loop-row-test.true c.row-item.is,
      one_within c.args.rows.now c.loop-row.row-index row c.loop-row-test.true c.row-item.is within
          c.in_ok-put_row.ensures.within,
    )
