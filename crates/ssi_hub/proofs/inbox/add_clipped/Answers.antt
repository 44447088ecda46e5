use Rattle.std.proofs.Common.{◌++◌, ◌∷◌, [], ◌∙◌, List, ℕ, ap}
use Rattle.ssi_hub.specs.Clauses.Clipping.{clipped_after}
use Rattle.ssi_hub.proofs.Clips.{clips_line, keeps_line, grows_more}
use Rattle.ssi_hub.proofs.inbox.add_clipped.Goals as goal

pub loop-line-preserved : goal.loop-line-preserved
loop-line-preserved c =
    let (text, last, grown) = c.loop-line.invariant in
    let (plain, is) = c.in-Some.ensures.some in
    let part = c.in_ok-add_part.ensures.ok plain in
    let feed = c.in_ok-add.ensures.ok in (
      ap (λ (l : List ℕ). l ++ clipped_after 0 c.in-Some.after.now) feed
          ∙ clips_line c.loop-line.to c.add_part.new.to c.loop-line.unfinished c.loop-line.rest.now
          c.in-Some.line.now c.in-Some.after.now is part
          ∙ text,
      keeps_line c.loop-line.unfinished c.loop-line.rest.now c.in-Some.line.now c.in-Some.after.now is ∙ last,
      grows_more c.args.to.now c.add_part.new.to c.add.new.self (10 ∷ [])
          (grows_more c.args.to.now c.loop-line.to c.add_part.new.to _ grown part) feed,
    )
