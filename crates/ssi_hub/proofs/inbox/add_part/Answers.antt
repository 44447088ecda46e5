use Rattle.std.proofs.Common.{◌≡◌, ◌++◌, ◌∙◌, List, ℕ, ◌-◌, ap, take, length, arith}
use Rattle.std.specs.Prelude.{min}
use Rattle.ssi_hub.proofs.Clips.{plain_part, plain_kept}
use Rattle.ssi_hub.proofs.inbox.add_part.Goals as goal

pub returns-clause-ok : goal.returns-clause-ok
returns-clause-ok c = λ plain.
    let count : c.min-count.result ≡ min (length c.args.part.now) (4097 - c.args.unfinished) = omega (arith, c.min-count.ensures, c.saturating_sub-room.ensures) in
    c.in_ok-add.ensures.ok
    ∙ ap (λ (l : List ℕ). c.args.to.now ++ l)
    (ap (λ n. take n c.args.part.now) count ∙ plain_part c.args.unfinished c.args.part.now plain)

pub returns-clause-unfinished : goal.returns-clause-unfinished
returns-clause-unfinished c = λ plain.
    let kept = plain_kept c.args.unfinished c.args.part.now plain in
    omega (arith, c.min-count.ensures, c.saturating_sub-room.ensures, kept)
