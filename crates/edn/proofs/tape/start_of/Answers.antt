use Rattle.std.proofs.Common.{◌≡◌, ◌∙◌, ◌+◌, ◌-◌, length, reverse, sym, ap, arith}
use Rattle.edn.specs.Machinery.Tapes.{skip}
use Rattle.edn.proofs.Tapes.{length_back, skip_add, skip_zero}
use Rattle.edn.proofs.tape.start_of.Goals as goal

pub loop-preserved : goal.loop-preserved
loop-preserved c =
    let less = c.loop-test.true in
    let left = c.args.count - (c.loop.counter + 1) in
    let step : c.args.count - c.loop.counter ≡ 1 + left = omega (arith, less) in
    record {
      skipped = c.loop.invariant.skipped ∙ ap (skip (reverse c.loop.rest.now)) step
          ∙ sym (skip_add (reverse c.loop.rest.now) 1 left)
          ∙ ap (λ xs. skip xs left) (sym c.before-rest.ensures.before);
      sound = c.before-rest.ensures.sound;
    }

pub returns : goal.returns
returns c =
    let done = c.loop-test.false in
    let none : c.args.count - c.loop.counter ≡ 0 = omega (arith, done) in
    sym (length_back c.loop.rest.now)
    ∙ ap length (sym (c.loop.invariant.skipped ∙ ap (skip (reverse c.loop.rest.now)) none ∙ skip_zero (reverse c.loop.rest.now)))
