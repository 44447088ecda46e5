use Rattle.std.proofs.Common.{ap, ◌∙◌, ◌+◌, ◌-◌, ◌/◌, arith, map, sym}
use Rattle.std.proofs.lemmas.Option.{slice_get-map}
use Rattle.adya_keys.specs.Meaning.Keys.{key_lt}
use Rattle.adya_keys.specs.Machinery.Lines.{lines_of}
use Rattle.adya_keys.proofs.RisingKeys.{below_up_to, none_from}
use Rattle.adya_keys.proofs.lines.Lines.below.Goals as goal

pub loop-low-preserved-then-is_below : goal.loop-low-preserved-then-is_below
loop-low-preserved-then-is_below g c =
    let ls = lines_of c.args.self.now in
    let m = c.loop-low.low + (c.loop-low.high - c.loop-low.low) / 2 in
    record {
      order = omega (arith, c.loop-low-test.true);
      within = c.loop-low.invariant.within;
      below = λ v i j l e. below_up_to (map (λ p. p.0) ls) m c.text.result.now c.args.key v (slice_get-map (λ p. p.0) ls m ∙ c.text.ensures.same)
          (ap (key_lt c.text.result.now) (sym c.bytes.ensures.same) ∙ (sym c.is_below.ensures ∙ c.if-is_below.true)) i j (omega (arith, l)) e;
      others = c.loop-low.invariant.others;
    }

pub loop-low-preserved : goal.loop-low-preserved
loop-low-preserved g c =
    let ls = lines_of c.args.self.now in
    let m = c.loop-low.low + (c.loop-low.high - c.loop-low.low) / 2 in
    record {
      order = omega arith;
      within = omega (arith, c.loop-low.invariant.within, c.loop-low-test.true);
      below = c.loop-low.invariant.below;
      others = λ v i j l e. none_from (map (λ p. p.0) ls) m c.text.result.now c.args.key v (slice_get-map (λ p. p.0) ls m ∙ c.text.ensures.same)
          (ap (key_lt c.text.result.now) (sym c.bytes.ensures.same) ∙ (sym c.is_below.ensures ∙ c.if-is_below.false)) i j l e;
    }
