use Rattle.std.proofs.Common.{◌≡◌, ◌∙◌, ◌+◌, ◌-◌, ◌&&◌, ap, arith, drop, map, sym}
use Rattle.std.proofs.lemmas.List.{length-map}
use Rattle.adya_keys.specs.Meaning.Keys.{keys_rise}
use Rattle.adya_keys.specs.Machinery.Lines.{lines_of}
use Rattle.adya_keys.proofs.RisingKeys.{rise_before, rise_end}
use Rattle.adya_keys.proofs.lines.Lines.keys_rise.Goals as goal

pub returns-then-not-is_below : goal.returns-then-not-is_below
returns-then-not-is_below g c =
    let ls = lines_of c.args.self.now in
    let i = c.loop-i.i in
    sym (c.loop-i.invariant.risen ∙
    (rise_before (λ p. p.0) ls i c.text.result.now c.text-in-loop-i.result.now c.loop-i.invariant.begun c.text.ensures.same c.text-in-loop-i.ensures.same ∙
    ap (λ b. b && keys_rise (drop i (map (λ p. p.0) ls))) (sym c.is_below.ensures ∙ c.if-not-is_below.true)))

pub loop-i-preserved : goal.loop-i-preserved
loop-i-preserved g c =
    let ls = lines_of c.args.self.now in
    let i = c.loop-i.i in
    let next : i ≡ (i + 1) - 1 = omega arith in
    record {
      begun = omega arith;
      risen = c.loop-i.invariant.risen ∙
          (rise_before (λ p. p.0) ls i c.text.result.now c.text-in-loop-i.result.now c.loop-i.invariant.begun c.text.ensures.same c.text-in-loop-i.ensures.same ∙
          (ap (λ b. b && keys_rise (drop i (map (λ p. p.0) ls))) (sym c.is_below.ensures ∙ c.if-not-is_below.false) ∙
          ap (λ n. keys_rise (drop n (map (λ p. p.0) ls))) next));
    }

pub returns : goal.returns
returns g c =
    let ls = lines_of c.args.self.now in
    sym (c.loop-i.invariant.risen ∙
    rise_end (map (λ p. p.0) ls) (c.loop-i.i - 1) (omega (arith, length-map ls (λ p. p.0), c.loop-i-test.false, c.loop-i.invariant.begun, c.len-i-end.ensures)))
