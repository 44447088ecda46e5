use Rattle.std.proofs.Common.{◌≡◌, ◌∙◌, ◌+◌, ◌-◌, ◌<◌, ◌&&◌, ℕ, Some, get_or, ap, arith, drop, length, map, option_map, slice_get, sym}
use Rattle.std.proofs.lemmas.List.{length-map}
use Rattle.std.proofs.lemmas.Option.{slice_get-get_or}
use Rattle.adya_values.specs.declared.seen.Seen.{Seen}
use Rattle.adya_keys.specs.Meaning.Keys.{key_lt, keys_rise}
use Rattle.adya_keys.proofs.RisingKeys.{rise_before, rise_end}
use Rattle.adya_terms.specs.declared.scans.Scan.{Scan}
use Rattle.adya_terms.proofs.Bounds.{entry_key, entry_keys}
use Rattle.adya_terms.proofs.scans.Scan.keys_rise.Goals as goal

there : (s : Scan) (i : ℕ) (x : Seen) → i < length s.seen.now → x ≡ get_or s.seen.now i x
    → option_map (entry_key s) (slice_get s.seen.now i) ≡ Some (entry_key s x)
there s i x l is = ap (option_map (entry_key s)) (slice_get-get_or s.seen.now i x l ∙ ap Some (sym is))

same_pair : (s : Scan) (a b x y : Seen) → x ≡ a → y ≡ b → key_lt (entry_key s x) (entry_key s y) ≡ key_lt (entry_key s a) (entry_key s b)
same_pair s a b x y e f = ap (λ z. key_lt (entry_key s z) (entry_key s y)) e ∙ ap (λ z. key_lt (entry_key s a) (entry_key s z)) f

pub returns-then-not-is_below : goal.returns-then-not-is_below
returns-then-not-is_below c =
    let s = c.args.self.now in
    let i = c.loop-i.i in
    let less = c.loop-i-test.true in
    let x = c.index-self-i.result in
    let y = c.index-self-i-in-loop-i.result in
    sym (entry_keys s ∙ (c.loop-i.invariant.risen ∙
    (rise_before (entry_key s) s.seen.now i (entry_key s x) (entry_key s y) c.loop-i.invariant.begun
    (there s (i - 1) x (omega (arith, less, c.loop-i.invariant.begun)) c.index-self-i.is) (there s i y less c.index-self-i-in-loop-i.is) ∙
    ap (λ b. b && keys_rise (drop i (map (entry_key s) s.seen.now))) (same_pair s _ _ x y c.index-self-i.is c.index-self-i-in-loop-i.is ∙ sym c.is_below.ensures ∙ c.if-not-is_below.true))))

pub loop-i-preserved : goal.loop-i-preserved
loop-i-preserved c =
    let s = c.args.self.now in
    let i = c.loop-i.i in
    let less = c.loop-i-test.true in
    let x = c.index-self-i.result in
    let y = c.index-self-i-in-loop-i.result in
    let next : i ≡ (i + 1) - 1 = omega arith in
    record {
      begun = omega arith;
      risen = c.loop-i.invariant.risen ∙
          (rise_before (entry_key s) s.seen.now i (entry_key s x) (entry_key s y) c.loop-i.invariant.begun
          (there s (i - 1) x (omega (arith, less, c.loop-i.invariant.begun)) c.index-self-i.is) (there s i y less c.index-self-i-in-loop-i.is) ∙
          (ap (λ b. b && keys_rise (drop i (map (entry_key s) s.seen.now))) (same_pair s _ _ x y c.index-self-i.is c.index-self-i-in-loop-i.is ∙ sym c.is_below.ensures ∙ c.if-not-is_below.false) ∙
          ap (λ n. keys_rise (drop n (map (entry_key s) s.seen.now))) next));
    }

pub returns : goal.returns
returns c =
    let s = c.args.self.now in
    sym (entry_keys s ∙ (c.loop-i.invariant.risen ∙
    rise_end (map (entry_key s) s.seen.now) (c.loop-i.i - 1)
    (omega (arith, length-map s.seen.now (entry_key s), c.loop-i-test.false, c.loop-i.invariant.begun))))
