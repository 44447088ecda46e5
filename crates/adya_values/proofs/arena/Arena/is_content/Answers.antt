use Rattle.std.proofs.Common.{◌≡◌, ◌∙◌, ◌-◌, ◌+◌, ap, sym, refl, arith, drop, take}
use Rattle.adya_values.specs.Meaning.Histories.{Live}
use Rattle.adya_keys.specs.Meaning.Keys.{key_eq}
use Rattle.adya_keys.specs.Machinery.Within.{part}
use Rattle.adya_values.specs.Computing.Faults.{content_eq}
use Rattle.adya_values.proofs.PackedParts.{live_content}
use Rattle.adya_values.proofs.arena.Arena.is_content.Goals as goal

pub returns : goal.returns
returns c =
    let bs = c.args.self.now.bytes.items in
    let at = c.args.at in
    let n = c.args.len in
    let s = c.args.seen.now in
    let xs = c.deref.result.now in
    let ys = c.deref-2.result.now in
    let p = c.get-place.result in
    let one : (at + n) - at ≡ n = omega arith in
    let two : (p + s.len) - p ≡ s.len = omega arith in
    let same : key_eq (part at n xs) (part p s.len ys) ≡ key_eq (part at n bs) (part p s.len bs) =
    rw (c.deref.ensures.value, c.deref-2.ensures.value) refl in
    c.eq.ensures ∙
    (ap (λ i. key_eq (take i (drop at xs)) (take ((p + s.len) - p) (drop p ys))) one ∙
    (ap (λ i. key_eq (part at n xs) (take i (drop p ys))) two ∙
    (same ∙ (ap (λ q. key_eq (part at n bs) (part q s.len bs)) c.get-place.ensures ∙
    sym (ap (content_eq (Live (part at n bs))) (live_content bs s.at s.len (sym c.is_dead.ensures ∙ c.if-is_dead.false)))))))
