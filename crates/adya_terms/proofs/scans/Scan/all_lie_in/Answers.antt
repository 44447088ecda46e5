use Rattle.std.proofs.Common.{◌∙◌, ◌&&◌, ap, sym}
use Rattle.adya_keys.specs.Meaning.Keys.{key_le}
use Rattle.adya_terms.specs.Machinery.Scans.{key_seen}
use Rattle.adya_terms.proofs.Bounds.{all_lie}
use Rattle.adya_terms.proofs.scans.Scan.all_lie_in.Goals as goal

pub returns-then-le : goal.returns-then-le
returns-then-le c =
    let s = c.args.self.now in
    let first = c.in-Some-Some.first.now in
    let last = c.in-Some-Some.last.now in
    c.le-then-le.ensures ∙
    (ap (λ k. key_le k s.high) c.key-then-le.ensures ∙
    (ap (λ b. b && key_le (key_seen s last) s.high) (sym (sym (ap (key_le s.low) c.key.ensures) ∙ (sym c.le.ensures ∙ c.if-le.true))) ∙
    sym (all_lie s first last c.requires (sym c.in-Some-Some.ensures.value) (sym c.in-Some-Some.ensures'.value))))

pub returns-else-le : goal.returns-else-le
returns-else-le c =
    let s = c.args.self.now in
    let first = c.in-Some-Some.first.now in
    let last = c.in-Some-Some.last.now in
    c.if-le.false ∙
    (ap (λ b. b && key_le (key_seen s last) s.high) (sym (sym (ap (key_le s.low) c.key.ensures) ∙ (sym c.le.ensures ∙ c.if-le.false))) ∙
    sym (all_lie s first last c.requires (sym c.in-Some-Some.ensures.value) (sym c.in-Some-Some.ensures'.value)))
