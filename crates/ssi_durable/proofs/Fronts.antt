-- What a front of a text has of its lines.
use Rattle.std.proofs.Common.{◌≡◌, ℕ, ◌≤◌, List, [], ◌∷◌, ◌++◌, length, refl, ◌∙◌, ap, subst, arith}
use Rattle.adya_text.specs.Meaning.Texts.{with_ends}
use Rattle.ssi_log.specs.Meaning.Texts.{IsFrontOf}
use Rattle.ssi_durable.specs.Meaning.Lines.{whole_lines}
use Rattle.ssi_durable.proofs.WholeLines.{Plain, ArePlain, lines_are}

-- of a front of two lists that is no shorter than the first
pub front_of : (w t left r : List ℕ) → w ++ t ≡ left ++ r → length w ≤ length left
    → (more : List ℕ) × (left ≡ w ++ more) × (t ≡ more ++ r)
front_of [] t left r e le = (left, refl, e)
front_of (x ∷ w) t [] r e le = absurd (omega arith)
front_of (x ∷ w) t (y ∷ left) r e le =
    let m = front_of w t left r (cc e) (omega (arith, le)) in
    let same : y ≡ x = cc e in
    (m.0, (λ i. same i ∷ m.1 i), m.2)

pub plain_front : (a b : List ℕ) → Plain (a ++ b) → Plain a
plain_front [] b plain = tt
plain_front (x ∷ a) b plain = (plain.0, plain_front a b plain.1)

-- a front that has all whole lines has no other
pub kept_lines : (lines : List (List ℕ)) (t left : List ℕ) → ArePlain lines → Plain t
    → IsFrontOf (with_ends lines ++ t) (length (with_ends lines)) left → whole_lines left ≡ lines
kept_lines lines t left plain none front =
    let m = front_of (with_ends lines) t left front.rest front.whole front.kept in
    ap whole_lines m.1 ∙ lines_are lines m.0 plain (plain_front m.0 front.rest (subst Plain m.2 none))
