-- What a crash leaves of the lines of a text.
use Rattle.std.proofs.Common.{◌≡◌, ℕ, ◌≤◌, ◌<◌, List, [], ◌∷◌, ◌++◌, length, Bool, true, false, ◌⊎◌, inl, inr, ⊎_elim, refl, sym, ◌∙◌, ap, subst, arith, length-append}
use Rattle.std.proofs.lemmas.List.{append-nil, append_assoc}
use Rattle.std.proofs.lemmas.Bool.{leb-true}
use Rattle.std.proofs.lemmas.Bool.Decides.{nat_tests}
use Rattle.std.specs.Prelude.{nat_le}
use Rattle.std.specs.List.{All}
use Rattle.adya_text.specs.Meaning.Texts.{with_ends}
use Rattle.adya_line.specs.Meaning.Lines.{IsPlain}
use Rattle.ssi_log.specs.Meaning.Crashes.{Keeps}
use Rattle.ssi_log.specs.Meaning.Texts.{IsFrontOf, text_of}
use Rattle.ssi_durable.specs.Meaning.Lines.{whole_lines, IsBetween}
use Rattle.ssi_durable.specs.Clauses.Journals.{LeavesLines}
use Rattle.ssi_durable.proofs.WholeLines.{Plain, ArePlain, lines_first, lines_are, ends_append, from_all_plain}
use Rattle.ssi_durable.proofs.Fronts.{front_of, plain_front}

le_or_lt : (a b : ℕ) → (a ≤ b) ⊎ (b < a)
le_or_lt a b = by_test (nat_le a b) refl
  where
    by_test : (t : Bool) → nat_le a b ≡ t → (a ≤ b) ⊎ (b < a)
    by_test true e = inl (leb-true a b e)
    by_test false e = inr (grind (arith, nat_tests))

-- a front of whole lines has a front of them
front_lines : (lines : List (List ℕ)) (left rest : List ℕ) → ArePlain lines → with_ends lines ≡ left ++ rest
    → (lost : List (List ℕ)) × (lines ≡ whole_lines left ++ lost)
front_lines [] [] rest plain e = ([], refl)
front_lines [] (b ∷ left) rest plain e = absurd (cc e)
front_lines (l ∷ lines) left rest plain e = ⊎_elim
    (λ (long : length (l ++ (10 ∷ [])) ≤ length left).
    let m = front_of (l ++ (10 ∷ [])) (with_ends lines) left rest (append_assoc l (10 ∷ []) (with_ends lines) ∙ e) long in
    let after = front_lines lines m.0 rest plain.1 m.2 in
    let first : whole_lines left ≡ l ∷ whole_lines m.0 =
    ap whole_lines (m.1 ∙ ap (λ (x : List ℕ). x ++ m.0) refl)
    ∙ lines_first (l ∷ []) m.0 (plain.0, tt) in
    (after.0, ap (λ (ls : List (List ℕ)). l ∷ ls) after.1 ∙ sym (ap (λ (ls : List (List ℕ)). ls ++ after.0) first)))
    (λ (short : length left < length (l ++ (10 ∷ []))).
    let m = front_of left rest l (10 ∷ with_ends lines) (sym e) (omega (arith, short, length-append l (10 ∷ []))) in
    let none : whole_lines left ≡ [] = lines_are [] left tt (plain_front left m.0 (subst Plain m.1 plain.0)) in
    (l ∷ lines, sym (ap (λ (ls : List (List ℕ)). ls ++ (l ∷ lines)) none)))
    (le_or_lt (length (l ++ (10 ∷ []))) (length left))

-- and those that it has for sure
has_lines : (sure more : List (List ℕ)) (left rest : List ℕ) → ArePlain sure → with_ends (sure ++ more) ≡ left ++ rest
    → length (with_ends sure) ≤ length left → (others : List (List ℕ)) × (whole_lines left ≡ sure ++ others)
has_lines sure more left rest plain e long =
    let m = front_of (with_ends sure) (with_ends more) left rest (sym (ends_append sure more) ∙ e) long in
    (whole_lines m.0, ap whole_lines m.1 ∙ lines_first sure m.0 plain)

plain_first : (a b : List (List ℕ)) → ArePlain (a ++ b) → ArePlain a
plain_first [] b plain = tt
plain_first (l ∷ a) b plain = (plain.0, plain_first a b plain.1)

between : (sure more all : List (List ℕ)) (text tail left : List ℕ) (s : ℕ) → all ≡ sure ++ more → ArePlain all
    → text ++ tail ≡ with_ends all → length (with_ends sure) ≤ s → IsFrontOf text s left → IsBetween sure (whole_lines left) all
between sure more all text tail left s parts plain whole long front =
    let e : with_ends all ≡ left ++ (front.rest ++ tail) =
    sym whole ∙ ap (λ (t : List ℕ). t ++ tail) front.whole ∙ append_assoc left front.rest tail in
    let first = front_lines all left (front.rest ++ tail) plain e in
    let others = has_lines sure more left (front.rest ++ tail) (plain_first sure more (subst ArePlain parts plain))
    (ap with_ends (sym parts) ∙ e) (omega (arith, long, front.kept)) in
    record { more = others.0; lost = first.0; has = others.1; front = first.1 }

pub leaves : (may_leave : List ℕ → Type 0) (sure more all : List (List ℕ)) (text tail : List ℕ) (s : ℕ) → all ≡ sure ++ more
    → All IsPlain all → text ++ tail ≡ with_ends all → length (with_ends sure) ≤ s → Keeps may_leave text s
    → LeavesLines may_leave sure all
leaves may_leave sure more all text tail s parts plain whole long keeps = λ file left.
    between sure more all text tail (text_of file) s parts (from_all_plain all plain) whole long (keeps file left)

-- more lines may be left of more
pub leaves_more : (may_leave : List ℕ → Type 0) (sure all more : List (List ℕ)) → LeavesLines may_leave sure all
    → LeavesLines may_leave sure (all ++ more)
leaves_more may_leave sure all more leaves = λ file left.
    let was = leaves file left in
    record {
      more = was.more;
      lost = was.lost ++ more;
      has = was.has;
      front = ap (λ (ls : List (List ℕ)). ls ++ more) was.front ∙ append_assoc (whole_lines (text_of file)) was.lost more;
    }

-- between all lines and all lines there are all lines
pub all_between : (all lines : List (List ℕ)) → IsBetween all lines all → lines ≡ all
all_between all lines is =
    let none : is.more ≡ [] = nothing is.more
    (omega (arith, ap length is.front, ap length is.has, length-append lines is.lost, length-append all is.more)) in
    is.has ∙ ap (λ (ls : List (List ℕ)). all ++ ls) none ∙ append-nil all
  where
    nothing : (ls : List (List ℕ)) → length ls ≡ 0 → ls ≡ []
    nothing [] e = refl
    nothing (l ∷ ls) e = absurd (omega (arith, e))
