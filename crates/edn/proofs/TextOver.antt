-- Where no more forms are read, only discarded ones and blanks are left.
use Rattle.std.proofs.Common.{◌≡◌, ◌≢◌, ◌⊎◌, inl, inr, ℕ, ◌<◌, ◌==◌, true, List, [], ◌∷◌, ◌++◌, length, All, Option, None, Some, refl, sym, ap, ◌∙◌, subst, append-nil, rules, arith}
use Rattle.std.proofs.lemmas.Bool.{eqb-false}
use Rattle.std.proofs.lemmas.Grind.{common_steps}
use Rattle.std.specs.Io.KnownBytes.{IsAtEnd, prepend_known}
use Rattle.edn.specs.declared.reader.Stage.{Stage}
use Rattle.edn.specs.declared.reader.Stage.TheVariants.{Start, Forms, Elements, Closed, Failed}
use Rattle.edn.specs.Meaning.Bytes.{is_space}
use Rattle.edn.specs.Meaning.Grammar.{AreItems}
use Rattle.edn.specs.Meaning.Lexing.{IsLastLine}
use Rattle.edn.specs.Meaning.Reading.{PassesGap, IsBlankLeft, ReadsTokens}
use Rattle.edn.specs.Meaning.Readers.{CloseVector, AreLastBehind, AreLast, IsOver}
use Rattle.edn.specs.Meaning.Tokens.{Token}
use Rattle.edn.specs.Computing.Building.{Frame, is_top}
use Rattle.edn.specs.Computing.Gaps.{after_gap_in}
use Rattle.edn.specs.Computing.Tokens.{BeginsComment}
use Rattle.edn.proofs.Choices.{chosen}
use Rattle.edn.proofs.FormsRead.{IsBehind, BeginsOther, Leads, discarded_only}
use Rattle.edn.proofs.GapTexts.{gap_in, IsPast}
use Rattle.edn.proofs.Held.{no_forms_in}

-- ---- the bytes

no_feeds : All (λ (b : ℕ). b ≢ 10) []
no_feeds = search rules

more_plain : (b : ℕ) (line : List ℕ) → b ≢ 10 → All (λ (c : ℕ). c ≢ 10) line → All (λ (c : ℕ). c ≢ 10) (b ∷ line)
more_plain b line h all = search rules

not_within : (start gap bs : List ℕ) → length bs < length start → bs ≡ gap ++ start → ⊥
not_within start gap bs shorter e = grind (arith, common_steps, shorter, ap length e)

shorter_rest : (start : List ℕ) (b : ℕ) (bs : List ℕ) → length (b ∷ bs) < length start → length bs < length start
shorter_rest start b bs h = omega (arith, h)

-- a comment that is all that is left has no line feed
no_feed : (start bs : List ℕ) → length bs < length start → after_gap_in (Some start) bs ≡ start → All (λ (b : ℕ). b ≢ 10) bs
no_feed start [] h e = no_feeds
no_feed start (b ∷ bs) h e =
    elim (chosen (b == 10) _ _ _ e) [
      | inl w ↦
          let (gap, _, whole) = gap_in bs in
          absurd (not_within start gap bs (shorter_rest start b bs h) (whole ∙ ap (λ x. gap ++ x) w.1))
      | inr w ↦ more_plain b bs (eqb-false b 10 w.0) (no_feed start bs (shorter_rest start b bs h) w.1)
    ]

longer : (b : ℕ) (bs : List ℕ) → length bs < length (b ∷ bs)
longer b bs = omega arith

pub last_line : (bytes : List ℕ) → IsPast bytes → BeginsComment bytes → IsLastLine bytes
unfolding is_space
last_line [] past e = tt
last_line (b ∷ bs) past e =
    let here : after_gap_in None (59 ∷ bs) ≡ 59 ∷ bs = subst (λ x. after_gap_in None (x ∷ bs) ≡ x ∷ bs) e past in
    (e, no_feed (59 ∷ bs) bs (longer 59 bs) here)

-- all of the text was passed over, but for these bytes
pub blank_left : (bytes : List ℕ) (start left : Option (List ℕ)) → IsPast bytes → BeginsComment bytes → IsAtEnd left
    → PassesGap start (prepend_known bytes left) → IsBlankLeft start
blank_left bytes None left past e end h = tt
blank_left bytes (Some text) None past e end h = absurd h
blank_left bytes (Some text) (Some others) past e end (gap, g, whole) = (
  gap,
  bytes,
  g,
  last_line bytes past e,
  whole ∙ ap (λ x. gap ++ (bytes ++ x)) end ∙ ap (λ x. gap ++ x) (append-nil bytes),
)

-- ---- the tokens

last_forms : (first : Stage) (ts : List Token) → ((first ≡ Start) × BeginsOther ts) ⊎ (first ≡ Forms) → AreItems ts []
    → AreLast first ts
last_forms first [] (inl (e, other)) items = absurd other
last_forms first (t ∷ ts) (inl (e, other)) items =
    subst (λ s. AreLast s (t ∷ ts)) (sym e) (subst (λ b. AreLastBehind b t ts) (sym other) items)
last_forms first ts (inr e) items = subst (λ s. AreLast s ts) (sym e) items

last_elements : (first : Stage) (ts us : List Token) → (first ≡ Start) ⊎ (first ≡ Elements) → IsBehind first ts us
    → CloseVector us → AreLast first ts
last_elements Start ts us from (t, square, e) close =
    subst (AreLast Start) (sym e) (subst (λ b. AreLastBehind b t us) (sym square) close)
last_elements Forms ts us (inl e) behind close = absurd (cc)
last_elements Forms ts us (inr e) behind close = absurd (cc)
last_elements Elements ts us from behind close = subst CloseVector (sym behind) close
last_elements Closed ts us (inl e) behind close = absurd (cc)
last_elements Closed ts us (inr e) behind close = absurd (cc)
last_elements (Failed fault) ts us (inl e) behind close = absurd (cc)
last_elements (Failed fault) ts us (inr e) behind close = absurd (cc)

pub last_tokens : (first stage : Stage) (ts : List Token) (stack : List Frame) → Leads first stage ts stack
    → is_top stack ≡ true → stage ≢ Elements → AreLast first ts
last_tokens first Start ts stack (is, empty, _) idle other =
    subst (λ s. AreLast s ts) (sym is) (subst (AreLast Start) (sym empty) tt)
last_tokens first Forms ts stack (from, h) idle other =
    last_forms first ts from (no_forms_in (discarded_only stack ts h idle))
last_tokens first Elements ts stack leads idle other = absurd (other refl)
last_tokens first Closed ts stack (_, inl (is, empty)) idle other = subst (λ s. AreLast s ts) (sym is) empty
last_tokens first Closed ts stack (_, inr (from, (us, ds, behind, d, whole))) idle other =
    last_elements first ts us from behind (ds, no_forms_in d, whole)
last_tokens first (Failed fault) ts stack (is, _, empty) idle other = subst (λ s. AreLast s ts) (sym is) empty

-- ---- the text

pub text_over : (first stage : Stage) (start left : Option (List ℕ)) (ts : List Token) (stack : List Frame)
    → Leads first stage ts stack → is_top stack ≡ true → stage ≢ Elements → ReadsTokens start left ts → IsBlankLeft left
    → IsOver first start
text_over first stage None left ts stack leads idle other reads blank = tt
text_over first stage (Some text) left ts stack leads idle other (rest, lexes, is) blank =
    (ts, rest, lexes, last_tokens first stage ts stack leads idle other, subst IsBlankLeft is blank)
