-- How a text falls into lines.
use Rattle.std.proofs.Common.{◌≡◌, ◌≢◌, ℕ, List, [], ◌∷◌, ◌++◌, All, inl, inr, refl, sym, ◌∙◌, ap, subst, arith}
use Rattle.std.proofs.lemmas.List.{append-nil, append_assoc}
use Rattle.std.proofs.lemmas.List.Elements.{recursion_from_All, All-from_recursion}
use Rattle.std.proofs.lemmas.Bool.{cases_eq}
use Rattle.std.proofs.lemmas.Bool.Decides.{nat_tests}
use Rattle.std.specs.List.{AllByRecursion}
use Rattle.adya_text.specs.Meaning.Texts.{with_ends}
use Rattle.ssi_durable.specs.Meaning.Lines.{lines_after, whole_lines, torn_after, torn}

-- bytes of a line, as a recursion sees them
abbrev pub Plain : List ℕ → Type 0
Plain bytes = AllByRecursion (λ b. b ≢ 10) bytes

abbrev pub ArePlain : List (List ℕ) → Type 0
ArePlain lines = AllByRecursion Plain lines

-- ---- a line and its line feed

line_first : (begun line rest : List ℕ) → Plain line → lines_after begun (line ++ (10 ∷ rest)) ≡ (begun ++ line) ∷ lines_after [] rest
line_first begun [] rest plain = ap (λ (l : List ℕ). l ∷ lines_after [] rest) (sym (append-nil begun))
line_first begun (b ∷ line) rest plain =
    let goes_on = plain.0 in
    let step : lines_after begun (b ∷ line ++ (10 ∷ rest)) ≡ lines_after (begun ++ (b ∷ [])) (line ++ (10 ∷ rest)) = grind (arith, nat_tests) in
    step ∙ line_first (begun ++ (b ∷ [])) line rest plain.1 ∙ ap (λ (l : List ℕ). l ∷ lines_after [] rest) (append_assoc begun (b ∷ []) line)

torn_first : (begun line rest : List ℕ) → Plain line → torn_after begun (line ++ (10 ∷ rest)) ≡ torn rest
torn_first begun [] rest plain = refl
torn_first begun (b ∷ line) rest plain =
    let goes_on = plain.0 in
    let step : torn_after begun (b ∷ line ++ (10 ∷ rest)) ≡ torn_after (begun ++ (b ∷ [])) (line ++ (10 ∷ rest)) = grind (arith, nat_tests) in
    step ∙ torn_first (begun ++ (b ∷ [])) line rest plain.1

-- ---- bytes without a line feed

no_line : (begun rest : List ℕ) → Plain rest → lines_after begun rest ≡ []
no_line begun [] plain = refl
no_line begun (b ∷ rest) plain =
    let goes_on = plain.0 in
    let step : lines_after begun (b ∷ rest) ≡ lines_after (begun ++ (b ∷ [])) rest = grind (arith, nat_tests) in
    step ∙ no_line (begun ++ (b ∷ [])) rest plain.1

all_torn : (begun rest : List ℕ) → Plain rest → torn_after begun rest ≡ begun ++ rest
all_torn begun [] plain = sym (append-nil begun)
all_torn begun (b ∷ rest) plain =
    let goes_on = plain.0 in
    let step : torn_after begun (b ∷ rest) ≡ torn_after (begun ++ (b ∷ [])) rest = grind (arith, nat_tests) in
    step ∙ all_torn (begun ++ (b ∷ [])) rest plain.1 ∙ append_assoc begun (b ∷ []) rest

-- ---- whole lines, and then more

pub lines_first : (lines : List (List ℕ)) (rest : List ℕ) → ArePlain lines → whole_lines (with_ends lines ++ rest) ≡ lines ++ whole_lines rest
lines_first [] rest plain = refl
lines_first (line ∷ lines) rest plain =
    ap whole_lines (append_assoc line (10 ∷ with_ends lines) rest)
    ∙ line_first [] line (with_ends lines ++ rest) plain.0
    ∙ ap (λ (ls : List (List ℕ)). line ∷ ls) (lines_first lines rest plain.1)

pub torn_last : (lines : List (List ℕ)) (rest : List ℕ) → ArePlain lines → torn (with_ends lines ++ rest) ≡ torn rest
torn_last [] rest plain = refl
torn_last (line ∷ lines) rest plain =
    ap torn (append_assoc line (10 ∷ with_ends lines) rest)
    ∙ torn_first [] line (with_ends lines ++ rest) plain.0 ∙ torn_last lines rest plain.1

-- and then an unfinished one
pub lines_are : (lines : List (List ℕ)) (rest : List ℕ) → ArePlain lines → Plain rest → whole_lines (with_ends lines ++ rest) ≡ lines
lines_are lines rest plain none =
    lines_first lines rest plain ∙ ap (λ (ls : List (List ℕ)). lines ++ ls) (no_line [] rest none) ∙ append-nil lines

pub torn_is : (lines : List (List ℕ)) (rest : List ℕ) → ArePlain lines → Plain rest → torn (with_ends lines ++ rest) ≡ rest
torn_is lines rest plain none = torn_last lines rest plain ∙ all_torn [] rest none

-- ---- each text is its whole lines and what is torn

pub record Falls (begun text : List ℕ) : Type 0 where
  pub parts : begun ++ text ≡ with_ends (lines_after begun text) ++ torn_after begun text
  pub lines : ArePlain (lines_after begun text)
  pub rest : Plain (torn_after begun text)

plain_more : (begun : List ℕ) (b : ℕ) → Plain begun → b ≢ 10 → Plain (begun ++ (b ∷ []))
plain_more [] b plain ne = (ne, tt)
plain_more (a ∷ begun) b plain ne = (plain.0, plain_more begun b plain.1 ne)

pub falls : (begun text : List ℕ) → Plain begun → Falls begun text
falls begun [] plain = record { parts = append-nil begun; lines = tt; rest = plain }
falls begun (b ∷ text) plain = elim (cases_eq b 10) [
  | inl ends ↦
      let more = falls [] text tt in
      let ls : lines_after begun (b ∷ text) ≡ begun ∷ lines_after [] text = grind (arith, nat_tests) in
      let t : torn_after begun (b ∷ text) ≡ torn_after [] text = grind (arith, nat_tests) in
      record {
        parts = (λ i. begun ++ (ends i ∷ more.parts i)) ∙ sym (append_assoc begun (10 ∷ with_ends (lines_after [] text)) (torn_after [] text))
            ∙ sym (λ i. with_ends (ls i) ++ t i);
        lines = subst ArePlain (sym ls) (plain, more.lines);
        rest = subst Plain (sym t) more.rest;
      }
  | inr goes_on ↦
      let more = falls (begun ++ (b ∷ [])) text (plain_more begun b plain goes_on) in
      let ls : lines_after begun (b ∷ text) ≡ lines_after (begun ++ (b ∷ [])) text = grind (arith, nat_tests) in
      let t : torn_after begun (b ∷ text) ≡ torn_after (begun ++ (b ∷ [])) text = grind (arith, nat_tests) in
      record {
        parts = sym (append_assoc begun (b ∷ []) text) ∙ more.parts ∙ sym (λ i. with_ends (ls i) ++ t i);
        lines = subst ArePlain (sym ls) more.lines;
        rest = subst Plain (sym t) more.rest;
      }
]

-- the first line of a text
pub lines_next : (text line rest : List ℕ) → All (λ b. b ≢ 10) line → text ≡ line ++ (10 ∷ rest) → whole_lines text ≡ line ∷ whole_lines rest
lines_next text line rest plain is = ap whole_lines is ∙ line_first [] line rest (recursion_from_All _ line plain)

pub lines_none : (text : List ℕ) → All (λ b. b ≢ 10) text → whole_lines text ≡ []
lines_none text plain = no_line [] text (recursion_from_All _ text plain)

pub ends_append : (a b : List (List ℕ)) → with_ends (a ++ b) ≡ with_ends a ++ with_ends b
ends_append [] b = refl
ends_append (l ∷ a) b =
    ap (λ (t : List ℕ). l ++ (10 ∷ t)) (ends_append a b) ∙ sym (append_assoc l (10 ∷ with_ends a) (with_ends b))

pub plain_append : (a b : List (List ℕ)) → ArePlain a → ArePlain b → ArePlain (a ++ b)
plain_append [] b p q = q
plain_append (l ∷ a) b p q = (p.0, plain_append a b p.1 q)

-- ---- the same of `All`

each_plain : (lines : List (List ℕ)) → ArePlain lines → AllByRecursion (λ l. All (λ b. b ≢ 10) l) lines
each_plain [] plain = tt
each_plain (l ∷ lines) plain = (All-from_recursion _ l plain.0, each_plain lines plain.1)

each_by_recursion : (lines : List (List ℕ)) → AllByRecursion (λ l. All (λ b. b ≢ 10) l) lines → ArePlain lines
each_by_recursion [] plain = tt
each_by_recursion (l ∷ lines) plain = (recursion_from_All _ l plain.0, each_by_recursion lines plain.1)

pub all_plain : (lines : List (List ℕ)) → ArePlain lines → All (λ l. All (λ b. b ≢ 10) l) lines
all_plain lines plain = All-from_recursion _ lines (each_plain lines plain)

pub from_all_plain : (lines : List (List ℕ)) → All (λ l. All (λ b. b ≢ 10) l) lines → ArePlain lines
from_all_plain lines plain = each_by_recursion lines (recursion_from_All _ lines plain)
