-- Texts cut into lines.
use Rattle.std.proofs.Common.{◌≡◌, ◌≢◌, ℕ, suc, ◌+◌, ◌<◌, List, [], ◌∷◌, ◌++◌, All, length, take, drop}
use Rattle.std.proofs.Common.{slice_index, refl, sym, ap, ◌∙◌, arith, append_assoc, take-append-drop}
use Rattle.std.proofs.lemmas.List.Elements.{All-head, All-tail, All-push}
use Rattle.std.proofs.Math.Seq.{take-suc}
use Rattle.memchr.specs.Find.{Nowhere, Passes, is_byte}
use Rattle.adya_text.specs.Meaning.Texts.{with_ends}
use Rattle.devices.proofs.Ranges.{plain_all, plain_before}
use Rattle.adya_line.specs.Meaning.Lines.{IsPlain}
use Rattle.adya_text.specs.Clauses.Faults.{IsCut}

pub ends_append : (xs ys : List (List ℕ)) → with_ends (xs ++ ys) ≡ with_ends xs ++ with_ends ys
ends_append [] ys = refl
ends_append (x ∷ xs) ys = ap (λ (r : List ℕ). x ++ (10 ∷ r)) (ends_append xs ys)
    ∙ sym (append_assoc x (10 ∷ with_ends xs) (with_ends ys))

-- ---- one text has one cut

-- bytes without a line feed are not two parts with one between them
no_feed : (bytes front back : List ℕ) → IsPlain bytes → bytes ≡ front ++ 10 ∷ back → ⊥
no_feed [] [] back plain e = cc
no_feed [] (f ∷ front) back plain e = cc
no_feed (b ∷ bytes) [] back plain e = let here : b ≡ 10 = cc in All-head (λ x. x ≢ 10) b bytes plain here
no_feed (b ∷ bytes) (f ∷ front) back plain e = let later : bytes ≡ front ++ 10 ∷ back = cc in
    no_feed bytes front back (All-tail (λ x. x ≢ 10) b bytes plain) later

-- two lines with a line feed each at the front of one text are one line
first_line : (x y a b : List ℕ) → IsPlain x → IsPlain y → x ++ 10 ∷ a ≡ y ++ 10 ∷ b → (x ≡ y) × (a ≡ b)
first_line [] [] a b px py e = (refl, cc)
first_line [] (c ∷ y) a b px py e = let here : c ≡ 10 = cc in absurd (All-head (λ x. x ≢ 10) c y py here)
first_line (c ∷ x) [] a b px py e = let here : c ≡ 10 = cc in absurd (All-head (λ x. x ≢ 10) c x px here)
first_line (c ∷ x) (d ∷ y) a b px py e =
    let later : x ++ 10 ∷ a ≡ y ++ 10 ∷ b = cc in
    let rest = first_line x y a b (All-tail (λ x. x ≢ 10) c x px) (All-tail (λ x. x ≢ 10) d y py) later in
    (cc (rest.0), rest.1)

pub one_cut : (xs ys : List (List ℕ)) (r s : List ℕ) → All IsPlain xs → All IsPlain ys → IsPlain r → IsPlain s
    → with_ends xs ++ r ≡ with_ends ys ++ s → (xs ≡ ys) × (r ≡ s)
one_cut [] [] r s ax ay pr ps e = (refl, e)
one_cut [] (y ∷ ys) r s ax ay pr ps e =
    absurd (no_feed r y (with_ends ys ++ s) pr (e ∙ append_assoc y (10 ∷ with_ends ys) s))
one_cut (x ∷ xs) [] r s ax ay pr ps e =
    absurd (no_feed s x (with_ends xs ++ r) ps (sym e ∙ append_assoc x (10 ∷ with_ends xs) r))
one_cut (x ∷ xs) (y ∷ ys) r s ax ay pr ps e =
    let whole : x ++ 10 ∷ (with_ends xs ++ r) ≡ y ++ 10 ∷ (with_ends ys ++ s) =
    sym (append_assoc x (10 ∷ with_ends xs) r) ∙ e ∙ append_assoc y (10 ∷ with_ends ys) s in
    let first = first_line x y (with_ends xs ++ r) (with_ends ys
    ++ s) (All-head IsPlain x xs ax) (All-head IsPlain y ys ay) whole in
    let later = one_cut xs ys r s (All-tail IsPlain x xs ax) (All-tail IsPlain y ys ay) pr ps first.1 in
    (cc (first.0, later.0), later.1)

-- if lines begin a text of lines, they are its first lines
pub first_lines : (xs ys : List (List ℕ)) (more : List ℕ) → All IsPlain xs → All IsPlain ys
    → with_ends ys ≡ with_ends xs ++ more → (zs : List (List ℕ)) × (ys ≡ xs ++ zs) × (more ≡ with_ends zs)
first_lines [] ys more ax ay e = (ys, refl, sym e)
first_lines (x ∷ xs) [] more ax ay e = absurd (no_lines x (with_ends xs) more e)
  where
    no_lines : (x a more : List ℕ) → [] ≡ (x ++ 10 ∷ a) ++ more → ⊥
    no_lines [] a more e = cc
    no_lines (b ∷ x) a more e = cc
first_lines (x ∷ xs) (y ∷ ys) more ax ay e =
    let whole : y ++ 10 ∷ with_ends ys ≡ x ++ 10 ∷ (with_ends xs ++ more) = e
    ∙ append_assoc x (10 ∷ with_ends xs) more in
    let first = first_line y x (with_ends ys) (with_ends xs
    ++ more) (All-head IsPlain y ys ay) (All-head IsPlain x xs ax) whole in
    let (zs, same, rest) = first_lines xs ys more (All-tail IsPlain x xs ax) (All-tail IsPlain y ys ay) first.1 in
    (zs, cc (first.0, same), rest)

-- ---- cutting line after line

-- the text has these lines, and then this rest
pub record IsAt (text : List ℕ) (past : List (List ℕ)) (rest : List ℕ) : Type 0 where
  pub plain : All IsPlain past
  pub whole : text ≡ with_ends past ++ rest

pub at_line : (text : List ℕ) (past : List (List ℕ)) (rest : List ℕ) (at : ℕ) → IsAt text past rest → at < length rest
    → slice_index rest at ≡ 10 → Nowhere (Passes (is_byte 10) rest) 0 at
    → IsAt text (past ++ take at rest ∷ []) (drop (at + 1) rest)
at_line text past rest at is within feed none =
    let next : suc at ≡ at + 1 = omega arith in
    let one : take (at + 1) rest ≡ take at rest ++ 10 ∷ [] =
    sym (ap (λ n. take n rest) next) ∙ take-suc rest at 0 within ∙ ap (λ (x : ℕ). take at rest ++ x ∷ []) feed in
    let back : List ℕ = drop (at + 1) rest in
    let front : rest ≡ (take at rest ++ 10 ∷ []) ++ back =
    sym (take-append-drop (at + 1) rest) ∙ ap (λ (l : List ℕ). l ++ drop (at + 1) rest) one in
    record {
      plain = All-push IsPlain past (take at rest) is.plain (plain_before rest at (omega arith) none);
      whole =
          is.whole ∙ ap (λ (l : List ℕ). with_ends past ++ l) front
          ∙ sym (append_assoc (with_ends past) (take at rest ++ 10 ∷ []) back)
          ∙ ap (λ (l : List ℕ). l ++ back) (sym (ends_append past (take at rest ∷ [])));
    }

pub at_end : (text : List ℕ) (past : List (List ℕ)) (rest : List ℕ) → IsAt text past rest
    → Nowhere (Passes (is_byte 10) rest) 0 (length rest) → IsCut text past rest
at_end text past rest is none = record {
  plain = is.plain;
  plain_rest = plain_all rest none;
  whole = is.whole;
}
