-- A string is read up to its closing quote, and its bytes are those that its text stands for.
use Rattle.std.proofs.Common.{get_or, ◌≢◌, ◌≡◌, ℕ, zero, suc, ◌≤◌, ◌==◌, true, false, List, [], ◌∷◌, ◌++◌, length, take, drop, Option, Some, None, inl, inr, refl, sym, ap, ◌∙◌, subst, append_assoc, append-nil, take-append-drop, arith}
use Rattle.std.specs.Prelude.{encode_utf8}
use Rattle.std.proofs.lemmas.Bool.{eqb-true, ne_eqb}
use Rattle.std.proofs.lemmas.Grind.{common_steps}
use Rattle.edn.specs.Meaning.Strings.{character_of, escape_len, IsInside, nothing, plain, escaped}
use Rattle.edn.specs.Computing.Strings.{Quoted, closed, open_, bad, with_bytes, with_character, after_escape, escaped_at, quoted_at}
use Rattle.edn.proofs.Choices.{chosen, alike, ne_from}
use Rattle.edn.proofs.Fronts.{behind, whole}
use Rattle.edn.proofs.Escapes.{escape_stops, escape_within}

-- ---- what follows an escape

take_front : (front rest : List ℕ) → take (length front) (front ++ rest) ≡ front
take_front front rest = grind (arith, common_steps)

drop_front : (front rest : List ℕ) → drop (length front) (front ++ rest) ≡ rest
drop_front front rest = grind (arith, common_steps)

len_taken : (n : ℕ) (text : List ℕ) → n ≤ length text → length (take n text) ≡ n
len_taken n text less = grind (arith, common_steps, less)

pub after_left : (left : ℕ) (text : List ℕ) → quoted_at left text ≡ quoted_at 0 (drop left text)
after_left zero text = refl
after_left (suc left) [] = refl
after_left (suc left) (b ∷ text) = after_left left text

-- the escape at the front, and what follows it
pub front_escape : (text : List ℕ) → escape_len text ≡ length (take (escape_len text) text)
front_escape text = sym (len_taken (escape_len text) text (escape_within text))

pub at_escape : (escape rest : List ℕ) → escape_len (escape ++ rest) ≡ length escape
    → quoted_at 0 (92 ∷ (escape ++ rest)) ≡ after_escape escape rest (quoted_at 0 rest)
unfolding escaped_at
at_escape escape rest e =
    ap (λ n. after_escape (take n (escape ++ rest)) (drop n (escape ++ rest)) (quoted_at n (escape ++ rest))) e
    ∙ ap (λ q. after_escape (take (length escape) (escape ++ rest)) (drop (length escape) (escape ++ rest)) q) (after_left (length escape) (escape ++ rest))
    ∙ ap (λ front. after_escape front (drop (length escape) (escape ++ rest)) (quoted_at 0 (drop (length escape) (escape ++ rest)))) (take_front escape rest)
    ∙ ap (λ behind. after_escape escape behind (quoted_at 0 behind)) (drop_front escape rest)

pub escape_stands : (text : List ℕ) (n : ℕ) (escape rest : List ℕ) → n ≡ escape_len text → escape ≡ take n text
    → rest ≡ drop n text → escaped_at text (quoted_at (escape_len text) text) ≡ after_escape escape rest (quoted_at 0 rest)
unfolding escaped_at
escape_stands text n escape rest is front behind =
    ap (λ m. after_escape (take m text) (drop m text) (quoted_at m text)) (sym is)
    ∙ ap (λ q. after_escape (take n text) (drop n text) q) (after_left n text)
    ∙ ap (λ r. after_escape (take n text) r (quoted_at 0 r)) (sym behind)
    ∙ ap (λ e. after_escape e rest (quoted_at 0 rest)) (sym front)

pub after_some : (escape rest : List ℕ) (q : Quoted) (o : Option ℕ) → (length rest == 0) ≡ false → o ≡ character_of escape
    → after_escape escape rest q ≡ with_character o q
after_some escape [] q o some is = absurd (cc)
after_some escape (b ∷ rest) q o some is = ap (λ x. with_character x q) (sym is)

with_more : (front bytes : List ℕ) (q : Quoted) → with_bytes front (with_bytes bytes q) ≡ with_bytes (front ++ bytes) q
with_more front bytes (closed more rest) = ap (λ x. closed x rest) (sym (append_assoc front bytes more))
with_more front bytes open_ = refl
with_more front bytes bad = refl

plain_byte : (b : ℕ) (text : List ℕ) → b ≢ 34 → b ≢ 92 → with_bytes (b ∷ []) (quoted_at 0 text) ≡ quoted_at 0 (b ∷ text)
plain_byte b text quote back = rw (ne_eqb b 34 quote, ne_eqb b 92 back) refl

pub after_none : (escape rest : List ℕ) (q : Quoted) → (length rest == 0) ≡ true → after_escape escape rest q ≡ open_
after_none escape [] q none = refl
after_none escape (b ∷ rest) q none = absurd (omega (arith, eqb-true (length (b ∷ rest)) 0 none))

pub behind_within : (text : List ℕ) (n : ℕ) → length text ≤ n → length (behind text) ≤ n
behind_within text n less = grind (arith, common_steps, less)

pub plain_more : (text bytes : List ℕ) (b : ℕ) → 1 ≤ length text → get_or text 0 0 ≡ b → b ≢ 34 → b ≢ 92
    → with_bytes (bytes ++ b ∷ []) (quoted_at 0 (behind text)) ≡ with_bytes bytes (quoted_at 0 text)
plain_more text bytes b some is quote back =
    sym (with_more bytes (b ∷ []) (quoted_at 0 (behind text)))
    ∙ ap (with_bytes bytes) (plain_byte b (behind text) quote back ∙ ap (quoted_at 0) (whole b text some is))

-- ---- a string that was read

-- from there on the text is what stands inside these bytes' quotes, the closing quote, and the rest
abbrev IsRead : List ℕ → List ℕ → List ℕ → Type 0
IsRead text bytes rest = (inside : List ℕ) × IsInside (34 ∷ rest) inside bytes × (text ≡ inside ++ 34 ∷ rest)

with_front : (front : List ℕ) (q : Quoted) (bytes rest : List ℕ) → with_bytes front q ≡ closed bytes rest
    → (more : List ℕ) × (q ≡ closed more rest) × (bytes ≡ front ++ more)
with_front front (closed bytes r) all rest e =
    let same : r ≡ rest = cc in
    let bytes_are : all ≡ front ++ bytes = cc in
    (bytes, ap (closed bytes) same, bytes_are)
with_front front open_ bytes rest e = absurd (let no : open_ ≡ closed bytes rest = e in cc)
with_front front bad bytes rest e = absurd (let no : bad ≡ closed bytes rest = e in cc)

read_character : (escape text : List ℕ) (q : Quoted) (bytes rest : List ℕ) (o : Option ℕ)
    → escape_len (escape ++ text) ≡ length escape → character_of escape ≡ o
    → ((more : List ℕ) → q ≡ closed more rest → IsRead text more rest)
    → with_character o q ≡ closed bytes rest → IsRead (92 ∷ (escape ++ text)) bytes rest
read_character escape text q bytes rest None len is further e = absurd (let no : bad ≡ closed bytes rest = e in cc)
read_character escape text q bytes rest (Some c) len is further e =
    let (more, inner, bytes_are) = with_front (encode_utf8 c) q bytes rest e in
    let (inside, good, whole) = further more inner in (
      92 ∷ (escape ++ inside),
      subst (IsInside (34 ∷ rest) (92 ∷ (escape ++ inside))) (sym bytes_are)
          (escaped escape (ap (λ x. escape_len (escape ++ x)) (sym whole) ∙ len) is good),
      ap (λ x. 92 ∷ (escape ++ x)) whole ∙ ap (λ x. 92 ∷ x) (sym (append_assoc escape inside (34 ∷ rest))),
    )

read_escape : (escape text : List ℕ) (q : Quoted) (bytes rest : List ℕ) → escape_len (escape ++ text) ≡ length escape
    → ((more : List ℕ) → q ≡ closed more rest → IsRead text more rest)
    → after_escape escape text q ≡ closed bytes rest → IsRead (92 ∷ (escape ++ text)) bytes rest
read_escape escape [] q bytes rest len further e = absurd (let no : open_ ≡ closed bytes rest = e in cc)
read_escape escape (b ∷ text) q bytes rest len further e =
    read_character escape (b ∷ text) q bytes rest (character_of escape) len refl further e

pub parts_len : (text : List ℕ) → escape_len (take (escape_len text) text ++ drop (escape_len text) text) ≡ length (take (escape_len text) text)
parts_len text = ap escape_len (take-append-drop (escape_len text) text) ∙ front_escape text

pub string_read : (left : ℕ) (text bytes rest : List ℕ) → quoted_at left text ≡ closed bytes rest
    → IsRead (drop left text) bytes rest
unfolding escaped_at
string_read zero [] bytes rest e = absurd (let no : open_ ≡ closed bytes rest = e in cc)
string_read (suc left) [] bytes rest e = absurd (let no : open_ ≡ closed bytes rest = e in cc)
string_read (suc left) (b ∷ text) bytes rest e = string_read left text bytes rest e
string_read zero (b ∷ text) bytes rest e =
    elim (chosen (b == 34) _ _ _ e) [
      | inl w ↦
          let all : closed [] text ≡ closed bytes rest = w.1 in
          let none : [] ≡ bytes = cc in
          let same : text ≡ rest = cc in (
            [],
            subst (IsInside (34 ∷ rest) []) none nothing,
            ap (λ x. x ∷ text) (eqb-true b 34 w.0) ∙ ap (λ l. 34 ∷ l) same,
          )
      | inr w ↦ elim (chosen (b == 92) _ _ _ w.1) [
        | inl v ↦
            let n = escape_len text in
            subst (λ x. IsRead x bytes rest)
            (ap (λ x. 92 ∷ x) (take-append-drop n text) ∙ ap (λ x. x ∷ text) (sym (eqb-true b 92 v.0)))
            (read_escape (take n text) (drop n text) (quoted_at n text) bytes rest (parts_len text) (λ more inner. string_read n text more rest inner) v.1)
        | inr v ↦
            let (more, inner, bytes_are) = with_front (b ∷ []) (quoted_at 0 text) bytes rest v.1 in
            let (inside, good, whole) = string_read zero text more rest inner in (
              b ∷ inside,
              subst (IsInside (34 ∷ rest) (b ∷ inside)) (sym bytes_are) (plain (ne_from b 34 w.0) (ne_from b 92 v.0) good),
              ap (λ l. b ∷ l) whole,
            )
      ]
    ]

-- ---- and what stands inside is read so

with_none : (q : Quoted) → with_bytes [] q ≡ q
with_none (closed bytes rest) = refl
with_none open_ = refl
with_none bad = refl

after_known : (escape rest : List ℕ) (c : ℕ) → character_of escape ≡ Some c
    → after_escape escape rest (quoted_at 0 rest) ≡ with_bytes (encode_utf8 c) (quoted_at 0 rest)
after_known escape [] c is = refl
after_known escape (b ∷ rest) c is = ap (λ o. with_character o (quoted_at 0 (b ∷ rest))) is

pub inside_again : {behind inside bytes : List ℕ} → IsInside behind inside bytes
    → quoted_at 0 (inside ++ behind) ≡ with_bytes bytes (quoted_at 0 behind)
inside_again {behind} nothing = sym (with_none (quoted_at 0 behind))
inside_again {behind} (plain {b = b} {bytes = bytes} q s r) =
    rw (ne_eqb b 34 q, ne_eqb b 92 s) (ap (with_bytes (b ∷ [])) (inside_again r) ∙ with_more (b ∷ []) bytes (quoted_at 0 behind))
inside_again {behind} (escaped {c = c} {text = text} {bytes = bytes} escape len is r) =
    ap (λ x. quoted_at 0 (92 ∷ x)) (append_assoc escape text behind)
    ∙ at_escape escape (text ++ behind) len
    ∙ after_known escape (text ++ behind) c is
    ∙ ap (with_bytes (encode_utf8 c)) (inside_again r)
    ∙ with_more (encode_utf8 c) bytes (quoted_at 0 behind)

pub string_again : {inside bytes : List ℕ} (rest : List ℕ) → IsInside (34 ∷ rest) inside bytes
    → quoted_at 0 (inside ++ 34 ∷ rest) ≡ closed bytes rest
string_again {bytes = bytes} rest r = inside_again r ∙ ap (λ x. closed x rest) (append-nil bytes)

-- ---- what is behind a string counts only by its first byte

SameFirst : List ℕ → List ℕ → Type 0
SameFirst [] other = ⊥
SameFirst (b ∷ x) [] = ⊥
SameFirst (b ∷ x) (c ∷ y) = b ≡ c

other_len : (escape text behind other : List ℕ) → SameFirst behind other
    → escape_len (escape ++ (text ++ behind)) ≡ length escape → escape_len (escape ++ (text ++ other)) ≡ length escape
unfolding SameFirst
other_len escape [] [] other first len = absurd first
other_len escape [] (b ∷ x) [] first len = absurd first
other_len escape [] (b ∷ x) (c ∷ y) first len =
    subst (λ z. escape_len (escape ++ z ∷ y) ≡ length escape) first (escape_stops escape b x y len)
other_len escape (t ∷ text) behind other first len = escape_stops escape t (text ++ behind) (text ++ other) len

other_inside : {behind inside bytes : List ℕ} → IsInside behind inside bytes → (other : List ℕ) → SameFirst behind other
    → IsInside other inside bytes
other_inside nothing other first = nothing
other_inside (plain q s r) other first = plain q s (other_inside r other first)
other_inside {behind} (escaped {text = text} escape len is r) other first =
    escaped escape (other_len escape text behind other first len) is (other_inside r other first)

pub inside_more : {inside bytes rest : List ℕ} → IsInside (34 ∷ rest) inside bytes → (after : List ℕ)
    → IsInside (34 ∷ (rest ++ after)) inside bytes
unfolding SameFirst
inside_more {rest = rest} r after = other_inside r (34 ∷ (rest ++ after)) refl

-- ---- an escape that there isn't stays one, whatever follows

bytes_stay : (front : List ℕ) (q r : Quoted) → (q ≡ bad → r ≡ bad) → with_bytes front q ≡ bad → with_bytes front r ≡ bad
bytes_stay front (closed bytes rest) r f e = absurd (let no : closed (front ++ bytes) rest ≡ bad = e in cc)
bytes_stay front open_ r f e = absurd (let no : open_ ≡ bad = e in cc)
bytes_stay front bad r f e = ap (with_bytes front) (f refl)

character_stays : (o : Option ℕ) (q r : Quoted) → (q ≡ bad → r ≡ bad) → with_character o q ≡ bad → with_character o r ≡ bad
character_stays None q r f e = refl
character_stays (Some c) q r f e = bytes_stay (encode_utf8 c) q r f e

escape_stays : (escape text more : List ℕ) (q : Quoted) → escape_len (escape ++ text) ≡ length escape
    → (q ≡ bad → quoted_at 0 (text ++ more) ≡ bad) → after_escape escape text q ≡ bad
    → quoted_at 0 (92 ∷ (escape ++ (text ++ more))) ≡ bad
escape_stays escape [] more q len f e = absurd (let no : open_ ≡ bad = e in cc)
escape_stays escape (b ∷ text) more q len f e =
    at_escape escape (b ∷ (text ++ more)) (escape_stops escape b text (text ++ more) len)
    ∙ character_stays (character_of escape) q (quoted_at 0 (b ∷ (text ++ more))) f e

drop_more : (n : ℕ) (text more : List ℕ) → n ≤ length text → drop n (text ++ more) ≡ drop n text ++ more
drop_more n text more less = grind (arith, common_steps, less)

escape_same : (text more : List ℕ)
    → quoted_at 0 (92 ∷ (take (escape_len text) text ++ (drop (escape_len text) text ++ more))) ≡ bad
    → quoted_at 0 (92 ∷ (text ++ more)) ≡ bad
escape_same text more e =
    let n = escape_len text in
    ap (λ x. quoted_at 0 (92 ∷ x))
    (ap (λ x. x ++ more) (sym (take-append-drop n text)) ∙ append_assoc (take n text) (drop n text) more) ∙ e

pub quoted_stays : (left : ℕ) (text more : List ℕ) → quoted_at left text ≡ bad
    → quoted_at left (text ++ more) ≡ bad
unfolding escaped_at
quoted_stays zero [] more e = absurd (let no : open_ ≡ bad = e in cc)
quoted_stays (suc left) [] more e = absurd (let no : open_ ≡ bad = e in cc)
quoted_stays (suc left) (b ∷ text) more e = quoted_stays left text more e
quoted_stays zero (b ∷ text) more e =
    alike (b == 34) bad _ _ _ _ (λ no. absurd (let is : closed [] text ≡ bad = no in cc))
    (alike (b == 92) bad _ _ _ _
    (λ bad_is.
    let n = escape_len text in
    escape_same text more
    (escape_stays (take n text) (drop n text) more (quoted_at n text) (parts_len text)
    (λ q. subst (λ x. quoted_at 0 x ≡ bad) (drop_more n text more (escape_within text)) (sym (after_left n (text ++ more)) ∙ quoted_stays n text more q))
    bad_is))
    (bytes_stay (b ∷ []) _ _ (quoted_stays zero text more))) e
