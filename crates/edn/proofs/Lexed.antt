-- The token that is read is the one with which the text begins.
use Rattle.std.proofs.Common.{◌≡◌, ◌≢◌, ℕ, zero, suc, ◌+◌, ◌==◌, true, false, List, [], ◌∷◌, ◌++◌, take, drop, Option, Some, None}
use Rattle.std.proofs.Common.{inl, inr, refl, sym, ap, ◌∙◌, subst, append_assoc, take-append-drop, arith}
use Rattle.std.specs.List.{prefix_len}
use Rattle.std.proofs.lemmas.Bool.{eqb-true}
use Rattle.edn.specs.Meaning.Openings as opening
use Rattle.edn.specs.declared.token.Beyond.{Beyond}
use Rattle.edn.specs.declared.token.Beyond.TheVariants.{Unread, Nothing}
use Rattle.edn.specs.Meaning.Bytes.{is_word_byte}
use Rattle.edn.specs.Meaning.Characters.{is_character}
use Rattle.edn.specs.Meaning.Forms.{Form, number, string, character}
use Rattle.edn.specs.Meaning.Names.{is_name, is_tag}
use Rattle.edn.specs.Meaning.Numbers.{is_symbolic}
use Rattle.edn.specs.Meaning.Tokens.{Token, opens, discard, tag, meta, leaf}
use Rattle.edn.specs.Meaning.Words.{word_of}
use Rattle.edn.specs.Meaning.Lexing.{Ends, IsWord, Begins, round_opens, square_opens, curly_opens, set_opens, round_closes, square_closes, curly_closes, discards, curly_opens_within, metas, old_metas, symbolics, tags, quotes, characters, words}
use Rattle.edn.specs.Computing.Strings.{Quoted, closed, open_, bad as no_string, quoted_at}
use Rattle.edn.specs.Computing.Tokens.{token, more, bad, no_token, unfinished, may_go_on, after_string}
use Rattle.edn.specs.Computing.Tokens.{character_at, character_token, tag_token, symbolic_token, map_at, namespace_token, dispatched, of_word, word_token, token_at}
use Rattle.edn.proofs.Choices.{chosen, ne_from}
use Rattle.edn.proofs.StringTexts.{inside_more, string_read}
use Rattle.edn.proofs.Spans.{span_ends, span_word}

-- nothing follows the text's end
abbrev pub IsBeyond : Beyond → List ℕ → Type 0
IsBeyond Unread after = Unit {0}
IsBeyond Nothing after = after ≡ []

-- the bytes begin with the token, also if these follow them
abbrev BeginsWith : List ℕ → Token → List ℕ → List ℕ → Type 0
BeginsWith bytes t rest after = Begins t (bytes ++ after) (rest ++ after)

same : (s t : Token) (r rest : List ℕ) → token s r ≡ token t rest → (text after : List ℕ)
    → Begins s text (r ++ after) → Begins t text (rest ++ after)
same s t r rest e text after h =
    let one : s ≡ t = cc in
    let two : r ≡ rest = cc in
    subst (λ x. Begins x text (rest ++ after)) one (subst (λ x. Begins s text (x ++ after)) two h)

none_so : (beyond : Beyond) (t : Token) (rest : List ℕ) → no_token beyond ≡ token t rest → ⊥
none_so Unread t rest e = cc
none_so Nothing t rest e = cc

unfinished_so : (beyond : Beyond) (t : Token) (rest : List ℕ) → unfinished beyond ≡ token t rest → ⊥
unfinished_so Unread t rest e = cc
unfinished_so Nothing t rest e = cc

-- a word that may not go on has ended
pub ended : (beyond : Beyond) (rest after : List ℕ) → IsBeyond beyond after → Ends rest → may_go_on rest beyond ≡ false
    → Ends (rest ++ after)
ended Unread [] after b h e = absurd (cc)
ended Unread (x ∷ rest) after b h e = h
ended Nothing [] after b h e = subst Ends (sym b) tt
ended Nothing (x ∷ rest) after b h e = h

string_so : (beyond : Beyond) (bs after : List ℕ) (q : Quoted) (t : Token) (rest : List ℕ) → quoted_at 0 bs ≡ q
    → after_string beyond q ≡ token t rest → BeginsWith (34 ∷ bs) t rest after
string_so beyond bs after (closed bytes r) t rest is e =
    let (inside, good, whole) = string_read 0 bs bytes r is in
    same (leaf (string bytes)) t r rest e (34 ∷ (bs ++ after)) after
    (subst (λ x. Begins (leaf (string bytes)) (34 ∷ x) (r ++ after))
    (sym (ap (λ x. x ++ after) whole ∙ append_assoc inside (34 ∷ r) after)) (quotes inside (inside_more good after)))
string_so beyond bs after open_ t rest is e = absurd (unfinished_so beyond t rest e)
string_so beyond bs after no_string t rest is e = absurd (cc)

-- a text in two parts, and what follows
pub parted : (n : ℕ) (text after : List ℕ) → text ++ after ≡ take n text ++ (drop n text ++ after)
parted n text after = ap (λ x. x ++ after) (sym (take-append-drop n text)) ∙ append_assoc (take n text) (drop n text) after

tag_so : (beyond : Beyond) (text after : List ℕ) (t : Token) (rest : List ℕ) → IsBeyond beyond after
    → tag_token beyond text ≡ token t rest → BeginsWith (35 ∷ text) t rest after
tag_so beyond text after t rest b e =
    let n = prefix_len is_word_byte text in
    elim (chosen (may_go_on (drop n text) beyond) _ _ _ e) [
      | inl w ↦ absurd (let no : more ≡ token t rest = w.1 in cc)
      | inr w ↦ elim (chosen (is_tag (take n text)) _ _ _ w.1) [
        | inl v ↦ same tag t (drop n text) rest v.1 (35 ∷ (text ++ after)) after
            (subst (λ x. Begins tag (35 ∷ x) (drop n text ++ after)) (sym (parted n text after))
            (tags (take n text) (span_word text) v.0 (ended beyond (drop n text) after b (span_ends text) w.0)))
        | inr v ↦ absurd (let no : bad _ ≡ token t rest = v.1 in cc)
      ]
    ]

symbolic_so : (beyond : Beyond) (text after : List ℕ) (t : Token) (rest : List ℕ) → IsBeyond beyond after
    → symbolic_token beyond text ≡ token t rest → BeginsWith (35 ∷ 35 ∷ text) t rest after
symbolic_so beyond text after t rest b e =
    let n = prefix_len is_word_byte text in
    let name = take n text in
    elim (chosen (may_go_on (drop n text) beyond) _ _ _ e) [
      | inl w ↦ absurd (let no : more ≡ token t rest = w.1 in cc)
      | inr w ↦ elim (chosen (is_symbolic name) _ _ _ w.1) [
        | inl v ↦ same (leaf (number (35 ∷ 35 ∷ name))) t (drop n text) rest v.1 (35 ∷ 35 ∷ (text ++ after)) after
            (subst (λ x. Begins (leaf (number (35 ∷ 35 ∷ name))) (35 ∷ 35 ∷ x) (drop n text ++ after)) (sym (parted n text after))
            (symbolics name (span_word text) v.0 (ended beyond (drop n text) after b (span_ends text) w.0)))
        | inr v ↦ absurd (let no : bad _ ≡ token t rest = v.1 in cc)
      ]
    ]

map_so : (name r after : List ℕ) (t : Token) (rest : List ℕ) → IsWord name → is_name name ≡ true → map_at name r ≡ token t rest
    → Begins t (35 ∷ 58 ∷ (name ++ (r ++ after))) (rest ++ after)
map_so name [] after t rest w g e = absurd (cc)
map_so name (b ∷ bs) after t rest w g e =
    elim (chosen (b == 123) _ _ _ e) [
      | inl v ↦ same (opens (opening.Map (Some name))) t bs rest v.1 (35 ∷ 58 ∷ (name ++ b ∷ (bs ++ after))) after
          (subst (λ x. Begins (opens (opening.Map (Some name))) (35 ∷ 58 ∷ (name ++ x ∷ (bs ++ after))) (bs ++ after)) (sym (eqb-true b 123 v.0))
          (curly_opens_within name w g))
      | inr v ↦ absurd (let no : bad _ ≡ token t rest = v.1 in cc)
    ]

namespace_so : (beyond : Beyond) (text after : List ℕ) (t : Token) (rest : List ℕ)
    → namespace_token beyond text ≡ token t rest → BeginsWith (35 ∷ 58 ∷ text) t rest after
namespace_so beyond text after t rest e =
    let n = prefix_len is_word_byte text in
    elim (chosen (may_go_on (drop n text) beyond) _ _ _ e) [
      | inl w ↦ absurd (let no : more ≡ token t rest = w.1 in cc)
      | inr w ↦ elim (chosen (is_name (take n text)) _ _ _ w.1) [
        | inl v ↦ subst (λ x. Begins t (35 ∷ 58 ∷ x) (rest ++ after)) (sym (parted n text after))
            (map_so (take n text) (drop n text) after t rest (span_word text) v.0 v.1)
        | inr v ↦ absurd (let no : bad _ ≡ token t rest = v.1 in cc)
      ]
    ]

dispatched_so : (beyond : Beyond) (text after : List ℕ) (t : Token) (rest : List ℕ) → IsBeyond beyond after
    → dispatched beyond text ≡ token t rest → BeginsWith (35 ∷ text) t rest after
dispatched_so beyond [] after t rest b e = absurd (unfinished_so beyond t rest e)
dispatched_so beyond (c ∷ bs) after t rest b e =
    elim (chosen (c == 123) _ _ _ e) [
      | inl w ↦ same (opens opening.Set) t bs rest w.1 _ after
          (subst (λ x. Begins (opens opening.Set) (35 ∷ x ∷ (bs ++ after)) (bs ++ after)) (sym (eqb-true c 123 w.0)) set_opens)
      | inr w ↦ elim (chosen (c == 95) _ _ _ w.1) [
        | inl v ↦ same discard t bs rest v.1 _ after
            (subst (λ x. Begins discard (35 ∷ x ∷ (bs ++ after)) (bs ++ after)) (sym (eqb-true c 95 v.0)) discards)
        | inr v ↦ elim (chosen (c == 94) _ _ _ v.1) [
          | inl x ↦ same meta t bs rest x.1 _ after
              (subst (λ y. Begins meta (35 ∷ y ∷ (bs ++ after)) (bs ++ after)) (sym (eqb-true c 94 x.0)) old_metas)
          | inr x ↦ elim (chosen (c == 35) _ _ _ x.1) [
            | inl z ↦ subst (λ y. BeginsWith (35 ∷ y ∷ bs) t rest after) (sym (eqb-true c 35 z.0)) (symbolic_so beyond bs after t rest b z.1)
            | inr z ↦ elim (chosen (c == 58) _ _ _ z.1) [
              | inl k ↦ subst (λ y. BeginsWith (35 ∷ y ∷ bs) t rest after) (sym (eqb-true c 58 k.0)) (namespace_so beyond bs after t rest k.1)
              | inr k ↦ tag_so beyond (c ∷ bs) after t rest b k.1
            ]
          ]
        ]
      ]
    ]

word_from : (beyond : Beyond) (name r after : List ℕ) (t : Token) (rest : List ℕ) (o : Option Form) → word_of name ≡ o
    → of_word o r ≡ token t rest → IsWord name → Ends (r ++ after) → ((bs : List ℕ) → name ≡ 35 ∷ bs → ⊥)
    → Begins t (name ++ (r ++ after)) (rest ++ after)
word_from beyond name r after t rest None is e w h other = absurd (cc)
word_from beyond [] r after t rest (Some f) is e w h other = absurd (let no : None ≡ Some f = is in cc)
word_from beyond (b ∷ bs) r after t rest (Some f) is e w h other =
    same (leaf f) t r rest e ((b ∷ bs) ++ (r ++ after)) after
    (words b bs (λ hash. other bs (ap (λ x. x ∷ bs) hash)) w is h)

no_hash : (n b : ℕ) (bs : List ℕ) → b ≢ 35 → (cs : List ℕ) → take n (b ∷ bs) ≡ 35 ∷ cs → ⊥
no_hash zero b bs other cs e = absurd (let no : [] ≡ 35 ∷ cs = e in cc)
no_hash (suc n) b bs other cs e = other (let is : b ∷ take n bs ≡ 35 ∷ cs = e in cc)

word_so : (beyond : Beyond) (b : ℕ) (bs after : List ℕ) (t : Token) (rest : List ℕ) → IsBeyond beyond after → b ≢ 35
    → word_token beyond (b ∷ bs) ≡ token t rest → BeginsWith (b ∷ bs) t rest after
word_so beyond b bs after t rest h other e =
    let text = b ∷ bs in
    let n = prefix_len is_word_byte text in
    elim (chosen (may_go_on (drop n text) beyond) _ _ _ e) [
      | inl w ↦ absurd (let no : more ≡ token t rest = w.1 in cc)
      | inr w ↦ subst (λ x. Begins t x (rest ++ after)) (sym (parted n text after))
          (word_from beyond (take n text) (drop n text) after t rest (word_of (take n text)) refl w.1 (span_word text)
          (ended beyond (drop n text) after h (span_ends text) w.0) (no_hash n b bs other))
    ]

character_so : (beyond : Beyond) (text after : List ℕ) (t : Token) (rest : List ℕ) → IsBeyond beyond after
    → character_token beyond text ≡ token t rest → BeginsWith (92 ∷ text) t rest after
character_so beyond [] after t rest h e = absurd (unfinished_so beyond t rest e)
character_so beyond (b ∷ bs) after t rest h e =
    let n = prefix_len is_word_byte bs in
    let one : n + 1 ≡ suc n = omega arith in
    let read : character_at beyond (b ∷ take n bs) (drop n bs) ≡ token t rest =
    subst (λ m. character_at beyond (take m (b ∷ bs)) (drop m (b ∷ bs)) ≡ token t rest) one e in
    elim (chosen (may_go_on (drop n bs) beyond) _ _ _ read) [
      | inl w ↦ absurd (let no : more ≡ token t rest = w.1 in cc)
      | inr w ↦ elim (chosen (is_character (b ∷ take n bs)) _ _ _ w.1) [
        | inl v ↦ same (leaf (character (b ∷ take n bs))) t (drop n bs) rest v.1 (92 ∷ b ∷ (bs ++ after)) after
            (subst (λ x. Begins (leaf (character (b ∷ take n bs))) (92 ∷ b ∷ x) (drop n bs ++ after))
            (sym (parted n bs after))
            (characters (span_word bs) v.0 (ended beyond (drop n bs) after h (span_ends bs) w.0)))
        | inr v ↦ absurd (let no : bad _ ≡ token t rest = v.1 in cc)
      ]
    ]

-- the byte at the front is this one
front : (b n : ℕ) (bs : List ℕ) (t : Token) (rest after : List ℕ) → (b == n) ≡ true
    → BeginsWith (n ∷ bs) t rest after → BeginsWith (b ∷ bs) t rest after
front b n bs t rest after e h = subst (λ x. BeginsWith (x ∷ bs) t rest after) (sym (eqb-true b n e)) h

pub token_so : (beyond : Beyond) (bytes after : List ℕ) (t : Token) (rest : List ℕ) → IsBeyond beyond after
    → token_at beyond bytes ≡ token t rest → Begins t (bytes ++ after) (rest ++ after)
unfolding token_at
token_so beyond [] after t rest h e = absurd (none_so beyond t rest e)
token_so beyond (b ∷ bs) after t rest h e =
    elim (chosen (b == 59) _ _ _ e) [
      | inl w ↦ absurd (none_so beyond t rest w.1)
      | inr w1 ↦
          elim (chosen (b == 34) _ _ _ w1.1) [
            | inl w ↦ front b 34 bs t rest after w.0 (string_so beyond bs after (quoted_at 0 bs) t rest refl w.1)
            | inr w2 ↦
                elim (chosen (b == 92) _ _ _ w2.1) [
                  | inl w ↦ front b 92 bs t rest after w.0 (character_so beyond bs after t rest h w.1)
                  | inr w3 ↦
                      elim (chosen (b == 35) _ _ _ w3.1) [
                        | inl w ↦ front b 35 bs t rest after w.0 (dispatched_so beyond bs after t rest h w.1)
                        | inr w4 ↦
                            elim (chosen (b == 40) _ _ _ w4.1) [
                              | inl w ↦ front b 40 bs t rest after w.0 (same _ t bs rest w.1 _ after round_opens)
                              | inr w5 ↦
                                  elim (chosen (b == 91) _ _ _ w5.1) [
                                    | inl w ↦ front b 91 bs t rest after w.0 (same _ t bs rest w.1 _ after square_opens)
                                    | inr w6 ↦
                                        elim (chosen (b == 123) _ _ _ w6.1) [
                                          | inl w ↦ front b 123 bs t rest after w.0 (same _ t bs rest w.1 _ after curly_opens)
                                          | inr w7 ↦
                                              elim (chosen (b == 41) _ _ _ w7.1) [
                                                | inl w ↦ front b 41 bs t rest after w.0 (same _ t bs rest w.1 _ after round_closes)
                                                | inr w8 ↦
                                                    elim (chosen (b == 93) _ _ _ w8.1) [
                                                      | inl w ↦ front b 93 bs t rest after w.0 (same _ t bs rest w.1 _ after square_closes)
                                                      | inr w9 ↦
                                                          elim (chosen (b == 125) _ _ _ w9.1) [
                                                            | inl w ↦ front b 125 bs t rest after w.0 (same _ t bs rest w.1 _ after curly_closes)
                                                            | inr w10 ↦
                                                                elim (chosen (b == 94) _ _ _ w10.1) [
                                                                  | inl w ↦ front b 94 bs t rest after w.0 (same _ t bs rest w.1 _ after metas)
                                                                  | inr w11 ↦ word_so beyond b bs after t rest h (ne_from b 35 w4.0) w11.1
                                                                ]
                                                          ]
                                                    ]
                                              ]
                                        ]
                                  ]
                            ]
                      ]
                ]
          ]
    ]
