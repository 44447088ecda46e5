-- The line of what is left, after some bytes were passed over.
use Rattle.std.proofs.Common.{◌≡◌, ◌≢◌, ℕ, suc, ◌+◌, ◌-◌, ◌^◌, ◌==◌, Bool, true, false, cond, List, [], ◌∷◌, ◌++◌, take, drop, All, Option, None, Some, refl, sym, ap, ◌∙◌, subst, append_assoc, append-nil, take-append-drop, arith}
use Rattle.std.specs.Prelude.{min}
use Rattle.std.specs.List.{list_all}
use Rattle.std.specs.Io.KnownBytes.{Consumes, IsAtEnd, prepend_known}
use Rattle.std.proofs.lemmas.Bool.{ne_eqb, and_parts}
use Rattle.edn.specs.declared.leaf.Leaf.{Leaf as LeafValue}
use Rattle.edn.specs.declared.token.Beyond.{Beyond}
use Rattle.edn.specs.declared.token.Beyond.TheVariants.{Unread, Nothing}
use Rattle.edn.specs.declared.token.Token.{Token as TokenValue}
use Rattle.edn.specs.declared.token.Token.TheVariants as In
use Rattle.edn.specs.Meaning.Bytes.{is_space, is_end, is_word_byte}
use Rattle.edn.specs.Meaning.Forms.{character, string}
use Rattle.edn.specs.Meaning.Lexing.{IsWord, IsLastLine, Begins, round_opens, square_opens, curly_opens, set_opens, round_closes, square_closes, curly_closes, discards, curly_opens_within, metas, old_metas, symbolics, tags, quotes, characters, words}
use Rattle.edn.specs.Meaning.Lines.{IsAt, feeds, line_after}
use Rattle.edn.specs.Meaning.Tokens.{Token, leaf}
use Rattle.edn.specs.Computing.Tokens.{token, token_of, token_at, BeginsComment}
use Rattle.edn.proofs.GapTexts.{IsPast}
use Rattle.edn.proofs.Lexed.{IsBeyond, token_so}
use Rattle.edn.proofs.OneReading.{not_end, rest_plain}
use Rattle.edn.proofs.TextOver.{last_line}

-- ---- line feeds

feeds_step : (b : Bool) (m n : ℕ) → cond b (suc (m + n)) (m + n) ≡ cond b (suc m) m + n
feeds_step true m n = omega arith
feeds_step false m n = refl

pub feeds_append : (xs ys : List ℕ) → feeds (xs ++ ys) ≡ feeds xs + feeds ys
feeds_append [] ys = omega arith
feeds_append (x ∷ xs) ys =
    ap (λ n. cond (x == 10) (suc n) n) (feeds_append xs ys) ∙ feeds_step (x == 10) (feeds xs) (feeds ys)

add_both : (a b m : ℕ) → min (min (1 + a) m + b) m ≡ min (1 + (a + b)) m
add_both a b m = omega arith

-- a line and the line feeds behind it
pub line_more : (front later : List ℕ) → min (line_after front + feeds later) (2 ^ 64 - 1) ≡ line_after (front ++ later)
unfolding line_after
line_more front later =
    add_both (feeds front) (feeds later) (2 ^ 64 - 1) ∙ ap (λ n. min (1 + n) (2 ^ 64 - 1)) (sym (feeds_append front later))

plus_none : (n : ℕ) → n + 0 ≡ n
plus_none n = omega arith

-- without line feeds the line is the same
pub line_same : (front later : List ℕ) → feeds later ≡ 0 → line_after front ≡ line_after (front ++ later)
unfolding line_after
line_same front later none =
    ap (λ n. min (1 + n) (2 ^ 64 - 1)) (sym (feeds_append front later ∙ ap (λ n. feeds front + n) none ∙ plus_none (feeds front)))

-- ---- how far the text was read

pub at_more : (text p front rest : List ℕ) (left : Option (List ℕ)) (m n : ℕ) → p ≡ front ++ rest
    → n ≡ min (m + feeds front) (2 ^ 64 - 1) → IsAt text (prepend_known p left) m → IsAt text (prepend_known rest left) n
at_more text p front rest None m n e line (before, behind, whole, is, at) = absurd (cc)
at_more text p front rest (Some others) m n e line (before, behind, whole, is, at) = (
  before ++ front,
  rest ++ others,
  whole ∙ ap (λ x. before ++ x) (sym (let same : p ++ others ≡ behind = cc in same) ∙ ap (λ x. x ++ others) e ∙ append_assoc front rest others)
      ∙ sym (append_assoc before front (rest ++ others)),
  refl,
  line ∙ ap (λ x. min (x + feeds front) (2 ^ 64 - 1)) at ∙ line_more before front,
)

pub at_same : (text p front rest : List ℕ) (left : Option (List ℕ)) (m n : ℕ) → p ≡ front ++ rest → feeds front ≡ 0
    → n ≡ m → IsAt text (prepend_known p left) m → IsAt text (prepend_known rest left) n
at_same text p front rest None m n e none line (before, behind, whole, is, at) = absurd (cc)
at_same text p front rest (Some others) m n e none line (before, behind, whole, is, at) = (
  before ++ front,
  rest ++ others,
  whole ∙ ap (λ x. before ++ x) (sym (let same : p ++ others ≡ behind = cc in same) ∙ ap (λ x. x ++ others) e ∙ append_assoc front rest others)
      ∙ sym (append_assoc before front (rest ++ others)),
  refl,
  line ∙ at ∙ line_same before front none,
)

pub at_count : (text p : List ℕ) (count : ℕ) (left : Option (List ℕ)) (m n : ℕ)
    → n ≡ min (m + feeds (take count p)) (2 ^ 64 - 1) → IsAt text (prepend_known p left) m
    → IsAt text (prepend_known (drop count p) left) n
at_count text p count left m n line at =
    at_more text p (take count p) (drop count p) left m n (sym (take-append-drop count p)) line at

pub at_known : (text : List ℕ) (old new : Option (List ℕ)) (m : ℕ) → Consumes old new [] → IsAt text old m → IsAt text new m
at_known text None new m e (before, behind, whole, is, at) = absurd (cc)
at_known text (Some xs) None m e at = absurd e
at_known text (Some xs) (Some ys) m e at = subst (λ x. IsAt text (Some x) m) e at

-- ---- tokens

e10 : is_end 10 ≡ true
unfolding is_end is_space
e10 = refl

one_less : (b : ℕ) (bs : List ℕ) → (b == 10) ≡ false → feeds (b ∷ bs) ≡ feeds bs
one_less b bs e = rw e refl

word_feeds : (name : List ℕ) → IsWord name → feeds name ≡ 0
word_feeds [] w = refl
word_feeds (b ∷ bs) w =
    let (first, others) = and_parts (is_word_byte b) (list_all is_word_byte bs) w in
    one_less b bs (not_end b 10 first e10) ∙ word_feeds bs others

-- only strings and characters have line feeds
abbrev pub IsOther : Token → Type 0
IsOther t = ((bytes : List ℕ) → t ≡ leaf (string bytes) → ⊥) × ((name : List ℕ) → t ≡ leaf (character name) → ⊥)

no_feeds : {t : Token} {text rest : List ℕ} → Begins t text rest → IsOther t
    → (front : List ℕ) × (text ≡ front ++ rest) × (feeds front ≡ 0)
no_feeds round_opens other = (40 ∷ [], refl, refl)
no_feeds square_opens other = (91 ∷ [], refl, refl)
no_feeds curly_opens other = (123 ∷ [], refl, refl)
no_feeds set_opens other = (35 ∷ 123 ∷ [], refl, refl)
no_feeds round_closes other = (41 ∷ [], refl, refl)
no_feeds square_closes other = (93 ∷ [], refl, refl)
no_feeds curly_closes other = (125 ∷ [], refl, refl)
no_feeds discards other = (35 ∷ 95 ∷ [], refl, refl)
no_feeds {rest = rest} (curly_opens_within name w g) other = (
  35 ∷ 58 ∷ (name ++ 123 ∷ []),
  ap (λ x. 35 ∷ 58 ∷ x) (sym (append_assoc name (123 ∷ []) rest)),
  feeds_append name (123 ∷ []) ∙ plus_none (feeds name) ∙ word_feeds name w,
)
no_feeds metas other = (94 ∷ [], refl, refl)
no_feeds old_metas other = (35 ∷ 94 ∷ [], refl, refl)
no_feeds (symbolics name w g e) other = (35 ∷ 35 ∷ name, refl, word_feeds name w)
no_feeds (tags name w g e) other = (35 ∷ name, refl, word_feeds name w)
no_feeds (quotes {bytes = bytes} inside h) other = absurd (other.0 bytes refl)
no_feeds (characters {b = b} {name = name} w g e) other = absurd (other.1 (b ∷ name) refl)
no_feeds (words b name h w is e) other = (b ∷ name, refl, word_feeds (b ∷ name) w)

nothing_beyond : (beyond : Beyond) → IsBeyond beyond []
nothing_beyond Unread = tt
nothing_beyond Nothing = refl

plain_token : (beyond : Beyond) (p : List ℕ) (t : Token) (rest : List ℕ) → token_at beyond p ≡ token t rest
    → IsOther t → (front : List ℕ) × (p ≡ front ++ rest) × (feeds front ≡ 0)
plain_token beyond p t rest e other =
    let begins = token_so beyond p [] t rest (nothing_beyond beyond) e in
    let (front, whole, none) = no_feeds begins other in
    (front, sym (append-nil p) ∙ whole ∙ ap (λ x. front ++ x) (append-nil rest), none)

pub at_plain : (beyond : Beyond) (p : List ℕ) (t : Token) (rest : List ℕ) → token_at beyond p ≡ token t rest
    → IsOther t → (text : List ℕ) (left : Option (List ℕ)) (m n : ℕ) → n ≡ m
    → IsAt text (prepend_known p left) m → IsAt text (prepend_known rest left) n
at_plain beyond p t rest e other text left m n line at =
    let (front, whole, none) = plain_token beyond p t rest e other in at_same text p front rest left m n whole none line at

-- the line behind a token: that of a leaf is counted anew
pub at_token : (value : TokenValue) (place : LeafValue) (beyond : Beyond) (p rest : List ℕ) (count : ℕ)
    → token_at beyond p ≡ token (token_of place value) rest → drop count p ≡ rest → (text : List ℕ) (left : Option (List ℕ)) (m n : ℕ)
    → (value ≡ In.Leaf → n ≡ min (m + feeds (take count p)) (2 ^ 64 - 1)) → (value ≢ In.Leaf → n ≡ m)
    → IsAt text (prepend_known p left) m → IsAt text (prepend_known (drop count p) left) n
at_token In.Leaf place beyond p rest count e d text left m n leaf_line line at = at_count text p count left m n (leaf_line refl) at
at_token (In.Open b) place beyond p rest count e d text left m n leaf_line line at =
    subst (λ x. IsAt text (prepend_known x left) n) (sym d) (at_plain beyond p _ rest e (λ bytes no. cc, λ name no. cc) text left m n (line (λ no. cc)) at)
at_token (In.Close b) place beyond p rest count e d text left m n leaf_line line at =
    subst (λ x. IsAt text (prepend_known x left) n) (sym d) (at_plain beyond p _ rest e (λ bytes no. cc, λ name no. cc) text left m n (line (λ no. cc)) at)
at_token In.Discard place beyond p rest count e d text left m n leaf_line line at =
    subst (λ x. IsAt text (prepend_known x left) n) (sym d) (at_plain beyond p _ rest e (λ bytes no. cc, λ name no. cc) text left m n (line (λ no. cc)) at)
at_token In.Tag place beyond p rest count e d text left m n leaf_line line at =
    subst (λ x. IsAt text (prepend_known x left) n) (sym d) (at_plain beyond p _ rest e (λ bytes no. cc, λ name no. cc) text left m n (line (λ no. cc)) at)
at_token In.Meta place beyond p rest count e d text left m n leaf_line line at =
    subst (λ x. IsAt text (prepend_known x left) n) (sym d) (at_plain beyond p _ rest e (λ bytes no. cc, λ name no. cc) text left m n (line (λ no. cc)) at)
at_token In.Nil place beyond p rest count e d text left m n leaf_line line at =
    subst (λ x. IsAt text (prepend_known x left) n) (sym d) (at_plain beyond p _ rest e (λ bytes no. cc, λ name no. cc) text left m n (line (λ no. cc)) at)
at_token (In.Integer z) place beyond p rest count e d text left m n leaf_line line at =
    subst (λ x. IsAt text (prepend_known x left) n) (sym d) (at_plain beyond p _ rest e (λ bytes no. cc, λ name no. cc) text left m n (line (λ no. cc)) at)
at_token In.Keyword place beyond p rest count e d text left m n leaf_line line at =
    subst (λ x. IsAt text (prepend_known x left) n) (sym d) (at_plain beyond p _ rest e (λ bytes no. cc, λ name no. cc) text left m n (line (λ no. cc)) at)

-- ---- the end of the text

plain_feeds : (line : List ℕ) → All (λ (b : ℕ). b ≢ 10) line → feeds line ≡ 0
plain_feeds [] plain = refl
plain_feeds (b ∷ bs) plain = one_less b bs (ne_eqb b 10 (plain 0 0 (omega arith))) ∙ plain_feeds bs (rest_plain b bs plain)

last_feeds : (line : List ℕ) → IsLastLine line → feeds line ≡ 0
last_feeds [] last = refl
last_feeds (b ∷ bs) (e, plain) = one_less b bs (ap (λ x. x == 10) e) ∙ plain_feeds bs plain

-- the bytes that are pending are all that is left, and have no line feed
pub at_last : (text p : List ℕ) (left : Option (List ℕ)) (m : ℕ) → IsPast p → BeginsComment p → IsAtEnd left
    → IsAt text (prepend_known p left) m → m ≡ line_after text
at_last text p None m past comment end (before, behind, whole, is, at) = absurd (cc)
at_last text p (Some others) m past comment end (before, behind, whole, is, at) =
    at ∙ line_same before p (last_feeds p (last_line p past comment))
    ∙ ap line_after (sym (whole ∙ ap (λ x. before ++ x) (sym (let same : p ++ others ≡ behind = cc in same) ∙ ap (λ x. p ++ x) end ∙ append-nil p)))
