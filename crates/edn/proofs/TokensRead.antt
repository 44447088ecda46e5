-- The token that was read is the next one of the text.
use Rattle.std.proofs.Common.{◌≡◌, ℕ, ◌-◌, List, [], ◌∷◌, ◌++◌, length, drop, Option, None, Some, refl, sym, ap, ◌∙◌, subst, append_assoc, append-nil}
use Rattle.std.specs.Io.KnownBytes.{Consumes, prepend_known}
use Rattle.edn.specs.declared.token.Beyond.{Beyond}
use Rattle.edn.specs.declared.token.Beyond.TheVariants.{Unread, Nothing}
use Rattle.edn.specs.Meaning.Tokens.{Token}
use Rattle.edn.specs.Meaning.Lexing.{IsGap, no_gap, Begins, round_opens, square_opens, curly_opens, set_opens, round_closes, square_closes, curly_closes, discards, curly_opens_within, metas, old_metas, symbolics, tags, quotes, characters, words}
use Rattle.edn.specs.Meaning.Reading.{IsLinked, ReadsToken, PassesGap}
use Rattle.edn.specs.Computing.Tokens.{token, token_at}
use Rattle.edn.proofs.Lexed.{IsBeyond, token_so}
use Rattle.edn.proofs.GapTexts.{gap_append, rest_after}

-- ---- the rest of the bytes

begins_front : {t : Token} {text rest : List ℕ} → Begins t text rest → (front : List ℕ) × (text ≡ front ++ rest)
begins_front round_opens = (40 ∷ [], refl)
begins_front square_opens = (91 ∷ [], refl)
begins_front curly_opens = (123 ∷ [], refl)
begins_front set_opens = (35 ∷ 123 ∷ [], refl)
begins_front round_closes = (41 ∷ [], refl)
begins_front square_closes = (93 ∷ [], refl)
begins_front curly_closes = (125 ∷ [], refl)
begins_front discards = (35 ∷ 95 ∷ [], refl)
begins_front {rest = rest} (curly_opens_within name w g) =
    (35 ∷ 58 ∷ (name ++ 123 ∷ []), ap (λ x. 35 ∷ 58 ∷ x) (sym (append_assoc name (123 ∷ []) rest)))
begins_front metas = (94 ∷ [], refl)
begins_front old_metas = (35 ∷ 94 ∷ [], refl)
begins_front (symbolics name w g e) = (35 ∷ 35 ∷ name, refl)
begins_front (tags name w g e) = (35 ∷ name, refl)
begins_front {rest = rest} (quotes inside h) =
    (34 ∷ (inside ++ 34 ∷ []), ap (λ x. 34 ∷ x) (sym (append_assoc inside (34 ∷ []) rest)))
begins_front (characters {b = b} {name = name} w g e) = (92 ∷ b ∷ name, refl)
begins_front (words b name h w is e) = (b ∷ name, refl)

nothing_beyond : (beyond : Beyond) → IsBeyond beyond []
nothing_beyond Unread = tt
nothing_beyond Nothing = refl

front_of : (beyond : Beyond) (p : List ℕ) (t : Token) (rest : List ℕ) → token_at beyond p ≡ token t rest
    → (front : List ℕ) × (p ≡ front ++ rest)
front_of beyond p t rest e =
    let begins = token_so beyond p [] t rest (nothing_beyond beyond) e in
    let (front, whole) = begins_front begins in
    (front, sym (append-nil p) ∙ whole ∙ ap (λ x. front ++ x) (append-nil rest))

pub token_rest : (beyond : Beyond) (p : List ℕ) (t : Token) (rest : List ℕ) → token_at beyond p ≡ token t rest
    → drop (length p - length rest) p ≡ rest
token_rest beyond p t rest e =
    let (front, whole) = front_of beyond p t rest e in
    subst (λ x. drop (length x - length rest) x ≡ rest) (sym whole) (rest_after front rest)

-- ---- the text

pub none_passed : (left : Option (List ℕ)) → PassesGap left left
none_passed None = tt
none_passed (Some text) = ([], no_gap, refl)

pub more_passed : (p q gap : List ℕ) (start left : Option (List ℕ)) → p ≡ gap ++ q → IsGap gap
    → PassesGap start (prepend_known p left) → PassesGap start (prepend_known q left)
more_passed p q gap None left e g h = tt
more_passed p q gap (Some text) None e g h = absurd h
more_passed p q gap (Some text) (Some more) e g (before, b, whole) = (
  before ++ gap,
  gap_append b g,
  whole ∙ ap (λ x. before ++ (x ++ more)) e ∙ ap (λ x. before ++ x) (append_assoc gap q more)
      ∙ sym (append_assoc before gap (q ++ more)),
)

pub same_passed : (start old new : Option (List ℕ)) → Consumes old new [] → PassesGap start old → PassesGap start new
same_passed None old new e h = tt
same_passed (Some text) None new e h = absurd h
same_passed (Some text) (Some xs) None e h = absurd e
same_passed (Some text) (Some xs) (Some ys) e (gap, g, whole) = (gap, g, whole ∙ ap (λ x. gap ++ x) e)

pub token_read : (beyond : Beyond) (p : List ℕ) (t : Token) (rest : List ℕ) (start left : Option (List ℕ))
    → token_at beyond p ≡ token t rest → IsLinked beyond left → PassesGap start (prepend_known p left)
    → ReadsToken start (prepend_known rest left) t
token_read beyond p t rest None left e l h = tt
token_read beyond p t rest (Some text) None e l h = absurd h
token_read Unread p t rest (Some text) (Some more) e l (gap, g, whole) =
    (gap, p ++ more, rest ++ more, g, token_so Unread p more t rest tt e, whole, refl)
token_read Nothing p t rest (Some text) (Some more) e l (gap, g, whole) =
    (gap, p ++ more, rest ++ more, g, token_so Nothing p more t rest l e, whole, refl)
