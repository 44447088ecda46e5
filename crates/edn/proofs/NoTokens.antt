-- Where no token is read, the text begins with none.
use Rattle.std.proofs.Common.{◌≡◌, ℕ, ◌==◌, false, cond, List, [], ◌∷◌, ◌++◌, take, drop, Option, None, Some, inl, inr, refl, sym, ap, ◌∙◌, subst, append-nil}
use Rattle.std.specs.List.{prefix_len}
use Rattle.std.specs.Io.KnownBytes.{prepend_known}
use Rattle.edn.specs.declared.read_fault.Problem.{Problem}
use Rattle.edn.specs.declared.token.Beyond.{Beyond}
use Rattle.edn.specs.declared.token.Beyond.TheVariants.{Unread, Nothing}
use Rattle.edn.specs.Meaning.Bytes.{is_word_byte}
use Rattle.edn.specs.Meaning.Characters.{is_character}
use Rattle.edn.specs.Meaning.Forms.{Form}
use Rattle.edn.specs.Meaning.Names.{is_name, is_tag}
use Rattle.edn.specs.Meaning.Numbers.{is_symbolic}
use Rattle.edn.specs.Meaning.Tokens.{Token}
use Rattle.edn.specs.Meaning.Words.{word_of}
use Rattle.edn.specs.Meaning.Lexing.{IsGap, Begins, Lexes, no_tokens, next}
use Rattle.edn.specs.Meaning.Reading.{IsLinked, PassesGap, HasNoToken}
use Rattle.edn.specs.Computing.Gaps.{after_gap_in}
use Rattle.edn.specs.Computing.Strings.{Quoted, closed, open_, bad as no_string, quoted_at}
use Rattle.edn.specs.Computing.Tokens.{Lexed, token, end, more, bad, may_go_on, after_string, string_token}
use Rattle.edn.specs.Computing.Tokens.{character_at, character_token, tag_at, symbolic_at, namespace_at, dispatched, of_word, word_at, token_at}
use Rattle.edn.proofs.Choices.{chosen, alike}
use Rattle.edn.proofs.GapTexts.{IsPast, past_more}
use Rattle.edn.proofs.StringTexts.{quoted_stays}
use Rattle.edn.proofs.Spans.{span_ends, span_word, by_word, word_parts, character_word}
use Rattle.edn.proofs.Lexed.{IsBeyond, ended, parted}
use Rattle.edn.proofs.OneReading.{gap_over, gap_again, token_again}

-- ---- bytes that begin no token begin none either with others behind them

no_bad : (s t : Token) (x y : List ℕ) (p : Problem) → token s x ≡ bad p → token t y ≡ bad p
no_bad s t x y p e = absurd (cc)

string_from : (bs others : List ℕ) (p : Problem) (q : Quoted) → quoted_at 0 bs ≡ q → after_string Unread q ≡ bad p
    → string_token Nothing (bs ++ others) ≡ bad p
string_from bs others p (closed bytes rest) is e = absurd (cc)
string_from bs others p open_ is e = absurd (let no : more ≡ bad p = e in cc)
string_from bs others p no_string is e = ap (after_string Nothing) (quoted_stays 0 bs others is) ∙ e

-- a word that has ended, and what it is read as doesn't hang on what follows it
abbrev Stays : (Beyond → List ℕ → List ℕ → Lexed) → Problem → Type 0
Stays read p =
    (name rest others : List ℕ) → read Unread name rest ≡ bad p
    → (may_go_on rest Unread ≡ false) × (read Nothing name (rest ++ others) ≡ bad p)

word_stays : (read : Beyond → List ℕ → List ℕ → Lexed) (p : Problem) → Stays read p → (text others : List ℕ)
    → by_word (read Unread) text ≡ bad p → by_word (read Nothing) (text ++ others) ≡ bad p
word_stays read p stays text others e =
    let n = prefix_len is_word_byte text in
    let (done, is) = stays (take n text) (drop n text) others e in
    ap (by_word (read Nothing)) (parted n text others)
    ∙ word_parts (read Nothing) (take n text) (drop n text ++ others) (span_word text)
    (ended Unread (drop n text) others tt (span_ends text) done)
    ∙ is

stays_if : (rest : List ℕ) (x y : Lexed) (p : Problem) → (x ≡ bad p → y ≡ bad p) → cond (may_go_on rest Unread) more x ≡ bad p
    → (may_go_on rest Unread ≡ false) × (y ≡ bad p)
stays_if rest x y p f e =
    elim (chosen (may_go_on rest Unread) _ _ _ e) [
      | inl w ↦ absurd (let no : more ≡ bad p = w.1 in cc)
      | inr w ↦ (w.0, f w.1)
    ]

tag_stays : (p : Problem) → Stays tag_at p
tag_stays p name rest others e =
    stays_if rest _ _ p (alike (is_tag name) _ _ _ _ _ (no_bad _ _ _ _ p) (λ x. x)) e

symbolic_stays : (p : Problem) → Stays symbolic_at p
symbolic_stays p name rest others e =
    stays_if rest _ _ p (alike (is_symbolic name) _ _ _ _ _ (no_bad _ _ _ _ p) (λ x. x)) e

namespace_stays : (p : Problem) → Stays namespace_at p
namespace_stays p name [] others e = absurd (let no : more ≡ bad p = e in cc)
namespace_stays p name (b ∷ bs) others e =
    stays_if (b ∷ bs) _ _ p
    (alike (is_name name) _ _ _ _ _ (alike (b == 123) _ _ _ _ _ (no_bad _ _ _ _ p) (λ x. x)) (λ x. x)) e

of_word_stays : (o : Option Form) (rest others : List ℕ) (p : Problem) → of_word o rest ≡ bad p → of_word o (rest ++ others) ≡ bad p
of_word_stays (Some f) rest others p e = absurd (cc)
of_word_stays None rest others p e = e

plain_stays : (p : Problem) → Stays word_at p
plain_stays p name rest others e = stays_if rest _ _ p (of_word_stays (word_of name) rest others p) e

character_stays : (bs others : List ℕ) (p : Problem) → character_token Unread bs ≡ bad p
    → character_token Nothing (bs ++ others) ≡ bad p
character_stays [] others p e = absurd (let no : more ≡ bad p = e in cc)
character_stays (b ∷ bs) others p e =
    character_word Nothing b (bs ++ others)
    ∙ word_stays (λ beyond name rest. character_at beyond (b ∷ name) rest) p
    (λ name rest after. stays_if rest _ _ p
    (alike (is_character (b ∷ name)) _ _ _ _ _ (no_bad _ _ _ _ p) (λ x. x)))
    bs others (sym (character_word Unread b bs) ∙ e)

dispatched_stays : (bs others : List ℕ) (p : Problem) → dispatched Unread bs ≡ bad p → dispatched Nothing (bs ++ others) ≡ bad p
dispatched_stays [] others p e = absurd (let no : more ≡ bad p = e in cc)
dispatched_stays (b ∷ bs) others p e =
    alike (b == 123) _ _ _ _ _ (no_bad _ _ _ _ p)
    (alike (b == 95) _ _ _ _ _ (no_bad _ _ _ _ p)
    (alike (b == 94) _ _ _ _ _ (no_bad _ _ _ _ p)
    (alike (b == 35) _ _ _ _ _ (word_stays symbolic_at p (symbolic_stays p) bs others)
    (alike (b == 58) _ _ _ _ _ (word_stays namespace_at p (namespace_stays p) bs others)
    (word_stays tag_at p (tag_stays p) (b ∷ bs) others))))) e

pub bad_stays : (bytes others : List ℕ) (p : Problem) → token_at Unread bytes ≡ bad p → token_at Nothing (bytes ++ others) ≡ bad p
unfolding token_at
bad_stays [] others p e = absurd (let no : more ≡ bad p = e in cc)
bad_stays (b ∷ bs) others p e =
    alike (b == 59) _ _ _ _ _ (λ no. absurd (let is : more ≡ bad p = no in cc))
    (alike (b == 34) _ _ _ _ _ (string_from bs others p (quoted_at 0 bs) refl)
    (alike (b == 92) _ _ _ _ _ (character_stays bs others p)
    (alike (b == 35) _ _ _ _ _ (dispatched_stays bs others p)
    (alike (b == 40) _ _ _ _ _ (no_bad _ _ _ _ p)
    (alike (b == 91) _ _ _ _ _ (no_bad _ _ _ _ p)
    (alike (b == 123) _ _ _ _ _ (no_bad _ _ _ _ p)
    (alike (b == 41) _ _ _ _ _ (no_bad _ _ _ _ p)
    (alike (b == 93) _ _ _ _ _ (no_bad _ _ _ _ p)
    (alike (b == 125) _ _ _ _ _ (no_bad _ _ _ _ p)
    (alike (b == 94) _ _ _ _ _ (no_bad _ _ _ _ p)
    (word_stays word_at p (plain_stays p) (b ∷ bs) others))))))))))) e

-- ---- the text

-- whatever is beyond these bytes, no token follows the gap at their front
abbrev BeginsNone : Beyond → List ℕ → Type 0
BeginsNone beyond bytes =
    (others : List ℕ) → IsBeyond beyond others → (t : Token) (rest : List ℕ)
    → Begins t (after_gap_in None (bytes ++ others)) rest → ⊥

after_passed : {text rest : List ℕ} {t : Token} → Lexes text (t ∷ []) rest → (gap bytes : List ℕ) → IsGap gap
    → text ≡ gap ++ bytes → Begins t (after_gap_in None bytes) rest
after_passed {rest = rest} {t = t} (next before front g h no_tokens) gap bytes passed e =
    subst (λ x. Begins t x rest) (sym (gap_again g h) ∙ ap (after_gap_in None) e ∙ gap_over passed bytes) h

pub no_token : (beyond : Beyond) (bytes : List ℕ) (start left : Option (List ℕ)) → BeginsNone beyond bytes → IsLinked beyond left
    → PassesGap start (prepend_known bytes left) → HasNoToken start
no_token beyond bytes None left none l h = tt
no_token beyond bytes (Some text) None none l h = absurd h
no_token Unread bytes (Some text) (Some others) none l (gap, g, whole) =
    λ t rest lexes. none others tt t rest (after_passed lexes gap (bytes ++ others) g whole)
no_token Nothing bytes (Some text) (Some others) none l (gap, g, whole) =
    λ t rest lexes. none others l t rest (after_passed lexes gap (bytes ++ others) g whole)

-- all of the text is read as something else than a token
all_none : (bytes : List ℕ) (r : Lexed) → ((t : Token) (rest : List ℕ) → r ≡ token t rest → ⊥) → IsPast bytes
    → token_at Nothing bytes ≡ r → BeginsNone Nothing bytes
all_none bytes r other past e others none t rest h =
    let here : Begins t bytes rest =
    subst (λ x. Begins t x rest)
    (ap (λ x. after_gap_in None (bytes ++ x)) none ∙ ap (after_gap_in None) (append-nil bytes) ∙ past) h in
    other t rest (sym e ∙ token_again here)

past_bad : (bytes others : List ℕ) (p : Problem) → token_at Unread bytes ≡ bad p → IsPast bytes → IsPast (bytes ++ others)
unfolding token_at
past_bad [] others p e past = absurd (let no : more ≡ bad p = e in cc)
past_bad (b ∷ bs) others p e past =
    elim (chosen (b == 59) _ _ _ e) [
      | inl w ↦ absurd (let no : more ≡ bad p = w.1 in cc)
      | inr w ↦ past_more b bs others w.0 past
    ]

-- the text has ended
pub none_at_end : (bytes : List ℕ) → IsPast bytes → token_at Nothing bytes ≡ end → BeginsNone Nothing bytes
none_at_end bytes past e = all_none bytes end (λ t rest no. cc) past e

-- the bytes begin no token
pub none_at_bad : (beyond : Beyond) (bytes : List ℕ) (p : Problem) → IsPast bytes → token_at beyond bytes ≡ bad p
    → BeginsNone beyond bytes
none_at_bad Nothing bytes p past e = all_none bytes (bad p) (λ t rest no. cc) past e
none_at_bad Unread bytes p past e = λ others _ t rest h.
    let no : bad p ≡ token t rest =
    sym (bad_stays bytes others p e) ∙ token_again (subst (λ x. Begins t x rest) (past_bad bytes others p e past) h) in
    cc
