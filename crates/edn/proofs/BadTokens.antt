-- What is wrong with bytes that begin no token.
use Rattle.std.proofs.Common.{◌≡◌, ◌≢◌, ℕ, zero, suc, ◌+◌, ◌==◌, Bool, true, false, cond, List, [], ◌∷◌, ◌++◌, length, take, drop, Option, None, Some, refl, sym, ap, ◌∙◌, subst, append_assoc, append-nil, take-append-drop, inl, inr}
use Rattle.std.specs.Prelude.{encode_utf8}
use Rattle.std.specs.List.{prefix_len}
use Rattle.std.specs.Io.KnownBytes.{prepend_known}
use Rattle.std.proofs.lemmas.Bool.{eqb-true, eqb-false}
use Rattle.edn.specs.declared.read_fault.Problem.{Problem}
use Rattle.edn.specs.declared.read_fault.Problem.TheVariants as problem
use Rattle.edn.specs.declared.read_fault.ReadFault.TheVariants.{Syntax}
use Rattle.edn.specs.declared.token.Beyond.{Beyond}
use Rattle.edn.specs.declared.token.Beyond.TheVariants.{Unread, Nothing}
use Rattle.edn.specs.Meaning.Blame.{BeginOther, IsCut, IsOpenEscape, IsOpenString, IsWrongThere}
use Rattle.edn.specs.Meaning.Bytes.{is_space, is_word_byte}
use Rattle.edn.specs.Meaning.Characters.{is_character}
use Rattle.edn.specs.Meaning.Forms.{Form}
use Rattle.edn.specs.Meaning.Names.{is_name, is_tag}
use Rattle.edn.specs.Meaning.Numbers.{is_symbolic}
use Rattle.edn.specs.Meaning.Lines.{IsAt}
use Rattle.edn.specs.Meaning.Reading.{IsLinked, PassesGap}
use Rattle.edn.specs.Meaning.Strings.{character_of, escape_len, nothing, plain, escaped}
use Rattle.edn.specs.Meaning.Tokens.{Token}
use Rattle.edn.specs.Machinery.Inputs.{IsSpent}
use Rattle.edn.specs.Computing.Gaps.{after_gap_in}
use Rattle.edn.specs.Computing.Stages.{IsBadIn}
use Rattle.edn.specs.Computing.Strings.{Quoted, closed, open_, bad as no_string, with_bytes, with_character, after_escape, escaped_at, quoted_at}
use Rattle.edn.specs.Computing.Tokens.{Lexed, token, end, more, bad, no_token, token_at, BeginsComment}
use Rattle.edn.specs.Computing.Tokens.{after_string, string_token, character_token, map_at, dispatched, of_word}
use Rattle.edn.proofs.Choices.{chosen, ne_from}
use Rattle.edn.proofs.GapTexts.{IsPast, past_space}
use Rattle.edn.proofs.Lexed.{IsBeyond}
use Rattle.edn.proofs.NoTokens.{bad_stays}
use Rattle.edn.proofs.StringTexts.{at_escape, inside_again, parts_len}

-- ---- bytes that begin no token

open_escape : (left : List ℕ) → IsOpenEscape left → quoted_at 0 left ≡ open_
open_escape [] left = refl
open_escape (b ∷ escape) (back, len) =
    ap (λ x. quoted_at 0 (x ∷ escape)) back ∙ ap (λ x. quoted_at 0 (92 ∷ x)) (sym (append-nil escape))
    ∙ at_escape escape [] (ap escape_len (append-nil escape) ∙ len)

stays_open : (text : List ℕ) → IsOpenString text → quoted_at 0 text ≡ open_
stays_open text (inside, bytes, left, good, open_left, e) =
    ap (quoted_at 0) e ∙ inside_again good ∙ ap (with_bytes bytes) (open_escape left open_left)

front_open : (front : List ℕ) (q : Quoted) → with_bytes front q ≡ open_ → q ≡ open_
front_open front (closed bytes rest) e = absurd (let no : closed (front ++ bytes) rest ≡ open_ = e in cc)
front_open front open_ e = refl
front_open front no_string e = absurd (let no : no_string ≡ open_ = e in cc)

character_open : (escape text : List ℕ) (q : Quoted) (o : Option ℕ) → escape_len (escape ++ text) ≡ length escape
    → character_of escape ≡ o → (q ≡ open_ → IsOpenString text) → with_character o q ≡ open_ → IsOpenString (92 ∷ (escape ++ text))
character_open escape text q None len is further e = absurd (let no : no_string ≡ open_ = e in cc)
character_open escape text q (Some c) len is further e =
    let (inside, bytes, left, good, open_left, whole) = further (front_open (encode_utf8 c) q e) in (
      92 ∷ (escape ++ inside),
      encode_utf8 c ++ bytes,
      left,
      escaped escape (ap (λ x. escape_len (escape ++ x)) (sym whole) ∙ len) is good,
      open_left,
      ap (λ x. 92 ∷ (escape ++ x)) whole ∙ ap (λ x. 92 ∷ x) (sym (append_assoc escape inside left)),
    )

escape_open : (escape text : List ℕ) (q : Quoted) → escape_len (escape ++ text) ≡ length escape
    → (q ≡ open_ → IsOpenString text) → after_escape escape text q ≡ open_ → IsOpenString (92 ∷ (escape ++ text))
escape_open escape [] q len further e =
    ([], [], 92 ∷ (escape ++ []), nothing, (refl, len ∙ ap length (sym (append-nil escape))), refl)
escape_open escape (b ∷ text) q len further e = character_open escape (b ∷ text) q (character_of escape) len refl further e

open_again : (b : ℕ) (bs : List ℕ) → b ≢ 34 → b ≢ 92 → IsOpenString bs → IsOpenString (b ∷ bs)
open_again b bs q s (inside, bytes, left, good, open_left, e) =
    (b ∷ inside, b ∷ bytes, left, plain q s good, open_left, ap (λ x. b ∷ x) e)

open_string : (skip : ℕ) (text : List ℕ) → quoted_at skip text ≡ open_ → IsOpenString (drop skip text)
unfolding escaped_at
open_string zero [] e = ([], [], [], nothing, tt, refl)
open_string (suc skip) [] e = ([], [], [], nothing, tt, refl)
open_string (suc skip) (b ∷ text) e = open_string skip text e
open_string zero (b ∷ text) e =
    elim (chosen (b == 34) _ _ _ e) [
      | inl w ↦ absurd (let no : closed [] text ≡ open_ = w.1 in cc)
      | inr w ↦ elim (chosen (b == 92) _ _ _ w.1) [
        | inl v ↦
            let n = escape_len text in
            subst IsOpenString (ap (λ x. 92 ∷ x) (take-append-drop n text) ∙ ap (λ x. x ∷ text) (sym (eqb-true b 92 v.0)))
            (escape_open (take n text) (drop n text) (quoted_at n text) (parts_len text) (open_string n text) v.1)
        | inr v ↦ open_again b text (ne_from b 34 w.0) (ne_from b 92 v.0) (open_string zero text (front_open (b ∷ []) _ v.1))
      ]
    ]

-- what is wrong with bytes whose token is refused so
abbrev Tells : List ℕ → Lexed → Type 0
Tells bytes (bad p) = IsWrongThere p bytes
Tells bytes (token t rest) = Unit {0}
Tells bytes end = Unit {0}
Tells bytes more = Unit {0}

either : {A : Type 0} (P : A → Type 0) (b : Bool) (x y : A) → (b ≡ true → P x) → (b ≡ false → P y) → P (cond b x y)
either P true x y f g = f refl
either P false x y f g = g refl

not_cut : (b : ℕ) (bs : List ℕ) → (b ≡ 34 → IsOpenString bs → ⊥) → (b ≡ 92 → bs ≡ [] → ⊥) → (b ≡ 35 → bs ≡ [] → ⊥)
    → IsCut (b ∷ bs) → ⊥
not_cut b bs f g h (inl (e, is)) = f e is
not_cut b bs f g h (inr (inl e, none)) = g e none
not_cut b bs f g h (inr (inr e, none)) = h e none

not_open : no_string ≡ open_ → ⊥
not_open e = cc

some_bytes : (b : ℕ) (bs : List ℕ) → b ∷ bs ≡ [] → ⊥
some_bytes b bs e = cc

string_tells : (bs : List ℕ) (q : Quoted) → quoted_at 0 bs ≡ q → Tells (34 ∷ bs) (after_string Nothing q)
string_tells bs (closed bytes rest) e = tt
string_tells bs open_ e = inl (refl, open_string 0 bs e)
string_tells bs no_string e =
    not_cut 34 bs (λ _ is. not_open (sym e ∙ stays_open bs is)) (λ no _. eqb-false 34 92 refl no) (λ no _. eqb-false 34 35 refl no)

character_tells : (bs : List ℕ) → Tells (92 ∷ bs) (character_token Nothing bs)
character_tells [] = inr (inl refl, refl)
character_tells (b ∷ bs) =
    either (Tells (92 ∷ b ∷ bs)) (is_character (take (prefix_len is_word_byte bs + 1) (b ∷ bs))) _ (bad problem.Token) (λ _. tt)
    (λ _. not_cut 92 (b ∷ bs) (λ no _. eqb-false 92 34 refl no) (λ _ none. some_bytes b bs none) (λ no _. eqb-false 92 35 refl no))

no_hash : (b : ℕ) (bs : List ℕ) → IsCut (35 ∷ b ∷ bs) → ⊥
no_hash b bs =
    not_cut 35 (b ∷ bs) (λ no _. eqb-false 35 34 refl no) (λ no _. eqb-false 35 92 refl no) (λ _ none. some_bytes b bs none)

map_tells : (b : ℕ) (bs name rest : List ℕ) → Tells (35 ∷ b ∷ bs) (map_at name rest)
map_tells b bs name [] = no_hash b bs
map_tells b bs name (c ∷ cs) = either (Tells (35 ∷ b ∷ bs)) (c == 123) _ (bad problem.Token) (λ _. tt) (λ _. no_hash b bs)

dispatched_tells : (bs : List ℕ) → Tells (35 ∷ bs) (dispatched Nothing bs)
dispatched_tells [] = inr (inr refl, refl)
dispatched_tells (b ∷ bs) =
    either (Tells (35 ∷ b ∷ bs)) (b == 123) _ _ (λ _. tt)
    (λ _. either (Tells (35 ∷ b ∷ bs)) (b == 95) _ _ (λ _. tt)
    (λ _. either (Tells (35 ∷ b ∷ bs)) (b == 94) _ _ (λ _. tt)
    (λ _. either (Tells (35 ∷ b ∷ bs)) (b == 35) _ _
    (λ _. either (Tells (35 ∷ b ∷ bs)) (is_symbolic (take (prefix_len is_word_byte bs) bs)) _ (bad problem.Token) (λ _. tt) (λ _. no_hash b bs))
    (λ _. either (Tells (35 ∷ b ∷ bs)) (b == 58) _ _
    (λ _. either (Tells (35 ∷ b ∷ bs)) (is_name (take (prefix_len is_word_byte bs) bs)) _ (bad problem.Token)
    (λ _. map_tells b bs _ (drop (prefix_len is_word_byte bs) bs)) (λ _. no_hash b bs))
    (λ _. either (Tells (35 ∷ b ∷ bs)) (is_tag (take (prefix_len is_word_byte (b ∷ bs)) (b ∷ bs))) _ (bad problem.Token) (λ _. tt) (λ _. no_hash b bs))))))

word_tells : (b : ℕ) (bs rest : List ℕ) (o : Option Form) → b ≢ 34 → b ≢ 92 → b ≢ 35 → Tells (b ∷ bs) (of_word o rest)
word_tells b bs rest None q s h = not_cut b bs (λ no _. q no) (λ no _. s no) (λ no _. h no)
word_tells b bs rest (Some f) q s h = tt

token_tells : (bytes : List ℕ) → Tells bytes (token_at Nothing bytes)
unfolding token_at
token_tells [] = tt
token_tells (b ∷ bs) =
    either (Tells (b ∷ bs)) (b == 59) _ _ (λ _. tt)
    (λ _. either (Tells (b ∷ bs)) (b == 34) _ _
    (λ e. subst (λ x. Tells (x ∷ bs) (string_token Nothing bs)) (sym (eqb-true b 34 e)) (string_tells bs _ refl))
    (λ q. either (Tells (b ∷ bs)) (b == 92) _ _
    (λ e. subst (λ x. Tells (x ∷ bs) (character_token Nothing bs)) (sym (eqb-true b 92 e)) (character_tells bs))
    (λ s. either (Tells (b ∷ bs)) (b == 35) _ _
    (λ e. subst (λ x. Tells (x ∷ bs) (dispatched Nothing bs)) (sym (eqb-true b 35 e)) (dispatched_tells bs))
    (λ h. either (Tells (b ∷ bs)) (b == 40) _ _ (λ _. tt)
    (λ _. either (Tells (b ∷ bs)) (b == 91) _ _ (λ _. tt)
    (λ _. either (Tells (b ∷ bs)) (b == 123) _ _ (λ _. tt)
    (λ _. either (Tells (b ∷ bs)) (b == 41) _ _ (λ _. tt)
    (λ _. either (Tells (b ∷ bs)) (b == 93) _ _ (λ _. tt)
    (λ _. either (Tells (b ∷ bs)) (b == 125) _ _ (λ _. tt)
    (λ _. either (Tells (b ∷ bs)) (b == 94) _ _ (λ _. tt)
    (λ _. word_tells b bs _ _ (ne_from b 34 q) (ne_from b 92 s) (ne_from b 35 h))))))))))))

wrong_there : (bytes : List ℕ) (p : Problem) → token_at Nothing bytes ≡ bad p → IsWrongThere p bytes
wrong_there bytes p e = subst (Tells bytes) e (token_tells bytes)

all_bad : (beyond : Beyond) (p others : List ℕ) (wrong : Problem) → token_at beyond p ≡ bad wrong → IsBeyond beyond others
    → token_at Nothing (p ++ others) ≡ bad wrong
all_bad Unread p others wrong e b = bad_stays p others wrong e
all_bad Nothing p others wrong e none = ap (λ x. token_at Nothing (p ++ x)) none ∙ ap (token_at Nothing) (append-nil p) ∙ e

none_bad : (beyond : Beyond) (wrong : Problem) → no_token beyond ≡ bad wrong → ⊥
none_bad Unread wrong e = let no : more ≡ bad wrong = e in cc
none_bad Nothing wrong e = let no : end ≡ bad wrong = e in cc

other_first : (beyond : Beyond) (p others : List ℕ) (wrong : Problem) → IsPast p → token_at beyond p ≡ bad wrong
    → BeginOther (p ++ others)
unfolding token_at
other_first beyond [] others wrong past e = absurd (none_bad beyond wrong e)
other_first beyond (b ∷ bs) others wrong past e =
    elim (chosen (b == 59) _ _ _ e) [
      | inl w ↦ absurd (none_bad beyond wrong w.1)
      | inr w ↦ (past_space b bs (is_space b) refl past, ne_from b 59 w.0)
    ]

linked_beyond : (beyond : Beyond) (others : List ℕ) → IsLinked beyond (Some others) → IsBeyond beyond others
linked_beyond Unread others l = tt
linked_beyond Nothing others l = l

pub bad_in : (beyond : Beyond) (p : List ℕ) (wrong : Problem) (text : List ℕ) (start left : Option (List ℕ)) (m n : ℕ)
    → IsPast p → token_at beyond p ≡ bad wrong → IsLinked beyond left → PassesGap start (prepend_known p left)
    → IsAt text start n → IsAt text (prepend_known p left) m → IsBadIn text start (Syntax m wrong)
bad_in beyond p wrong text start None m n past e l passed was (before, behind, whole, is, at) = absurd (cc)
bad_in beyond p wrong text None (Some others) m n past e l passed (front, rest, w, none, a) at = absurd (cc)
bad_in beyond p wrong text (Some xs) (Some others) m n past e l (gap, g, is) was (before, behind, whole, same, at) = (
  before,
  gap,
  p ++ others,
  whole ∙ ap (λ x. before ++ x) (sym (let one : p ++ others ≡ behind = cc in one)),
  ap (λ x. Some x) is,
  g,
  other_first beyond p others wrong past e,
  wrong_there (p ++ others) wrong (all_bad beyond p others wrong e (linked_beyond beyond others l)),
  at,
)

-- ---- the text has ended

comment_ends : (p : List ℕ) → BeginsComment p → token_at Nothing p ≡ end
unfolding token_at
comment_ends [] comment = refl
comment_ends (b ∷ bs) comment = ap (λ x. token_at Nothing (x ∷ bs)) comment

pub spent_ends : (before after : Beyond) (p q : List ℕ) → IsSpent before p → after ≡ before → q ≡ after_gap_in None p
    → token_at after q ≡ end
spent_ends before after p q (over, past, comment) same rest =
    ap (λ b. token_at b q) (same ∙ over) ∙ ap (token_at Nothing) (rest ∙ past) ∙ comment_ends p comment

pub no_end_token : (r : Lexed) (t : Token) (rest : List ℕ) → r ≡ token t rest → r ≡ end → ⊥
no_end_token r t rest e f = let no : token t rest ≡ end = sym e ∙ f in cc

pub no_end_bad : (r : Lexed) (p : Problem) → r ≡ bad p → r ≡ end → ⊥
no_end_bad r p e f = let no : bad p ≡ end = sym e ∙ f in cc

pub read_on : (b : Beyond) → b ≡ Unread → b ≡ Nothing → ⊥
read_on b e f = let no : Unread ≡ Nothing = sym e ∙ f in cc
