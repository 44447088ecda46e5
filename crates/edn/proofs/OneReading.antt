-- A text begins with one form at most.
use Rattle.std.proofs.Common.{Option, ◌≡◌, ◌≢◌, ◌⊎◌, inl, inr, ℕ, suc, ◌==◌, Bool, true, false, List, [], ◌∷◌, ◌++◌, All, None, Some, Result, Ok, Err, refl, sym, ap, ◌∙◌, subst, append_assoc, append-nil, arith}
use Rattle.std.specs.Prelude.{not}
use Rattle.std.specs.List.{list_all}
use Rattle.std.proofs.lemmas.Bool.{ne_eqb, and_parts}
use Rattle.edn.specs.declared.token.Beyond.TheVariants.{Nothing}
use Rattle.edn.specs.Meaning.Openings as opening
use Rattle.edn.specs.Meaning.Bytes.{is_space, is_end, is_word_byte}
use Rattle.edn.specs.declared.read_fault.Problem.{Problem}
use Rattle.edn.specs.Meaning.Characters.{is_character}
use Rattle.edn.specs.Meaning.Forms.{Form, number, character}
use Rattle.edn.specs.Meaning.Names.{begins_tag, is_name, is_symbol, is_tag}
use Rattle.edn.specs.Meaning.Numbers.{is_symbolic}
use Rattle.edn.specs.Meaning.Words.{word_of}
use Rattle.edn.specs.declared.reader.Stage.{Stage}
use Rattle.edn.specs.declared.reader.Stage.TheVariants.{Start, Forms, Elements, Closed, Failed}
use Rattle.edn.specs.Meaning.Tokens.{Token, opens, tag, leaf, is_square}
use Rattle.edn.specs.Meaning.Readers.{AreFirst, IsFormAt, ReadsForm, BeginsForm}
use Rattle.edn.specs.Meaning.Grammar.{IsItem}
use Rattle.edn.specs.Meaning.Lexing.{IsGap, no_gap, space, comment, Ends, IsWord, Lexes, no_tokens, next}
use Rattle.edn.specs.Meaning.Lexing.{Begins, round_opens, square_opens, curly_opens, set_opens, round_closes, square_closes, curly_closes, discards, curly_opens_within, metas, old_metas, symbolics, tags, quotes, characters, words}
use Rattle.edn.specs.Computing.Gaps.{after_gap_in}
use Rattle.edn.specs.Computing.Tokens.{token, token_at, character_at, character_token, tag_at, symbolic_at, namespace_at, dispatched, word_at}
use Rattle.edn.specs.Computing.Building.{Step, top, run, resume, put}
use Rattle.edn.proofs.StringTexts.{string_again}
use Rattle.edn.proofs.Spans.{end_is, word_parts, character_word}
use Rattle.edn.proofs.ItemsRun.{item_runs}

-- ---- the word at the front of a text

word_is : (b : ℕ) (v : Bool) → is_end b ≡ v → not v ≡ true → is_end b ≡ false
word_is b true e h = absurd (cc)
word_is b false e h = e

-- a byte of a word is no byte that ends one
pub not_end : (b n : ℕ) → is_word_byte b ≡ true → is_end n ≡ true → (b == n) ≡ false
not_end b n w h = ne_eqb b n (λ e. let no : true ≡ false = sym w ∙ ap is_word_byte e ∙ end_is n h in cc)

is_space_of : (b : ℕ) (v : Bool) → is_space b ≡ v → is_end b ≡ false → is_space b ≡ false
unfolding is_end
is_space_of b true e h = absurd (let no : true ≡ false = sym (rw e refl) ∙ h in cc)
is_space_of b false e h = e

not_space : (b : ℕ) → is_word_byte b ≡ true → is_space b ≡ false
unfolding is_end
not_space b w = is_space_of b (is_space b) refl (word_is b (is_end b) refl w)

not_hash : (b : ℕ) → is_word_byte b ≡ true → (b == 59) ≡ false
unfolding is_end is_space
not_hash b w = not_end b 59 w refl

pub rest_plain : (b : ℕ) (line : List ℕ) → All (λ (c : ℕ). c ≢ 10) (b ∷ line) → All (λ (c : ℕ). c ≢ 10) line
rest_plain b line all = λ k d below. all (suc k) d (omega arith)

-- ---- a token is read again

e59 : is_end 59 ≡ true
unfolding is_end is_space
e59 = refl

e34 : is_end 34 ≡ true
unfolding is_end is_space
e34 = refl

e92 : is_end 92 ≡ true
unfolding is_end is_space
e92 = refl

e40 : is_end 40 ≡ true
unfolding is_end is_space
e40 = refl

e91 : is_end 91 ≡ true
unfolding is_end is_space
e91 = refl

e123 : is_end 123 ≡ true
unfolding is_end is_space
e123 = refl

e41 : is_end 41 ≡ true
unfolding is_end is_space
e41 = refl

e93 : is_end 93 ≡ true
unfolding is_end is_space
e93 = refl

e125 : is_end 125 ≡ true
unfolding is_end is_space
e125 = refl

e94 : is_end 94 ≡ true
unfolding is_end is_space
e94 = refl

tag_again : (name rest : List ℕ) → IsWord name → is_tag name ≡ true → Ends rest
    → dispatched Nothing (name ++ rest) ≡ token tag rest
tag_again [] rest w g e = absurd (let no : false ≡ true = g in cc)
tag_again (a ∷ name) rest w g e =
    let begins = (and_parts (begins_tag (a ∷ name)) (is_symbol (a ∷ name)) g).0 in
    let not_set : (a == 123) ≡ false =
    ne_eqb a 123 (λ i. let no : true ≡ false = sym begins ∙ ap (λ x. begins_tag (x ∷ name)) i in cc) in
    let not_discard : (a == 95) ≡ false =
    ne_eqb a 95 (λ i. let no : true ≡ false = sym begins ∙ ap (λ x. begins_tag (x ∷ name)) i in cc) in
    let not_meta : (a == 94) ≡ false =
    ne_eqb a 94 (λ i. let no : true ≡ false = sym begins ∙ ap (λ x. begins_tag (x ∷ name)) i in cc) in
    let not_symbolic : (a == 35) ≡ false =
    ne_eqb a 35 (λ i. let no : true ≡ false = sym begins ∙ ap (λ x. begins_tag (x ∷ name)) i in cc) in
    let not_namespace : (a == 58) ≡ false =
    ne_eqb a 58 (λ i. let no : true ≡ false = sym begins ∙ ap (λ x. begins_tag (x ∷ name)) i in cc) in
    rw (not_set, not_discard, not_meta, not_symbolic, not_namespace) (word_parts (tag_at Nothing) (a ∷ name) rest w e ∙ rw g refl)

symbolic_again : (name rest : List ℕ) → IsWord name → is_symbolic name ≡ true → Ends rest
    → dispatched Nothing (35 ∷ (name ++ rest)) ≡ token (leaf (number (35 ∷ 35 ∷ name))) rest
symbolic_again name rest w g e = word_parts (symbolic_at Nothing) name rest w e ∙ rw g refl

namespace_again : (name rest : List ℕ) → IsWord name → is_name name ≡ true
    → dispatched Nothing (58 ∷ (name ++ 123 ∷ rest)) ≡ token (opens (opening.Map (Some name))) rest
namespace_again name rest w g = word_parts (namespace_at Nothing) name (123 ∷ rest) w e123 ∙ rw g refl

character_again : (b : ℕ) (name rest : List ℕ) → IsWord name → is_character (b ∷ name) ≡ true
    → Ends rest → character_token Nothing (b ∷ (name ++ rest)) ≡ token (leaf (character (b ∷ name))) rest
character_again b name rest w g e =
    character_word Nothing b (name ++ rest) ∙ word_parts (λ n r. character_at Nothing (b ∷ n) r) name rest w e ∙ rw g refl

word_again : (b : ℕ) (name rest : List ℕ) (f : Form) → b ≢ 35 → IsWord (b ∷ name) → word_of (b ∷ name) ≡ Some f
    → Ends rest → token_at Nothing (b ∷ (name ++ rest)) ≡ token (leaf f) rest
unfolding token_at
word_again b name rest f h w is e =
    let first = (and_parts (is_word_byte b) (list_all is_word_byte name) w).0 in
    rw (
      not_end b 59 first e59,
      not_end b 34 first e34,
      not_end b 92 first e92,
      ne_eqb b 35 h,
      not_end b 40 first e40,
      not_end b 91 first e91,
      not_end b 123 first e123,
      not_end b 41 first e41,
      not_end b 93 first e93,
      not_end b 125 first e125,
      not_end b 94 first e94,
    ) (word_parts (word_at Nothing) (b ∷ name) rest w e ∙ rw is refl)

pub token_again : {t : Token} {text rest : List ℕ} → Begins t text rest → token_at Nothing text ≡ token t rest
unfolding token_at is_end is_space
token_again round_opens = refl
token_again square_opens = refl
token_again curly_opens = refl
token_again set_opens = refl
token_again round_closes = refl
token_again square_closes = refl
token_again curly_closes = refl
token_again discards = refl
token_again {rest = rest} (curly_opens_within name w g) = namespace_again name rest w g
token_again metas = refl
token_again old_metas = refl
token_again {rest = rest} (symbolics name w g e) = symbolic_again name rest w g e
token_again {rest = rest} (tags name w g e) = tag_again name rest w g e
token_again {rest = rest} (quotes inside h) = rw (string_again rest h) refl
token_again {rest = rest} (characters {b = b} {name = name} w g e) = character_again b name rest w g e
token_again {rest = rest} (words {f = f} b name h w is e) = word_again b name rest f h w is e

-- ---- a gap ends where the token begins

no_gap_here : {t : Token} {text rest : List ℕ} → Begins t text rest → after_gap_in None text ≡ text
unfolding is_space
no_gap_here round_opens = refl
no_gap_here square_opens = refl
no_gap_here curly_opens = refl
no_gap_here set_opens = refl
no_gap_here round_closes = refl
no_gap_here square_closes = refl
no_gap_here curly_closes = refl
no_gap_here discards = refl
no_gap_here (curly_opens_within name w g) = refl
no_gap_here metas = refl
no_gap_here old_metas = refl
no_gap_here (symbolics name w g e) = refl
no_gap_here (tags name w g e) = refl
no_gap_here (quotes inside h) = refl
no_gap_here (characters w g e) = refl
no_gap_here (words b name h w is e) =
    let first = (and_parts (is_word_byte b) (list_all is_word_byte name) w).0 in
    rw (not_space b first, not_hash b first) refl

line_passed : (start line text : List ℕ) → All (λ (b : ℕ). b ≢ 10) line
    → after_gap_in (Some start) (line ++ 10 ∷ text) ≡ after_gap_in None text
line_passed start [] text plain = refl
line_passed start (b ∷ line) text plain =
    rw (ne_eqb b 10 (plain 0 0 (omega arith))) (line_passed start line text (rest_plain b line plain))

pub gap_over : {gap : List ℕ} → IsGap gap → (text : List ℕ) → after_gap_in None (gap ++ text) ≡ after_gap_in None text
unfolding is_space
gap_over no_gap text = refl
gap_over (space e g) text = rw e (gap_over g text)
gap_over (comment {gap = gap} line plain g) text =
    ap (λ x. after_gap_in (Some (59 ∷ x)) x) (append_assoc line (10 ∷ gap) text)
    ∙ line_passed _ line (gap ++ text) plain ∙ gap_over g text

pub gap_again : {gap : List ℕ} → IsGap gap → {t : Token} {text rest : List ℕ} → Begins t text rest
    → after_gap_in None (gap ++ text) ≡ text
gap_again g {text = text} h = gap_over g text ∙ no_gap_here h

-- ---- a text has one list of tokens, and one form

token_parts : (s t : Token) (a b : List ℕ) → token s a ≡ token t b → (s ≡ t) × (a ≡ b)
token_parts s t a b e = (cc, cc)

one_token : {s t : Token} {gap1 gap2 a b x y : List ℕ} → IsGap gap1 → IsGap gap2 → Begins s a x → Begins t b y
    → gap1 ++ a ≡ gap2 ++ b → (s ≡ t) × (x ≡ y)
one_token {s} {t} {x = x} {y = y} g1 g2 h1 h2 e =
    let same = sym (gap_again g1 h1) ∙ ap (after_gap_in None) e ∙ gap_again g2 h2 in
    token_parts s t x y (sym (token_again h1) ∙ ap (token_at Nothing) same ∙ token_again h2)

-- of two lists of tokens that a text begins with, one goes on as the other does
pub same_tokens : {text other rest end : List ℕ} {ts us : List Token} → Lexes text ts rest → Lexes other us end → text ≡ other
    → ((vs : List Token) × (us ≡ ts ++ vs) × Lexes rest vs end) ⊎ ((vs : List Token) × (ts ≡ us ++ vs) × Lexes end vs rest)
same_tokens {end = end} {us = us} no_tokens l e = inl (us, refl, subst (λ x. Lexes x us end) (sym e) l)
same_tokens {rest = rest} {ts = ts} (next gap text g b l) no_tokens e =
    inr (ts, refl, subst (λ x. Lexes x ts rest) e (next gap text g b l))
same_tokens (next {t = s} {ts = ts} gap1 text1 g1 b1 l1) (next {t = t} {ts = us} gap2 text2 g2 b2 l2) e =
    let one = one_token g1 g2 b1 b2 e in
    elim (same_tokens l1 l2 one.1) [
      | inl (vs, is, m) ↦ inl (vs, ap (λ xs. t ∷ xs) is ∙ ap (λ x. x ∷ (ts ++ vs)) (sym one.0), m)
      | inr (vs, is, m) ↦ inr (vs, ap (λ xs. s ∷ xs) is ∙ ap (λ x. x ∷ (us ++ vs)) one.0, m)
    ]

form_in : Form → Result Step Problem → Form
form_in d (Ok (stack, Some f)) = f
form_in d (Ok (stack, None)) = d
form_in d (Err p) = d

unfoldable pub is_made : Result Step Problem → Bool
is_made (Ok s) = true
is_made (Err p) = false

pub alone : (f g : Form) (vs : List Token) → resume (Ok (top ∷ [], Some f)) vs ≡ Ok (top ∷ [], Some g) → f ≡ g
unfolding form_in is_made
alone f g [] e = ap (form_in f) e
alone f g (v ∷ vs) e = absurd (let no : false ≡ true = ap is_made e in cc)

pub made : {ts : List Token} {f : Form} → IsItem ts f → run (top ∷ []) ts ≡ Ok (top ∷ [], Some f)
unfolding put
made {ts} h = ap (run (top ∷ [])) (sym (append-nil ts)) ∙ item_runs h top [] []

begun : (ts vs : List Token) (f g : Form) → IsItem ts f → IsItem (ts ++ vs) g → f ≡ g
unfolding put
begun ts vs f g h k = alone f g vs (sym (item_runs h top [] vs) ∙ made k)

pub one_form : (text rest end : List ℕ) (ts us : List Token) (f g : Form) → Lexes text ts rest → Lexes text us end
    → IsItem ts f → IsItem us g → f ≡ g
one_form text rest end ts us f g l m h k =
    elim (same_tokens l m refl) [
      | inl (vs, e, _) ↦ begun ts vs f g h (subst (λ xs. IsItem xs g) e k)
      | inr (vs, e, _) ↦ sym (begun us vs g f k (subst (λ xs. IsItem xs f) e h))
    ]

behind_same : (b : Bool) (t : Token) (ts vs : List Token) (f g : Form) → AreFirst b t ts (λ us. IsItem us f)
    → AreFirst b t (ts ++ vs) (λ us. IsItem us g) → f ≡ g
behind_same true t ts vs f g h k = begun ts vs f g h k
behind_same false t ts vs f g h k = begun (t ∷ ts) vs f g h k

behind : (t s : Token) (ts us vs : List Token) (f g : Form) → s ∷ us ≡ (t ∷ ts) ++ vs → IsFormAt Start (t ∷ ts) f
    → IsFormAt Start (s ∷ us) g → f ≡ g
behind t s ts us vs f g e h k =
    behind_same (is_square t) t ts vs f g h (subst (λ xs. IsFormAt Start xs g) e k)

begun_at : (stage : Stage) (ts us vs : List Token) (f g : Form) → us ≡ ts ++ vs → IsFormAt stage ts f → IsFormAt stage us g
    → f ≡ g
begun_at Start [] us vs f g e h k = absurd h
begun_at Start (t ∷ ts) [] vs f g e h k = absurd k
begun_at Start (t ∷ ts) (s ∷ us) vs f g e h k = behind t s ts us vs f g e h k
begun_at Forms ts us vs f g e h k = begun ts vs f g h (subst (λ xs. IsItem xs g) e k)
begun_at Elements ts us vs f g e h k = begun ts vs f g h (subst (λ xs. IsItem xs g) e k)
begun_at Closed ts us vs f g e h k = absurd h
begun_at (Failed fault) ts us vs f g e h k = absurd h

-- what was read is the form with which the text begins
pub only_form : (stage later : Stage) (start left : Option (List ℕ)) (f g : Form) → ReadsForm stage later start left f
    → BeginsForm stage start g → g ≡ f
only_form stage later None left f g h k = absurd k
only_form stage later (Some text) left f g (ts, rest, l, h, _, is) (us, end, m, k) =
    elim (same_tokens l m refl) [
      | inl (vs, e, _) ↦ sym (begun_at stage ts us vs f g e h k)
      | inr (vs, e, _) ↦ begun_at stage us ts vs g f e k h
    ]
