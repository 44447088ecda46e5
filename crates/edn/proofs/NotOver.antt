-- Where reading fails, the text has more than discarded forms.
use Rattle.std.proofs.Common.{◌≡◌, ◌≢◌, ◌⊎◌, inl, inr, ℕ, ◌==◌, true, false, List, [], ◌∷◌, ◌++◌, All, Option, None, Some, Result, Ok, Err, refl, sym, ap, ◌∙◌, subst, append_assoc, append-nil, arith}
use Rattle.std.proofs.lemmas.Bool.{eqb-false, ne_eqb}
use Rattle.std.specs.Io.KnownBytes.{prepend_known}
use Rattle.edn.specs.declared.read_fault.Problem.{Problem}
use Rattle.edn.specs.declared.read_fault.Problem.TheVariants.{Unopened}
use Rattle.edn.specs.declared.read_fault.ReadFault.{ReadFault}
use Rattle.edn.specs.declared.reader.Stage.{Stage}
use Rattle.edn.specs.declared.reader.Stage.TheVariants.{Start, Forms, Elements, Closed, Failed}
use Rattle.edn.specs.declared.token.Beyond.{Beyond}
use Rattle.edn.specs.declared.token.Beyond.TheVariants.{Unread, Nothing}
use Rattle.edn.specs.declared.token.Closing.TheVariants.{Square}
use Rattle.edn.specs.Meaning.Bytes.{is_space}
use Rattle.edn.specs.Meaning.Faults.{IsOfText}
use Rattle.edn.specs.Meaning.Forms.{Form}
use Rattle.edn.specs.Meaning.Grammar.{AreItems, no_items, no_item, an_item}
use Rattle.edn.specs.Meaning.Lexing.{IsBlank, IsGap, IsLastLine, Lexes, no_tokens, next}
use Rattle.edn.specs.Meaning.Reading.{HasNoToken, IsKnownBlank, PassesGap, ReadsToken, ReadsTokens}
use Rattle.edn.specs.Meaning.Readers.{AreLast, AreLastBehind, CloseVector, EndsHere}
use Rattle.edn.specs.Meaning.Tokens.{Token, closes}
use Rattle.edn.specs.Computing.Building.{Frame, Step, top, discarding, is_top, put, step, run, resume}
use Rattle.edn.specs.Computing.Gaps.{after_gap_in}
use Rattle.edn.specs.Computing.Stages.{Stops}
use Rattle.edn.specs.Computing.Tokens.{bad, end, more, no_token, token, token_at}
use Rattle.edn.proofs.Choices.{chosen}
use Rattle.edn.proofs.GapTexts.{IsPast, past_more}
use Rattle.edn.proofs.FormsRead.{IsBehind, BeginsOther, Leads}
use Rattle.edn.proofs.Held.{no_forms_in}
use Rattle.edn.proofs.ItemsRun.{item_runs}
use Rattle.edn.proofs.NoForms.{Goes, first_token, next_leads, refused_of, run_append, run_first, runs, same_first}
use Rattle.edn.proofs.OneReading.{gap_again, gap_over, rest_plain, same_tokens, token_again}

-- ---- no token follows white space and comments

end_token : (line : List ℕ) → IsLastLine line → (t : Token) (rest : List ℕ) → token_at Nothing line ≡ token t rest → ⊥
unfolding token_at
end_token [] last t rest e = let no : end ≡ token t rest = e in cc
end_token (b ∷ bs) last t rest e =
    let no : end ≡ token t rest = subst (λ x. token_at Nothing (x ∷ bs) ≡ token t rest) last.0 e in
    cc

comment_stays : (start bs : List ℕ) → All (λ (b : ℕ). b ≢ 10) bs → after_gap_in (Some start) bs ≡ start
comment_stays start [] plain = refl
comment_stays start (b ∷ bs) plain = rw (ne_eqb b 10 (plain 0 0 (omega arith))) (comment_stays start bs (rest_plain b bs plain))

line_stays : (line : List ℕ) → IsLastLine line → after_gap_in None line ≡ line
unfolding is_space
line_stays [] last = refl
line_stays (b ∷ bs) last =
    subst (λ x. after_gap_in None (x ∷ bs) ≡ x ∷ bs) (sym last.0) (comment_stays (59 ∷ bs) bs last.1)

pub blank_ends : {text : List ℕ} {t : Token} {ts : List Token} {rest : List ℕ} → Lexes text (t ∷ ts) rest → IsBlank text → ⊥
blank_ends {t = t} (next {rest = mid} gap front g b l) (pad, line, s, last, whole) =
    let same : front ≡ line = sym (gap_again g b) ∙ ap (after_gap_in None) whole ∙ gap_over s line ∙ line_stays line last in
    end_token line last t mid (subst (λ x. token_at Nothing x ≡ token t mid) same (token_again b))

none_left : {mid rest : List ℕ} (ts us vs : List Token) → ts ≡ us ++ vs → Lexes rest vs mid → IsBlank rest
    → (ws : List Token) × (us ≡ ts ++ ws) × Lexes mid ws rest
none_left ts us [] e no_tokens blank = ([], sym (append-nil us) ∙ sym e ∙ sym (append-nil ts), no_tokens)
none_left ts us (v ∷ vs) e n blank = absurd (blank_ends n blank)

-- a text goes on behind its first tokens as all of its tokens do
pub whole_tokens : {text mid rest : List ℕ} {ts us : List Token} → Lexes text ts mid → Lexes text us rest → IsBlank rest
    → (vs : List Token) × (us ≡ ts ++ vs) × Lexes mid vs rest
whole_tokens {ts = ts} {us = us} l m blank =
    elim (same_tokens l m refl) [
      | inl (vs, e, n) ↦ (vs, e, n)
      | inr (vs, e, n) ↦ none_left ts us vs e n blank
    ]

first_is : {mid rest after : List ℕ} (vs : List Token) (t : Token) → Lexes mid vs rest → IsBlank rest → Lexes mid (t ∷ []) after
    → (ws : List Token) × (vs ≡ t ∷ ws)
first_is [] t no_tokens blank m = absurd (blank_ends m blank)
first_is (s ∷ ws) t l blank m = (ws, ap (λ x. x ∷ ws) (same_first l m refl))

-- ---- where the last tokens lead

pub discards_run : {ts : List Token} {fs : List Form} → AreItems ts fs → fs ≡ [] → (us : List Token)
    → run (top ∷ []) (ts ++ us) ≡ run (top ∷ []) us
unfolding step put
discards_run no_items e us = refl
discards_run (no_item {ds = ds} {ts = ts} d r) e us =
    ap (run (discarding ∷ top ∷ [])) (append_assoc ds ts us) ∙ item_runs d discarding (top ∷ []) (ts ++ us) ∙ discards_run r e us
discards_run (an_item q r) e us = absurd (cc)

pub discards_end : {ts : List Token} → AreItems ts [] → run (top ∷ []) ts ≡ Ok (top ∷ [], None)
discards_end {ts} items = ap (run (top ∷ [])) (sym (append-nil ts)) ∙ discards_run items refl []

pub close_run : {ds : List Token} → AreItems ds [] → run (top ∷ []) (ds ++ closes Square ∷ []) ≡ Err Unopened
unfolding step
close_run items = discards_run items refl (closes Square ∷ [])

refused_run : (ts us : List Token) (t : Token) (p : Problem) → run (top ∷ []) (ts ++ t ∷ []) ≡ Err p
    → run (top ∷ []) (ts ++ t ∷ us) ≡ Err p
refused_run ts us t p e =
    ap (run (top ∷ [])) (sym (append_assoc ts (t ∷ []) us)) ∙ run_append (top ∷ []) (ts ++ t ∷ []) us ∙ ap (λ r. resume r us) e

pub not_both : (r : Result Step Problem) (p : Problem) (s : Step) → r ≡ Err p → r ≡ Ok s → ⊥
not_both r p s e f = let no : Err p ≡ Ok s = sym e ∙ f in cc

not_discarded : (ts us : List Token) (t : Token) (p : Problem) → run (top ∷ []) (ts ++ t ∷ []) ≡ Err p
    → AreItems (ts ++ t ∷ us) [] → ⊥
not_discarded ts us t p e items =
    not_both (run (top ∷ []) (ts ++ t ∷ us)) p (top ∷ [], None) (refused_run ts us t p e) (discards_end items)

not_nil : (ts us : List Token) (t : Token) → ts ++ t ∷ us ≡ [] → ⊥
not_nil [] us t e = cc
not_nil (s ∷ ts) us t e = cc

-- the last of the tokens is this one, or comes later
pub last_split : (ts us ds : List Token) (t c : Token) → ts ++ t ∷ us ≡ ds ++ c ∷ []
    → ((us ≡ []) × (t ≡ c) × (ts ≡ ds)) ⊎ ((ws : List Token) × (ds ≡ ts ++ t ∷ ws))
last_split [] us [] t c e = inl (cc, cc, refl)
last_split [] us (d ∷ ds) t c e = inr (ds, ap (λ x. x ∷ ds) (let same : d ≡ t = cc in same))
last_split (a ∷ ts) us [] t c e = absurd (not_nil ts us t (let rest : ts ++ t ∷ us ≡ [] = cc in rest))
last_split (a ∷ ts) us (d ∷ ds) t c e =
    let same : a ≡ d = cc in
    elim (last_split ts us ds t c (let rest : ts ++ t ∷ us ≡ ds ++ c ∷ [] = cc in rest)) [
      | inl (none, is, before) ↦ inl (none, is, ap (λ xs. a ∷ xs) before ∙ ap (λ x. x ∷ ds) same)
      | inr (ws, tail) ↦ inr (ws, ap (λ xs. d ∷ xs) tail ∙ ap (λ x. x ∷ (ts ++ t ∷ ws)) (sym same))
    ]

not_closed : (ts us : List Token) (t : Token) (p : Problem) → run (top ∷ []) (ts ++ t ∷ []) ≡ Err p
    → (us ≡ [] → t ≡ closes Square → run (top ∷ []) ts ≡ Ok (top ∷ [], None) → ⊥) → CloseVector (ts ++ t ∷ us) → ⊥
not_closed ts us t p e other (ds, items, whole) =
    elim (last_split ts us ds t (closes Square) whole) [
      | inl (none, is, before) ↦ other none is (ap (run (top ∷ [])) before ∙ discards_end items)
      | inr (ws, whole') ↦ not_discarded ts ws t p e (subst (λ xs. AreItems xs []) whole' items)
    ]

-- ---- outside a vector, and within one

from_append : (first : Stage) (ts us : List Token) → ((first ≡ Start) × BeginsOther ts) ⊎ (first ≡ Forms)
    → ((first ≡ Start) × BeginsOther (ts ++ us)) ⊎ (first ≡ Forms)
from_append first [] us (inl (e, other)) = absurd other
from_append first (t ∷ ts) us (inl (e, other)) = inl (e, other)
from_append first ts us (inr e) = inr e

behind_append : (first : Stage) (ts us vs : List Token) → IsBehind first ts us → IsBehind first (ts ++ vs) (us ++ vs)
behind_append Start ts us vs (s, square, e) = (s, square, ap (λ xs. xs ++ vs) e)
behind_append Forms ts us vs e = ap (λ xs. xs ++ vs) e
behind_append Elements ts us vs e = ap (λ xs. xs ++ vs) e
behind_append Closed ts us vs e = ap (λ xs. xs ++ vs) e
behind_append (Failed fault) ts us vs e = ap (λ xs. xs ++ vs) e

outside_runs : (first : Stage) (ts : List Token) → ((first ≡ Start) × BeginsOther ts) ⊎ (first ≡ Forms)
    → runs first ts ≡ run (top ∷ []) ts
outside_runs first [] (inl (e, other)) = absurd other
outside_runs first (t ∷ ts) (inl (e, other)) = ap (λ s. runs s (t ∷ ts)) e ∙ ap (λ b. run_first b t ts) other
outside_runs first ts (inr e) = ap (λ s. runs s ts) e

pub inside_runs : (first : Stage) (ts us : List Token) → (first ≡ Start) ⊎ (first ≡ Elements) → IsBehind first ts us
    → runs first ts ≡ run (top ∷ []) us
inside_runs Start ts us from (t, square, e) = ap (runs Start) e ∙ ap (λ b. run_first b t us) square
inside_runs Forms ts us from behind = ap (run (top ∷ [])) behind
inside_runs Elements ts us from behind = ap (run (top ∷ [])) behind
inside_runs Closed ts us from behind = ap (run (top ∷ [])) behind
inside_runs (Failed fault) ts us from behind = ap (run (top ∷ [])) behind

outside_last : (first : Stage) (ts : List Token) → ((first ≡ Start) × BeginsOther ts) ⊎ (first ≡ Forms) → AreLast first ts
    → AreItems ts []
outside_last first [] (inl (e, other)) last = absurd other
outside_last first (t ∷ ts) (inl (e, other)) last =
    subst (λ b. AreLastBehind b t ts) other (subst (λ s. AreLast s (t ∷ ts)) e last)
outside_last first ts (inr e) last = subst (λ s. AreLast s ts) e last

inside_last : (first : Stage) (ts us : List Token) → (first ≡ Start) ⊎ (first ≡ Elements) → IsBehind first ts us
    → AreLast first ts → CloseVector us
inside_last Start ts us from (t, square, e) last = subst (λ b. AreLastBehind b t us) square (subst (AreLast Start) e last)
inside_last Forms ts us (inl e) behind last = absurd (cc)
inside_last Forms ts us (inr e) behind last = absurd (cc)
inside_last Elements ts us from behind last = subst CloseVector behind last
inside_last Closed ts us (inl e) behind last = absurd (cc)
inside_last Closed ts us (inr e) behind last = absurd (cc)
inside_last (Failed fault) ts us (inl e) behind last = absurd (cc)
inside_last (Failed fault) ts us (inr e) behind last = absurd (cc)

idle_top : (stack : List Frame) → stack ≡ top ∷ [] → is_top stack ≡ true
idle_top stack e = ap is_top e

abbrev stack_in : Result Step Problem → List Frame
stack_in (Ok s) = s.0
stack_in (Err p) = []

one_stack : (stack : List Frame) (r : Result Step Problem) → r ≡ Ok (stack, None) → r ≡ Ok (top ∷ [], None) → stack ≡ top ∷ []
one_stack stack r e f = ap stack_in (sym e) ∙ ap stack_in f

-- ---- a token that is refused

pub refused_last : (first stage : Stage) (start : Option (List ℕ)) (ts ws : List Token) (t : Token) (stack : List Frame)
    (fault : ReadFault) → Goes first stage start ts stack → Leads first stage ts stack → Stops stage t stack fault
    → IsOfText fault → AreLast first (ts ++ t ∷ ws) → ⊥
refused_last first Start start ts ws t stack fault (is, empty, idle) leads (other, refused) of_text last =
    let (p, e) = refused_of stack t fault refused of_text in
    not_discarded [] ws t p (ap (λ s. resume (step s t) []) (sym idle) ∙ ap (λ r. resume r []) e)
    (outside_last Start (t ∷ ws) (inl (refl, other))
    (subst (λ xs. AreLast Start (xs ++ t ∷ ws)) empty (subst (λ s. AreLast s (ts ++ t ∷ ws)) is last)))
refused_last first Forms start ts ws t stack fault goes (from, h) refused of_text last =
    let (p, e) = refused_of stack t fault refused of_text in
    not_discarded ts ws t p
    (sym (outside_runs first (ts ++ t ∷ []) (from_append first ts (t ∷ []) from)) ∙ next_leads first ts t stack goes ∙ ap (λ r. resume r []) e)
    (outside_last first (ts ++ t ∷ ws) (from_append first ts (t ∷ ws) from) last)
refused_last first Elements start ts ws t stack fault goes (from, (us, behind, h)) (unless, refused) of_text last =
    let (p, e) = refused_of stack t fault refused of_text in
    let here : run (top ∷ []) us ≡ Ok (stack, None) = sym (inside_runs first ts us from behind) ∙ goes.1 in
    not_closed us ws t p (run_append (top ∷ []) us (t ∷ []) ∙ ap (λ r. resume r (t ∷ [])) here ∙ ap (λ r. resume r []) e)
    (λ _ square idle.
    let no : false ≡ true = sym (unless square) ∙ idle_top stack (one_stack stack (run (top ∷ []) us) here idle) in cc)
    (inside_last first (ts ++ t ∷ ws) (us ++ t ∷ ws) from (behind_append first ts us (t ∷ ws) behind) last)
refused_last first Closed start ts ws t stack fault goes (idle, inl (is, empty)) stops of_text last =
    let none : t ∷ ws ≡ [] = subst (λ xs. AreLast Closed (xs ++ t ∷ ws)) empty (subst (λ s. AreLast s (ts ++ t ∷ ws)) is last) in
    cc
refused_last first Closed start ts ws t stack fault goes (idle, inr (from, (us, ds, behind, d, whole))) stops of_text last =
    not_closed ds (t ∷ ws) (closes Square) Unopened (close_run (no_forms_in d)) (λ none _ _. cc)
    (subst CloseVector (ap (λ xs. xs ++ t ∷ ws) whole ∙ append_assoc ds (closes Square ∷ []) (t ∷ ws))
    (inside_last first (ts ++ t ∷ ws) (us ++ t ∷ ws) from (behind_append first ts us (t ∷ ws) behind) last))
refused_last first (Failed before) start ts ws t stack fault goes (is, idle, empty) stops of_text last =
    let none : t ∷ ws ≡ [] =
    subst (λ xs. AreLast (Failed before) (xs ++ t ∷ ws)) empty (subst (λ s. AreLast s (ts ++ t ∷ ws)) is last) in
    cc

pub refused_over : (first stage : Stage) (start mid new : Option (List ℕ)) (ts : List Token) (t : Token) (stack : List Frame)
    (fault : ReadFault) → Goes first stage start ts stack → Leads first stage ts stack → ReadsTokens start mid ts
    → ReadsToken mid new t → Stops stage t stack fault → IsOfText fault → EndsHere first start → ⊥
refused_over first stage None mid new ts t stack fault goes leads reads taken stops of_text over = absurd over
refused_over first stage (Some text) mid new ts t stack fault goes leads (half, m, is) taken stops of_text (us, rest, l, last, blank) =
    let (vs, e, n) = whole_tokens m l blank in
    let (gap, front, after, g, b, whole, _) = subst (λ x. ReadsToken x new t) is taken in
    let (ws, begins) = first_is vs t n blank (subst (λ x. Lexes x (t ∷ []) after) (sym whole) (next gap front g b no_tokens)) in
    refused_last first stage (Some text) ts ws t stack fault goes leads stops of_text
    (subst (AreLast first) (e ∙ ap (λ xs. ts ++ xs) begins) last)

-- ---- no token follows

same_as : {mid rest : List ℕ} (ts us vs : List Token) → us ≡ ts ++ vs → Lexes mid vs rest → HasNoToken (Some mid)
    → (us ≡ ts) × (rest ≡ mid)
same_as ts us [] e no_tokens none = (e ∙ append-nil ts, refl)
same_as ts us (v ∷ vs) e n none = absurd (let (after, one) = first_token n in none v after one)

-- the bytes that follow begin no token
pub blank_over : (first : Stage) (start left : Option (List ℕ)) (ts : List Token) → ReadsTokens start left ts → HasNoToken left
    → (IsKnownBlank left → ⊥) → EndsHere first start → ⊥
blank_over first None left ts reads none other over = absurd over
blank_over first (Some text) left ts (half, m, is) none other (us, rest, l, last, blank) =
    let (vs, e, n) = whole_tokens m l blank in
    let (_, same) = same_as ts us vs e n (subst HasNoToken is none) in
    other (subst IsKnownBlank (sym is) (subst IsBlank same blank))

pub unfinished_last : (first stage : Stage) (start : Option (List ℕ)) (ts : List Token) (stack : List Frame)
    → Goes first stage start ts stack → Leads first stage ts stack → (is_top stack ≡ false) ⊎ (stage ≡ Elements)
    → AreLast first ts → ⊥
unfinished_last first Start start ts stack (is, empty, idle) leads (inl busy) last =
    let no : false ≡ true = sym busy ∙ idle_top stack idle in cc
unfinished_last first Start start ts stack goes leads (inr e) last = cc
unfinished_last first Forms start ts stack goes (from, h) (inl busy) last =
    let here : run (top ∷ []) ts ≡ Ok (stack, None) = sym (outside_runs first ts from) ∙ goes.1 in
    let idle = one_stack stack (run (top ∷ []) ts) here (discards_end (outside_last first ts from last)) in
    let no : false ≡ true = sym busy ∙ idle_top stack idle in cc
unfinished_last first Forms start ts stack goes leads (inr e) last = cc
unfinished_last first Elements start ts stack goes (from, (us, behind, h)) how last =
    let (ds, items, whole) = inside_last first ts us from behind last in
    not_both (runs first ts) Unopened (stack, None)
    (inside_runs first ts us from behind ∙ ap (run (top ∷ [])) whole ∙ close_run items) goes.1
unfinished_last first Closed start ts stack goes leads (inl busy) last =
    let no : false ≡ true = sym busy ∙ idle_top stack leads.0 in cc
unfinished_last first Closed start ts stack goes leads (inr e) last = cc
unfinished_last first (Failed fault) start ts stack goes leads (inl busy) last =
    let no : false ≡ true = sym busy ∙ idle_top stack leads.1 in cc
unfinished_last first (Failed fault) start ts stack goes leads (inr e) last = cc

-- the text ends within a form, or within the vector
pub unfinished_over : (first stage : Stage) (start left : Option (List ℕ)) (ts : List Token) (stack : List Frame)
    → Goes first stage start ts stack → Leads first stage ts stack → ReadsTokens start left ts → HasNoToken left
    → (is_top stack ≡ false) ⊎ (stage ≡ Elements) → EndsHere first start → ⊥
unfinished_over first stage None left ts stack goes leads reads none how over = absurd over
unfinished_over first stage (Some text) left ts stack goes leads (half, m, is) none how (us, rest, l, last, blank) =
    let (vs, e, n) = whole_tokens m l blank in
    let (same, _) = same_as ts us vs e n (subst HasNoToken is none) in
    unfinished_last first stage (Some text) ts stack goes leads how (subst (AreLast first) same last)

-- ---- bytes that begin no token aren't blank

not_none : (beyond : Beyond) (p : Problem) → no_token beyond ≡ bad p → ⊥
not_none Unread p e = let no : more ≡ bad p = e in cc
not_none Nothing p e = let no : end ≡ bad p = e in cc

bad_first : (beyond : Beyond) (bytes : List ℕ) (p : Problem) → token_at beyond bytes ≡ bad p
    → (b : ℕ) × (bs : List ℕ) × (bytes ≡ b ∷ bs) × ((b == 59) ≡ false)
unfolding token_at
bad_first Unread [] p e = absurd (let no : more ≡ bad p = e in cc)
bad_first Nothing [] p e = absurd (let no : end ≡ bad p = e in cc)
bad_first beyond (b ∷ bs) p e =
    elim (chosen (b == 59) _ _ _ e) [
      | inl w ↦ absurd (not_none beyond p w.1)
      | inr w ↦ (b, bs, refl, w.0)
    ]

line_first : (b : ℕ) (bs line : List ℕ) → b ∷ bs ≡ line → IsLastLine line → b ≡ 59
line_first b bs [] e last = absurd (cc)
line_first b bs (c ∷ cs) e last = (let same : b ≡ c = cc in same) ∙ last.0

not_blank : (b : ℕ) (bs others : List ℕ) → IsPast (b ∷ bs) → (b == 59) ≡ false → {gap : List ℕ} → IsGap gap
    → IsBlank (gap ++ (b ∷ (bs ++ others))) → ⊥
not_blank b bs others past plain g (pad, line, s, last, whole) =
    let same : b ∷ (bs ++ others) ≡ line =
    sym (past_more b bs others plain past) ∙ sym (gap_over g (b ∷ (bs ++ others))) ∙ ap (after_gap_in None) whole
    ∙ gap_over s line ∙ line_stays line last in
    eqb-false b 59 plain (line_first b (bs ++ others) line same last)

pub bad_blank : (beyond : Beyond) (bytes : List ℕ) (p : Problem) (start left : Option (List ℕ)) → IsPast bytes
    → token_at beyond bytes ≡ bad p → PassesGap start (prepend_known bytes left) → IsKnownBlank start → ⊥
bad_blank beyond bytes p None left past e h blank = absurd blank
bad_blank beyond bytes p (Some text) None past e h blank = absurd h
bad_blank beyond bytes p (Some text) (Some others) past e (gap, g, whole) blank =
    let (b, bs, is, plain) = bad_first beyond bytes p e in
    not_blank b bs others (subst IsPast is past) plain g
    (subst IsBlank (whole ∙ ap (λ x. gap ++ (x ++ others)) is) blank)
