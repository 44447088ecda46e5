-- The fault that a reader meets is the first one of the text, and names its line.
use Rattle.std.proofs.Common.{◌≡◌, ◌≢◌, ◌⊎◌, inl, inr, ℕ, suc, ◌%◌, true, false, List, [], ◌∷◌, ◌++◌, length, Option, None, Some, Result, Ok, Err, refl, sym, ap, ◌∙◌, subst, append_assoc, append-nil, arith}
use Rattle.edn.specs.declared.read_fault.Problem.{Problem}
use Rattle.edn.specs.declared.read_fault.Problem.TheVariants as problem
use Rattle.edn.specs.declared.read_fault.ReadFault.{ReadFault}
use Rattle.edn.specs.declared.read_fault.ReadFault.TheVariants.{Syntax, Device, Memory}
use Rattle.edn.specs.declared.reader.Reader.{Reader}
use Rattle.edn.specs.declared.reader.Stage.{Stage}
use Rattle.edn.specs.declared.reader.Stage.TheVariants.{Start, Forms, Elements, Closed, Failed}
use Rattle.edn.specs.Meaning.Openings.{Opening}
use Rattle.edn.specs.Meaning.Openings as opening
use Rattle.edn.specs.declared.token.Closing.{Closing}
use Rattle.edn.specs.declared.token.Closing.TheVariants as closing
use Rattle.edn.specs.declared.token.Token.{Token as TokenValue}
use Rattle.edn.specs.Meaning.Blame.{MayGoOn, IsInnermost, IsNoneOpen, IsWrongBehind, IsWrongAtEnd, IsWrongThere, begins_vector, closing_of, HasFault, no_token, other_token, too_deep, too_short, IsFaultOf}
use Rattle.edn.specs.Meaning.Faults.{IsOfText}
use Rattle.edn.specs.Meaning.Forms.{Form}
use Rattle.edn.specs.Meaning.Grammar.{AreItems, no_items, no_item, an_item, ArePairs, no_pairs, no_pair, a_pair}
use Rattle.edn.specs.Meaning.Lexing.{Lexes, no_tokens, next}
use Rattle.edn.specs.Meaning.Lines.{IsAt, NamesLine, line_after}
use Rattle.edn.specs.Meaning.Names.{Namespace}
use Rattle.edn.specs.Meaning.Nesting.{IsBefore}
use Rattle.edn.specs.Meaning.Reading.{HasNoToken, IsBlankLeft, ReadsToken, ReadsTokens}
use Rattle.edn.specs.Meaning.Readers.{IsFormAt, text_left}
use Rattle.edn.specs.Meaning.Texts.{AreAll, AreSoFar, at_start, outside, inside, HasRead}
use Rattle.edn.specs.Meaning.Tokens.{Token, opens, closes, discard, tag, meta, leaf}
use Rattle.edn.specs.Computing.Building.{Frame, top, tagged, describing, discarding, in_list, in_vector, in_set, in_map, Step, is_top, problem_left, close, step, resume}
use Rattle.edn.specs.Computing.Stages.{IsBadIn, IsUnfinished, Refused, Stops}
use Rattle.edn.proofs.Closings.{may_go_on}
use Rattle.edn.proofs.Depths.{IsShallow}
use Rattle.edn.proofs.FormsRead.{IsBehind, BeginsOther, Leads, discarded_only, reads_more}
use Rattle.edn.proofs.Held.{Holds, AreBefore, AreDiscarded, none_more, items_append, no_forms_in, one_item}
use Rattle.edn.proofs.Nested.{before_open, deep_tokens}
use Rattle.edn.proofs.NoForms.{Goes, before_refused, begun_more, first_leads, next_leads, past_form, refused_of, runs, start_leads}
use Rattle.edn.proofs.NotOver.{last_split, refused_last, unfinished_last}
use Rattle.edn.proofs.NoTexts.{GoesOn, inside_all, left_on, parted, unopened}
use Rattle.edn.proofs.TextsRead.{last_items, lexes_append, square_is}

-- ---- no text goes on behind a token that is refused

-- a form's tokens end before it
not_form : (first : Stage) (ts us vs ws : List Token) (t : Token) (f : Form) (p : Problem) (stack : List Frame)
    → runs first ts ≡ Ok (stack, None) → runs first (ts ++ t ∷ []) ≡ Err p → ts ++ t ∷ us ≡ vs ++ ws → IsFormAt first vs f → ⊥
not_form first ts us vs ws t f p stack goes stops whole h =
    elim (parted vs ws ts (t ∷ us) (sym whole)) [
      | inl (ks, more, _) ↦ past_form first vs ks f stack h (ap (runs first) (sym more) ∙ goes)
      | inr ([], more, _) ↦
          past_form first vs [] f stack h (ap (runs first) (append-nil vs ∙ more ∙ append-nil ts) ∙ goes)
      | inr (k ∷ ks, more, rest) ↦
          let same : t ≡ k = cc in
          before_refused first (ts ++ t ∷ []) ks f p (begun_more first ts t) stops
          (subst (λ xs. IsFormAt first xs f)
          (more ∙ ap (λ x. ts ++ x ∷ ks) (sym same) ∙ sym (append_assoc ts (t ∷ []) ks)) h)
    ]

-- nor is it among the last tokens
never_on : (first stage : Stage) (start : Option (List ℕ)) (ts us : List Token) (t : Token) (stack : List Frame)
    (fault : ReadFault) (p : Problem) → Goes first stage start ts stack → Leads first stage ts stack → Stops stage t stack fault
    → IsOfText fault → runs first ts ≡ Ok (stack, None) → runs first (ts ++ t ∷ []) ≡ Err p → GoesOn first (ts ++ t ∷ us) → ⊥
unfolding GoesOn
never_on first stage start ts us t stack fault p goes leads stops of_text here err (inl last) =
    refused_last first stage start ts us t stack fault goes leads stops of_text last
never_on first stage start ts us t stack fault p goes leads stops of_text here err (inr (vs, ws, f, e, h)) =
    not_form first ts us vs ws t f p stack here err e h

-- behind the bracket that closes the vector, there is no other
closed_off : (xs us vs : List Token) (t : Token) (fs gs : List Form) → AreItems xs fs → AreItems vs gs
    → xs ++ closes closing.Square ∷ (t ∷ us) ≡ vs ++ closes closing.Square ∷ [] → ⊥
closed_off xs us vs t fs gs r q e =
    elim (last_split xs (t ∷ us) vs (closes closing.Square) (closes closing.Square) e) [
      | inl (none, _, _) ↦ cc
      | inr (ws, more) ↦ unopened xs ws fs gs r (subst (λ ys. AreItems ys gs) more q)
    ]

behind_bracket : (ds us : List Token) (t : Token) → (ds ++ closes closing.Square ∷ []) ++ t ∷ us ≡ ds ++ closes closing.Square ∷ (t ∷ us)
behind_bracket ds us t = append_assoc ds (closes closing.Square ∷ []) (t ∷ us)

closed_never : {first : Stage} {ts0 : List Token} {fs : List Form} → AreSoFar first ts0 fs → (ts vs ds us : List Token) (t : Token)
    (gs : List Form) → (first ≡ Start) ⊎ (first ≡ Elements) → IsBehind first ts vs → AreDiscarded ds
    → vs ≡ ds ++ closes closing.Square ∷ [] → AreAll (ts0 ++ (ts ++ t ∷ us)) gs → ⊥
closed_never at_start ts vs ds us t gs from (s, square, e) d is all =
    let whole : ts ++ t ∷ us ≡ opens opening.Vector ∷ (ds ++ closes closing.Square ∷ (t ∷ us)) =
    ap (λ xs. xs ++ t ∷ us) (e ∙ ap (λ x. x ∷ vs) (square_is s square) ∙ ap (λ xs. opens opening.Vector ∷ xs) is)
    ∙ ap (λ xs. opens opening.Vector ∷ xs) (behind_bracket ds us t) in
    let (ws, items, end) = inside_all _ gs (subst (λ xs. AreAll xs gs) whole all) in
    closed_off ds us ws t [] gs (no_forms_in d) items end
closed_never (outside other r) ts vs ds us t gs (inl e) behind d is all = absurd (cc)
closed_never (outside other r) ts vs ds us t gs (inr e) behind d is all = absurd (cc)
closed_never {fs = fs} (inside {ts = ts0} r) ts vs ds us t gs from behind d is all =
    let (ws, items, end) = inside_all (ts0 ++ (ts ++ t ∷ us)) gs all in
    closed_off (ts0 ++ ds) us ws t fs gs (last_items r (no_forms_in d)) items
    (append_assoc ts0 ds (closes closing.Square ∷ (t ∷ us))
    ∙ ap (λ xs. ts0 ++ xs) (sym (behind_bracket ds us t) ∙ ap (λ xs. xs ++ t ∷ us) (sym (behind ∙ is))) ∙ end)

not_closed_yet : {first : Stage} {ts0 : List Token} {fs : List Form} → AreSoFar first ts0 fs → first ≡ Closed → ⊥
not_closed_yet at_start e = cc
not_closed_yet (outside other r) e = cc
not_closed_yet (inside r) e = cc

pub not_failed_yet : {first : Stage} {ts0 : List Token} {fs : List Form} → AreSoFar first ts0 fs → (fault : ReadFault)
    → first ≡ Failed fault → ⊥
not_failed_yet at_start fault e = cc
not_failed_yet (outside other r) fault e = cc
not_failed_yet (inside r) fault e = cc

never_all : (first stage : Stage) (start : Option (List ℕ)) (ts0 ts us : List Token) (t : Token) (fs gs : List Form)
    (stack : List Frame) (fault : ReadFault) → AreSoFar first ts0 fs → Goes first stage start ts stack
    → Leads first stage ts stack → Stops stage t stack fault → IsOfText fault → AreAll (ts0 ++ (ts ++ t ∷ us)) gs → ⊥
never_all first Start start ts0 ts us t fs gs stack fault so goes leads stops of_text all =
    let (p, e) = refused_of stack t fault stops.1 of_text in
    never_on first Start start ts us t stack fault p goes leads stops of_text (start_leads first ts stack goes)
    (first_leads first ts t stack goes stops.0 ∙ ap (λ r. resume r []) e) (left_on so (ts ++ t ∷ us) gs all)
never_all first Forms start ts0 ts us t fs gs stack fault so goes leads stops of_text all =
    let (p, e) = refused_of stack t fault stops of_text in
    never_on first Forms start ts us t stack fault p goes leads stops of_text goes.1
    (next_leads first ts t stack goes ∙ ap (λ r. resume r []) e) (left_on so (ts ++ t ∷ us) gs all)
never_all first Elements start ts0 ts us t fs gs stack fault so goes leads stops of_text all =
    let (p, e) = refused_of stack t fault stops.1 of_text in
    never_on first Elements start ts us t stack fault p goes leads stops of_text goes.1
    (next_leads first ts t stack goes ∙ ap (λ r. resume r []) e) (left_on so (ts ++ t ∷ us) gs all)
never_all first Closed start ts0 ts us t fs gs stack fault so goes (idle, inl (is, empty)) stops of_text all =
    not_closed_yet so is
never_all first Closed start ts0 ts us t fs gs stack fault so goes (idle, inr (from, (vs, ds, behind, d, is))) stops of_text all =
    closed_never so ts vs ds us t gs from behind d is all
never_all first (Failed before) start ts0 ts us t fs gs stack fault so goes leads stops of_text all =
    not_failed_yet so before leads.0

never : (first stage : Stage) (start : Option (List ℕ)) (ts0 ts : List Token) (t : Token) (fs : List Form) (stack : List Frame)
    (fault : ReadFault) → AreSoFar first ts0 fs → Goes first stage start ts stack → Leads first stage ts stack
    → Stops stage t stack fault → IsOfText fault → MayGoOn ((ts0 ++ ts) ++ t ∷ []) → ⊥
never first stage start ts0 ts t fs stack fault so goes leads stops of_text (us, gs, all) =
    never_all first stage start ts0 ts us t fs gs stack fault so goes leads stops of_text
    (subst (λ xs. AreAll xs gs) (append_assoc (ts0 ++ ts) (t ∷ []) us ∙ append_assoc ts0 ts (t ∷ us)) all)

-- ---- what is open

two_more : (n : ℕ) → n % 2 ≡ 0 → suc (suc n) % 2 ≡ 0
two_more n e = omega (arith, e)

one_more_length : (fs : List Form) (k : Form) → length (fs ++ k ∷ []) ≡ suc (length fs)
one_more_length [] k = refl
one_more_length (f ∷ fs) k = ap suc (one_more_length fs k)

one_more : (n : ℕ) → n % 2 ≡ 0 → suc n % 2 ≡ 1
one_more n e = omega (arith, e)

even_items : {ts : List Token} {ps : List (Form × Form)} → ArePairs ts ps
    → (fs : List Form) × AreItems ts fs × (length fs % 2 ≡ 0)
even_items no_pairs = ([], no_items, refl)
even_items (no_pair d r) = let (fs, q, even) = even_items r in (fs, no_item d q, even)
even_items (a_pair {us = us} {vs = vs} {ts = ts} {k = k} {v = v} a b r) =
    let (fs, q, even) = even_items r in (
      k ∷ v ∷ fs,
      subst (λ xs. AreItems xs (k ∷ v ∷ fs)) (sym (append_assoc us vs ts)) (an_item a (an_item b q)),
      two_more (length fs) even,
    )

-- what is innermost within a part of the tokens, and behind others
lift : (ts0 ts : List Token) (o : Token) (fs : List Form) → IsInnermost ts o fs → IsInnermost (ts0 ++ ts) o fs
lift ts0 ts o fs (us, vs, begins, none, items, e) =
    (ts0 ++ us, vs, begins, none, items, ap (λ xs. ts0 ++ xs) e ∙ sym (append_assoc ts0 us (o ∷ vs)))

map_open : (namespace : Namespace) (ps : List (Form × Form)) (us vs ts : List Token) → ArePairs vs ps → ts ≡ us ++ opens (opening.Map namespace) ∷ vs
    → (fs : List Form) × IsInnermost ts (opens (opening.Map namespace)) fs
map_open namespace ps us vs ts r e = let (fs, q, even) = even_items r in (fs, (us, vs, tt, tt, q, e))

key_open : (namespace : Namespace) (ps : List (Form × Form)) (k : Form) (us vs ws ds ts : List Token) → ArePairs vs ps → AreItems ws (k ∷ []) → AreDiscarded ds
    → ts ≡ us ++ opens (opening.Map namespace) ∷ (vs ++ (ws ++ ds))
    → (fs : List Form) × IsInnermost ts (opens (opening.Map namespace)) fs × (length fs % 2 ≡ 1)
key_open namespace ps k us vs ws ds ts r q d e =
    let (fs, p, even) = even_items r in (
      fs ++ k ∷ [],
      (us, vs ++ (ws ++ ds), tt, tt, items_append p (items_append q (no_forms_in d)), e),
      ap (λ n. n % 2) (one_more_length fs k) ∙ one_more (length fs) even,
    )

-- what is wrong with a bracket, if a tag, `^`, `#_` or a collection is open
abbrev WrongInside : Problem → List Token → Closing → Type 0
WrongInside problem.Unopened ts b = (o : Opening) × (fs : List Form) × IsInnermost ts (opens o) fs × (closing_of o ≢ b)
WrongInside problem.NoForm ts b = (o : Token) × (fs : List Form) × IsBefore o × IsInnermost ts o fs
WrongInside problem.NoValue ts b = (b ≡ closing.Curly)
    × ((namespace : Namespace) × (fs : List Form) × IsInnermost ts (opens (opening.Map namespace)) fs × (length fs % 2 ≡ 1))
WrongInside _ ts b = ⊥

abbrev Wrong : Problem → List Frame → List Token → Closing → Type 0
Wrong p stack ts b = ((is_top stack ≡ true) × (p ≡ problem.Unopened)) ⊎ WrongInside p ts b

wrong_so : (q p : Problem) (stack : List Frame) (ts : List Token) (b : Closing)
    → (λ (r : Result Step Problem). r ≡ Err p) (Err q) → WrongInside q ts b → Wrong p stack ts b
wrong_so q p stack ts b e wrong =
    let same : q ≡ p = cc in inr (subst (λ x. WrongInside x ts b) same wrong)

other_bracket : (o : Opening) (b : Closing) (ts : List Token) (fs : List Form) → IsInnermost ts (opens o) fs → closing_of o ≢ b
    → WrongInside problem.Unopened ts b
other_bracket o b ts fs inner other = (o, fs, inner, other)

tag_open : (ts us xs vs : List Token) → AreBefore xs → AreDiscarded vs → ts ≡ us ++ (xs ++ vs)
    → (o : Token) × (fs : List Form) × IsBefore o × IsInnermost ts o fs
tag_open ts us xs vs before d is =
    let (t, fs, ws, stands, begins, room, items, e) = before_open before d in
    (t, fs, stands, (us, ws, begins, room, items, is ∙ ap (λ ys. us ++ ys) e))

close_wrong : (stack : List Frame) (ts : List Token) (b : Closing) (p : Problem) → Holds stack ts → close stack b ≡ Err p
    → Wrong p stack ts b
close_wrong [] ts b p h e = absurd h
close_wrong (top ∷ outer) ts b p h e = inl (refl, sym (let same : problem.Unopened ≡ p = cc in same))
close_wrong (tagged ∷ outer) ts b p (us, xs, vs, h, before, d, is) e =
    wrong_so problem.NoForm p (tagged ∷ outer) ts b e (tag_open ts us xs vs before d is)
close_wrong (describing ∷ outer) ts b p (us, vs, h, d, is) e =
    wrong_so problem.NoForm p (describing ∷ outer) ts b e (meta, [], tt, (us, vs, tt, omega arith, no_forms_in d, is))
close_wrong (discarding ∷ outer) ts b p (us, vs, h, d, is) e =
    wrong_so problem.NoForm p (discarding ∷ outer) ts b e (discard, [], tt, (us, vs, tt, refl, no_forms_in d, is))
close_wrong (in_list fs ∷ outer) ts closing.Round p h e = absurd (cc)
close_wrong (in_list fs ∷ outer) ts closing.Square p (us, vs, h, r, is) e =
    wrong_so problem.Unopened p (in_list fs ∷ outer) ts closing.Square e (other_bracket opening.List closing.Square ts fs (us, vs, tt, tt, r, is) (λ no. cc))
close_wrong (in_list fs ∷ outer) ts closing.Curly p (us, vs, h, r, is) e =
    wrong_so problem.Unopened p (in_list fs ∷ outer) ts closing.Curly e (other_bracket opening.List closing.Curly ts fs (us, vs, tt, tt, r, is) (λ no. cc))
close_wrong (in_vector fs ∷ outer) ts closing.Round p (us, vs, h, r, is) e =
    wrong_so problem.Unopened p (in_vector fs ∷ outer) ts closing.Round e (other_bracket opening.Vector closing.Round ts fs (us, vs, tt, tt, r, is) (λ no. cc))
close_wrong (in_vector fs ∷ outer) ts closing.Square p h e = absurd (cc)
close_wrong (in_vector fs ∷ outer) ts closing.Curly p (us, vs, h, r, is) e =
    wrong_so problem.Unopened p (in_vector fs ∷ outer) ts closing.Curly e (other_bracket opening.Vector closing.Curly ts fs (us, vs, tt, tt, r, is) (λ no. cc))
close_wrong (in_set fs ∷ outer) ts closing.Round p (us, vs, h, r, is) e =
    wrong_so problem.Unopened p (in_set fs ∷ outer) ts closing.Round e (other_bracket opening.Set closing.Round ts fs (us, vs, tt, tt, r, is) (λ no. cc))
close_wrong (in_set fs ∷ outer) ts closing.Square p (us, vs, h, r, is) e =
    wrong_so problem.Unopened p (in_set fs ∷ outer) ts closing.Square e (other_bracket opening.Set closing.Square ts fs (us, vs, tt, tt, r, is) (λ no. cc))
close_wrong (in_set fs ∷ outer) ts closing.Curly p h e = absurd (cc)
close_wrong (in_map namespace ps None ∷ outer) ts closing.Round p (us, vs, h, r, is) e =
    let (fs, inner) = map_open namespace ps us vs ts r is in
    wrong_so problem.Unopened p (in_map namespace ps None ∷ outer) ts closing.Round e (other_bracket (opening.Map namespace) closing.Round ts fs inner (λ no. cc))
close_wrong (in_map namespace ps None ∷ outer) ts closing.Square p (us, vs, h, r, is) e =
    let (fs, inner) = map_open namespace ps us vs ts r is in
    wrong_so problem.Unopened p (in_map namespace ps None ∷ outer) ts closing.Square e (other_bracket (opening.Map namespace) closing.Square ts fs inner (λ no. cc))
close_wrong (in_map namespace ps None ∷ outer) ts closing.Curly p h e = absurd (cc)
close_wrong (in_map namespace ps (Some k) ∷ outer) ts closing.Round p (us, vs, ws, ds, h, r, q, d, is) e =
    let (fs, inner, _) = key_open namespace ps k us vs ws ds ts r (one_item q) d is in
    wrong_so problem.Unopened p (in_map namespace ps (Some k) ∷ outer) ts closing.Round e (other_bracket (opening.Map namespace) closing.Round ts fs inner (λ no. cc))
close_wrong (in_map namespace ps (Some k) ∷ outer) ts closing.Square p (us, vs, ws, ds, h, r, q, d, is) e =
    let (fs, inner, _) = key_open namespace ps k us vs ws ds ts r (one_item q) d is in
    wrong_so problem.Unopened p (in_map namespace ps (Some k) ∷ outer) ts closing.Square e (other_bracket (opening.Map namespace) closing.Square ts fs inner (λ no. cc))
close_wrong (in_map namespace ps (Some k) ∷ outer) ts closing.Curly p (us, vs, ws, ds, h, r, q, d, is) e =
    let (fs, inner, odd) = key_open namespace ps k us vs ws ds ts r (one_item q) d is in
    wrong_so problem.NoValue p (in_map namespace ps (Some k) ∷ outer) ts closing.Curly e (refl, (namespace, fs, inner, odd))

step_wrong : (stack : List Frame) (ts : List Token) (t : Token) (p : Problem) → Holds stack ts → step stack t ≡ Err p
    → (b : Closing) × (t ≡ closes b) × Wrong p stack ts b
unfolding step
step_wrong stack ts (opens b) p h e = absurd (cc)
step_wrong stack ts (closes b) p h e = (b, refl, close_wrong stack ts b p h e)
step_wrong stack ts discard p h e = absurd (cc)
step_wrong stack ts tag p h e = absurd (cc)
step_wrong stack ts meta p h e = absurd (cc)
step_wrong stack ts (leaf f) p h e = absurd (cc)

-- ---- what is wrong with a token, in the text

lift_wrong : (ts0 ts : List Token) (t : Token) (b : Closing) (p : Problem) → t ≡ closes b → WrongInside p ts b
    → IsWrongBehind p (ts0 ++ ts) t
lift_wrong ts0 ts t b problem.Unopened e (o, fs, inner, other) = (b, e, inr (o, fs, lift ts0 ts (opens o) fs inner, other))
lift_wrong ts0 ts t b problem.NoForm e (o, fs, before, inner) = (b, e, (o, fs, before, lift ts0 ts o fs inner))
lift_wrong ts0 ts t b problem.NoValue e (curly, (namespace, fs, inner, odd)) =
    (e ∙ ap closes curly, (namespace, fs, lift ts0 ts (opens (opening.Map namespace)) fs inner, odd))
lift_wrong ts0 ts t b problem.Token e never = absurd never
lift_wrong ts0 ts t b problem.Unclosed e never = absurd never
lift_wrong ts0 ts t b problem.Depth e never = absurd never
lift_wrong ts0 ts t b problem.AfterVector e never = absurd never

other_square : (ts : List Token) → BeginsOther ts → begins_vector ts ≡ false
other_square [] other = absurd other
other_square (t ∷ ts) other = other

none_open : {first : Stage} {ts0 : List Token} {fs : List Form} → AreSoFar first ts0 fs → (ts : List Token)
    → ((first ≡ Start) × BeginsOther ts) ⊎ (first ≡ Forms) → AreDiscarded ts → IsNoneOpen (ts0 ++ ts)
none_open at_start ts (inl (_, other)) d = (other_square ts other, ([], no_forms_in d))
none_open at_start ts (inr e) d = absurd (cc)
none_open {fs = fs} (outside other r) ts from d = (other, (fs, last_items r (no_forms_in d)))
none_open (inside r) ts (inl (e, _)) d = absurd (cc)
none_open (inside r) ts (inr e) d = absurd (cc)

-- the vector that the text is, is open
vector_open : {first : Stage} {ts0 : List Token} {fs : List Form} → AreSoFar first ts0 fs → (ts us : List Token)
    → (first ≡ Start) ⊎ (first ≡ Elements) → IsBehind first ts us → AreDiscarded us
    → (gs : List Form) × IsInnermost (ts0 ++ ts) (opens opening.Vector) gs
vector_open at_start ts us from (t, square, e) d =
    ([], ([], us, tt, tt, no_forms_in d, e ∙ ap (λ x. x ∷ us) (square_is t square)))
vector_open (outside other r) ts us (inl e) behind d = absurd (cc)
vector_open (outside other r) ts us (inr e) behind d = absurd (cc)
vector_open {fs = fs} (inside {ts = ts0} r) ts us from behind d =
    (fs, ([], ts0 ++ us, tt, tt, last_items r (no_forms_in d), ap (λ xs. opens opening.Vector ∷ (ts0 ++ xs)) behind))

-- behind the `[` of the vector, or behind nothing
behind_part : (first : Stage) (ts us : List Token) → IsBehind first ts us → (vs : List Token) × (ts ≡ vs ++ us)
behind_part Start ts us (t, _, e) = (t ∷ [], e)
behind_part Forms ts us e = ([], e)
behind_part Elements ts us e = ([], e)
behind_part Closed ts us e = ([], e)
behind_part (Failed fault) ts us e = ([], e)

after_vector : {first : Stage} {ts0 : List Token} {fs : List Form} → AreSoFar first ts0 fs → (ts vs ds : List Token)
    → (first ≡ Start) ⊎ (first ≡ Elements) → IsBehind first ts vs → AreDiscarded ds → vs ≡ ds ++ closes closing.Square ∷ []
    → (us : List Token) × (gs : List Form) × AreItems us gs × (ts0 ++ ts ≡ opens opening.Vector ∷ us ++ closes closing.Square ∷ [])
after_vector at_start ts vs ds from (s, square, e) d is =
    (ds, [], no_forms_in d, e ∙ ap (λ x. x ∷ vs) (square_is s square) ∙ ap (λ xs. opens opening.Vector ∷ xs) is)
after_vector (outside other r) ts vs ds (inl e) behind d is = absurd (cc)
after_vector (outside other r) ts vs ds (inr e) behind d is = absurd (cc)
after_vector {fs = fs} (inside {ts = ts0} r) ts vs ds from behind d is = (
  ts0 ++ ds,
  fs,
  last_items r (no_forms_in d),
  ap (λ xs. opens opening.Vector ∷ xs)
      (ap (λ xs. ts0 ++ xs) (behind ∙ is) ∙ sym (append_assoc ts0 ds (closes closing.Square ∷ []))),
)

top_wrong : (ts : List Token) (t : Token) (b : Closing) (p : Problem) → t ≡ closes b → p ≡ problem.Unopened → IsNoneOpen ts
    → IsWrongBehind p ts t
top_wrong ts t b p e is none = subst (λ q. IsWrongBehind q ts t) (sym is) (b, e, inl none)

square_wrong : (ts : List Token) (t : Token) (b : Closing) (p : Problem) (gs : List Form) → t ≡ closes b → p ≡ problem.Unopened
    → IsInnermost ts (opens opening.Vector) gs → (t ≡ closes closing.Square → ⊥) → IsWrongBehind p ts t
square_wrong ts t b p gs e is inner other =
    subst (λ q. IsWrongBehind q ts t) (sym is)
    (b, e, inr (opening.Vector, gs, inner, λ square. other (e ∙ ap closes (sym square))))

idle_open : (stack : List Frame) (ts : List Token) → Holds stack ts → is_top stack ≡ true → AreDiscarded ts
idle_open stack ts h idle = discarded_only stack ts h idle

outside_wrong : {first : Stage} {ts0 : List Token} {fs : List Form} → AreSoFar first ts0 fs → (ts : List Token) (t : Token)
    (stack : List Frame) (p : Problem) → ((first ≡ Start) × BeginsOther ts) ⊎ (first ≡ Forms) → Holds stack ts
    → step stack t ≡ Err p → IsWrongBehind p (ts0 ++ ts) t
outside_wrong {ts0 = ts0} so ts t stack p from h e =
    let (b, is, wrong) = step_wrong stack ts t p h e in
    elim wrong [
      | inl (idle, unopened) ↦ top_wrong (ts0 ++ ts) t b p is unopened (none_open so ts from (idle_open stack ts h idle))
      | inr inner ↦ lift_wrong ts0 ts t b p is inner
    ]

not_idle : (stack : List Frame) → is_top stack ≡ true → is_top stack ≡ false → ⊥
not_idle stack e f = let no : true ≡ false = sym e ∙ f in cc

inside_wrong : {first : Stage} {ts0 : List Token} {fs : List Form} → AreSoFar first ts0 fs → (ts us : List Token) (t : Token)
    (stack : List Frame) (p : Problem) → (first ≡ Start) ⊎ (first ≡ Elements) → IsBehind first ts us → Holds stack us
    → (t ≡ closes closing.Square → is_top stack ≡ false) → step stack t ≡ Err p → IsWrongBehind p (ts0 ++ ts) t
inside_wrong {first} {ts0} so ts us t stack p from behind h unless e =
    let (b, is, wrong) = step_wrong stack us t p h e in
    elim wrong [
      | inl (idle, unopened) ↦
          let (gs, inner) = vector_open so ts us from behind (idle_open stack us h idle) in
          square_wrong (ts0 ++ ts) t b p gs is unopened inner (λ square. not_idle stack idle (unless square))
      | inr inner ↦
          let (vs, whole) = behind_part first ts us behind in
          subst (λ xs. IsWrongBehind p xs t) (append_assoc ts0 vs us ∙ ap (λ xs. ts0 ++ xs) (sym whole))
          (lift_wrong (ts0 ++ vs) us t b p is inner)
    ]

start_wrong : {first : Stage} {ts0 : List Token} {fs : List Form} → AreSoFar first ts0 fs → (ts : List Token) (t : Token)
    (stack : List Frame) (p : Problem) → first ≡ Start → ts ≡ [] → stack ≡ top ∷ [] → step stack t ≡ Err p → IsWrongBehind p (ts0 ++ ts) t
start_wrong at_start ts t stack p is empty idle e =
    let (b, closed, wrong) = step_wrong (top ∷ []) [] t p (refl, none_more) (ap (λ s. step s t) (sym idle) ∙ e) in
    subst (λ xs. IsWrongBehind p xs t) (sym empty)
    (elim wrong [
      | inl (_, unopened) ↦ top_wrong [] t b p closed unopened (refl, ([], no_items))
      | inr inner ↦ lift_wrong [] [] t b p closed inner
    ])
start_wrong (outside other r) ts t stack p is empty idle e = absurd (cc)
start_wrong (inside r) ts t stack p is empty idle e = absurd (cc)

step_of : (stack : List Frame) (t : Token) (line : ℕ) (p : Problem) → Refused stack t (Syntax line p) → p ≢ problem.Depth → step stack t ≡ Err p
step_of stack t line p (inl e) other = e
step_of stack t line p (inr (deep, _, _)) other = absurd (other deep)

wrong_behind : (first stage : Stage) (ts0 ts : List Token) (t : Token) (fs : List Form) (stack : List Frame) (line : ℕ) (p : Problem)
    → AreSoFar first ts0 fs → Leads first stage ts stack → Stops stage t stack (Syntax line p) → p ≢ problem.Depth
    → IsWrongBehind p (ts0 ++ ts) t
wrong_behind first Start ts0 ts t fs stack line p so (is, empty, idle) (_, refused) other =
    start_wrong so ts t stack p is empty idle (step_of stack t line p refused other)
wrong_behind first Forms ts0 ts t fs stack line p so (from, h) refused other =
    outside_wrong so ts t stack p from h (step_of stack t line p refused other)
wrong_behind first Elements ts0 ts t fs stack line p so (from, (us, behind, h)) (unless, refused) other =
    inside_wrong so ts us t stack p from behind h unless (step_of stack t line p refused other)
wrong_behind first Closed ts0 ts t fs stack line p so (idle, inl (is, _)) said other = absurd (not_closed_yet so is)
wrong_behind first Closed ts0 ts t fs stack line p so (idle, inr (from, (vs, ds, behind, d, is))) said other =
    subst (λ q. IsWrongBehind q (ts0 ++ ts) t) (sym said) (after_vector so ts vs ds from behind d is)
wrong_behind first (Failed before) ts0 ts t fs stack line p so leads said other = absurd (not_failed_yet so before leads.0)

-- ---- what is wrong with a text that ends

inner_end : (stack : List Frame) (ts : List Token) → Holds stack ts → is_top stack ≡ false → IsWrongAtEnd (problem_left stack) ts
inner_end [] ts h busy = absurd h
inner_end (top ∷ outer) ts h busy = absurd (let no : true ≡ false = busy in cc)
inner_end (tagged ∷ outer) ts (us, xs, vs, h, before, d, is) busy = tag_open ts us xs vs before d is
inner_end (describing ∷ outer) ts (us, vs, h, d, is) busy = (meta, [], tt, (us, vs, tt, omega arith, no_forms_in d, is))
inner_end (discarding ∷ outer) ts (us, vs, h, d, is) busy = (discard, [], tt, (us, vs, tt, refl, no_forms_in d, is))
inner_end (in_list fs ∷ outer) ts (us, vs, h, r, is) busy = (opening.List, fs, (us, vs, tt, tt, r, is))
inner_end (in_vector fs ∷ outer) ts (us, vs, h, r, is) busy = (opening.Vector, fs, (us, vs, tt, tt, r, is))
inner_end (in_set fs ∷ outer) ts (us, vs, h, r, is) busy = (opening.Set, fs, (us, vs, tt, tt, r, is))
inner_end (in_map namespace ps None ∷ outer) ts (us, vs, h, r, is) busy = let (fs, inner) = map_open namespace ps us vs ts r is in (opening.Map namespace, fs, inner)
inner_end (in_map namespace ps (Some k) ∷ outer) ts (us, vs, ws, ds, h, r, q, d, is) busy =
    let (fs, inner, _) = key_open namespace ps k us vs ws ds ts r (one_item q) d is in (opening.Map namespace, fs, inner)

lift_end : (ts0 ts : List Token) (p : Problem) → IsWrongAtEnd p ts → IsWrongAtEnd p (ts0 ++ ts)
lift_end ts0 ts problem.Unclosed (o, fs, inner) = (o, fs, lift ts0 ts (opens o) fs inner)
lift_end ts0 ts problem.NoForm (o, fs, before, inner) = (o, fs, before, lift ts0 ts o fs inner)
lift_end ts0 ts problem.Unopened never = absurd never
lift_end ts0 ts problem.NoValue never = absurd never
lift_end ts0 ts problem.Token never = absurd never
lift_end ts0 ts problem.Depth never = absurd never
lift_end ts0 ts problem.AfterVector never = absurd never

wrong_end : (first stage : Stage) (ts0 ts : List Token) (fs : List Form) (stack : List Frame) (line : ℕ) (p : Problem)
    → AreSoFar first ts0 fs → Leads first stage ts stack → IsUnfinished stage stack (Syntax line p) → IsWrongAtEnd p (ts0 ++ ts)
wrong_end first Start ts0 ts fs stack line p so leads (inl (busy, _)) = absurd (not_idle stack (ap is_top leads.2) busy)
wrong_end first Start ts0 ts fs stack line p so leads (inr (_, e, _)) = absurd (cc)
wrong_end first Forms ts0 ts fs stack line p so (from, h) (inl (busy, said)) =
    lift_end ts0 ts p (subst (λ q. IsWrongAtEnd q ts) (sym said) (inner_end stack ts h busy))
wrong_end first Forms ts0 ts fs stack line p so leads (inr (_, e, _)) = absurd (cc)
wrong_end first Elements ts0 ts fs stack line p so (from, (us, behind, h)) (inl (busy, said)) =
    let (vs, whole) = behind_part first ts us behind in
    subst (IsWrongAtEnd p) (append_assoc ts0 vs us ∙ ap (λ xs. ts0 ++ xs) (sym whole))
    (lift_end (ts0 ++ vs) us p (subst (λ q. IsWrongAtEnd q us) (sym said) (inner_end stack us h busy)))
wrong_end first Elements ts0 ts fs stack line p so (from, (us, behind, h)) (inr (idle, _, said)) =
    let (gs, inner) = vector_open so ts us from behind (idle_open stack us h idle) in
    subst (λ q. IsWrongAtEnd q (ts0 ++ ts)) (sym said) (opening.Vector, gs, inner)
wrong_end first Closed ts0 ts fs stack line p so leads (inl (busy, _)) = absurd (not_idle stack (ap is_top leads.0) busy)
wrong_end first Closed ts0 ts fs stack line p so leads (inr (_, e, _)) = absurd (cc)
wrong_end first (Failed fault) ts0 ts fs stack line p so leads how = absurd (not_failed_yet so fault leads.0)

unfinished_on : (first stage : Stage) (start : Option (List ℕ)) (ts : List Token) (stack : List Frame)
    → Goes first stage start ts stack → Leads first stage ts stack → (is_top stack ≡ false) ⊎ (stage ≡ Elements)
    → runs first ts ≡ Ok (stack, None) → GoesOn first ts → ⊥
unfolding GoesOn
unfinished_on first stage start ts stack goes leads how here (inl last) = unfinished_last first stage start ts stack goes leads how last
unfinished_on first stage start ts stack goes leads how here (inr (vs, ws, f, e, h)) =
    past_form first vs ws f stack h (ap (runs first) (sym e) ∙ here)

pub how_unfinished : (stage : Stage) (stack : List Frame) (fault : ReadFault) → IsUnfinished stage stack fault
    → (is_top stack ≡ false) ⊎ (stage ≡ Elements)
how_unfinished stage stack fault (inl (busy, _)) = inl busy
how_unfinished stage stack fault (inr (_, e, _)) = inr e

never_whole : (first stage : Stage) (start : Option (List ℕ)) (ts0 ts : List Token) (fs gs : List Form) (stack : List Frame)
    (fault : ReadFault) → AreSoFar first ts0 fs → Goes first stage start ts stack → Leads first stage ts stack
    → IsUnfinished stage stack fault → AreAll (ts0 ++ ts) gs → ⊥
never_whole first Start start ts0 ts fs gs stack fault so goes leads (inl (busy, _)) all = not_idle stack (ap is_top leads.2) busy
never_whole first Start start ts0 ts fs gs stack fault so goes leads (inr (_, e, _)) all = cc
never_whole first Forms start ts0 ts fs gs stack fault so goes leads how all =
    unfinished_on first Forms start ts stack goes leads (how_unfinished Forms stack fault how) goes.1 (left_on so ts gs all)
never_whole first Elements start ts0 ts fs gs stack fault so goes leads how all =
    unfinished_on first Elements start ts stack goes leads (how_unfinished Elements stack fault how) goes.1 (left_on so ts gs all)
never_whole first Closed start ts0 ts fs gs stack fault so goes leads (inl (busy, _)) all = not_idle stack (ap is_top leads.0) busy
never_whole first Closed start ts0 ts fs gs stack fault so goes leads (inr (_, e, _)) all = cc
never_whole first (Failed before) start ts0 ts fs gs stack fault so goes leads how all = not_failed_yet so before leads.0

-- ---- the faults of a text

at_place : (text : List ℕ) (line : ℕ) (p : Problem) (front rest : List ℕ) → text ≡ front ++ rest → line ≡ line_after front
    → HasFault (front ++ rest) (line_after front) p → HasFault text line p
at_place text line p front rest whole at h =
    subst (λ x. HasFault x line p) (sym whole) (subst (λ n. HasFault (front ++ rest) n p) (sym at) h)

some_is : (xs ys : List ℕ) → Some xs ≡ Some ys → xs ≡ ys
some_is xs ys e = cc

-- bytes that begin no token
pub token_fault : (text : List ℕ) (fs : List Form) (r : Reader) (left : Option (List ℕ)) → HasRead text fs r left
    → (stage : Stage) (ts : List Token) (stack : List Frame) (mid : Option (List ℕ)) (fault : ReadFault)
    → ReadsTokens (text_left r left) mid ts → Leads r.stage stage ts stack → IsBadIn text mid fault
    → (IsOfText fault → HasNoToken mid) → IsFaultOf text fault
token_fault text fs r left h stage ts stack mid (Syntax line p) reads leads (front, gap, bytes, whole, is, g, other, wrong, at) none =
    let (ts0, rest0, l, so, now) = h.so_far in
    let (rest, m, same) = subst (λ x. ReadsTokens x mid ts) now reads in
    let lexed = subst (Lexes text (ts0 ++ ts)) (some_is rest (gap ++ bytes) (sym same ∙ is)) (lexes_append l m) in
    let nothing = subst HasNoToken is (none (λ deep. subst (λ q. IsWrongThere q bytes) deep wrong)) in
    at_place text line p front bytes whole at
    (no_token (ts0 ++ ts) front gap bytes (may_go_on r.stage stage ts0 ts fs stack so leads)
    (subst (λ x. Lexes x (ts0 ++ ts) (gap ++ bytes)) whole lexed) g other
    (λ t behind begins. nothing t behind (next gap bytes g begins no_tokens)) wrong)
token_fault text fs r left h stage ts stack mid Device reads leads bad none = tt
token_fault text fs r left h stage ts stack mid Memory reads leads bad none = tt

depth_or : (p : Problem) → (p ≢ problem.Depth) ⊎ (p ≡ problem.Depth)
depth_or problem.Depth = inr refl
depth_or problem.Token = inl (λ e. cc)
depth_or problem.Unclosed = inl (λ e. cc)
depth_or problem.Unopened = inl (λ e. cc)
depth_or problem.NoValue = inl (λ e. cc)
depth_or problem.NoForm = inl (λ e. cc)
depth_or problem.AfterVector = inl (λ e. cc)

-- a token that can't stand there
pub taken_fault : (text : List ℕ) (fs : List Form) (r : Reader) (left : Option (List ℕ)) → HasRead text fs r left
    → (stage : Stage) (ts : List Token) (t : Token) (stack : List Frame) (mid new : Option (List ℕ)) (line : ℕ) (fault : ReadFault)
    → ReadsTokens (text_left r left) mid ts → ReadsToken mid new t → Goes r.stage stage (text_left r left) ts stack
    → Leads r.stage stage ts stack → IsShallow r.stage ts → Stops stage t stack fault → NamesLine line fault → IsAt text new line
    → IsFaultOf text fault
taken_fault text fs r left h stage ts t stack mid new line (Syntax n p) reads token goes leads shallow stops named (front, behind, whole, is, at) =
    let (ts0, rest0, l, so, now) = h.so_far in
    let (rest, m, same) = subst (λ x. ReadsTokens x new (ts ++ t ∷ [])) now (reads_more _ mid new ts t reads token) in
    let lexed =
    subst (λ x. Lexes x (ts0 ++ (ts ++ t ∷ [])) behind) whole
    (subst (Lexes text (ts0 ++ (ts ++ t ∷ []))) (some_is rest behind (sym same ∙ is)) (lexes_append l m)) in
    at_place text n p front behind whole (named ∙ at)
    (elim (depth_or p) [
      | inl other ↦
          other_token (ts0 ++ ts) t front behind (may_go_on r.stage stage ts0 ts fs stack so leads)
          (subst (λ xs. Lexes (front ++ behind) xs behind) (sym (append_assoc ts0 ts (t ∷ []))) lexed)
          (never r.stage stage _ ts0 ts t fs stack (Syntax n p) so goes leads stops other)
          (wrong_behind r.stage stage ts0 ts t fs stack n p so leads stops other)
      | inr deep ↦
          subst (λ q. HasFault (front ++ behind) (line_after front) q) (sym deep)
          (elim (deep_tokens r.stage stage ts t stack (Syntax n p) leads stops deep) [
            | inl failed ↦ absurd (not_failed_yet so _ failed)
            | inr below ↦ too_deep ts0 ts t front behind so lexed below (shallow ts [] (sym (append-nil ts)))
          ])
    ])
taken_fault text fs r left h stage ts t stack mid new line Device reads token goes leads shallow stops named at = tt
taken_fault text fs r left h stage ts t stack mid new line Memory reads token goes leads shallow stops named at = tt

-- the end of the text
pub end_fault : (text : List ℕ) (fs : List Form) (r : Reader) (left : Option (List ℕ)) → HasRead text fs r left
    → (stage : Stage) (ts : List Token) (stack : List Frame) (mid : Option (List ℕ)) (line : ℕ) (fault : ReadFault)
    → ReadsTokens (text_left r left) mid ts → IsBlankLeft mid → Goes r.stage stage (text_left r left) ts stack
    → Leads r.stage stage ts stack → IsUnfinished stage stack fault → NamesLine line fault → line ≡ line_after text
    → IsFaultOf text fault
end_fault text fs r left h stage ts stack mid line (Syntax n p) reads blank goes leads how named at =
    let (ts0, rest0, l, so, now) = h.so_far in
    let (rest, m, same) = subst (λ x. ReadsTokens x mid ts) now reads in
    subst (λ k. HasFault text k p) (sym (named ∙ at))
    (too_short (ts0 ++ ts) rest (may_go_on r.stage stage ts0 ts fs stack so leads) (lexes_append l m) (subst IsBlankLeft same blank)
    (λ gs all. never_whole r.stage stage _ ts0 ts fs gs stack (Syntax n p) so goes leads how all)
    (wrong_end r.stage stage ts0 ts fs stack n p so leads how))
end_fault text fs r left h stage ts stack mid line Device reads blank goes leads how named at = tt
end_fault text fs r left h stage ts stack mid line Memory reads blank goes leads how named at = tt

-- ---- a reader

pub named_now : (stage : Stage) (line : ℕ) (fault : ReadFault) → ((before : ReadFault) → stage ≡ Failed before → ⊥)
    → (stage ≡ Failed fault) ⊎ NamesLine line fault → NamesLine line fault
named_now stage line fault unfailed (inl failed) = absurd (unfailed fault failed)
named_now stage line fault unfailed (inr named) = named

pub no_token_again : (o : Option TokenValue) (t : TokenValue) → o ≡ Some t
    → (λ (r : Result (Option TokenValue) ReadFault). r ≡ Ok None) (Ok o) → ⊥
no_token_again o t e f = cc

pub not_ok : (e : ReadFault) → (λ (r : Result (Option TokenValue) ReadFault). r ≡ Ok None) (Err e) → ⊥
not_ok e f = cc
