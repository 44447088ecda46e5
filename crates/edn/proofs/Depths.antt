-- How many forms are open, one within the other: as many as the stack has frames, and never more than 64.
use Rattle.std.proofs.Common.{◌≡◌, ◌≤◌, ◌<◌, ◌⊎◌, inl, inr, ℕ, suc, Bool, true, false, List, [], ◌∷◌, ◌++◌, length, Option, None, Some, Result, Ok, Err, refl, sym, ap, ◌∙◌, subst, append-nil, arith}
use Rattle.edn.specs.declared.read_fault.Problem.{Problem}
use Rattle.edn.specs.declared.read_fault.Problem.TheVariants.{Unopened}
use Rattle.edn.specs.declared.read_fault.ReadFault.{ReadFault}
use Rattle.edn.specs.declared.reader.Stage.{Stage}
use Rattle.edn.specs.declared.reader.Stage.TheVariants.{Start, Forms, Elements, Closed, Failed}
use Rattle.edn.specs.Meaning.Openings as opening
use Rattle.edn.specs.declared.token.Closing.{Closing}
use Rattle.edn.specs.Meaning.Faults.{IsOfText}
use Rattle.edn.specs.Meaning.Forms.{Form}
use Rattle.edn.specs.Meaning.Grammar.{AreItems, no_items, no_item, an_item}
use Rattle.edn.specs.Meaning.Names.{Namespace}
use Rattle.edn.specs.Meaning.Nesting.{IsOpenAfter, IsOpening, Nests, none_open, one_open, AreTooDeep}
use Rattle.edn.specs.Meaning.Reading.{HasNoToken, ReadsTokens}
use Rattle.edn.specs.Meaning.Readers.{AreFirst, AreNext, BeginsTooDeep, IsFormAt}
use Rattle.edn.specs.Meaning.Tokens.{Token, opens, closes, discard, tag, meta, leaf, is_square}
use Rattle.edn.specs.Computing.Building.{Frame, top, tagged, describing, discarding, in_list, in_vector, in_set, in_map, Step, close, close_with, collection, into_stack, leave_tags, or_top, problem_at, put, run, resume, step}
use Rattle.edn.specs.Computing.Stages.{Stops, Takes}
use Rattle.edn.proofs.FormsRead.{HasClosed, Leads}
use Rattle.edn.proofs.Held.{no_forms_in}
use Rattle.edn.proofs.ItemsRun.{item_runs, items_run, takes_list, takes_set, takes_vector}
use Rattle.edn.proofs.NoForms.{Goes, IsBegun, begun_more, first_leads, first_token, next_leads, past_form, refused_of, run_append, run_first, runs, runs_append}
use Rattle.edn.proofs.NoTexts.{parted}
use Rattle.edn.proofs.NotOver.{close_run, discards_end, inside_runs}
use Rattle.edn.proofs.OneReading.{same_tokens}

-- ---- no more than 65 frames

leave_few : (s : List Frame) → length s ≤ 65 → length (leave_tags s) ≤ 65
leave_few [] h = omega arith
leave_few (tagged ∷ outer) h = leave_few outer (omega (arith, h))
leave_few (top ∷ outer) h = h
leave_few (describing ∷ outer) h = h
leave_few (discarding ∷ outer) h = h
leave_few (in_list fs ∷ outer) h = h
leave_few (in_vector fs ∷ outer) h = h
leave_few (in_set fs ∷ outer) h = h
leave_few (in_map namespace ps k ∷ outer) h = h

top_few : (s : List Frame) → length s ≤ 65 → length (or_top s) ≤ 65
top_few [] h = omega arith
top_few (f ∷ fs) h = h

into_few : (s : List Frame) (f : Form) → length s ≤ 65 → length ((into_stack s f).0) ≤ 65
into_few [] f h = h
into_few (top ∷ outer) f h = h
into_few (tagged ∷ outer) f h = h
into_few (describing ∷ outer) f h = h
into_few (discarding ∷ outer) f h = top_few outer (omega (arith, h))
into_few (in_list fs ∷ outer) f h = h
into_few (in_vector fs ∷ outer) f h = h
into_few (in_set fs ∷ outer) f h = h
into_few (in_map namespace ps k ∷ outer) f h = h

put_few : (s : List Frame) (f : Form) → length s ≤ 65 → length ((put s f).0) ≤ 65
unfolding put
put_few s f h = into_few (leave_tags s) f (leave_few s h)

abbrev Few : Result Step Problem → Type 0
Few (Ok s) = length s.0 ≤ 65
Few (Err p) = Unit {0}

with_few : (p : Option Problem) (c : Option Form) (s : List Frame) → length s ≤ 65 → Few (close_with p c s)
with_few (Some p) c s h = tt
with_few None None s h = tt
with_few None (Some f) s h = put_few s f h

close_few : (s : List Frame) (b : Closing) → length s ≤ 65 → Few (close s b)
close_few [] b h = tt
close_few (frame ∷ outer) b h = with_few (problem_at frame b) (collection frame) (or_top outer) (top_few outer (omega (arith, h)))

step_few : (s : List Frame) (t : Token) → length s ≤ 65 → (IsOpening t → length s ≤ 64) → Few (step s t)
unfolding step
step_few s (opens b) h few = let less = few tt in omega (arith, less)
step_few s (closes b) h few = close_few s b h
step_few s discard h few = let less = few tt in omega (arith, less)
step_few s tag h few = let less = few tt in omega (arith, less)
step_few s meta h few = let less = few tt in omega (arith, less)
step_few s (leaf f) h few = put_few s f h

pub stack_few : (old new : List Frame) (t : Token) (o : Option Form) → length old ≤ 65 → (IsOpening t → length old ≤ 64)
    → step old t ≡ Ok (new, o) → length new ≤ 65
stack_few old new t o h few e = subst Few e (step_few old t h few)

-- ---- as many are open as tokens nest

discards_in : {ts : List Token} {fs : List Form} → AreItems ts fs → fs ≡ [] → (frame : Frame) (outer : List Frame)
    → run (frame ∷ outer) ts ≡ Ok (frame ∷ outer, None)
unfolding step put
discards_in no_items e frame outer = refl
discards_in (no_item {ds = ds} {ts = ts} d r) e frame outer =
    item_runs d discarding (frame ∷ outer) ts ∙ discards_in r e frame outer
discards_in (an_item q r) e frame outer = absurd (cc)

no_more : (g f : Form) (fs : List Form) → g ∷ fs ≡ f ∷ [] → fs ≡ []
no_more g f fs e = cc

-- the metadata has come
meta_in : {ts : List Token} {fs : List Form} → AreItems ts fs → (f : Form) → fs ≡ f ∷ [] → (outer : List Frame)
    → run (describing ∷ outer) ts ≡ Ok (tagged ∷ outer, None)
unfolding step put
meta_in no_items f e outer = absurd (cc)
meta_in (no_item {ds = ds} {ts = ts} d r) f e outer =
    item_runs d discarding (describing ∷ outer) ts ∙ meta_in r f e outer
meta_in (an_item {ts = ts} {f = g} {fs = fs} q r) f e outer =
    item_runs q describing outer ts ∙ discards_in r (no_more g f fs e) tagged outer

meta_reaches : (us : List Token) (fs : List Form) (stack : List Frame) → length fs ≤ 1 → AreItems us fs
    → (inner : List Frame) × (run (describing ∷ stack) us ≡ Ok (inner, None)) × (length inner ≡ suc (length stack))
meta_reaches us [] stack few items = (describing ∷ stack, discards_in items refl describing stack, refl)
meta_reaches us (f ∷ []) stack few items = (tagged ∷ stack, meta_in items f refl stack, refl)
meta_reaches us (f ∷ g ∷ fs) stack few items = absurd (omega (arith, few))

map_items : {ts : List Token} {fs : List Form} → AreItems ts fs → (namespace : Namespace) (ps : List (Form × Form)) (k : Option Form) (outer : List Frame)
    → (qs : List (Form × Form)) × (j : Option Form) × (run (in_map namespace ps k ∷ outer) ts ≡ Ok (in_map namespace qs j ∷ outer, None))
unfolding step put
map_items no_items namespace ps k outer = (ps, k, refl)
map_items (no_item {ds = ds} {ts = ts} d r) namespace ps k outer =
    let (qs, j, e) = map_items r namespace ps k outer in (qs, j, item_runs d discarding (in_map namespace ps k ∷ outer) ts ∙ e)
map_items (an_item {us = us} {ts = ts} {f = f} q r) namespace ps None outer =
    let (qs, j, e) = map_items r namespace ps (Some f) outer in (qs, j, item_runs q (in_map namespace ps None) outer ts ∙ e)
map_items (an_item {us = us} {ts = ts} {f = f} q r) namespace ps (Some k) outer =
    let (qs, j, e) = map_items r namespace (ps ++ (k, f) ∷ []) None outer in (qs, j, item_runs q (in_map namespace ps (Some k)) outer ts ∙ e)

-- the tokens lead to a stack of so many frames
abbrev Reaches : Result Step Problem → ℕ → Type 0
Reaches r n = (stack : List Frame) × (r ≡ Ok (stack, None)) × (length stack ≡ n)

row_reaches : (c : List Form → Frame) → ((gs : List Form) (f : Form) (outer : List Frame) → put (c gs ∷ outer) f ≡ (c (gs ++ f ∷ []) ∷ outer, None))
    → {ts : List Token} {fs : List Form} → AreItems ts fs → (outer : List Frame) → Reaches (run (c [] ∷ outer) ts) (suc (length outer))
row_reaches c takes {ts} {fs} r outer =
    (c fs ∷ outer, ap (run (c [] ∷ outer)) (sym (append-nil ts)) ∙ items_run c takes r [] outer [], refl)

opening_reaches : (t : Token) (us : List Token) (fs : List Form) (stack : List Frame) → IsOpening t → IsOpenAfter t fs
    → AreItems us fs → Reaches (run stack (t ∷ us)) (suc (length stack))
unfolding step
opening_reaches (opens opening.List) us fs stack begins none items = row_reaches in_list takes_list items stack
opening_reaches (opens opening.Vector) us fs stack begins none items = row_reaches in_vector takes_vector items stack
opening_reaches (opens opening.Set) us fs stack begins none items = row_reaches in_set takes_set items stack
opening_reaches (opens (opening.Map namespace)) us fs stack begins none items =
    let (qs, j, e) = map_items items namespace [] None stack in (in_map namespace qs j ∷ stack, e, refl)
opening_reaches (closes b) us fs stack begins none items = absurd begins
opening_reaches discard us fs stack begins none items = (discarding ∷ stack, discards_in items none discarding stack, refl)
opening_reaches tag us fs stack begins none items = (tagged ∷ stack, discards_in items none tagged stack, refl)
opening_reaches meta us fs stack begins few items = meta_reaches us fs stack few items
opening_reaches (leaf f) us fs stack begins none items = absurd begins

nests_reach : {n : ℕ} {ts : List Token} → Nests n ts → Reaches (run (top ∷ []) ts) (suc n)
nests_reach (none_open items) = (top ∷ [], discards_end items, refl)
nests_reach (one_open {n = n} {ts = ts} {us = us} {fs = fs} t around begins none items) =
    let (stack, e, len) = nests_reach around in
    let (inner, f, more) = opening_reaches t us fs stack begins none items in
    (inner, run_append (top ∷ []) ts (t ∷ us) ∙ ap (λ r. resume r (t ∷ us)) e ∙ f, more ∙ ap suc len)

-- tokens that are nested too deep lead to more than 65 frames
abbrev Deep : Result Step Problem → Type 0
Deep r = (stack : List Frame) × (r ≡ Ok (stack, None)) × (65 < length stack)

too_many : (ts : List Token) → AreTooDeep ts → Deep (run (top ∷ []) ts)
too_many ts (n, nests, deep) = let (stack, e, len) = nests_reach nests in (stack, e, omega (arith, deep, len))

first_many : (b : Bool) (t : Token) (ts : List Token) → AreFirst b t ts AreTooDeep → Deep (run_first b t ts)
first_many true t ts h = too_many ts h
first_many false t ts h = too_many (t ∷ ts) h

next_many : (first : Stage) (ts : List Token) → AreNext first ts AreTooDeep → IsBegun first ts × Deep (runs first ts)
next_many Start [] h = absurd h
next_many Start (t ∷ ts) h = (tt, first_many (is_square t) t ts h)
next_many Forms ts h = (tt, too_many ts h)
next_many Elements ts h = (tt, too_many ts h)
next_many Closed ts h = absurd h
next_many (Failed fault) ts h = absurd h

abbrev stack_in : Result Step Problem → List Frame
stack_in (Ok s) = s.0
stack_in (Err p) = []

not_many : (first : Stage) (ts : List Token) (stack : List Frame) → runs first ts ≡ Ok (stack, None) → length stack ≤ 65
    → AreNext first ts AreTooDeep → ⊥
not_many first ts stack is few h =
    let (_, (deep, e, many)) = next_many first ts h in
    let same : deep ≡ stack = ap stack_in (sym e) ∙ ap stack_in is in
    let len : length deep ≡ length stack = ap length same in
    omega (arith, many, few, len)

-- ---- the tokens so far

-- none of their fronts is nested too deep
abbrev pub IsShallow : Stage → List Token → Type 0
IsShallow first ts = (us vs : List Token) → ts ≡ us ++ vs → AreNext first us AreTooDeep → ⊥

-- nor is the stack too high
abbrev pub StaysShallow : Stage → List Token → List Frame → Type 0
StaysShallow first ts stack = (length stack ≤ 65) × IsShallow first ts

few_top : (stack : List Frame) → stack ≡ top ∷ [] → length stack ≤ 65
few_top stack e = let one : length stack ≡ 1 = ap length e in omega (arith, one)

none_deep : (first : Stage) → AreNext first [] AreTooDeep → ⊥
none_deep Start h = h
none_deep Forms h = not_many Forms [] (top ∷ []) refl (omega arith) h
none_deep Elements h = not_many Elements [] (top ∷ []) refl (omega arith) h
none_deep Closed h = h
none_deep (Failed fault) h = h

front_none : (us vs : List Token) → [] ≡ us ++ vs → us ≡ []
front_none [] vs e = refl
front_none (u ∷ us) vs e = absurd (cc)

pub shallow_here : (first : Stage) (stack : List Frame) → stack ≡ top ∷ [] → StaysShallow first [] stack
shallow_here first stack idle =
    (few_top stack idle, λ us vs e h. none_deep first (subst (λ xs. AreNext first xs AreTooDeep) (front_none us vs e) h))

-- fronts of one token more
last_only : (t k : Token) (ks vs : List Token) → t ∷ [] ≡ k ∷ (ks ++ vs) → k ∷ ks ≡ t ∷ []
last_only t k [] vs e = let same : t ≡ k = cc in ap (λ x. x ∷ []) (sym same)
last_only t k (x ∷ ks) vs e = absurd (cc)

front_more : (ts us vs : List Token) (t : Token) → ts ++ t ∷ [] ≡ us ++ vs
    → ((ks : List Token) × (ts ≡ us ++ ks)) ⊎ (us ≡ ts ++ t ∷ [])
front_more ts us vs t e =
    elim (parted us vs ts (t ∷ []) (sym e)) [
      | inl (ks, before, _) ↦ inl (ks, before)
      | inr ([], before, _) ↦ inl ([], sym (append-nil us ∙ before ∙ append-nil ts))
      | inr (k ∷ ks, before, rest) ↦ inr (before ∙ ap (λ xs. ts ++ xs) (last_only t k ks vs rest))
    ]

shallow_more : (first : Stage) (ts : List Token) (t : Token) → IsShallow first ts
    → (AreNext first (ts ++ t ∷ []) AreTooDeep → ⊥) → IsShallow first (ts ++ t ∷ [])
shallow_more first ts t shallow last us vs e h =
    elim (front_more ts us vs t e) [
      | inl (ks, before) ↦ shallow us ks before h
      | inr whole ↦ last (subst (λ xs. AreNext first xs AreTooDeep) whole h)
    ]

closed_runs : (first : Stage) (ts : List Token) → HasClosed first ts → runs first ts ≡ Err Unopened
closed_runs first ts (from, (us, ds, behind, d, is)) =
    inside_runs first ts us from behind ∙ ap (run (top ∷ [])) is ∙ close_run (no_forms_in d)

refused_few : (first : Stage) (ts : List Token) (p : Problem) → runs first ts ≡ Err p → AreNext first ts AreTooDeep → ⊥
refused_few first ts p e h = let (_, (deep, f, many)) = next_many first ts h in let no : Err p ≡ Ok (deep, None) = sym e ∙ f in cc

not_nil : (ts : List Token) (t : Token) → ts ++ t ∷ [] ≡ [] → ⊥
not_nil [] t e = cc
not_nil (s ∷ ts) t e = cc

last_shallow : (first later : Stage) (start : Option (List ℕ)) (ts : List Token) (t : Token) (stack : List Frame)
    → Goes first later start (ts ++ t ∷ []) stack → Leads first later (ts ++ t ∷ []) stack → length stack ≤ 65
    → AreNext first (ts ++ t ∷ []) AreTooDeep → ⊥
last_shallow first Start start ts t stack goes leads few h = not_nil ts t goes.1
last_shallow first Forms start ts t stack goes leads few h = not_many first (ts ++ t ∷ []) stack goes.1 few h
last_shallow first Elements start ts t stack goes leads few h = not_many first (ts ++ t ∷ []) stack goes.1 few h
last_shallow first Closed start ts t stack goes (_, inl (is, _)) few h = subst (λ s. AreNext s (ts ++ t ∷ []) AreTooDeep) is h
last_shallow first Closed start ts t stack goes (_, inr closed) few h = refused_few first (ts ++ t ∷ []) Unopened (closed_runs first _ closed) h
last_shallow first (Failed fault) start ts t stack goes leads few h = not_nil ts t leads.2

takes_few : (stage later : Stage) (t : Token) (old new : List Frame) (o : Option Form) → Takes stage t later old new o
    → length old ≤ 65 → length new ≤ 65
takes_few Start later t old new o (inl (_, _, same, _)) few = subst (λ s. length s ≤ 65) (sym same) few
takes_few Start later t old new o (inr (_, _, (e, less))) few = stack_few old new t o few less e
takes_few Forms later t old new o (_, (e, less)) few = stack_few old new t o few less e
takes_few Elements later t old new o (inl (_, _, _, same, _)) few = subst (λ s. length s ≤ 65) (sym same) few
takes_few Elements later t old new o (inr (_, (e, less))) few = stack_few old new t o few less e
takes_few Closed later t old new o takes few = absurd takes
takes_few (Failed fault) later t old new o takes few = absurd takes

pub stays_shallow : (first stage later : Stage) (start : Option (List ℕ)) (ts : List Token) (t : Token) (old new : List Frame)
    (o : Option Form) → StaysShallow first ts old → Takes stage t later old new o → Goes first later start (ts ++ t ∷ []) new
    → Leads first later (ts ++ t ∷ []) new → StaysShallow first (ts ++ t ∷ []) new
stays_shallow first stage later start ts t old new o (few, shallow) takes goes leads =
    let still = takes_few stage later t old new o takes few in
    (still, shallow_more first ts t shallow (last_shallow first later start ts t new goes leads still))

-- ---- a text that is nested too deep

-- it doesn't begin with a form
form_many : (first : Stage) (ts us : List Token) (f : Form) → IsFormAt first ts f → AreNext first (ts ++ us) AreTooDeep → ⊥
form_many first ts us f item h = let (_, (deep, e, many)) = next_many first (ts ++ us) h in past_form first ts us f deep item e

pub form_shallow : (first : Stage) (start left : Option (List ℕ)) (ts : List Token) (t : Token) (f : Form) → IsShallow first ts
    → ReadsTokens start left (ts ++ t ∷ []) → IsFormAt first (ts ++ t ∷ []) f → BeginsTooDeep first start → ⊥
form_shallow first None left ts t f shallow reads item deep = absurd deep
form_shallow first (Some text) left ts t f shallow (rest, l, _) item (us, end, m, h) =
    elim (same_tokens l m refl) [
      | inl (vs, e, _) ↦ form_many first (ts ++ t ∷ []) vs f item (subst (λ xs. AreNext first xs AreTooDeep) e h)
      | inr (vs, e, _) ↦ elim (front_more ts us vs t e) [
        | inl (ks, before) ↦ shallow us ks before h
        | inr whole ↦ form_many first (ts ++ t ∷ []) [] f item
            (subst (λ xs. AreNext first xs AreTooDeep) (whole ∙ sym (append-nil (ts ++ t ∷ []))) h)
      ]
    ]

-- nor with a token that is refused for something else
refused_many : (first : Stage) (ts vs : List Token) (p : Problem) → IsBegun first ts → runs first ts ≡ Err p
    → AreNext first (ts ++ vs) AreTooDeep → ⊥
refused_many first ts vs p begun e h =
    refused_few first (ts ++ vs) p (runs_append first ts vs begun ∙ ap (λ r. resume r vs) e) h

stop_shallow : (first : Stage) (start left : Option (List ℕ)) (ts : List Token) (t : Token) (p : Problem) → IsShallow first ts
    → ReadsTokens start left (ts ++ t ∷ []) → runs first (ts ++ t ∷ []) ≡ Err p → BeginsTooDeep first start → ⊥
stop_shallow first None left ts t p shallow reads stops deep = absurd deep
stop_shallow first (Some text) left ts t p shallow (rest, l, _) stops (us, end, m, h) =
    elim (same_tokens l m refl) [
      | inl (vs, e, _) ↦ refused_many first (ts ++ t ∷ []) vs p (begun_more first ts t) stops (subst (λ xs. AreNext first xs AreTooDeep) e h)
      | inr (vs, e, _) ↦ elim (front_more ts us vs t e) [
        | inl (ks, before) ↦ shallow us ks before h
        | inr whole ↦ refused_few first (ts ++ t ∷ []) p stops (subst (λ xs. AreNext first xs AreTooDeep) whole h)
      ]
    ]

closed_begun : (first : Stage) (ts : List Token) → HasClosed first ts → IsBegun first ts
closed_begun Start ts (from, (us, ds, (s, square, e), d, is)) = subst (IsBegun Start) (sym e) tt
closed_begun Forms ts closed = tt
closed_begun Elements ts closed = tt
closed_begun Closed ts closed = tt
closed_begun (Failed fault) ts closed = tt

closed_stops : (first : Stage) (ts : List Token) (t : Token) → HasClosed first ts → runs first (ts ++ t ∷ []) ≡ Err Unopened
closed_stops first ts t closed =
    runs_append first ts (t ∷ []) (closed_begun first ts closed) ∙ ap (λ r. resume r (t ∷ [])) (closed_runs first ts closed)

none_next : (first : Stage) (start : Option (List ℕ)) → (first ≡ Closed) ⊎ ((fault : ReadFault) × (first ≡ Failed fault))
    → BeginsTooDeep first start → ⊥
none_next first None how deep = deep
none_next first (Some text) (inl e) (us, end, m, h) = subst (λ s. AreNext s us AreTooDeep) e h
none_next first (Some text) (inr (fault, e)) (us, end, m, h) = subst (λ s. AreNext s us AreTooDeep) e h

pub refused_shallow : (first stage : Stage) (start left : Option (List ℕ)) (ts : List Token) (t : Token) (stack : List Frame)
    (fault : ReadFault) → IsShallow first ts → ReadsTokens start left (ts ++ t ∷ []) → Goes first stage start ts stack
    → Leads first stage ts stack → Stops stage t stack fault → BeginsTooDeep first start → IsOfText fault → ⊥
refused_shallow first Start start left ts t stack fault shallow reads goes leads (other, refused) deep of_text =
    let (p, e) = refused_of stack t fault refused of_text in
    stop_shallow first start left ts t p shallow reads (first_leads first ts t stack goes other ∙ ap (λ r. resume r []) e) deep
refused_shallow first Forms start left ts t stack fault shallow reads goes leads refused deep of_text =
    let (p, e) = refused_of stack t fault refused of_text in
    stop_shallow first start left ts t p shallow reads (next_leads first ts t stack goes ∙ ap (λ r. resume r []) e) deep
refused_shallow first Elements start left ts t stack fault shallow reads goes leads (_, refused) deep of_text =
    let (p, e) = refused_of stack t fault refused of_text in
    stop_shallow first start left ts t p shallow reads (next_leads first ts t stack goes ∙ ap (λ r. resume r []) e) deep
refused_shallow first Closed start left ts t stack fault shallow reads goes (_, inl (is, _)) said deep of_text =
    none_next first start (inl is) deep
refused_shallow first Closed start left ts t stack fault shallow reads goes (_, inr closed) said deep of_text =
    stop_shallow first start left ts t Unopened shallow reads (closed_stops first ts t closed) deep
refused_shallow first (Failed before) start left ts t stack fault shallow reads goes leads said deep of_text =
    none_next first start (inr (before, leads.0)) deep

-- nor does it end before
pub end_shallow : (first : Stage) (start left : Option (List ℕ)) (ts : List Token) → IsShallow first ts → ReadsTokens start left ts
    → HasNoToken left → BeginsTooDeep first start → ⊥
end_shallow first None left ts shallow reads none deep = absurd deep
end_shallow first (Some text) left ts shallow (rest, l, is) none (us, end, m, h) =
    elim (same_tokens l m refl) [
      | inl ([], e, _) ↦ shallow us [] (sym (append-nil us ∙ e ∙ append-nil ts)) h
      | inl (v ∷ vs, e, n) ↦ (let (after, one) = first_token n in (subst HasNoToken is none) v after one)
      | inr (vs, e, _) ↦ shallow us vs e h
    ]
