-- As much is nested as the stack has frames.
use Rattle.std.proofs.Common.{◌≡◌, ◌≤◌, ◌<◌, ◌⊎◌, inl, inr, ℕ, suc, pred, Bool, true, false, List, [], ◌∷◌, ◌++◌, length, Option, None, Some, Result, Ok, Err, refl, sym, ap, ◌∙◌, subst, append_assoc, arith}
use Rattle.edn.specs.declared.read_fault.Problem.{Problem}
use Rattle.edn.specs.declared.read_fault.Problem.TheVariants.{AfterVector, Depth}
use Rattle.edn.specs.declared.read_fault.ReadFault.{ReadFault}
use Rattle.edn.specs.declared.read_fault.ReadFault.TheVariants.{Syntax, Device, Memory}
use Rattle.edn.specs.declared.reader.Stage.{Stage}
use Rattle.edn.specs.declared.reader.Stage.TheVariants.{Start, Forms, Elements, Closed, Failed}
use Rattle.edn.specs.Meaning.Openings as opening
use Rattle.edn.specs.declared.token.Closing.{Closing}
use Rattle.edn.specs.declared.token.Closing.TheVariants as closing
use Rattle.edn.specs.Meaning.Faults.{IsOfDepth}
use Rattle.edn.specs.Meaning.Forms.{Form}
use Rattle.edn.specs.Meaning.Tokens.{Token, opens, closes, discard, tag, meta, leaf}
use Rattle.edn.specs.Meaning.Grammar.{AreItems, no_items, no_item, an_item, ArePairs, no_pairs, no_pair, a_pair}
use Rattle.edn.specs.Meaning.Nesting.{IsBefore, IsOpenAfter, IsOpening, Nests, none_open, one_open, AreTooDeep}
use Rattle.edn.specs.Meaning.Reading.{ReadsToken, ReadsTokens}
use Rattle.edn.specs.Meaning.Readers.{AreNext, IsTooDeep}
use Rattle.edn.specs.Computing.Building.{Frame, top, tagged, describing, discarding, in_list, in_vector, in_set, in_map, Step, Deepens, close, step}
use Rattle.edn.specs.Computing.Stages.{Refused, Says, Stops}
use Rattle.edn.proofs.Held.{AreBefore, by_tag, by_meta, AreDiscarded, Holds, items_append, no_forms_in, one_item}
use Rattle.edn.proofs.FormsRead.{Leads, held_step, holds_start, from_more, behind_more, BeginsOther, form_at, element_at, reads_more}

pub items_of : {ts : List Token} {ps : List (Form × Form)} → ArePairs ts ps → (fs : List Form) × AreItems ts fs
items_of no_pairs = ([], no_items)
items_of (no_pair d r) = let (fs, q) = items_of r in (fs, no_item d q)
items_of (a_pair {us = us} {vs = vs} {ts = ts} {k = k} {v = v} a b r) =
    let (fs, q) = items_of r in
    (k ∷ v ∷ fs, subst (λ xs. AreItems xs (k ∷ v ∷ fs)) (sym (append_assoc us vs ts)) (an_item a (an_item b q)))

-- within what is open around it
within : (outer : List Frame) (us vs ts : List Token) (t : Token) (fs : List Form) → Holds outer us
    → Nests (pred (length outer)) us → IsOpening t → IsOpenAfter t fs → AreItems vs fs → ts ≡ us ++ t ∷ vs → Nests (length outer) ts
within [] us vs ts t fs h around begins none items e = absurd h
within (f ∷ outer) us vs ts t fs h around begins none items e =
    subst (Nests (suc (length outer))) (sym e) (one_open t around begins none items)

-- a tag that is open, or a `^` whose metadata has come
pub before_open : {xs vs : List Token} → AreBefore xs → AreDiscarded vs
    → (t : Token) × (fs : List Form) × (ws : List Token) × IsBefore t × IsOpening t × IsOpenAfter t fs × AreItems ws fs
    × (xs ++ vs ≡ t ∷ ws)
before_open {vs = vs} by_tag d = (tag, [], vs, tt, tt, refl, no_forms_in d, refl)
before_open {vs = vs} (by_meta {ds = ds} {g = g} q) d =
    (meta, g ∷ [], ds ++ vs, tt, tt, omega arith, items_append (one_item q) (no_forms_in d), refl)

nests : (stack : List Frame) (ts : List Token) → Holds stack ts → Nests (pred (length stack)) ts
nests [] ts h = absurd h
nests (top ∷ outer) ts h = subst (λ o. Nests (length o) ts) (sym h.0) (none_open (no_forms_in h.1))
nests (tagged ∷ outer) ts (us, xs, vs, h, b, d, e) =
    let (t, fs, ws, before, begins, room, items, is) = before_open b d in
    within outer us ws ts t fs h (nests outer us h) begins room items (e ∙ ap (λ ys. us ++ ys) is)
nests (describing ∷ outer) ts (us, vs, h, d, e) =
    within outer us vs ts meta [] h (nests outer us h) tt (omega arith) (no_forms_in d) e
nests (discarding ∷ outer) ts (us, vs, h, d, e) = within outer us vs ts discard [] h (nests outer us h) tt refl (no_forms_in d) e
nests (in_list fs ∷ outer) ts (us, vs, h, r, e) = within outer us vs ts (opens opening.List) fs h (nests outer us h) tt tt r e
nests (in_vector fs ∷ outer) ts (us, vs, h, r, e) = within outer us vs ts (opens opening.Vector) fs h (nests outer us h) tt tt r e
nests (in_set fs ∷ outer) ts (us, vs, h, r, e) = within outer us vs ts (opens opening.Set) fs h (nests outer us h) tt tt r e
nests (in_map namespace ps None ∷ outer) ts (us, vs, h, r, e) =
    let (fs, q) = items_of r in
    within outer us vs ts (opens (opening.Map namespace)) fs h (nests outer us h) tt tt q e
nests (in_map namespace ps (Some k) ∷ outer) ts (us, vs, ws, ds, h, r, q, d, e) =
    let (fs, p) = items_of r in
    within outer us (vs ++ (ws ++ ds)) ts (opens (opening.Map namespace)) _ h (nests outer us h) tt tt
    (items_append p (items_append (one_item q) (no_forms_in d))) e

-- ---- a token that is refused for its depth

is_shallow : Result Step Problem → Bool
is_shallow (Err Depth) = false
is_shallow (Err p) = true
is_shallow (Ok s) = true

close_shallow : (stack : List Frame) (b : Closing) → is_shallow (close stack b) ≡ true
unfolding is_shallow
close_shallow [] b = refl
close_shallow (top ∷ outer) b = refl
close_shallow (tagged ∷ outer) b = refl
close_shallow (describing ∷ outer) b = refl
close_shallow (discarding ∷ outer) b = refl
close_shallow (in_list fs ∷ outer) closing.Round = refl
close_shallow (in_list fs ∷ outer) closing.Square = refl
close_shallow (in_list fs ∷ outer) closing.Curly = refl
close_shallow (in_vector fs ∷ outer) closing.Round = refl
close_shallow (in_vector fs ∷ outer) closing.Square = refl
close_shallow (in_vector fs ∷ outer) closing.Curly = refl
close_shallow (in_set fs ∷ outer) closing.Round = refl
close_shallow (in_set fs ∷ outer) closing.Square = refl
close_shallow (in_set fs ∷ outer) closing.Curly = refl
close_shallow (in_map namespace ps k ∷ outer) closing.Round = refl
close_shallow (in_map namespace ps k ∷ outer) closing.Square = refl
close_shallow (in_map namespace ps None ∷ outer) closing.Curly = refl
close_shallow (in_map namespace ps (Some k) ∷ outer) closing.Curly = refl

step_shallow : (stack : List Frame) (t : Token) → is_shallow (step stack t) ≡ true
unfolding is_shallow step
step_shallow stack (opens b) = refl
step_shallow stack (closes b) = close_shallow stack b
step_shallow stack discard = refl
step_shallow stack tag = refl
step_shallow stack meta = refl
step_shallow stack (leaf f) = refl

not_deep : (stack : List Frame) (t : Token) (p : Problem) → step stack t ≡ Err p → p ≡ Depth → ⊥
unfolding is_shallow
not_deep stack t p e deep =
    let no : true ≡ false = sym (step_shallow stack t) ∙ ap is_shallow e ∙ ap (λ q. is_shallow (Err q)) deep in
    cc

deepened : (stack : List Frame) (r : Result Step Problem) → Deepens stack r → (f : Frame) × (r ≡ Ok (f ∷ stack, None))
deepened stack (Err p) d = absurd d
deepened stack (Ok ([], o)) d = absurd d
deepened stack (Ok (f ∷ outer, None)) d = (f, ap (λ o. Ok (f ∷ o, None)) d)
deepened stack (Ok (f ∷ outer, Some g)) d = absurd d

above : (n : ℕ) → 65 ≤ n → 64 < n
above n h = omega (arith, h)

too_deep_with : (stack : List Frame) (ts : List Token) (t : Token) (fault : ReadFault) → Holds stack ts → Refused stack t fault
    → IsOfDepth fault → AreTooDeep (ts ++ t ∷ [])
too_deep_with stack ts t (Syntax line p) h (inl is) deep = absurd (not_deep stack t p is deep)
too_deep_with stack ts t (Syntax line p) h (inr (_, high, d)) deep =
    let (f, is) = deepened stack (step stack t) d in
    (length stack, nests (f ∷ stack) (ts ++ t ∷ []) (held_step stack (f ∷ stack) t None ts h is), above (length stack) high)
too_deep_with stack ts t Device h refused deep = absurd deep
too_deep_with stack ts t Memory h refused deep = absurd deep

not_said : (fault : ReadFault) → Says AfterVector fault → IsOfDepth fault → ⊥
not_said (Syntax line p) said deep = let no : AfterVector ≡ Depth = sym said ∙ deep in cc
not_said Device said deep = said
not_said Memory said deep = said

deep_text : (first : Stage) (start new : Option (List ℕ)) (ts : List Token) → ReadsTokens start new ts
    → AreNext first ts AreTooDeep → IsTooDeep first start
deep_text first None new ts reads deep = tt
deep_text first (Some text) new ts (rest, l, _) deep = (ts, rest, l, deep)

-- a token that is refused for its depth, with those before it
pub deep_tokens : (first stage : Stage) (ts : List Token) (t : Token) (stack : List Frame) (fault : ReadFault)
    → Leads first stage ts stack → Stops stage t stack fault → IsOfDepth fault
    → (first ≡ Failed fault) ⊎ AreNext first (ts ++ t ∷ []) AreTooDeep
deep_tokens first Start ts t stack fault (is, empty, idle) (other, refused) deep =
    inr (form_at first (ts ++ t ∷ []) AreTooDeep (inl (is, subst (λ xs. BeginsOther (xs ++ t ∷ [])) (sym empty) other))
    (too_deep_with stack ts t fault (holds_start stack ts empty idle) refused deep))
deep_tokens first Forms ts t stack fault (from, h) refused deep =
    inr (form_at first (ts ++ t ∷ []) AreTooDeep (from_more first ts t from) (too_deep_with stack ts t fault h refused deep))
deep_tokens first Elements ts t stack fault (from, (us, behind, h)) (_, refused) deep =
    inr (element_at first (ts ++ t ∷ []) (us ++ t ∷ []) AreTooDeep from (behind_more first ts us t behind)
    (too_deep_with stack us t fault h refused deep))
deep_tokens first Closed ts t stack fault leads stops deep = absurd (not_said fault stops deep)
deep_tokens first (Failed before) ts t stack fault leads stops deep = inl (leads.0 ∙ ap Failed (sym stops))

pub too_deep : (first stage : Stage) (start mid new : Option (List ℕ)) (ts : List Token) (t : Token) (stack : List Frame)
    (fault : ReadFault) → Leads first stage ts stack → ReadsTokens start mid ts → ReadsToken mid new t
    → Stops stage t stack fault → IsOfDepth fault → (first ≡ Failed fault) ⊎ IsTooDeep first start
too_deep first stage start mid new ts t stack fault leads reads token stops deep =
    elim (deep_tokens first stage ts t stack fault leads stops deep) [
      | inl failed ↦ inl failed
      | inr below ↦ inr (deep_text first start new (ts ++ t ∷ []) (reads_more start mid new ts t reads token) below)
    ]
