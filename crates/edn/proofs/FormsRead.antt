-- The tokens of a form are read up to its last one.
use Rattle.std.proofs.Common.{◌≡◌, ◌⊎◌, inl, inr, List, [], ◌∷◌, ◌++◌, ℕ, true, false, Option, None, Some, Ok, refl, sym, ap, ◌∙◌, subst}
use Rattle.edn.specs.declared.reader.Stage.{Stage}
use Rattle.edn.specs.declared.reader.Stage.TheVariants.{Start, Forms, Elements, Closed, Failed}
use Rattle.edn.specs.Meaning.Forms.{Form}
use Rattle.edn.specs.declared.token.Closing.TheVariants.{Square}
use Rattle.edn.specs.Meaning.Tokens.{Token, closes, is_square}
use Rattle.edn.specs.Meaning.Grammar.{IsItem}
use Rattle.edn.specs.Meaning.Lexing.{no_tokens}
use Rattle.edn.specs.Meaning.Reading.{ReadsToken, ReadsTokens}
use Rattle.edn.specs.Meaning.Readers.{AreFirst, AreNext, IsFormAt, ReadsForm, begun, stage_after}
use Rattle.edn.specs.Computing.Building.{Frame, top, tagged, describing, discarding, in_list, in_vector, in_set, in_map, is_top, step}
use Rattle.edn.specs.Computing.Stages.{Built, Takes}
use Rattle.edn.proofs.Held.{Holds, Outcome, StepHolds, step_holds, AreDiscarded, none_more}
use Rattle.edn.proofs.LexedTexts.{lexes_more}

-- these tokens, behind the bracket of the vector if that is among the first ones
abbrev pub IsBehind : Stage → List Token → List Token → Type 0
IsBehind Start ts us = (t : Token) × (is_square t ≡ true) × (ts ≡ t ∷ us)
IsBehind Forms ts us = ts ≡ us
IsBehind Elements ts us = ts ≡ us
IsBehind Closed ts us = ts ≡ us
IsBehind (Failed fault) ts us = ts ≡ us

-- the first of the tokens is no `[`
abbrev pub BeginsOther : List Token → Type 0
BeginsOther [] = ⊥
BeginsOther (t ∷ ts) = is_square t ≡ false

-- the last of the tokens has closed the vector, behind discarded forms
abbrev pub HasClosed : Stage → List Token → Type 0
HasClosed first ts =
    ((first ≡ Start) ⊎ (first ≡ Elements)) × ((us ds : List Token) × IsBehind first ts us × AreDiscarded ds
    × (us ≡ ds ++ closes Square ∷ []))

-- how far the tokens have led, from the first stage to the second
abbrev pub Leads : Stage → Stage → List Token → List Frame → Type 0
Leads first Start ts stack = (first ≡ Start) × (ts ≡ []) × (stack ≡ top ∷ [])
Leads first Forms ts stack = (((first ≡ Start) × BeginsOther ts) ⊎ (first ≡ Forms)) × Holds stack ts
Leads first Elements ts stack = ((first ≡ Start) ⊎ (first ≡ Elements)) × ((us : List Token) × IsBehind first ts us × Holds stack us)
Leads first Closed ts stack = (stack ≡ top ∷ []) × (((first ≡ Closed) × (ts ≡ [])) ⊎ HasClosed first ts)
Leads first (Failed fault) ts stack = (first ≡ Failed fault) × (stack ≡ top ∷ []) × (ts ≡ [])

pub leads_here : (stage : Stage) (stack : List Frame) → stack ≡ top ∷ [] → Leads stage stage [] stack
leads_here Start stack e = (refl, refl, e)
leads_here Forms stack e = (inr refl, subst (λ s. Holds s []) (sym e) (refl, none_more))
leads_here Elements stack e = (inr refl, ([], refl, subst (λ s. Holds s []) (sym e) (refl, none_more)))
leads_here Closed stack e = (e, inl (refl, refl))
leads_here (Failed fault) stack e = (refl, e, refl)

pub held_step : (old new : List Frame) (t : Token) (o : Option Form) (ts : List Token) → Holds old ts → step old t ≡ Ok (new, o)
    → Outcome (new, o) (ts ++ t ∷ [])
held_step old new t o ts h e = subst (λ r. StepHolds r (ts ++ t ∷ [])) e (step_holds old t ts h)

pub behind_more : (first : Stage) (ts us : List Token) (t : Token) → IsBehind first ts us → IsBehind first (ts ++ t ∷ []) (us ++ t ∷ [])
behind_more Start ts us t (s, square, e) = (s, square, ap (λ xs. xs ++ t ∷ []) e)
behind_more Forms ts us t e = ap (λ xs. xs ++ t ∷ []) e
behind_more Elements ts us t e = ap (λ xs. xs ++ t ∷ []) e
behind_more Closed ts us t e = ap (λ xs. xs ++ t ∷ []) e
behind_more (Failed fault) ts us t e = ap (λ xs. xs ++ t ∷ []) e

pub holds_start : (stack : List Frame) (ts : List Token) → ts ≡ [] → stack ≡ top ∷ [] → Holds stack ts
holds_start stack ts e f = subst (λ s. Holds s ts) (sym f) (refl, subst AreDiscarded (sym e) none_more)

-- nothing is open but the text
pub only_top : (stack : List Frame) (ts : List Token) → Holds stack ts → is_top stack ≡ true → stack ≡ top ∷ []
only_top [] ts h e = absurd h
only_top (top ∷ outer) ts h e = ap (λ o. top ∷ o) h.0
only_top (tagged ∷ outer) ts h e = absurd (let no : false ≡ true = e in cc)
only_top (describing ∷ outer) ts h e = absurd (let no : false ≡ true = e in cc)
only_top (discarding ∷ outer) ts h e = absurd (let no : false ≡ true = e in cc)
only_top (in_list fs ∷ outer) ts h e = absurd (let no : false ≡ true = e in cc)
only_top (in_vector fs ∷ outer) ts h e = absurd (let no : false ≡ true = e in cc)
only_top (in_set fs ∷ outer) ts h e = absurd (let no : false ≡ true = e in cc)
only_top (in_map namespace ps k ∷ outer) ts h e = absurd (let no : false ≡ true = e in cc)

pub discarded_only : (stack : List Frame) (ts : List Token) → Holds stack ts → is_top stack ≡ true → AreDiscarded ts
discarded_only stack ts h e = (subst (λ s. Holds s ts) (only_top stack ts h e) h).1

pub other_more : (ts : List Token) (t : Token) → BeginsOther ts → BeginsOther (ts ++ t ∷ [])
other_more [] t h = absurd h
other_more (s ∷ ts) t h = h

pub from_more : (first : Stage) (ts : List Token) (t : Token) → ((first ≡ Start) × BeginsOther ts) ⊎ (first ≡ Forms)
    → ((first ≡ Start) × BeginsOther (ts ++ t ∷ [])) ⊎ (first ≡ Forms)
from_more first ts t (inl (e, h)) = inl (e, other_more ts t h)
from_more first ts t (inr e) = inr e

-- a token that ends no form of the text
pub leads_on : (first stage next : Stage) (ts : List Token) (t : Token) (old new : List Frame) (o : Option Form) → o ≡ None
    → Leads first stage ts old → Takes stage t next old new o → Leads first next (ts ++ t ∷ []) new
leads_on first Start next ts t old new o none (is, empty, idle) (inl (vector, to, same, _)) =
    subst (λ n. Leads first n (ts ++ t ∷ []) new) (sym to) (
      inl is,
      (
        [],
        subst (λ s. IsBehind s (ts ++ t ∷ []) []) (sym is) (t, vector, ap (λ xs. xs ++ t ∷ []) empty),
        holds_start new [] refl (same ∙ idle),
      ),
    )
leads_on first Start next ts t old new o none (is, empty, idle) (inr (other, to, built)) =
    subst (λ n. Leads first n (ts ++ t ∷ []) new) (sym to)
    (inl (is, subst (λ xs. BeginsOther (xs ++ t ∷ [])) (sym empty) other), held_step old new t None ts (holds_start old ts empty idle) ((subst (Built old t new) none built).0))
leads_on first Forms next ts t old new o none (from, h) (to, built) =
    subst (λ n. Leads first n (ts ++ t ∷ []) new) (sym to)
    (from_more first ts t from, held_step old new t None ts h ((subst (Built old t new) none built).0))
leads_on first Elements next ts t old new o none (from, (us, behind, h)) (inl (to, square, is_idle, same, _)) =
    subst (λ n. Leads first n (ts ++ t ∷ []) new) (sym to) (
      same ∙ only_top old us h is_idle,
      inr (
        from,
        (
          us ++ t ∷ [],
          us,
          behind_more first ts us t behind,
          discarded_only old us h is_idle,
          ap (λ x. us ++ x ∷ []) square,
        ),
      ),
    )
leads_on first Elements next ts t old new o none (from, (us, behind, h)) (inr (to, built)) =
    subst (λ n. Leads first n (ts ++ t ∷ []) new) (sym to) (
      from,
      (
        us ++ t ∷ [],
        behind_more first ts us t behind,
        held_step old new t None us h ((subst (Built old t new) none built).0),
      ),
    )
leads_on first Closed next ts t old new o none h takes = absurd takes
leads_on first (Failed fault) next ts t old new o none h takes = absurd takes

first_at : (ts : List Token) (P : List Token → Type 0) → BeginsOther ts → P ts → AreNext Start ts P
first_at [] P other h = absurd other
first_at (t ∷ ts) P other h = subst (λ b. AreFirst b t ts P) (sym other) h

pub form_at : (first : Stage) (ts : List Token) (P : List Token → Type 0)
    → ((first ≡ Start) × BeginsOther ts) ⊎ (first ≡ Forms) → P ts → AreNext first ts P
form_at first ts P (inl (e, other)) h = subst (λ s. AreNext s ts P) (sym e) (first_at ts P other h)
form_at first ts P (inr e) h = subst (λ s. AreNext s ts P) (sym e) h

pub element_at : (first : Stage) (ts us : List Token) (P : List Token → Type 0) → (first ≡ Start) ⊎ (first ≡ Elements)
    → IsBehind first ts us → P us → AreNext first ts P
element_at Start ts us P from (t, square, e) h =
    subst (λ xs. AreNext Start xs P) (sym e) (subst (λ b. AreFirst b t us P) (sym square) h)
element_at Forms ts us P from behind h = subst P (sym behind) h
element_at Elements ts us P from behind h = subst P (sym behind) h
element_at Closed ts us P (inl e) behind h = absurd (cc)
element_at Closed ts us P (inr e) behind h = absurd (cc)
element_at (Failed fault) ts us P (inl e) behind h = absurd (cc)
element_at (Failed fault) ts us P (inr e) behind h = absurd (cc)

-- the stage after these tokens
forms_after : (first : Stage) (ts : List Token) → ((first ≡ Start) × BeginsOther ts) ⊎ (first ≡ Forms)
    → stage_after first ts ≡ Forms
forms_after first [] (inl (e, other)) = absurd other
forms_after first (t ∷ ts) (inl (e, other)) = ap (λ s. stage_after s (t ∷ ts)) e ∙ ap begun other
forms_after first ts (inr e) = ap (λ s. stage_after s ts) e

elements_after : (first : Stage) (ts us : List Token) → (first ≡ Start) ⊎ (first ≡ Elements) → IsBehind first ts us
    → stage_after first ts ≡ Elements
elements_after Start ts us from (t, square, e) = ap (stage_after Start) e ∙ ap begun square
elements_after Forms ts us (inl e) behind = absurd (cc)
elements_after Forms ts us (inr e) behind = absurd (cc)
elements_after Elements ts us from behind = refl
elements_after Closed ts us (inl e) behind = absurd (cc)
elements_after Closed ts us (inr e) behind = absurd (cc)
elements_after (Failed fault) ts us (inl e) behind = absurd (cc)
elements_after (Failed fault) ts us (inr e) behind = absurd (cc)

-- a token that ends a form of the text
pub form_is_read : (first stage next : Stage) (ts : List Token) (t : Token) (old new : List Frame) (o : Option Form) (f : Form)
    → o ≡ Some f → Leads first stage ts old → Takes stage t next old new o
    → IsFormAt first (ts ++ t ∷ []) f × (new ≡ top ∷ []) × (next ≡ stage_after first (ts ++ t ∷ []))
form_is_read first Start next ts t old new o f some (is, empty, idle) (inl (vector, to, same, none)) =
    absurd (let no : None ≡ Some f = sym none ∙ some in cc)
form_is_read first Start next ts t old new o f some (is, empty, idle) (inr (other, to, built)) =
    let made = held_step old new t (Some f) ts (holds_start old ts empty idle) ((subst (Built old t new) some built).0) in
    let from = inl (is, subst (λ xs. BeginsOther (xs ++ t ∷ [])) (sym empty) other) in
    (form_at first _ (λ us. IsItem us f) from made.0, made.1, to ∙ sym (forms_after first (ts ++ t ∷ []) from))
form_is_read first Forms next ts t old new o f some (from, h) (to, built) =
    let made = held_step old new t (Some f) ts h ((subst (Built old t new) some built).0) in
    let more = from_more first ts t from in
    (form_at first _ (λ us. IsItem us f) more made.0, made.1, to ∙ sym (forms_after first (ts ++ t ∷ []) more))
form_is_read first Elements next ts t old new o f some (from, (us, behind, h)) (inl (to, _, is_idle, same, none)) =
    absurd (let no : None ≡ Some f = sym none ∙ some in cc)
form_is_read first Elements next ts t old new o f some (from, (us, behind, h)) (inr (to, built)) =
    let made = held_step old new t (Some f) us h ((subst (Built old t new) some built).0) in
    let more = behind_more first ts us t behind in (
      element_at first _ (us ++ t ∷ []) (λ xs. IsItem xs f) from more made.0,
      made.1,
      to ∙ sym (elements_after first (ts ++ t ∷ []) (us ++ t ∷ []) from more),
    )
form_is_read first Closed next ts t old new o f some h takes = absurd takes
form_is_read first (Failed fault) next ts t old new o f some h takes = absurd takes

-- ---- the text

pub reads_none : (left : Option (List ℕ)) → ReadsTokens left left []
reads_none None = tt
reads_none (Some text) = (text, no_tokens, refl)

pub reads_more : (start mid new : Option (List ℕ)) (ts : List Token) (t : Token) → ReadsTokens start mid ts
    → ReadsToken mid new t → ReadsTokens start new (ts ++ t ∷ [])
reads_more None mid new ts t h r = tt
reads_more (Some text) mid new ts t (rest, lexes, is) r =
    let (gap, front, end, g, b, whole, left) = subst (λ m. ReadsToken m new t) is r in
    (end, lexes_more lexes gap front end t whole g b, left)

pub reads_form : (stage next : Stage) (start new : Option (List ℕ)) (ts : List Token) (f : Form) → ReadsTokens start new ts
    → IsFormAt stage ts f → next ≡ stage_after stage ts → ReadsForm stage next start new f
reads_form stage next None new ts f h at to = tt
reads_form stage next (Some text) new ts f (rest, lexes, is) at to = (ts, rest, lexes, at, to, is)
