-- Where no form is read, the text begins with none.
use Rattle.std.proofs.Common.{◌≡◌, inl, inr, ℕ, Bool, true, false, List, [], ◌∷◌, ◌++◌, Option, None, Some, Result, Ok, Err, refl, sym, ap, ◌∙◌, subst, append_assoc, append-nil}
use Rattle.edn.specs.declared.read_fault.Problem.{Problem}
use Rattle.edn.specs.declared.read_fault.Problem.TheVariants.{Unopened}
use Rattle.edn.specs.declared.read_fault.ReadFault.{ReadFault}
use Rattle.edn.specs.declared.read_fault.ReadFault.TheVariants.{Syntax, Device, Memory}
use Rattle.edn.specs.declared.reader.Stage.{Stage}
use Rattle.edn.specs.declared.reader.Stage.TheVariants.{Start, Forms, Elements, Closed, Failed}
use Rattle.edn.specs.declared.token.Closing.TheVariants.{Square}
use Rattle.edn.specs.Meaning.Faults.{IsOfText}
use Rattle.edn.specs.Meaning.Forms.{Form}
use Rattle.edn.specs.Meaning.Grammar.{IsItem}
use Rattle.edn.specs.Meaning.Tokens.{Token, closes, is_square}
use Rattle.edn.specs.Meaning.Lexing.{Lexes, no_tokens, next}
use Rattle.edn.specs.Meaning.Reading.{HasNoToken, ReadsToken, ReadsTokens}
use Rattle.edn.specs.Meaning.Readers.{AreFirst, IsFormAt, HasNoForm}
use Rattle.edn.specs.Computing.Building.{Frame, top, Step, step, go_on, run, resume}
use Rattle.edn.specs.Computing.Stages.{Built, Refused, Stops, Takes}
use Rattle.edn.proofs.FormsRead.{Leads}
use Rattle.edn.proofs.OneReading.{same_tokens, made, is_made}

-- ---- where tokens lead

resumed : (r : Result Step Problem) (ts us : List Token) → ((s : List Frame) → run s (ts ++ us) ≡ resume (run s ts) us)
    → go_on r (λ s. run s (ts ++ us)) (ts ++ us) ≡ resume (go_on r (λ s. run s ts) ts) us
resumed (Err p) ts us h = refl
resumed (Ok (s, None)) ts us h = h s
resumed (Ok (s, Some f)) [] us h = refl
resumed (Ok (s, Some f)) (t ∷ ts) us h = refl

pub run_append : (old : List Frame) (ts us : List Token) → run old (ts ++ us) ≡ resume (run old ts) us
run_append old [] us = refl
run_append old (t ∷ ts) us = resumed (step old t) ts us (λ s. run_append s ts us)

-- a `[` at the front is passed over
abbrev pub run_first : Bool → Token → List Token → Result Step Problem
run_first true t ts = run (top ∷ []) ts
run_first false t ts = run (top ∷ []) (t ∷ ts)

-- where they lead a reader that is at this stage
abbrev pub runs : Stage → List Token → Result Step Problem
runs Start [] = Ok (top ∷ [], None)
runs Start (t ∷ ts) = run_first (is_square t) t ts
runs Forms ts = run (top ∷ []) ts
runs Elements ts = run (top ∷ []) ts
runs Closed ts = run (top ∷ []) ts
runs (Failed fault) ts = run (top ∷ []) ts

-- it is known whether the text begins with `[`
abbrev pub IsBegun : Stage → List Token → Type 0
IsBegun Start [] = ⊥
IsBegun Start (t ∷ ts) = Unit {0}
IsBegun Forms ts = Unit {0}
IsBegun Elements ts = Unit {0}
IsBegun Closed ts = Unit {0}
IsBegun (Failed fault) ts = Unit {0}

pub begun_more : (first : Stage) (ts : List Token) (t : Token) → IsBegun first (ts ++ t ∷ [])
begun_more Start [] t = tt
begun_more Start (s ∷ ts) t = tt
begun_more Forms ts t = tt
begun_more Elements ts t = tt
begun_more Closed ts t = tt
begun_more (Failed fault) ts t = tt

first_append : (b : Bool) (t : Token) (ts us : List Token) → run_first b t (ts ++ us) ≡ resume (run_first b t ts) us
first_append true t ts us = run_append (top ∷ []) ts us
first_append false t ts us = run_append (top ∷ []) (t ∷ ts) us

pub runs_append : (first : Stage) (ts us : List Token) → IsBegun first ts → runs first (ts ++ us) ≡ resume (runs first ts) us
runs_append Start [] us begun = absurd begun
runs_append Start (t ∷ ts) us begun = first_append (is_square t) t ts us
runs_append Forms ts us begun = run_append (top ∷ []) ts us
runs_append Elements ts us begun = run_append (top ∷ []) ts us
runs_append Closed ts us begun = run_append (top ∷ []) ts us
runs_append (Failed fault) ts us begun = run_append (top ∷ []) ts us

first_runs : (b : Bool) (t : Token) (ts : List Token) (f : Form) → AreFirst b t ts (λ us. IsItem us f)
    → run_first b t ts ≡ Ok (top ∷ [], Some f)
first_runs true t ts f h = made h
first_runs false t ts f h = made h

-- those of a form lead to it
form_runs : (first : Stage) (ts : List Token) (f : Form) → IsFormAt first ts f
    → IsBegun first ts × (runs first ts ≡ Ok (top ∷ [], Some f))
form_runs Start [] f h = absurd h
form_runs Start (t ∷ ts) f h = (tt, first_runs (is_square t) t ts f h)
form_runs Forms ts f h = (tt, made h)
form_runs Elements ts f h = (tt, made h)
form_runs Closed ts f h = absurd h
form_runs (Failed fault) ts f h = absurd h

is_stack : Result Step Problem → Bool
is_stack (Ok (stack, None)) = true
is_stack (Ok (stack, Some f)) = false
is_stack (Err p) = false

pub no_stack : (f : Form) (ts : List Token) (stack : List Frame) → resume (Ok (top ∷ [], Some f)) ts ≡ Ok (stack, None) → ⊥
unfolding is_stack
no_stack f [] stack e = let no : false ≡ true = ap is_stack e in cc
no_stack f (t ∷ ts) stack e = let no : false ≡ true = ap is_stack e in cc

-- so tokens that begin with those of a form lead to more than a stack
pub past_form : (first : Stage) (ts us : List Token) (f : Form) (stack : List Frame) → IsFormAt first ts f
    → runs first (ts ++ us) ≡ Ok (stack, None) → ⊥
past_form first ts us f stack h e =
    let (begun, is) = form_runs first ts f h in
    no_stack f us stack (ap (λ r. resume r us) (sym is) ∙ sym (runs_append first ts us begun) ∙ e)

-- and the first tokens of a form aren't refused
pub before_refused : (first : Stage) (ts us : List Token) (f : Form) (p : Problem) → IsBegun first ts → runs first ts ≡ Err p
    → IsFormAt first (ts ++ us) f → ⊥
unfolding is_made
before_refused first ts us f p begun e h =
    let no : false ≡ true =
    ap is_made (ap (λ r. resume r us) (sym e) ∙ sym (runs_append first ts us begun) ∙ (form_runs first (ts ++ us) f h).1) in
    cc

-- ---- the text

-- no form has these tokens, and then one with which the text goes on
abbrev Bars : Stage → List Token → Option (List ℕ) → Type 0
Bars first ts None = Unit {0}
Bars first ts (Some text) =
    (t : Token) (us : List Token) (end : List ℕ) (f : Form) → Lexes text (t ∷ us) end → IsFormAt first (ts ++ t ∷ us) f → ⊥

none_behind : (first : Stage) (text end : List ℕ) (ts us vs : List Token) (stack : List Frame) (f : Form)
    → runs first ts ≡ Ok (stack, None) → Bars first ts (Some text) → us ≡ ts ++ vs → Lexes text vs end → IsFormAt first us f → ⊥
none_behind first text end ts us [] stack f is bars e l h =
    past_form first us [] f stack h (ap (runs first) (append-nil us ∙ e ∙ append-nil ts) ∙ is)
none_behind first text end ts us (t ∷ vs) stack f is bars e l h =
    bars t vs end f l (subst (λ xs. IsFormAt first xs f) e h)

no_form : (first : Stage) (start left : Option (List ℕ)) (ts : List Token) (stack : List Frame)
    → runs first ts ≡ Ok (stack, None) → ReadsTokens start left ts → Bars first ts left → HasNoForm first start
no_form first None left ts stack is reads bars f begins = begins
no_form first (Some text) left ts stack is (rest, l, e) bars f (us, end, m, h) =
    elim (same_tokens l m refl) [
      | inl (vs, more, n) ↦ none_behind first rest end ts us vs stack f is (subst (Bars first ts) e bars) more n h
      | inr (vs, less, _) ↦ past_form first us vs f stack h (ap (runs first) (sym less) ∙ is)
    ]

pub first_token : {text end : List ℕ} {t : Token} {us : List Token} → Lexes text (t ∷ us) end → (rest : List ℕ) × Lexes text (t ∷ []) rest
first_token (next {rest = rest} gap front g h l) = (rest, next gap front g h no_tokens)

ends : (first : Stage) (ts : List Token) (left : Option (List ℕ)) → HasNoToken left → Bars first ts left
ends first ts None none = tt
ends first ts (Some text) none = λ t us end f l h. let (rest, one) = first_token l in none t rest one

pub same_first : {text other end rest : List ℕ} {s t : Token} {us : List Token} → Lexes text (s ∷ us) end
    → Lexes other (t ∷ []) rest → text ≡ other → s ≡ t
same_first {s = s} {t = t} {us = us} l m e =
    elim (same_tokens l m e) [
      | inl (vs, is, _) ↦ let all : t ∷ [] ≡ s ∷ (us ++ vs) = is in cc
      | inr (vs, is, _) ↦ let all : s ∷ us ≡ t ∷ vs = is in cc
    ]

refuses : (first : Stage) (ts : List Token) (mid new : Option (List ℕ)) (t : Token) (p : Problem)
    → runs first (ts ++ t ∷ []) ≡ Err p → ReadsToken mid new t → Bars first ts mid
refuses first ts None new t p e reads = tt
refuses first ts (Some text) new t p e (gap, front, rest, g, h, whole, _) = λ s us end f l at.
    let one : s ≡ t = same_first l (next gap front g h no_tokens) whole in
    before_refused first (ts ++ t ∷ []) us f p (begun_more first ts t) e
    (subst (λ xs. IsFormAt first xs f) (ap (λ x. ts ++ x ∷ us) one ∙ sym (append_assoc ts (t ∷ []) us)) at)

-- ---- a reader

-- how far these tokens have led, from the first stage to the second
abbrev pub Goes : Stage → Stage → Option (List ℕ) → List Token → List Frame → Type 0
Goes first Start start ts stack = (first ≡ Start) × (ts ≡ []) × (stack ≡ top ∷ [])
Goes first Forms start ts stack = IsBegun first ts × (runs first ts ≡ Ok (stack, None))
Goes first Elements start ts stack = IsBegun first ts × (runs first ts ≡ Ok (stack, None))
Goes first Closed start ts stack = HasNoForm first start
Goes first (Failed fault) start ts stack = HasNoForm first start

none_closed : (start : Option (List ℕ)) → HasNoForm Closed start
none_closed None f h = h
none_closed (Some text) f (ts, rest, l, h) = h

pub none_failed : (start : Option (List ℕ)) (fault : ReadFault) → HasNoForm (Failed fault) start
none_failed None fault f h = h
none_failed (Some text) fault f (ts, rest, l, h) = h

pub goes_here : (stage : Stage) (start : Option (List ℕ)) (stack : List Frame) → stack ≡ top ∷ [] → Goes stage stage start [] stack
goes_here Start start stack e = (refl, refl, e)
goes_here Forms start stack e = (tt, ap (λ s. Ok (s, None)) (sym e))
goes_here Elements start stack e = (tt, ap (λ s. Ok (s, None)) (sym e))
goes_here Closed start stack e = none_closed start
goes_here (Failed fault) start stack e = none_failed start fault

-- the first token, if it isn't `[`, and a later one
pub first_leads : (first : Stage) (ts : List Token) (t : Token) (stack : List Frame) → (first ≡ Start) × (ts ≡ []) × (stack ≡ top ∷ [])
    → is_square t ≡ false → runs first (ts ++ t ∷ []) ≡ resume (step stack t) []
first_leads first ts t stack (is, empty, idle) other =
    ap (λ s. runs s (ts ++ t ∷ [])) is ∙ ap (λ xs. runs Start (xs ++ t ∷ [])) empty ∙ ap (λ b. run_first b t []) other
    ∙ ap (λ s. resume (step s t) []) (sym idle)

pub next_leads : (first : Stage) (ts : List Token) (t : Token) (stack : List Frame)
    → IsBegun first ts × (runs first ts ≡ Ok (stack, None)) → runs first (ts ++ t ∷ []) ≡ resume (step stack t) []
next_leads first ts t stack (begun, is) = runs_append first ts (t ∷ []) begun ∙ ap (λ r. resume r (t ∷ [])) is

stepped : (old : List Frame) (t : Token) (stack : List Frame) (o : Option Form) → o ≡ None → Built old t stack o
    → resume (step old t) [] ≡ Ok (stack, None)
stepped old t stack o none built = ap (λ r. resume r []) ((subst (Built old t stack) none built).0)

closes_nothing : (stack : List Frame) (t : Token) → stack ≡ top ∷ [] → t ≡ closes Square → step stack t ≡ Err Unopened
unfolding step
closes_nothing stack t idle square = ap (λ s. step s t) idle ∙ ap (step (top ∷ [])) square

-- a token that is taken and ends no form
pub goes_on : (first stage following : Stage) (start mid new : Option (List ℕ)) (ts : List Token) (t : Token)
    (old stack : List Frame) (o : Option Form) → o ≡ None → Goes first stage start ts old → ReadsTokens start mid ts
    → ReadsToken mid new t → Takes stage t following old stack o → Leads first following (ts ++ t ∷ []) stack
    → Goes first following start (ts ++ t ∷ []) stack
goes_on first Start following start mid new ts t old stack o none goes reads token (inl (vector, to, same, _)) leads =
    subst (λ n. Goes first n start (ts ++ t ∷ []) stack) (sym to) (
      begun_more first ts t,
      ap (λ s. runs s (ts ++ t ∷ [])) goes.0 ∙ ap (λ xs. runs Start (xs ++ t ∷ [])) goes.1 ∙ ap (λ b. run_first b t []) vector
          ∙ ap (λ s. Ok (s, None)) (sym (same ∙ goes.2)),
    )
goes_on first Start following start mid new ts t old stack o none goes reads token (inr (other, to, built)) leads =
    subst (λ n. Goes first n start (ts ++ t ∷ []) stack) (sym to)
    (begun_more first ts t, first_leads first ts t old goes other ∙ stepped old t stack o none built)
goes_on first Forms following start mid new ts t old stack o none goes reads token (to, built) leads =
    subst (λ n. Goes first n start (ts ++ t ∷ []) stack) (sym to)
    (begun_more first ts t, next_leads first ts t old goes ∙ stepped old t stack o none built)
goes_on first Elements following start mid new ts t old stack o none goes reads token (inl (to, square, _, same, _)) leads =
    let idle : old ≡ top ∷ [] = sym same ∙ (subst (λ n. Leads first n (ts ++ t ∷ []) stack) to leads).0 in
    subst (λ n. Goes first n start (ts ++ t ∷ []) stack) (sym to)
    (no_form first start mid ts old goes.1 reads
    (refuses first ts mid new t Unopened
    (next_leads first ts t old goes ∙ ap (λ r. resume r []) (closes_nothing old t idle square)) token))
goes_on first Elements following start mid new ts t old stack o none goes reads token (inr (to, built)) leads =
    subst (λ n. Goes first n start (ts ++ t ∷ []) stack) (sym to)
    (begun_more first ts t, next_leads first ts t old goes ∙ stepped old t stack o none built)
goes_on first Closed following start mid new ts t old stack o none goes reads token takes leads = absurd takes
goes_on first (Failed fault) following start mid new ts t old stack o none goes reads token takes leads = absurd takes

pub start_leads : (first : Stage) (ts : List Token) (stack : List Frame) → (first ≡ Start) × (ts ≡ []) × (stack ≡ top ∷ [])
    → runs first ts ≡ Ok (stack, None)
start_leads first ts stack (is, empty, idle) =
    ap (λ s. runs s ts) is ∙ ap (runs Start) empty ∙ ap (λ s. Ok (s, None)) (sym idle)

pub refused_of : (stack : List Frame) (t : Token) (fault : ReadFault) → Refused stack t fault → IsOfText fault
    → (p : Problem) × (step stack t ≡ Err p)
refused_of stack t (Syntax line p) (inl is) of_text = (p, is)
refused_of stack t (Syntax line p) (inr deep) of_text = absurd (of_text deep.0)
refused_of stack t Device refused of_text = absurd of_text
refused_of stack t Memory refused of_text = absurd of_text

-- a token that is refused
pub stopped : (first stage : Stage) (start mid new : Option (List ℕ)) (ts : List Token) (t : Token) (stack : List Frame)
    (fault : ReadFault) → Goes first stage start ts stack → ReadsTokens start mid ts → ReadsToken mid new t
    → Stops stage t stack fault → IsOfText fault → HasNoForm first start
stopped first Start start mid new ts t stack fault goes reads token (other, refused) of_text =
    let (p, e) = refused_of stack t fault refused of_text in
    no_form first start mid ts stack (start_leads first ts stack goes) reads
    (refuses first ts mid new t p (first_leads first ts t stack goes other ∙ ap (λ r. resume r []) e) token)
stopped first Forms start mid new ts t stack fault goes reads token refused of_text =
    let (p, e) = refused_of stack t fault refused of_text in
    no_form first start mid ts stack goes.1 reads
    (refuses first ts mid new t p (next_leads first ts t stack goes ∙ ap (λ r. resume r []) e) token)
stopped first Elements start mid new ts t stack fault goes reads token (_, refused) of_text =
    let (p, e) = refused_of stack t fault refused of_text in
    no_form first start mid ts stack goes.1 reads
    (refuses first ts mid new t p (next_leads first ts t stack goes ∙ ap (λ r. resume r []) e) token)
stopped first Closed start mid new ts t stack fault goes reads token stops of_text = goes
stopped first (Failed before) start mid new ts t stack fault goes reads token stops of_text = goes

-- no token follows
pub ended : (first stage : Stage) (start left : Option (List ℕ)) (ts : List Token) (stack : List Frame)
    → Goes first stage start ts stack → ReadsTokens start left ts → HasNoToken left → HasNoForm first start
ended first Start start left ts stack goes reads none =
    no_form first start left ts stack (start_leads first ts stack goes) reads (ends first ts left none)
ended first Forms start left ts stack goes reads none = no_form first start left ts stack goes.1 reads (ends first ts left none)
ended first Elements start left ts stack goes reads none = no_form first start left ts stack goes.1 reads (ends first ts left none)
ended first Closed start left ts stack goes reads none = goes
ended first (Failed fault) start left ts stack goes reads none = goes
