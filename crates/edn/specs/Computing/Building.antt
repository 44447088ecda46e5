-- Making forms of tokens. What is open around the next token is a stack, the innermost first.
use Rattle.std.specs.Prelude.{◌≡◌, ◌≤◌, ℕ, suc, List, [], ◌∷◌, ◌++◌, length, take, drop, reverse, Bool, true, false, Option, Some, None, Result, Ok, Err, ◌⊎◌}
use Rattle.edn.specs.declared.builder.Open.{Open}
use Rattle.edn.specs.declared.builder.Open.TheVariants as In
use Rattle.edn.specs.declared.tape.Row.{Row}
use Rattle.edn.specs.declared.tape.Row.TheVariants as Of
use Rattle.edn.specs.declared.read_fault.Problem.{Problem}
use Rattle.edn.specs.declared.read_fault.Problem.TheVariants as problem
use Rattle.edn.specs.declared.read_fault.Refusal.{Refusal}
use Rattle.edn.specs.declared.read_fault.Refusal.TheVariants as refusal
use Rattle.edn.specs.declared.token.Closing.{Closing}
use Rattle.edn.specs.declared.token.Closing.TheVariants as closing
use Rattle.edn.specs.Meaning.Forms.{Form, list, vector, set, entries, forms_of, pairs_of}
use Rattle.edn.specs.Meaning.Keys.{entries_in, name_in}
use Rattle.edn.specs.Meaning.Names.{Namespace}
use Rattle.edn.specs.Meaning.Openings.{Opening}
use Rattle.edn.specs.Meaning.Openings as opening
use Rattle.edn.specs.Meaning.Tapes.{paired}
use Rattle.edn.specs.Meaning.Tokens.{Token, opens, closes, discard, tag, meta, leaf}

-- what is open: nothing, a tag, a `^` whose metadata is to come, a `#_`, or a collection with its forms so far; of a map, a
-- key may lack its value. A `^` whose metadata has come is as a tag
pub data Frame : Type 0 where
  top : Frame
  tagged : Frame
  describing : Frame
  discarding : Frame
  in_list : List Form → Frame
  in_vector : List Form → Frame
  in_set : List Form → Frame
  in_map : Namespace → List (Form × Form) → Option Form → Frame

-- a last key without a value
abbrev pub unpaired : List Form → Option Form
unpaired [] = None
unpaired (k ∷ []) = Some k
unpaired (k ∷ v ∷ fs) = unpaired fs

-- a map whose first form is its namespace
abbrev pub within_frame : List Form → Frame
within_frame [] = in_map (Some []) [] None
within_frame (namespace ∷ fs) = in_map (Some (name_in namespace)) (paired fs) (unpaired fs)

abbrev pub row_frame : Row → List Form → Frame
row_frame Of.List fs = in_list fs
row_frame Of.Vector fs = in_vector fs
row_frame Of.Set fs = in_set fs
row_frame Of.Map fs = in_map None (paired fs) (unpaired fs)
row_frame Of.NamespacedMap fs = within_frame fs

-- so many forms has a row that has so many beside a namespace
abbrev pub width : Row → ℕ → ℕ
width Of.NamespacedMap n = suc n
width _ n = n

-- what is open, the innermost first, with its forms of these, the newest of which come first
abbrev pub frames : List Open → List Form → List Frame
frames [] fs = []
frames (In.Top n ∷ os) fs = top ∷ frames os (drop n fs)
frames (In.Tag ∷ os) fs = tagged ∷ frames os fs
frames (In.Meta ∷ os) fs = describing ∷ frames os fs
frames (In.Discard ∷ os) fs = discarding ∷ frames os fs
frames (In.Row row n ∷ os) fs = row_frame row (reverse (take (width row n) fs)) ∷ frames os (drop (width row n) fs)

abbrev pub outer_of : List Frame → List Frame
outer_of [] = []
outer_of (f ∷ fs) = fs

abbrev pub is_top : List Frame → Bool
is_top [] = true
is_top (top ∷ outer) = true
is_top (tagged ∷ outer) = false
is_top (describing ∷ outer) = false
is_top (discarding ∷ outer) = false
is_top (in_list fs ∷ outer) = false
is_top (in_vector fs ∷ outer) = false
is_top (in_set fs ∷ outer) = false
is_top (in_map namespace ps k ∷ outer) = false

-- what is wrong with a text that ends there
abbrev pub problem_left : List Frame → Problem
problem_left (tagged ∷ outer) = problem.NoForm
problem_left (describing ∷ outer) = problem.NoForm
problem_left (discarding ∷ outer) = problem.NoForm
problem_left _ = problem.Unclosed

-- nothing is open around nothing
abbrev pub or_top : List Frame → List Frame
or_top [] = top ∷ []
or_top (f ∷ fs) = f ∷ fs

-- what is open after a form whose tags these are
abbrev pub leave_tags : List Frame → List Frame
leave_tags [] = top ∷ []
leave_tags (tagged ∷ outer) = leave_tags outer
leave_tags (top ∷ outer) = top ∷ outer
leave_tags (describing ∷ outer) = describing ∷ outer
leave_tags (discarding ∷ outer) = discarding ∷ outer
leave_tags (in_list fs ∷ outer) = in_list fs ∷ outer
leave_tags (in_vector fs ∷ outer) = in_vector fs ∷ outer
leave_tags (in_set fs ∷ outer) = in_set fs ∷ outer
leave_tags (in_map namespace ps k ∷ outer) = in_map namespace ps k ∷ outer

-- what is open next, and the form that is part of no other
abbrev pub Step : Type 0
Step = List Frame × Option Form

-- a key, or the value of the last one
abbrev pub into_map : Frame → Form → Frame
into_map top f = top
into_map tagged f = tagged
into_map describing f = describing
into_map discarding f = discarding
into_map (in_list fs) f = in_list fs
into_map (in_vector fs) f = in_vector fs
into_map (in_set fs) f = in_set fs
into_map (in_map namespace ps None) f = in_map namespace ps (Some f)
into_map (in_map namespace ps (Some k)) f = in_map namespace (ps ++ (k, f) ∷ []) None

abbrev pub into_frame : Frame → List Frame → Form → Step
into_frame top outer f = (top ∷ outer, Some f)
into_frame tagged outer f = (tagged ∷ outer, Some f)
into_frame describing outer f = (tagged ∷ outer, None)
into_frame discarding outer f = (or_top outer, None)
into_frame (in_list fs) outer f = (in_list (fs ++ f ∷ []) ∷ outer, None)
into_frame (in_vector fs) outer f = (in_vector (fs ++ f ∷ []) ∷ outer, None)
into_frame (in_set fs) outer f = (in_set (fs ++ f ∷ []) ∷ outer, None)
into_frame (in_map namespace ps k) outer f = (into_map (in_map namespace ps k) f ∷ outer, None)

abbrev pub into_stack : List Frame → Form → Step
into_stack [] f = ([], Some f)
into_stack (frame ∷ outer) f = into_frame frame outer f

-- a form goes where it belongs
unfoldable pub put : List Frame → Form → Step
put stack f = into_stack (leave_tags stack) f

abbrev pub opened : Opening → Frame
opened opening.List = in_list []
opened opening.Vector = in_vector []
opened opening.Set = in_set []
opened (opening.Map namespace) = in_map namespace [] None

-- what is wrong with a closing bracket
abbrev pub problem_at : Frame → Closing → Option Problem
problem_at top b = Some problem.Unopened
problem_at tagged b = Some problem.NoForm
problem_at describing b = Some problem.NoForm
problem_at discarding b = Some problem.NoForm
problem_at (in_list fs) closing.Round = None
problem_at (in_list fs) closing.Square = Some problem.Unopened
problem_at (in_list fs) closing.Curly = Some problem.Unopened
problem_at (in_vector fs) closing.Round = Some problem.Unopened
problem_at (in_vector fs) closing.Square = None
problem_at (in_vector fs) closing.Curly = Some problem.Unopened
problem_at (in_set fs) closing.Round = Some problem.Unopened
problem_at (in_set fs) closing.Square = Some problem.Unopened
problem_at (in_set fs) closing.Curly = None
problem_at (in_map namespace ps k) closing.Round = Some problem.Unopened
problem_at (in_map namespace ps k) closing.Square = Some problem.Unopened
problem_at (in_map namespace ps k) closing.Curly = None

-- the collection, unless a key lacks its value
abbrev pub collection : Frame → Option Form
collection top = None
collection tagged = None
collection describing = None
collection discarding = None
collection (in_list fs) = Some (list (forms_of fs))
collection (in_vector fs) = Some (vector (forms_of fs))
collection (in_set fs) = Some (set (forms_of fs))
collection (in_map namespace ps None) = Some (entries (pairs_of (entries_in namespace ps)))
collection (in_map namespace ps (Some k)) = None

abbrev pub close_with : Option Problem → Option Form → List Frame → Result Step Problem
close_with (Some p) f outer = Err p
close_with None None outer = Err problem.NoValue
close_with None (Some f) outer = Ok (put outer f)

abbrev pub close : List Frame → Closing → Result Step Problem
close [] b = Err problem.Unopened
close (frame ∷ outer) b = close_with (problem_at frame b) (collection frame) (or_top outer)

-- what a token does, if nothing is nested too deep
unfoldable pub step : List Frame → Token → Result Step Problem
step stack (opens b) = Ok (opened b ∷ stack, None)
step stack (closes b) = close stack b
step stack discard = Ok (discarding ∷ stack, None)
step stack tag = Ok (tagged ∷ stack, None)
step stack meta = Ok (describing ∷ stack, None)
step stack (leaf f) = Ok (put stack f)

-- one more is open
abbrev pub Deepens : List Frame → Result Step Problem → Type 0
Deepens stack (Err p) = ⊥
Deepens stack (Ok ([], o)) = ⊥
Deepens stack (Ok (f ∷ outer, None)) = outer ≡ stack
Deepens stack (Ok (f ∷ outer, Some g)) = ⊥

-- a refused token is refused by this step, or opens what is nested too deep; or memory ran out
abbrev pub Refuses : List Frame → Refusal → Result Step Problem → Type 0
Refuses stack refusal.Memory outcome = Unit {0}
Refuses stack (refusal.Problem p) outcome =
    (outcome ≡ Err p) ⊎ ((p ≡ problem.Depth) × (65 ≤ length stack) × Deepens stack outcome)

-- the step's outcome, and then the tokens that follow it, up to the form that ends with the last of them
abbrev pub go_on : Result Step Problem → (List Frame → Result Step Problem) → List Token → Result Step Problem
go_on (Err p) next ts = Err p
go_on (Ok (stack, None)) next ts = next stack
go_on (Ok (stack, Some f)) next [] = Ok (stack, Some f)
go_on (Ok (stack, Some f)) next (t ∷ ts) = Err problem.AfterVector

-- the tokens one after another
abbrev pub run : List Frame → List Token → Result Step Problem
run stack [] = Ok (stack, None)
run stack (t ∷ ts) = go_on (step stack t) (λ s. run s ts) ts

abbrev pub resume : Result Step Problem → List Token → Result Step Problem
resume outcome ts = go_on outcome (λ s. run s ts) ts
