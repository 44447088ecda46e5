-- Which session a line is of.
use Rattle.std.proofs.Common.{◌≡◌, ℕ, ◌≤◌, ◌<◌, ◌⊎◌, List, Bool, true, false, cond, Option, Some, None, refl, sym, ap, subst, ◌∙◌, length, arith, inl, inr}
use Rattle.std.specs.Prelude.{nat_le, nat_eq}
use Rattle.std.specs.Cmp.Lexicographic.{pointwise, bytes_decides}
use Rattle.std.proofs.lemmas.Bool.{le-leb}
use Rattle.std.proofs.lemmas.Option.{same_Some, none-some}
use Rattle.ssi_store.specs.Meaning.Courses.{Command}
use Rattle.ssi_line.specs.Meaning.Spelling.{Line, Do, Stop, Dump, IsLineOf, IsNoLine, line_text}
use Rattle.ssi_line.specs.Clauses.Reading.{IsOnlyLineOf}
use Rattle.ssi_line.specs.Clauses.Answers.{kept}
use Rattle.ssi_line.specs.Meaning.Steps.{Step, Given, Dumped, NotDumped, Stopped, NotRead, TooLong, IsStepOf}
use Rattle.ssi_cli.specs.Meaning.Users.{session_of, session_in}

-- ---- no command is too long

abbrev pub AreShort : Type 0
AreShort = (c : Command) (text : List ℕ) → IsLineOf (Do c) text → length text ≤ 4096

-- ---- the session of a line, by any step that it makes

abbrev pub session_of_line : Line → Option (List ℕ)
session_of_line (Do c) = session_of c
session_of_line Stop = None
session_of_line Dump = None

kept_by : (fits : Bool) (line text : List ℕ) → cond fits (Some line) None ≡ Some text → line ≡ text
kept_by true line text e = same_Some line text e
kept_by false line text e = absurd (none-some text e)

-- what is kept of a short line is kept of no other line
kept_same : (line text : List ℕ) → length line ≤ 4096 → kept line ≡ kept text → text ≡ line
kept_same line text short same =
    kept_by (nat_le (length text) 4096) text line
    (sym same ∙ ap (λ b. cond b (Some line) None) (le-leb (length line) 4096 short))

stop_line : (text : List ℕ) → text ≡ line_text Stop → IsLineOf Stop text
stop_line text is = record { good = tt; same = is }

dump_line : (text : List ℕ) → text ≡ line_text Dump → IsLineOf Dump text
dump_line text is = record { good = tt; same = is }

by_step : (keeps : Bool) (text : List ℕ) (x : Line) (step : Step) → IsOnlyLineOf x text → length text ≤ 4096
    → IsStepOf keeps text step → session_in step ≡ session_of_line x
by_step keeps text x (Given c a) only short is = ap session_of_line (only.only (Do c) is)
by_step true text x (Dumped h ts) only short is = ap session_of_line (only.only Dump (dump_line text is.0))
by_step false text x (Dumped h ts) only short is = absurd is
by_step true text x NotDumped only short is = ap session_of_line (only.only Dump (dump_line text is))
by_step false text x NotDumped only short is = absurd is
by_step keeps text x Stopped only short is = ap session_of_line (only.only Stop (stop_line text is))
by_step true text x NotRead only short is = absurd (is.1 x only.line)
by_step false text x NotRead only short is = no_dump is.1
  where
    no_dump : IsNoLine text ⊎ (text ≡ line_text Dump) → session_in NotRead ≡ session_of_line x
    no_dump (inl none) = absurd (none x only.line)
    no_dump (inr dump) = ap session_of_line (only.only Dump (dump_line text dump))
by_step keeps text x TooLong only short is = absurd (omega (arith, short, is))

pub line_named : (line : List ℕ) (x : Line) → IsOnlyLineOf x line → length line ≤ 4096
    → (keeps : Bool) (text : List ℕ) (step : Step) → kept line ≡ kept text → IsStepOf keeps text step → session_in step ≡ session_of_line x
line_named line x only short keeps text step same is =
    let text_is = kept_same line text short same in
    by_step keeps line x step only short (subst (λ (l : List ℕ). IsStepOf keeps l step) text_is is)

nothing_named : (keeps : Bool) (text : List ℕ) (step : Step) → IsNoLine text → IsStepOf keeps text step → session_in step ≡ None
nothing_named keeps text (Given c a) none is = absurd (none (Do c) is)
nothing_named keeps text (Dumped h ts) none is = refl
nothing_named keeps text NotDumped none is = refl
nothing_named keeps text Stopped none is = refl
nothing_named keeps text NotRead none is = refl
nothing_named keeps text TooLong none is = refl

pub no_line_named : (line : List ℕ) → IsNoLine line → length line ≤ 4096
    → (keeps : Bool) (text : List ℕ) (step : Step) → kept line ≡ kept text → IsStepOf keeps text step → session_in step ≡ None
no_line_named line none short keeps text step same is =
    let text_is = kept_same line text short same in
    nothing_named keeps line step none (subst (λ (l : List ℕ). IsStepOf keeps l step) text_is is)

too_long : (line text : List ℕ) → 4096 < length line → kept line ≡ kept text → length text ≤ 4096 → ⊥
too_long line text long same short =
    let text_is = kept_same text line short (sym same) in
    absurd (omega (arith, long, short, ap (λ (l : List ℕ). length l) text_is))

pub long_named : AreShort → (line : List ℕ) → 4096 < length line
    → (keeps : Bool) (text : List ℕ) (step : Step) → kept line ≡ kept text → IsStepOf keeps text step → session_in step ≡ None
long_named short line long keeps text (Given c a) same is = absurd (too_long line text long same (short c text is))
long_named short line long keeps text (Dumped h ts) same is = refl
long_named short line long keeps text NotDumped same is = refl
long_named short line long keeps text Stopped same is = refl
long_named short line long keeps text NotRead same is = refl
long_named short line long keeps text TooLong same is = refl

-- ---- who has used a session

-- a session that has its user already
pub has_user : (last : List ℕ → Option ℕ) (t : ℕ) (session s : List ℕ) → last session ≡ Some t
    → last s ≡ cond (pointwise nat_eq session s) (Some t) (last s)
has_user last t session s is = by_name (pointwise nat_eq session s) refl
  where
    by_name : (b : Bool) → pointwise nat_eq session s ≡ b → last s ≡ cond b (Some t) (last s)
    by_name true same = ap last (sym ((bytes_decides session s).0 same)) ∙ is
    by_name false other = refl
