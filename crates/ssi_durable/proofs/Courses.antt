-- To which course lines lead.
use Rattle.std.proofs.Common.{◌≡◌, Bool, true, false, List, [], ◌∷◌, ◌++◌, refl, sym, ◌∙◌, ap, subst}
use Rattle.adya_keys.specs.Meaning.Keys.{Bytes}
use Rattle.ssi_store.specs.Meaning.Courses.{Command, Course, Then}
use Rattle.ssi_line.specs.Meaning.Spelling.{Line, Do, IsLineOf}
use Rattle.ssi_durable.specs.Meaning.Lines.{is_comment}
use Rattle.ssi_durable.specs.Meaning.Replays.{answer_after, LeadsIf, Leads, Replays}

abbrev pub AskForOneThing : Type 0
AskForOneThing = (x y : Line) (text : Bytes) → IsLineOf x text → IsLineOf y text → x ≡ y

same_command : (a b : Command) → Do a ≡ Do b → a ≡ b
same_command a b e = cc

one_lead : AskForOneThing → (comment : Bool) (course : Course) (line : Bytes) (a b : Course)
    → LeadsIf comment course line a → LeadsIf comment course line b → a ≡ b
one_lead law true course line a b p q = p ∙ sym q
one_lead law false course line a b p q =
    let same = same_command p.command q.command (law (Do p.command) (Do q.command) line p.is_line q.is_line) in
    p.is_next ∙ ap (λ (c : Command). Then course c (answer_after course c)) same ∙ sym q.is_next

pub one_course : AskForOneThing → (start : Course) (lines : List Bytes) (a b : Course) → Replays start lines a
    → Replays start lines b → a ≡ b
one_course law start [] a b p q = p ∙ sym q
one_course law start (line ∷ lines) a b p q =
    let same = one_lead law (is_comment line) start line p.0 q.0 p.1 q.1 in
    one_course law p.0 lines a b p.2 (subst (λ (c : Course). Replays c lines b) (sym same) q.2)

-- and then one line more
pub leads_on : (start : Course) (lines : List Bytes) (course next : Course) (line : Bytes) → Replays start lines course
    → Leads course line next → Replays start (lines ++ (line ∷ [])) next
leads_on start [] course next line p lead = (next, subst (λ (c : Course). Leads c line next) p lead, refl)
leads_on start (l ∷ lines) course next line p lead = (p.0, p.1, leads_on p.0 lines course next line p.2 lead)
