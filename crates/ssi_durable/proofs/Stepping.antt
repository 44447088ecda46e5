-- What one step adds to a course and to the lines of a log.
use Rattle.std.proofs.Common.{◌≡◌, ◌≢◌, ℕ, ◌≤◌, Bool, true, false, cond, List, [], ◌∷◌, ◌++◌, length, refl, sym, ◌∙◌, ap, subst, arith}
use Rattle.std.specs.Prelude.{not}
use Rattle.std.specs.List.{All}
use Rattle.std.proofs.lemmas.Bool.{false≢true, and_parts}
use Rattle.std.proofs.lemmas.Bool.Decides.{nat_tests}
use Rattle.std.proofs.lemmas.List.Elements.{recursion_from_All, All-from_recursion}
use Rattle.std.specs.List.{AllByRecursion}
use Rattle.adya_keys.specs.Meaning.Keys.{Bytes}
use Rattle.adya_line.specs.Meaning.Lines.{IsPlain}
use Rattle.ssi_log.specs.Meaning.Texts.{HasNoZero}
use Rattle.ssi_conflict.specs.Computing.Steps.{smallest_ordered_pivot}
use Rattle.ssi_store.specs.Meaning.Courses.{Command, Answer, Course, Then}
use Rattle.ssi_store.specs.Meaning.Replies.{IsAnswer}
use Rattle.ssi_line.specs.Meaning.Spelling.{Do, IsLineOf}
use Rattle.ssi_line.specs.Meaning.Steps.{Step, Given, Dumped, NotDumped, Stopped, NotRead, TooLong, IsStepOf, MayFollow, course_with}
use Rattle.ssi_line.specs.Clauses.Counting.{is_stat, is_refusal, counts, logged_course}
use Rattle.ssi_durable.specs.Meaning.Lines.{is_comment}
use Rattle.ssi_durable.specs.Meaning.Replays.{LeadsIf, Leads, Replays}
use Rattle.ssi_durable.specs.Meaning.Logs.{LeadsIfCounted, IsLogged}
use Rattle.ssi_durable.proofs.Stops.{unrefused}

-- ---- what the laws of lines say

abbrev pub AreShort : Type 0
AreShort = (c : Command) (text : Bytes) → IsLineOf (Do c) text → length text ≤ 4096

abbrev pub ArePrinted : Type 0
ArePrinted = (c : Command) (text : Bytes) → IsLineOf (Do c) text → All (λ b. 32 ≤ b) text

abbrev pub AreLettered : Type 0
AreLettered = (c : Command) (text : Bytes) → IsLineOf (Do c) text → (b : ℕ) × (rest : Bytes) × (text ≡ b ∷ rest) × (97 ≤ b)

no_feeds : (text : Bytes) → AllByRecursion (λ b. 32 ≤ b) text → AllByRecursion (λ b. b ≢ 10) text
no_feeds [] p = tt
no_feeds (b ∷ text) p = ((λ e. absurd (omega (arith, e, p.0))), no_feeds text p.1)

no_zeros : (text : Bytes) → AllByRecursion (λ b. 32 ≤ b) text → AllByRecursion (λ b. b ≢ 0) text
no_zeros [] p = tt
no_zeros (b ∷ text) p = ((λ e. absurd (omega (arith, e, p.0))), no_zeros text p.1)

pub plain_of : (text : Bytes) → All (λ b. 32 ≤ b) text → IsPlain text
plain_of text p = All-from_recursion _ text (no_feeds text (recursion_from_All _ text p))

pub clean_of : (text : Bytes) → All (λ b. 32 ≤ b) text → HasNoZero text
clean_of text p = All-from_recursion _ text (no_zeros text (recursion_from_All _ text p))

no_comment_from : (b : ℕ) (rest : Bytes) → 97 ≤ b → is_comment (b ∷ rest) ≡ false
no_comment_from b rest low = grind (arith, nat_tests)

no_comment : AreLettered → (c : Command) (text : Bytes) → IsLineOf (Do c) text → is_comment text ≡ false
no_comment law c text is =
    let (b, rest, e, low) = law c text is in
    ap is_comment e ∙ no_comment_from b rest low

-- ---- steps that count

-- the line of a step that counts is that of a command
pub command_of : (dumps : Bool) (line : Bytes) (step : Step) → counts step ≡ true → IsStepOf dumps line step → (c : Command) × IsLineOf (Do c) line
command_of dumps line (Given c a) e is = (c, is)
command_of dumps line (Dumped h ts) e is = absurd (false≢true e)
command_of dumps line NotDumped e is = absurd (false≢true e)
command_of dumps line Stopped e is = absurd (false≢true e)
command_of dumps line NotRead e is = absurd (false≢true e)
command_of dumps line TooLong e is = absurd (false≢true e)

negated : (b : Bool) → not b ≡ true → b ≡ false
negated true e = absurd (false≢true e)
negated false e = refl

leads_by : AreLettered → (course : Course) (line : Bytes) (c : Command) (a : Answer) → counts (Given c a) ≡ true
    → IsLineOf (Do c) line → IsAnswer smallest_ordered_pivot course c a → Leads course line (Then course c a)
leads_by law course line c a e is answer =
    let none = negated (is_refusal a) (and_parts (not (is_stat c)) (not (is_refusal a)) e).1 in
    let same = unrefused course c a none answer in
    subst (λ (b : Bool). LeadsIf b course line (Then course c a)) (sym (no_comment law c line is)) (record {
      command = c;
      is_line = is;
      carried = ap is_refusal (sym same) ∙ none;
      is_next = ap (λ (x : Answer). Then course c x) same;
    })

leads : (dumps : Bool) → AreLettered → (course : Course) (line : Bytes) (step : Step) → counts step ≡ true → IsStepOf dumps line step
    → MayFollow course step → Leads course line (course_with course step)
leads dumps law course line (Given c a) e is follows = leads_by law course line c a e is follows
leads dumps law course line (Dumped h ts) e is follows = absurd (false≢true e)
leads dumps law course line NotDumped e is follows = absurd (false≢true e)
leads dumps law course line Stopped e is follows = absurd (false≢true e)
leads dumps law course line NotRead e is follows = absurd (false≢true e)
leads dumps law course line TooLong e is follows = absurd (false≢true e)

lead_if : (dumps : Bool) → AreLettered → (course : Course) (line : Bytes) (step : Step) (b : Bool) → counts step ≡ b → IsStepOf dumps line step
    → MayFollow course step
    → LeadsIfCounted b course line (cond b (course_with course step) course)
lead_if dumps law course line step true e is follows = leads dumps law course line step e is follows
lead_if dumps law course line step false e is follows = refl

pub one_logged : (dumps : Bool) → AreLettered → (course : Course) (line : Bytes) (step : Step) → IsStepOf dumps line step → MayFollow course step
    → IsLogged course line step (logged_course course step)
one_logged dumps law course line step is follows =
    record { follows = follows; leads = lead_if dumps law course line step (counts step) refl is follows }

-- ---- lines, and then more

pub replays_on : (start : Course) (a b : List Bytes) (mid end : Course) → Replays start a mid → Replays mid b end
    → Replays start (a ++ b) end
replays_on start [] b mid end p q = subst (λ (c : Course). Replays c b end) p q
replays_on start (l ∷ a) b mid end p q = (p.0, p.1, replays_on p.0 a b mid end p.2 q)
