-- Why a line isn't carried out.
use Rattle.std.proofs.Common.{◌≡◌, Bool, true, false, inl, inr, refl, sym, ◌∙◌, ap, subst}
use Rattle.std.specs.Prelude.{Result, Ok, Err, IfErr}
use Rattle.adya_keys.specs.Meaning.Keys.{Bytes}
use Rattle.ssi_conflict.specs.Computing.Steps.{smallest_ordered_pivot}
use Rattle.ssi_store.specs.declared.command.Refusal.{Refusal as RefusalValue}
use Rattle.ssi_store.specs.declared.command.Refusal.TheVariants as For
use Rattle.ssi_store.specs.declared.command.Reply.{Reply}
use Rattle.ssi_store.specs.declared.command.Reply.TheVariants as Gives
use Rattle.ssi_store.specs.Mirror.Commands.{command_of, refusal_of, reply_of}
use Rattle.ssi_store.specs.Meaning.Courses.{Command, Refusal, Busy, Idle, Range, Long, Spent, Memory, Answer, Refused, Course, Then}
use Rattle.ssi_store.specs.Meaning.Replies.{IsAnswer}
use Rattle.ssi_line.specs.Meaning.Spelling.{Line, Do, IsNoLine}
use Rattle.ssi_line.specs.declared.line.Line.{Line as LineValue}
use Rattle.ssi_line.specs.declared.line.Line.TheVariants as Of
use Rattle.ssi_line.specs.Clauses.Reading.{line_of, IsOnlyLineOf}
use Rattle.ssi_store.specs.declared.command.Command.{Command as CommandValue}
use Rattle.ssi_durable.specs.declared.fault.LineFault.{LineFault}
use Rattle.ssi_durable.specs.Meaning.Lines.{is_comment}
use Rattle.ssi_line.specs.Clauses.Counting.{is_refusal}
use Rattle.ssi_durable.specs.Meaning.Replays.{answer_after, IsCarriedOut, LeadsIf, Leads}
use Rattle.ssi_durable.specs.Clauses.Recovery.{IsDamaged, LineFails}
use Rattle.ssi_durable.specs.Machinery.Faults.{fault_of}

-- a line that is no comment leads on by a command alone
carried : (line : Bytes) (course next : Course) → is_comment line ≡ false → Leads course line next → IsCarriedOut course line next
carried line course next e lead = subst (λ (b : Bool). LeadsIf b course line next) e lead

pub comment_leads : (line : Bytes) (course : Course) → is_comment line ≡ true → Leads course line course
comment_leads line course e = subst (λ (b : Bool). LeadsIf b course line course) (sym e) refl

pub command_leads : (line : Bytes) (course next : Course) → is_comment line ≡ false → IsCarriedOut course line next → Leads course line next
command_leads line course next e done = subst (λ (b : Bool). LeadsIf b course line next) (sym e) done

-- no command has the line
pub no_line_damages : (line : Bytes) (course : Course) → is_comment line ≡ false → IsNoLine line → IsDamaged course line
no_line_damages line course e none = λ next lead. let c = carried line course next e lead in none (Do c.command) c.is_line

-- the line asks for something else
pub other_damages : (line : Bytes) (course : Course) (x : Line) → is_comment line ≡ false → ((command : Command) → x ≡ Do command → ⊥)
    → IsOnlyLineOf x line → IsDamaged course line
other_damages line course x e other is = λ next lead.
    let c = carried line course next e lead in
    other c.command (sym (is.only (Do c.command) c.is_line))

same_command : (a b : Command) → Do a ≡ Do b → a ≡ b
same_command a b e = cc

-- the reply to the command is a refusal
pub refused_damages : (line : Bytes) (course : Course) (command : Command) (r : Refusal) → is_comment line ≡ false
    → IsOnlyLineOf (Do command) line → Refused r ≡ answer_after course command → IsDamaged course line
refused_damages line course command r e is refused = λ next lead.
    let c = carried line course next e lead in
    let same = same_command c.command command (is.only (Do c.command) c.is_line) in
    let none : is_refusal (answer_after course command) ≡ false = subst (λ (d : Command). is_refusal (answer_after course d) ≡ false) same c.carried in
    let some : is_refusal (answer_after course command) ≡ true = ap is_refusal (sym refused) in
    absurd (cc (none, some))

by_refusal : (line : Bytes) (course : Course) (command : Command) (r : Refusal) → is_comment line ≡ false
    → IsOnlyLineOf (Do command) line → (r ≡ Memory → ⊥) → IsAnswer smallest_ordered_pivot course command (Refused r) → IsDamaged course line
by_refusal line course command r e is other (inl same) = refused_damages line course command r e is same
by_refusal line course command r e is other (inr ran_out) = absurd (other (cc (ran_out.0)))

pub refusal_fails : (line : Bytes) (course : Course) (command : Command) (r : RefusalValue) → is_comment line ≡ false
    → IsOnlyLineOf (Do command) line → IsAnswer smallest_ordered_pivot course command (Refused (refusal_of r))
    → LineFails course line (fault_of r)
refusal_fails line course command For.Memory e is answer =
    record { command = command; is_line = is.line; no_comment = e; memory = answer }
refusal_fails line course command For.Busy e is answer = by_refusal line course command Busy e is (λ same. absurd (cc same)) answer
refusal_fails line course command For.Idle e is answer = by_refusal line course command Idle e is (λ same. absurd (cc same)) answer
refusal_fails line course command For.Range e is answer = by_refusal line course command Range e is (λ same. absurd (cc same)) answer
refusal_fails line course command For.Long e is answer = by_refusal line course command Long e is (λ same. absurd (cc same)) answer
refusal_fails line course command For.Spent e is answer = by_refusal line course command Spent e is (λ same. absurd (cc same)) answer

reply_is_none : (r : Reply) → is_refusal (reply_of r) ≡ false
reply_is_none (Gives.Begun t) = refl
reply_is_none (Gives.Value v) = refl
reply_is_none Gives.Absent = refl
reply_is_none Gives.Done = refl
reply_is_none (Gives.Rows rows) = refl
reply_is_none Gives.Committed = refl
reply_is_none Gives.Aborted = refl
reply_is_none (Gives.Conflict k t) = refl
reply_is_none (Gives.Unsafe p) = refl
reply_is_none (Gives.Kept n) = refl
reply_is_none (Gives.Stat o k v n) = refl

pub unrefused : (course : Course) (command : Command) (answer : Answer) → is_refusal answer ≡ false
    → IsAnswer smallest_ordered_pivot course command answer → answer ≡ answer_after course command
unrefused course command answer none (inl same) = same
unrefused course command answer none (inr ran_out) =
    let some : is_refusal answer ≡ true = ap is_refusal ran_out.0 in absurd (cc (none, some))

-- the command got a reply, so the line leads on
pub reply_leads : (line : Bytes) (course : Course) (command : Command) (r : Reply) → is_comment line ≡ false
    → IsOnlyLineOf (Do command) line → IsAnswer smallest_ordered_pivot course command (reply_of r)
    → Leads course line (Then course command (reply_of r))
reply_leads line course command r e is answer =
    let same = unrefused course command (reply_of r) (reply_is_none r) answer in
    command_leads line course (Then course command (reply_of r)) e (record {
      command = command;
      is_line = is.line;
      carried = ap is_refusal (sym same) ∙ reply_is_none r;
      is_next = ap (λ (a : Answer). Then course command a) same;
    })

-- the fault that a refusal makes
pub fault_fails : (line : Bytes) (course : Course) (asked : LineValue) (command : CommandValue) (r : RefusalValue) (f : LineFault)
    → is_comment line ≡ false → IsOnlyLineOf (line_of asked) line → asked ≡ Of.Do command
    → IsAnswer smallest_ordered_pivot course (command_of command) (Refused (refusal_of r)) → f ≡ fault_of r → LineFails course line f
fault_fails line course asked command r f e is does answer says =
    let only = subst (λ (x : LineValue). IsOnlyLineOf (line_of x) line) does is in
    subst (LineFails course line) (sym says) (refusal_fails line course (command_of command) r e only answer)

pub err_is : {T E : Type 0} (P : E → Type 0) (r : Result T E) (e : E) → r ≡ Err e → P e → IfErr r P
err_is {T} {E} P r e is p = subst (λ (x : Result T E). IfErr x P) (sym is) p

pub err_of_ok : {T E : Type 0} (P : E → Type 0) (r : Result T E) (x : T) → r ≡ Ok x → IfErr r P
err_of_ok P (Ok y) x is = tt
err_of_ok P (Err e) x is = absurd (cc is)
