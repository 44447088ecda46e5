-- What is exchanged with a client, one part after the other.
use Rattle.std.proofs.Common.{◌≡◌, ℕ, Bool, true, false, cond, List, [], ◌∷◌, ◌++◌, Option, sym, ap, subst, ◌∙◌, append_assoc, append-nil}
use Rattle.std.specs.Prelude.{◌==◌}
use Rattle.std.specs.List.{AllByRecursion}
use Rattle.std.proofs.KnownBytes.{Consumes-nil, Consumes-trans, Appends-nil, Appends-trans}
use Rattle.std.specs.Io.KnownBytes.{Consumes, Appends}
use Rattle.adya_keys.specs.Meaning.Keys.{Bytes}
use Rattle.ssi_hub.specs.Clauses.Calls.{Call, Opened, Received, Ran, Wrote, Closed, sent_by, written_to, all_steps}
use Rattle.ssi_cli.specs.Clauses.Turns.{IsUseOf, Exchanged}

pub all_both : {A : Type 0} (P : A → Type 0) (xs ys : List A) → AllByRecursion P xs → AllByRecursion P ys → AllByRecursion P (xs ++ ys)
all_both P [] ys some more = more
all_both P (x ∷ xs) ys some more = (some.0, all_both P xs ys some.1 more)

pub sent_both : (t : ℕ) (later calls : List Call) → sent_by t (later ++ calls) ≡ sent_by t calls ++ sent_by t later
sent_both t [] calls = sym (append-nil (sent_by t calls))
sent_both t (Opened u ∷ later) calls = sent_both t later calls
sent_both t (Received u bytes ∷ later) calls = by_token (sent_both t later calls) (u == t)
  where
    by_token : sent_by t (later ++ calls) ≡ sent_by t calls ++ sent_by t later → (o : Bool) → cond o (sent_by t (later ++ calls) ++ bytes) (sent_by t (later ++ calls))
        ≡ sent_by t calls ++ cond o (sent_by t later ++ bytes) (sent_by t later)
    by_token both true = ap (λ l. l ++ bytes) both ∙ append_assoc (sent_by t calls) (sent_by t later) bytes
    by_token both false = both
sent_both t (Ran u lines steps ∷ later) calls = sent_both t later calls
sent_both t (Wrote u bytes ∷ later) calls = sent_both t later calls
sent_both t (Closed u ∷ later) calls = sent_both t later calls

pub written_both : (t : ℕ) (later calls : List Call)
    → written_to t (later ++ calls) ≡ written_to t calls ++ written_to t later
written_both t [] calls = sym (append-nil (written_to t calls))
written_both t (Opened u ∷ later) calls = written_both t later calls
written_both t (Received u bytes ∷ later) calls = written_both t later calls
written_both t (Ran u lines steps ∷ later) calls = written_both t later calls
written_both t (Wrote u bytes ∷ later) calls = by_token (written_both t later calls) (u == t)
  where
    by_token : written_to t (later ++ calls) ≡ written_to t calls ++ written_to t later → (o : Bool) → cond o (written_to t (later ++ calls) ++ bytes) (written_to t (later ++ calls))
        ≡ written_to t calls ++ cond o (written_to t later ++ bytes) (written_to t later)
    by_token both true = ap (λ l. l ++ bytes) both ∙ append_assoc (written_to t calls) (written_to t later) bytes
    by_token both false = both
written_both t (Closed u ∷ later) calls = written_both t later calls

pub steps_both : (later calls : List Call) → all_steps (later ++ calls) ≡ all_steps calls ++ all_steps later
steps_both [] calls = sym (append-nil (all_steps calls))
steps_both (Opened u ∷ later) calls = steps_both later calls
steps_both (Received u bytes ∷ later) calls = steps_both later calls
steps_both (Ran u lines steps ∷ later) calls =
    ap (λ l. l ++ steps) (steps_both later calls) ∙ append_assoc (all_steps calls) (all_steps later) steps
steps_both (Wrote u bytes ∷ later) calls = steps_both later calls
steps_both (Closed u ∷ later) calls = steps_both later calls

pub none_exchanged : {S : Type 0} (remaining contents : S → Option Bytes) (t : ℕ) (stream : S)
    → Exchanged remaining contents t stream stream [] []
none_exchanged remaining contents t stream =
    record { uses = tt; read = Consumes-nil (remaining stream); written = Appends-nil (contents stream) }

pub exchanged_both : {S : Type 0} (remaining contents : S → Option Bytes) (t : ℕ) (old mid new : S)
    (calls later : List Call) (dropped : Bytes) → Exchanged remaining contents t old mid calls []
    → Exchanged remaining contents t mid new later dropped → Exchanged remaining contents t old new (later ++ calls) dropped
exchanged_both remaining contents t old mid new calls later dropped first then = record {
  uses = all_both (IsUseOf t) later calls then.uses first.uses;
  read = subst (Consumes (remaining old) (remaining new)) (sym read_is)
      (Consumes-trans (remaining old) (remaining mid) (remaining new) (sent_by t calls) (sent_by t later ++ dropped)
      (subst (Consumes (remaining old) (remaining mid)) (append-nil (sent_by t calls)) first.read) then.read);
  written = subst (Appends (contents old) (contents new)) (sym (written_both t later calls))
      (Appends-trans (contents old) (contents mid) (contents new) (written_to t calls) (written_to t later) first.written then.written);
}
  where
    read_is : sent_by t (later ++ calls) ++ dropped ≡ sent_by t calls ++ (sent_by t later ++ dropped)
    read_is = ap (λ l. l ++ dropped) (sent_both t later calls) ∙ append_assoc (sent_by t calls) (sent_by t later) dropped
