-- The answer to a history text.
use Rattle.std.proofs.Common.{◌≡◌, ℕ, true, List, Option, Some, None, IfSome, Ok, refl, subst}
use Rattle.std.proofs.lemmas.List.Elements.{All-contains, All-from_recursion}
use Rattle.adya_values.specs.declared.history.History.{History as HistoryValue}
use Rattle.adya_keys.specs.Meaning.Keys.{IsTxn}
use Rattle.adya_values.specs.Meaning.Histories.{History, Event, Write, Delete, Read, Scan, Commit, Abort}
use Rattle.adya_values.specs.Mirror.Histories.{history_of}
use Rattle.adya_values.specs.Meaning.Events.{commits, is_committed}
use Rattle.adya_values.specs.Clauses.Acceptance.{IsAccepted}
use Rattle.adya_line.specs.Meaning.Limits.{IsEvent}
use Rattle.adya_text.specs.Meaning.Texts.{IsHistory, IsSerial, serial_text}
use Rattle.adya_text.specs.Laws.{HistoriesDiffer}
use Rattle.adya_text.specs.Clauses.Reading.{ReadsHistory}
use Rattle.adya_audit.specs.Clauses.TextVerdicts.{AreAccepted}
use Rattle.adya_audit.specs.Meaning.Serializable.{IsTextOf}
use Rattle.adya_audit.specs.Laws.Texts.{AcceptedTextsAreSerializable}
use Rattle.adya_audit.specs.Clauses.Answers.{Answer, Certificate, Cycle, Refusal, IsAnswerOn, IsAnswer}
use Rattle.lemmas.proofs.Booleans.{cond-positive}
use Rattle.lemmas.proofs.Counts.{count, count_contained}
use Rattle.lemmas.proofs.Members.{recursion-from_contained}
use Rattle.lemmas.proofs.Tests.{list_any-source}
use Rattle.adya_values.proofs.Writes.{commits_txn}
use Rattle.adya_audit.proofs.YesIffTextsAccepted.{one_history}
use Rattle.adya_audit.proofs.TextVerdicts.{text_read, verdict_on_texts}

commit_number : (t : ℕ) (e : Event) → commits t e ≡ true → IsEvent e → IsTxn t
commit_number t (Write u k m v) c is = absurd (cc (c))
commit_number t (Delete u k m) c is = absurd (cc (c))
commit_number t (Read u r v) c is = absurd (cc (c))
commit_number t (Scan u low high es) c is = absurd (cc (c))
commit_number t (Commit u) c is = subst IsTxn (commits_txn t (Commit u) c) is
commit_number t (Abort u) c is = absurd (cc (c))

-- what a history that has a text is accepted with has a text
pub accepted_serial : (h : History) (ts : List ℕ) → IsHistory h → IsAccepted h ts → IsSerial ts
accepted_serial h ts is a =
    recursion-from_contained IsTxn ts (λ t c.
    let e = list_any-source (commits t) h.events
    (cond-positive (is_committed h.events t) (count ts t) (a.committed_once t) (count_contained ts t c)) in
    commit_number t e.0 e.2
    (All-contains IsEvent h.events e.0 (All-from_recursion IsEvent h.events is.events) e.1))

module _ (differ : HistoriesDiffer) (serializable : AcceptedTextsAreSerializable) (text : List ℕ) (h : History)
    (is : IsTextOf text h) where
  accepted_with : (ts : List ℕ) → IsAccepted h ts → AreAccepted text (serial_text ts)
  accepted_with ts a =
      record {
        history = h;
        certificate = ts;
        history_read = is;
        certificate_read = record { is_serial = accepted_serial h ts is.is_history a; same = refl };
        accepted =
            a;
      }

  -- the answer to the history that the text holds is one to the text
  answer_on_text : (a : Answer) → IsAnswerOn h a → IsAnswer text a
  answer_on_text (Certificate ts) r =
      let accepted = accepted_with ts r in (accepted, serializable text (serial_text ts) accepted)
  answer_on_text (Cycle es) r = (
    record { history = h; history_read = is; checked = r.0; cycle = r.1; simple = r.2 },
    λ certificate a.
        let one = one_history differ text a.history h a.history_read is in
        r.3 (a.certificate, subst (λ (x : History). IsAccepted x a.certificate) one a.accepted),
  )
  answer_on_text (Refusal v) r = (
    r.0,
    λ ts serial.
        verdict_on_texts text (serial_text ts) h ts is (record { is_serial = serial; same = refl }) v (r.1 ts),
  )

pub answer_to_text : HistoriesDiffer → AcceptedTextsAreSerializable → (known : Option (List ℕ)) (x : HistoryValue)
    (a : Answer) → IfSome known (λ text. ReadsHistory text (Ok x)) → IsAnswerOn (history_of x) a
    → IfSome known (λ text. IsAnswer text a)
answer_to_text differ serializable None x a r is = tt
answer_to_text differ serializable (Some text) x a r is =
    answer_on_text differ serializable text (history_of x) (text_read text x r) a is
