-- When a verdict on texts is yes.
use Rattle.std.proofs.Common.{◌≡◌, ◌↔◌, ℕ, ◌<◌, ◌==◌, true, List, [], ◌∷◌, length, Option, Some, None, IfSome, refl, sym, ◌∙◌, ap, subst, not, arith}
use Rattle.std.specs.List.{AllByRecursion, list_all}
use Rattle.std.proofs.lemmas.Bool.{and_from}
use Rattle.adya_values.specs.Meaning.Histories.{History, Order}
use Rattle.adya_values.specs.Computing.Shapes.{is_shape}
use Rattle.adya_values.specs.Clauses.Acceptance.{IsAccepted}
use Rattle.adya_line.specs.Meaning.Limits.{IsOrder}
use Rattle.adya_text.specs.declared.read_fault.Text.TheVariants as Of
use Rattle.adya_text.specs.Meaning.Texts.{IsHistory, history_lines, serial_lines}
use Rattle.adya_text.specs.Clauses.Grammars.{AreHistoryLines, AreSerialLines}
use Rattle.adya_text.specs.Clauses.Faults.{IsFaultLine}
use Rattle.adya_text.specs.Laws.{HistoriesDiffer, SerialsDiffer, HasNoFaultWithin}
use Rattle.adya_audit.specs.declared.verdict.Verdict.{Verdict as VerdictValue}
use Rattle.adya_audit.specs.declared.verdict.Verdict.TheVariants as Said
use Rattle.adya_audit.specs.Meaning.Verdicts.{Verdict, Yes, Syntax, Malformed, AbortedRead, IntermediateRead, NotTheCommitted, Backward}
use Rattle.adya_audit.specs.Computing.Verdicts.{plain_verdict}
use Rattle.adya_audit.specs.Laws.Verdicts.{YesIffAccepted, AcceptedIsSerializable}
use Rattle.adya_audit.specs.Clauses.TextVerdicts.{HaveVerdict, IsVerdictOn, AreAccepted}
use Rattle.adya_audit.specs.Meaning.Serializable.{IsTextOf, IsSerialTextOf}
use Rattle.adya_audit.specs.Laws.Texts.{YesIffTextsAccepted, AcceptedTextsAreSerializable, AcceptedTextsGetYes}
use Rattle.adya_audit.proofs.YesIffAccepted.{plain_yes}

has_writer : (n : ℕ) → 0 < n → not (n == 0) ≡ true
has_writer n h = grind (arith, h)

have_writers : (os : List Order) → AllByRecursion IsOrder os → list_all (λ o. not (length o.writers == 0)) os ≡ true
have_writers [] all = refl
have_writers (o ∷ os) all = and_from _ _ (has_writer (length o.writers) all.0.some) (have_writers os all.1)

-- a history that has a text is of the shape that every history has
pub has_shape : (h : History) → IsHistory h → is_shape h.orders h.finals ≡ true
has_shape h is = and_from _ _ (and_from _ _ (have_writers h.orders is.orders) is.orders_rise) is.finals_rise

-- a text of a history has no fault
pub no_history_fault : HasNoFaultWithin AreHistoryLines → (text : List ℕ) (h : History) (k : ℕ) → IsTextOf text h
    → IsFaultLine AreHistoryLines text k → ⊥
no_history_fault none text h k is fault =
    none (history_lines h) k (h, is.is_history, refl)
    (subst (λ (t : List ℕ). IsFaultLine AreHistoryLines t k) is.same fault)

no_serial_fault : HasNoFaultWithin AreSerialLines → (text ts : List ℕ) (k : ℕ) → IsSerialTextOf text ts
    → IsFaultLine AreSerialLines text k → ⊥
no_serial_fault none text ts k is fault =
    none (serial_lines ts) k (ts, is.is_serial, refl)
    (subst (λ (t : List ℕ). IsFaultLine AreSerialLines t k) is.same fault)

pub one_history : HistoriesDiffer → (text : List ℕ) (g h : History) → IsTextOf text g → IsTextOf text h → g ≡ h
one_history differ text g h is_g is_h = differ g h is_g.is_history is_h.is_history (sym is_g.same ∙ is_h.same)

pub one_serial : SerialsDiffer → (text ts us : List ℕ) → IsSerialTextOf text ts → IsSerialTextOf text us → ts ≡ us
one_serial differ text ts us is_t is_u = differ ts us is_t.is_serial is_u.is_serial (sym is_t.same ∙ is_u.same)

module _ (law : YesIffAccepted) (histories : HistoriesDiffer) (serials : SerialsDiffer)
    (no_history : HasNoFaultWithin AreHistoryLines) (no_serial : HasNoFaultWithin AreSerialLines) (h c : List ℕ) where
  accepted_from_yes : HaveVerdict h c Yes → AreAccepted h c
  accepted_from_yes r =
      record {
        history = r.history;
        certificate = r.certificate;
        history_read = r.history_read;
        certificate_read = r.certificate_read;
        accepted =
            (law r.history r.certificate (has_shape r.history r.history_read.is_history)).0 (sym r.same);
      }

  -- the verdict on accepted texts
  yes_from_accepted : (v : Verdict) → HaveVerdict h c v → AreAccepted h c → v ≡ Yes
  yes_from_accepted v r a =
      let one = one_history histories h a.history r.history a.history_read r.history_read in
      let other = one_serial serials c a.certificate r.certificate a.certificate_read r.certificate_read in
      let accepted : IsAccepted r.history r.certificate =
      subst (λ (ts : List ℕ). IsAccepted r.history ts) other
      (subst (λ (x : History). IsAccepted x a.certificate) one a.accepted) in
      r.same ∙ (law r.history r.certificate (has_shape r.history r.history_read.is_history)).1 accepted

  pub yes_texts : (v : Verdict) → IsVerdictOn h c v → (v ≡ Yes) ↔ AreAccepted h c
  yes_texts Yes r = (λ e. accepted_from_yes r, λ a. refl)
  yes_texts (Syntax Of.History k) r =
      (λ e. absurd (cc (e)), λ a. absurd (no_history_fault no_history h a.history k a.history_read r))
  yes_texts (Syntax Of.Serial k) r =
      (λ e. absurd (cc (e)), λ a. absurd (no_serial_fault no_serial c a.certificate k a.certificate_read r.1))
  yes_texts (Malformed line rule) r = (λ e. absurd (cc (e)), yes_from_accepted (Malformed line rule) r)
  yes_texts (AbortedRead line version) r = (λ e. absurd (cc (e)), yes_from_accepted (AbortedRead line version) r)
  yes_texts (IntermediateRead line version) r =
      (λ e. absurd (cc (e)), yes_from_accepted (IntermediateRead line version) r)
  yes_texts NotTheCommitted r = (λ e. absurd (cc (e)), yes_from_accepted NotTheCommitted r)
  yes_texts (Backward edge) r = (λ e. absurd (cc (e)), yes_from_accepted (Backward edge) r)

pub yes_on_accepted : YesIffAccepted → AcceptedTextsGetYes
yes_on_accepted law h c a =
    record {
      history = a.history;
      certificate = a.certificate;
      history_read = a.history_read;
      certificate_read = a.certificate_read;
      same =
          sym ((law a.history a.certificate (has_shape a.history a.history_read.is_history)).1 a.accepted);
    }

pub serializable_texts : AcceptedIsSerializable → AcceptedTextsAreSerializable
serializable_texts law h c a =
    record {
      history = a.history;
      certificate = a.certificate;
      history_read = a.history_read;
      certificate_read = a.certificate_read;
      serializable =
          law a.history a.certificate (has_shape a.history a.history_read.is_history) a.accepted;
    }

-- the same of a verdict on two known texts
pub yes_on_two : YesIffTextsAccepted → (first second : Option (List ℕ)) (v : VerdictValue)
    → IfSome first (λ h. IfSome second (λ c. IsVerdictOn h c (plain_verdict v)))
    → IfSome first (λ h. IfSome second (λ c. (v ≡ Said.Yes) ↔ AreAccepted h c))
yes_on_two law None second v r = tt
yes_on_two law (Some h) None v r = tt
yes_on_two law (Some h) (Some c) v r =
    let exact = law h c (plain_verdict v) r in
    (λ (e : v ≡ Said.Yes). exact.0 (ap plain_verdict e), λ (a : AreAccepted h c). plain_yes v (exact.1 a))
