-- When a verdict is yes.
use Rattle.std.proofs.Common.{◌≡◌, ◌↔◌, ℕ, Bool, true, false, cond, List, Option, Some, None, Result, Ok, Err, IfOk, refl, sym, ◌∙◌, ap}
use Rattle.std.specs.declared.alloc.AllocError.{AllocError}
use Rattle.adya_values.specs.Computing.Faults as faults
use Rattle.adya_values.specs.Meaning.Histories.{History}
use Rattle.adya_values.specs.Computing.Shapes.{is_shape}
use Rattle.adya_values.specs.Meaning.Edges.{Edge}
use Rattle.adya_values.specs.Computing.Faults.{Fault, first_fault}
use Rattle.adya_values.specs.Computing.Certificates.{lists_the_committed, first_backward}
use Rattle.adya_values.specs.Clauses.Acceptance.{IsAccepted}
use Rattle.adya_rules.specs.Laws.Faults.{CheckedIfNoFault, CheckedIffNoFault}
use Rattle.adya_laws.specs.Laws.{AcceptedIffForward}
use Rattle.adya_audit.specs.declared.verdict.Verdict.{Verdict as VerdictValue}
use Rattle.adya_audit.specs.declared.verdict.Verdict.TheVariants as Said
use Rattle.adya_audit.specs.Meaning.Verdicts.{Verdict, Yes, NotTheCommitted}
use Rattle.adya_audit.specs.Computing.Verdicts.{plain_verdict, edge_verdict, certificate_verdict, fault_verdict, verdict_of}
use Rattle.adya_audit.specs.Laws.Verdicts.{YesIffAccepted, AcceptedIsSerializable}
use Rattle.adya_audit.specs.Meaning.Serializable.{IsSerializableBy}

certificate_yes : (b : Bool) (o : Option Edge) → cond b (edge_verdict o) NotTheCommitted ≡ Yes → (b ≡ true) × (o ≡ None)
certificate_yes true None e = (refl, refl)
certificate_yes true (Some x) e = absurd (cc (e))
certificate_yes false o e = absurd (cc (e))

fault_yes : (f : Option Fault) (v : Verdict) → fault_verdict f v ≡ Yes → (f ≡ None) × (v ≡ Yes)
fault_yes None v e = (refl, e)
fault_yes (Some (faults.Malformed line rule)) v e = absurd (cc (e))
fault_yes (Some (faults.AbortedRead line version)) v e = absurd (cc (e))
fault_yes (Some (faults.IntermediateRead line version)) v e = absurd (cc (e))

module _ (h : History) (ts : List ℕ) (forward : AcceptedIffForward) where
  accepted_from_yes : CheckedIfNoFault → verdict_of h ts ≡ Yes → IsAccepted h ts
  accepted_from_yes sound e =
      let p = fault_yes (first_fault h) (certificate_verdict h ts) e in
      let q = certificate_yes (lists_the_committed h ts) (first_backward h ts) p.1 in
      (forward h ts (sound h p.0)).0 (q.0, q.1)

  yes_from_accepted : CheckedIffNoFault → is_shape h.orders h.finals ≡ true → IsAccepted h ts → verdict_of h ts ≡ Yes
  yes_from_accepted exact shape a =
      let q = (forward h ts a.checked).1 a in
      ap (λ f. fault_verdict f (certificate_verdict h ts)) ((exact h shape).1 a.checked) ∙
      (ap (λ b. cond b (edge_verdict (first_backward h ts)) NotTheCommitted) q.0 ∙ ap edge_verdict q.1)

pub yes_accepted : CheckedIfNoFault → CheckedIffNoFault → AcceptedIffForward → YesIffAccepted
yes_accepted sound exact forward h ts shape =
    (accepted_from_yes h ts forward sound, yes_from_accepted h ts forward exact shape)

pub plain_yes : (v : VerdictValue) → plain_verdict v ≡ Yes → v ≡ Said.Yes
plain_yes Said.Yes e = refl
plain_yes (Said.Syntax text line) e = absurd (cc (e))
plain_yes (Said.Malformed line rule) e = absurd (cc (e))
plain_yes (Said.AbortedRead line version) e = absurd (cc (e))
plain_yes (Said.IntermediateRead line version) e = absurd (cc (e))
plain_yes Said.NotTheCommitted e = absurd (cc (e))
plain_yes (Said.Backward edge) e = absurd (cc (e))

module _ (h : History) (ts : List ℕ) (shape : is_shape h.orders h.finals ≡ true) (law : YesIffAccepted) where
  pub yes_exactly : (v : VerdictValue) → plain_verdict v ≡ verdict_of h ts → (v ≡ Said.Yes) ↔ IsAccepted h ts
  yes_exactly v e = (
    (λ (y : v ≡ Said.Yes). (law h ts shape).0 (sym e ∙
        ap plain_verdict y)),
    λ (a : IsAccepted h ts). plain_yes v (e ∙ (law h ts shape).1 a),
  )

  pub result_yes : (r : Result VerdictValue AllocError) → IfOk r (λ v. plain_verdict v ≡ verdict_of h ts)
      → IfOk r (λ v. (v ≡ Said.Yes) ↔ IsAccepted h ts)
  result_yes (Ok v) e = yes_exactly v e
  result_yes (Err x) e = tt

  pub result_promise : AcceptedIsSerializable → (r : Result VerdictValue AllocError)
      → IfOk r (λ v. plain_verdict v ≡ verdict_of h ts) → IfOk r (λ v. v ≡ Said.Yes → IsSerializableBy h ts)
  result_promise serial (Ok v) e = λ (y : v ≡ Said.Yes). serial h ts shape ((yes_exactly v e).0 y)
  result_promise serial (Err x) e = tt
