-- A safe history has no cycle, so none is found of it, and it has a certificate since it shows no phenomenon. If it has
-- a text, then so does what is found, and both texts are accepted.
use Rattle.std.proofs.Common.{◌≡◌, ℕ, Vec, Global, map, inl, inr, sym, subst}
use Rattle.std.proofs.Math.Logic.{∥∥₁_elim, ∥∥₁_map}
use Rattle.adya_values.specs.declared.history.History.{History as HistoryValue}
use Rattle.adya_values.specs.declared.serial.Serial.{Serial as SerialValue}
use Rattle.adya_values.specs.Meaning.Histories.{History}
use Rattle.adya_values.specs.Mirror.Histories.{history_of, serial_txns}
use Rattle.adya_values.specs.Meaning.Edges.{IsCycle}
use Rattle.adya_values.specs.Clauses.Acceptance.{IsAccepted}
use Rattle.adya_text.specs.Meaning.Texts.{IsHistory, history_text, serial_text}
use Rattle.adya_audit.specs.Clauses.TextVerdicts.{AreAccepted}
use Rattle.adya_audit.specs.Laws.Texts.{AcceptedHaveTexts}
use Rattle.adya_dsg.specs.declared.edge.Edge.{Edge}
use Rattle.adya_dsg.specs.declared.found.Found.{Found}
use Rattle.adya_dsg.specs.declared.found.Found.TheVariants.{Cycle, Serial}
use Rattle.adya_dsg.specs.Mirror.{edge_of}
use Rattle.adya_dsg.specs.Clauses.Found.{HasCertificate, IsFound}
use Rattle.adya_dsg.specs.Laws.{CertifiedIffNoPhenomenon}
use Rattle.snapshot_histories.specs.Laws.{SafeHistoriesHaveNoCycle}
use Rattle.snapshot_histories.specs.Clauses.Snapshots.{IsSafe, IsSafeHistory}

pub safe_accepted : SafeHistoriesHaveNoCycle → CertifiedIffNoPhenomenon → (h : History) → IsSafeHistory h
    → HasCertificate h
safe_accepted no_cycle certified h (snapshot_of, safe) =
    (certified h safe.checked.well_formed).1 (
      λ g. elim g [
        | inl a ↦ safe.checked.no_aborted_read a
        | inr rest ↦ elim rest [
          | inl b ↦ safe.checked.no_intermediate_read b
          | inr c ↦ no_cycle h snapshot_of safe c.0 c.1
        ]
      ],
      λ g. no_cycle h snapshot_of safe g.0 g.1,
    )

pub no_cycle_found : SafeHistoriesHaveNoCycle → (lent own : HistoryValue) → lent ≡ own
    → ∥ IsSafeHistory (history_of own) ∥₁ → (es : Vec Edge Global) → IsFound (history_of lent) (Cycle es) → ⊥
no_cycle_found no_cycle lent own same is_safe es cycle = ∥∥₁_elim is_safe (λ a. absurd a) (λ safe.
    no_cycle (history_of own) safe.0 safe.1 (map edge_of es.items)
    (subst (λ h. IsCycle (history_of h) (map edge_of es.items)) same cycle))

pub texts_accepted : AcceptedHaveTexts → (lent own : HistoryValue) → lent ≡ own → IsHistory (history_of own)
    → (found : Found) (s : SerialValue) → found ≡ Serial s → IsFound (history_of lent) found
    → AreAccepted (history_text (history_of own)) (serial_text (serial_txns s))
texts_accepted have_texts lent own same has_text found s is accepted =
    have_texts (history_of own) (serial_txns s) has_text
    (subst (λ h. IsAccepted (history_of h) (serial_txns s)) same (subst (IsFound (history_of lent)) is accepted))

-- whatever the snapshots are called
pub safe_by : (h g : History) (snapshot_of : ℕ → ℕ) → h ≡ g → ∥ IsSafe g snapshot_of ∥₁ → ∥ IsSafeHistory h ∥₁
safe_by h g snapshot_of is safe = ∥∥₁_map safe (λ s. (snapshot_of, subst (λ x. IsSafe x snapshot_of) (sym is) s))
