-- What a yes on texts implies.
use Rattle.std.specs.Prelude.{◌≡◌, ◌↔◌}
use Rattle.adya_keys.specs.Meaning.Keys.{Bytes}
use Rattle.adya_values.specs.Meaning.Histories.{Txns, History}
use Rattle.adya_values.specs.Clauses.Acceptance.{IsAccepted}
use Rattle.adya_text.specs.Meaning.Texts.{IsHistory, history_text, serial_text}
use Rattle.adya_audit.specs.Meaning.Verdicts.{Verdict, Yes}
use Rattle.adya_audit.specs.Clauses.TextVerdicts.{IsVerdictOn, AreAccepted}
use Rattle.adya_audit.specs.Meaning.Serializable.{AreSerializable}

-- the verdict on texts is yes if and only if they are accepted
abbrev pub YesIffTextsAccepted : Type 0
YesIffTextsAccepted = (h c : Bytes) (v : Verdict) → IsVerdictOn h c v → (v ≡ Yes) ↔ AreAccepted h c

-- yes is a verdict on accepted texts
abbrev pub AcceptedTextsGetYes : Type 0
AcceptedTextsGetYes = (h c : Bytes) → AreAccepted h c → IsVerdictOn h c Yes

-- accepted texts are those of a history and a certificate by which it is serializable
abbrev pub AcceptedTextsAreSerializable : Type 0
AcceptedTextsAreSerializable = (h c : Bytes) → AreAccepted h c → AreSerializable h c

-- if a history that has a text is accepted with a certificate, that one has a text too, and the two texts are accepted
abbrev pub AcceptedHaveTexts : Type 0
AcceptedHaveTexts = (h : History) (ts : Txns) → IsHistory h → IsAccepted h ts
    → AreAccepted (history_text h) (serial_text ts)
