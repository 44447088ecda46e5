-- What is said of the texts that devices still hold; nothing of a device of which that isn't known.
use Rattle.std.specs.Prelude.{Option, IfSome}
use Rattle.devices.specs.declared.watched.Watched.{Watched}
use Rattle.devices.specs.Mirror.{watched_remaining}
use Rattle.adya_keys.specs.Meaning.Keys.{Bytes}

-- this holds of the text that the device holds
abbrev pub OnText : {D : Type 0} → (D → Option Bytes) → Watched D → (Bytes → Type 0) → Type 0
OnText remaining device Holds = IfSome (watched_remaining remaining device) Holds

-- this holds of the texts that two devices hold
abbrev pub OnTexts : {D E : Type 0} → (D → Option Bytes) → Watched D → (E → Option Bytes) → Watched E
    → (Bytes → Bytes → Type 0) → Type 0
OnTexts remaining first remaining' second Hold = OnText remaining first (λ x. OnText remaining' second (Hold x))
