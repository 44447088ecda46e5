-- What is seen of a past that is kept.
use Rattle.std.specs.Prelude.{◌≡◌, ℕ, List}
use Rattle.adya_values.specs.Meaning.Histories.{Event}
use Rattle.ssi_recorder.specs.Mirror.{events_of}
use Rattle.ssi_store.specs.declared.whole_past.WholePast.{WholePast}

-- its events, in their order
abbrev pub HasEvents : WholePast → List Event → Type 0
HasEvents p es = events_of p.recorder ≡ es

-- all its transactions with their snapshots, in the order in which they began
abbrev pub HasStarts : WholePast → List (ℕ × ℕ) → Type 0
HasStarts p ts = p.snapshots.items ≡ ts
