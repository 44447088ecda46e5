-- A list of all installs.
use Rattle.std.specs.Prelude.{ℕ}
use Rattle.adya_values.specs.declared.event.Version.{Version}
use Rattle.adya_values.specs.declared.event.Content.{Content}
use Rattle.ssi_versions.specs.declared.held.Held.{Held}

-- a write as it is held
abbrev pub as_held : ℕ → Version × Content → Held
as_held stamp w = record { version = w.0; content = w.1; stamp = stamp }
