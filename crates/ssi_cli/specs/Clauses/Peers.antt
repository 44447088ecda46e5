-- What a read and a write do with a connection's stream.
use Rattle.std.specs.Prelude.{◌≡◌, ◌≢◌, ℕ, ◌<◌, ◌≤◌, ◌⊎◌, List, take, length, Option}
use Rattle.std.specs.Io.KnownBytes.{Consumes, Appends, Keeps}
use Rattle.std.specs.declared.io.Error.{Error}
use Rattle.std.specs.declared.io.ErrorKind.TheVariants.{WouldBlock, Interrupted}
use Rattle.std.specs.IoError.{error_kind}
use Rattle.ssi_cli.specs.declared.peer.Input.{Input}
use Rattle.ssi_cli.specs.declared.peer.Input.TheVariants.{Ended}
use Rattle.ssi_cli.specs.declared.peer.Sent.{Sent}
use Rattle.ssi_cli.specs.declared.peer.Sent.TheVariants.{Bytes, Later, Never}

-- so many of the bytes were written, from the front on, or none
abbrev pub HasWritten : {S : Type 0} → (S → Option (List ℕ)) → Sent → S → S → List ℕ → Type 0
HasWritten contents (Bytes count) old new bytes =
    (count ≤ length bytes) × Appends (contents old) (contents new) (take count bytes)
HasWritten contents Later old new bytes = Keeps (contents old) (contents new)
HasWritten contents Never old new bytes = Keeps (contents old) (contents new)

-- something was read of the stream, or the client sends no more
abbrev pub HasRead : {S : Type 0} → (S → Option (List ℕ)) → S → S → Input → Type 0
HasRead remaining old new input =
    (input ≡ Ended) ⊎ ((bytes : List ℕ) × (0 < length bytes) × Consumes (remaining old) (remaining new) bytes)

-- the fault of a write that isn't to be made again
abbrev pub IsFinal : Error → Type 0
IsFinal e = (error_kind e ≢ WouldBlock) × (error_kind e ≢ Interrupted)

-- a byte at least was written, or nothing more will be
abbrev pub IsTaken : Sent → Type 0
IsTaken (Bytes count) = 0 < count
IsTaken Later = ⊥
IsTaken Never = Unit {0}
