-- What a hub has of a connection.
use Rattle.std.specs.Prelude.{ℕ, [], ◌++◌, take, drop, Option, Some, None}
use Rattle.adya_keys.specs.Meaning.Keys.{Bytes}
use Rattle.ssi_hub.specs.Clauses.Clipping.{clipped}

pub record Buffers : Type 0 where
  -- the bytes that it sent and that are not carried out, clipped
  pub waiting : Bytes
  -- the replies that are to be written to it
  pub unsent : Bytes

-- of a new connection
abbrev pub no_bytes : Buffers
no_bytes = record { waiting = []; unsent = [] }

-- after it sent these bytes
abbrev pub with_received : Bytes → Buffers → Buffers
with_received bytes b = record { waiting = clipped (b.waiting ++ bytes); unsent = b.unsent }

-- after so many bytes were written
abbrev pub with_written : ℕ → Buffers → Buffers
with_written n b = record { waiting = b.waiting; unsent = drop n b.unsent }

-- the first bytes that are to be written, of a connection that is open
abbrev pub first_unsent : ℕ → Option Buffers → Bytes
first_unsent n None = []
first_unsent n (Some b) = take n b.unsent
