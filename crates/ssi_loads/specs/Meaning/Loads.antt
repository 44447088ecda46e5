-- The first lines of a segment: its header, and lines that write the contents of the segment before.
use Rattle.std.specs.Prelude.{◌==◌, ℕ, if◌then◌else◌, List, [], ◌∷◌, ◌++◌, codes, flat_map, length, map}
use Rattle.adya_keys.specs.Meaning.Keys.{Bytes}
use Rattle.adya_values.specs.Meaning.Histories.{FinalPair}
use Rattle.ssi_store.specs.Meaning.Courses.{Begin, Put, Commit}
use Rattle.ssi_line.specs.Meaning.Spelling.{command_text}
use Rattle.ssi_durable.specs.Meaning.Lines.{header}

-- the session that loads
abbrev pub loader : Bytes
loader = codes "load"

abbrev pub put_line : FinalPair → Bytes
put_line row = command_text (Put loader row.key row.value)

-- a transaction that writes these rows
abbrev pub load_of : List FinalPair → List Bytes
load_of rows = command_text (Begin loader) ∷ (map put_line rows ++ (command_text (Commit loader) ∷ []))

-- the groups of rows that follow those of an unfinished group: a group is finished if it has as many rows as a transaction
-- has operations
abbrev pub groups_after : List FinalPair → List FinalPair → List (List FinalPair)
groups_after begun [] = begun ∷ []
groups_after begun (row ∷ rows) = if length begun == 65535 then begun ∷ groups_after (row ∷ []) rows else groups_after (begun ++ (row ∷ [])) rows

-- the rows in their order, each group with 65535 of them but the last one, which may have fewer; no rows are no group
abbrev pub groups : List FinalPair → List (List FinalPair)
groups [] = []
groups (row ∷ rows) = groups_after (row ∷ []) rows

-- a transaction for each group
abbrev pub load_lines : List FinalPair → List Bytes
load_lines rows = flat_map load_of (groups rows)

-- what follows was carried out in this segment
abbrev pub loaded_line : Bytes
loaded_line = codes "# loaded"

abbrev pub first_lines : ℕ → List FinalPair → List Bytes
first_lines n rows = header n ∷ (load_lines rows ++ (loaded_line ∷ []))
