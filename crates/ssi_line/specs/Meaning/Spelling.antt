-- The lines of the protocol, each without its line feed.
use Rattle.std.specs.Prelude.{◌≡◌, true, List, [], ◌∷◌, ◌++◌, codes, decimal}
use Rattle.adya_keys.specs.Meaning.Keys.{Bytes, is_key, is_value, IsMod}
use Rattle.ssi_store.specs.Meaning.Sessions.{is_session}
use Rattle.ssi_store.specs.Meaning.Courses.{Command, Begin, Get, Put, Del, Scan, ScanFirst, Commit, Abort, Collect, Stat}
use Rattle.adya_line.specs.Meaning.Lines.{Spells, SpellsNone}

abbrev pub spaced : List Bytes → Bytes
spaced [] = []
spaced (w ∷ []) = w
spaced (w ∷ v ∷ ws) = w ++ (32 ∷ spaced (v ∷ ws))

abbrev pub command_text : Command → Bytes
command_text (Begin s) = spaced (codes "begin" ∷ s ∷ [])
command_text (Get s k) = spaced (codes "get" ∷ s ∷ k ∷ [])
command_text (Put s k v) = spaced (codes "put" ∷ s ∷ k ∷ v ∷ [])
command_text (Del s k) = spaced (codes "del" ∷ s ∷ k ∷ [])
command_text (Scan s low high) = spaced (codes "scan" ∷ s ∷ low ∷ high ∷ [])
command_text (ScanFirst s low high n) = spaced (codes "scan" ∷ s ∷ low ∷ high ∷ decimal n ∷ [])
command_text (Commit s) = spaced (codes "commit" ∷ s ∷ [])
command_text (Abort s) = spaced (codes "abort" ∷ s ∷ [])
command_text Collect = codes "collect"
command_text Stat = codes "stat"

-- its session, keys and value are within their limits, and a scan's limit is a number from 1 to 65535
abbrev pub IsCommand : Command → Type 0
IsCommand (Begin s) = is_session s ≡ true
IsCommand (Get s k) = (is_session s ≡ true) × (is_key k ≡ true)
IsCommand (Put s k v) = (is_session s ≡ true) × (is_key k ≡ true) × (is_value v ≡ true)
IsCommand (Del s k) = (is_session s ≡ true) × (is_key k ≡ true)
IsCommand (Scan s low high) = (is_session s ≡ true) × (is_key low ≡ true) × (is_key high ≡ true)
IsCommand (ScanFirst s low high n) =
    (is_session s ≡ true) × (is_key low ≡ true) × (is_key high ≡ true) × IsMod n
IsCommand (Commit s) = is_session s ≡ true
IsCommand (Abort s) = is_session s ≡ true
IsCommand _ = Unit {0}

pub data Line : Type 0 where
  Do : (command : Command) → Line
  -- end the run
  Stop : Line
  -- give the history so far, with a certificate
  Dump : Line

abbrev pub line_text : Line → Bytes
line_text (Do c) = command_text c
line_text Stop = codes "stop"
line_text Dump = codes "dump"

abbrev pub IsLine : Line → Type 0
IsLine (Do c) = IsCommand c
IsLine _ = Unit {0}

abbrev pub IsLineOf : Line → Bytes → Type 0
IsLineOf = Spells IsLine line_text

abbrev pub IsNoLine : Bytes → Type 0
IsNoLine = SpellsNone IsLine line_text
