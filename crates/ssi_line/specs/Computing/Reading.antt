-- Reading a line word by word.
use Rattle.std.specs.Prelude.{ℕ, ◌^◌, ◌==◌, Bool, nat_eq, nat_lt, List, [], ◌∷◌, codes, Option, Some, None, if◌then◌else◌}
use Rattle.std.specs.Cmp.Lexicographic.{pointwise}
use Rattle.adya_keys.specs.Meaning.Keys.{is_key, is_value}
use Rattle.adya_line.specs.Computing.Reading.{◌>>=◌, txn_at_line}
use Rattle.ssi_store.specs.Meaning.Sessions.{is_session}
use Rattle.ssi_store.specs.Meaning.Courses.{Command, Begin, Get, Put, Del, Scan, ScanFirst, Commit, Abort, Collect, Stat}
use Rattle.ssi_line.specs.Meaning.Spelling.{Line, Do, Stop, Dump}

-- the bytes before the first space, and what follows it, if there is one
unfoldable pub cut : List ℕ → List ℕ × Option (List ℕ)
cut [] = ([], None)
cut (b ∷ bs) = if b == 32 then ([], Some bs) else (b ∷ (cut bs).0, (cut bs).1)

abbrev pub is_word : List ℕ → List ℕ → Bool
is_word word text = pointwise nat_eq word text

-- a line of one word
unfoldable pub one_word : List ℕ → Option Line
one_word word =
    if is_word word (codes "stop") then Some Stop
    else (if is_word word (codes "dump") then Some Dump
    else (if is_word word (codes "collect") then Some (Do Collect)
    else (if is_word word (codes "stat") then Some (Do Stat)
    else None)))

-- a session
unfoldable pub of_session : List ℕ → List ℕ → Option Command
of_session word s =
    if is_word word (codes "begin") then Some (Begin s)
    else (if is_word word (codes "commit") then Some (Commit s)
    else (if is_word word (codes "abort") then Some (Abort s)
    else None))

-- a session and a key
unfoldable pub of_key : List ℕ → List ℕ → List ℕ → Option Command
of_key word s k =
    if is_word word (codes "get") then Some (Get s k)
    else (if is_word word (codes "del") then Some (Del s k)
    else None)

-- the limit of a scan
unfoldable pub limit_at : List ℕ → Option ℕ
limit_at text = txn_at_line text >>= λ n. if nat_lt n (2 ^ 16) then Some n else None

-- a scan, by what follows its range
abbrev pub limited : List ℕ → List ℕ → List ℕ → Option (List ℕ) → Option Command
limited s low high None = Some (Scan s low high)
limited s low high (Some rest) = limit_at rest >>= λ n. Some (ScanFirst s low high n)

-- a scan, by what follows its lower bound
unfoldable pub scan_at : List ℕ → List ℕ → List ℕ → Option Command
scan_at s low rest = if is_key (cut rest).0 then limited s low (cut rest).0 (cut rest).1 else None

-- a session, a key and more
unfoldable pub of_more : List ℕ → List ℕ → List ℕ → List ℕ → Option Command
of_more word s k rest =
    if is_word word (codes "put") then (if is_value rest then Some (Put s k rest) else None)
    else (if is_word word (codes "scan") then scan_at s k rest
    else None)

-- by what follows the key
abbrev pub by_key : List ℕ → List ℕ → List ℕ → Option (List ℕ) → Option Command
by_key word s k None = of_key word s k
by_key word s k (Some rest) = of_more word s k rest

-- by what follows the session
unfoldable pub with_key : List ℕ → List ℕ → List ℕ → Option Command
with_key word s rest = if is_key (cut rest).0 then by_key word s (cut rest).0 (cut rest).1 else None

abbrev pub by_session : List ℕ → List ℕ → Option (List ℕ) → Option Command
by_session word s None = of_session word s
by_session word s (Some rest) = with_key word s rest

-- by what follows the first word
unfoldable pub command_at : List ℕ → List ℕ → Option Command
command_at word rest = if is_session (cut rest).0 then by_session word (cut rest).0 (cut rest).1 else None

abbrev pub by_word : List ℕ → Option (List ℕ) → Option Line
by_word word None = one_word word
by_word word (Some rest) = command_at word rest >>= λ c. Some (Do c)

-- the line of the text
unfoldable pub line_at : List ℕ → Option Line
line_at text = by_word (cut text).0 (cut text).1
