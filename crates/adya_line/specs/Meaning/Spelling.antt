-- The one line of each event, unfinished transaction, order, final and transaction number, without its line feed.
use Rattle.std.specs.Prelude.{ℕ, [], ◌∷◌, ◌++◌, codes, decimal, flat_map}
use Rattle.adya_values.specs.declared.edition.Edition.{Edition}
use Rattle.adya_values.specs.declared.edition.Edition.TheVariants.{One, Two}
use Rattle.adya_values.specs.declared.event.Version.{Version}
use Rattle.adya_keys.specs.Meaning.Keys.{Bytes}
use Rattle.adya_values.specs.Meaning.Histories.{Txns, Content, Live, Dead, Entry, Event, Write, Delete, Read, Scan, Commit, Abort, Order, FinalPair}

abbrev pub history_head : Bytes
history_head = codes "adya 1"

abbrev pub second_head : Bytes
second_head = codes "adya 2"

abbrev pub head_text : Edition → Bytes
head_text One = history_head
head_text Two = second_head

abbrev pub serial_head : Bytes
serial_head = codes "serial 1"

abbrev pub tail : Bytes
tail = codes "end"

-- K.T:M
unfoldable pub version_text : Version → Bytes
version_text v = v.key ++ codes "." ++ decimal v.txn ++ codes ":" ++ decimal v.m

-- V or !
abbrev pub content_text : Content → Bytes
content_text (Live value) = value
content_text Dead = codes "!"

-- ;K.T:M,V or ;K.T:M,!
abbrev pub entry_text : Entry → Bytes
entry_text e = codes ";" ++ version_text e.version ++ codes "," ++ content_text e.content

-- wT(K.T:M,V), dT(K.T:M), rT(K.T:M,V), sT(K,K;K.T:M,V;..), cT and aT
unfoldable pub event_text : Event → Bytes
event_text (Write t k m v) =
    codes "w" ++ decimal t ++ codes "(" ++ version_text (record { key = k; txn = t; m = m }) ++
    codes "," ++ v ++ codes ")"
event_text (Delete t k m) =
    codes "d" ++ decimal t ++ codes "(" ++ version_text (record { key = k; txn = t; m = m }) ++ codes ")"
event_text (Read t r v) = codes "r" ++ decimal t ++ codes "(" ++ version_text r ++ codes "," ++ v ++ codes ")"
event_text (Scan t low high es) =
    codes "s" ++ decimal t ++ codes "(" ++ low ++ codes "," ++ high ++ flat_map entry_text es ++ codes ")"
event_text (Commit t) = codes "c" ++ decimal t
event_text (Abort t) = codes "a" ++ decimal t

-- uT
abbrev pub unfinished_text : ℕ → Bytes
unfinished_text t = codes "u" ++ decimal t

-- <<T
abbrev pub later_text : ℕ → Bytes
later_text t = codes "<<" ++ decimal t

-- T<<T<<..
abbrev pub writers_text : Txns → Bytes
writers_text [] = []
writers_text (t ∷ ts) = decimal t ++ flat_map later_text ts

-- [K:T<<T<<..]
unfoldable pub order_text : Order → Bytes
order_text o = codes "[" ++ o.key ++ codes ":" ++ writers_text o.writers ++ codes "]"

-- {K,V}
unfoldable pub final_text : FinalPair → Bytes
final_text f = codes "{" ++ f.key ++ codes "," ++ f.value ++ codes "}"

abbrev pub txn_text : ℕ → Bytes
txn_text t = decimal t
