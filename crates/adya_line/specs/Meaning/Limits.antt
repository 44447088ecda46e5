-- What has a line.
use Rattle.std.specs.Prelude.{◌≡◌, ◌<◌, true, length}
use Rattle.std.specs.List.{AllByRecursion}
use Rattle.adya_values.specs.declared.event.Version.{Version}
use Rattle.adya_keys.specs.Meaning.Keys.{is_key, is_value, IsTxn, IsMod}
use Rattle.adya_values.specs.Meaning.Histories.{Content, Live, Dead, Entry, Event, Write, Delete, Read, Scan, Commit, Abort, Order, FinalPair}

pub record IsVersion (v : Version) : Type 0 where
  pub key : is_key v.key ≡ true
  pub txn : IsTxn v.txn
  pub m : IsMod v.m

abbrev pub IsContent : Content → Type 0
IsContent (Live v) = is_value v ≡ true
IsContent Dead = Unit {0}

pub record IsEntry (e : Entry) : Type 0 where
  pub version : IsVersion e.version
  pub content : IsContent e.content

-- a scan's keys may stand in any order
abbrev pub IsEvent : Event → Type 0
IsEvent (Write t k m v) = IsVersion (record { key = k; txn = t; m = m }) × (is_value v ≡ true)
IsEvent (Delete t k m) = IsVersion (record { key = k; txn = t; m = m })
IsEvent (Read t r v) = IsTxn t × IsVersion r × (is_value v ≡ true)
IsEvent (Scan t low high es) = IsTxn t × (is_key low ≡ true) × (is_key high ≡ true) × AllByRecursion IsEntry es
IsEvent (Commit t) = IsTxn t
IsEvent (Abort t) = IsTxn t

pub record IsOrder (o : Order) : Type 0 where
  pub key : is_key o.key ≡ true
  pub some : 0 < length o.writers
  pub writers : AllByRecursion IsTxn o.writers

pub record IsFinal (f : FinalPair) : Type 0 where
  pub key : is_key f.key ≡ true
  pub value : is_value f.value ≡ true
