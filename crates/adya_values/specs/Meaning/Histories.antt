-- Histories as plain values (Adya 1999, section 3.1), with lists for vectors, and keys and values as lists of their
-- bytes.
use Rattle.std.specs.Prelude.{ℕ, List}
use Rattle.adya_values.specs.declared.event.Version.{Version}
use Rattle.adya_values.specs.declared.edition.Edition.{Edition}
use Rattle.adya_keys.specs.Meaning.Keys.{Key, Bytes}

-- transactions, by their numbers
abbrev pub Txns : Type 0
Txns = List ℕ

-- what a version holds: a value, or nothing if a delete made it
pub data Content : Type 0 where
  Live : (value : Bytes) → Content
  Dead : Content

-- a version with its content, as a scan lists it
pub record Entry : Type 0 where
  pub version : Version
  pub content : Content

pub data Event : Type 0 where
  Write : (txn : ℕ) (key : Key) (m : ℕ) (value : Bytes) → Event
  Delete : (txn : ℕ) (key : Key) (m : ℕ) → Event
  Read : (txn : ℕ) (version : Version) (value : Bytes) → Event
  Scan : (txn : ℕ) (low high : Key) (entries : List Entry) → Event
  Commit : (txn : ℕ) → Event
  Abort : (txn : ℕ) → Event

pub record Order : Type 0 where
  pub key : Key
  pub writers : Txns

pub record FinalPair : Type 0 where
  pub key : Key
  pub value : Bytes

-- the unfinished transactions may still go on; a history of edition One has none
pub record History : Type 0 where
  pub edition : Edition
  pub events : List Event
  pub unfinished : Txns
  pub orders : List Order
  pub finals : List FinalPair
