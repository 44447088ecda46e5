-- What the first lines of a segment lead to.
use Rattle.std.specs.Prelude.{◌≡◌, ℕ, ◌≤◌, ◌*◌, true, List, None, length, map}
use Rattle.std.specs.List.{AllByRecursion}
use Rattle.adya_keys.specs.Meaning.Keys.{Bytes, keys_rise}
use Rattle.adya_values.specs.Meaning.Histories.{FinalPair}
use Rattle.adya_line.specs.Meaning.Limits.{IsFinal}
use Rattle.ssi_store.specs.Meaning.Contents.{contents_after}
use Rattle.ssi_store.specs.Meaning.Courses.{Course, New, txn_in}
use Rattle.ssi_durable.specs.Meaning.Lines.{HasHeader}
use Rattle.ssi_durable.specs.Meaning.Replays.{Replays}

-- rows as a scan lists them
pub record AreContents (rows : List FinalPair) : Type 0 where
  pub within : AllByRecursion IsFinal rows
  pub rise : keys_rise (map (λ r. r.key) rows) ≡ true
  -- as many as all transaction numbers can load, which is more than a memory holds
  pub few : length rows ≤ 65535 * 4294967295

-- a store that carries these lines out from the beginning holds these rows and no others, and no session has a transaction
pub record AreLoaded (n : ℕ) (rows : List FinalPair) (lines : List Bytes) : Type 0 where
  pub has_header : HasHeader n lines
  pub course : Course
  pub replayed : Replays (New 1) lines course
  pub idle : (session : Bytes) → txn_in session course ≡ None
  pub contents : contents_after course ≡ rows
