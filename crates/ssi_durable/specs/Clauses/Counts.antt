-- What is counted of a store, and of the lines that it has carried out.
use Rattle.std.specs.Prelude.{◌≡◌, ◌+◌, ◌-◌, ◌^◌, ℕ, Bool, false, Option, Some, None, codes, if◌then◌else◌, nat_eq, min}
use Rattle.std.specs.List.{starts_with}
use Rattle.adya_keys.specs.Meaning.Keys.{Bytes}
use Rattle.ssi_conflict.specs.Computing.Steps.{smallest_ordered_pivot}
use Rattle.ssi_store.specs.Meaning.Courses.{Course, Counts, Stat}
use Rattle.ssi_store.specs.Meaning.Replies.{reply}
use Rattle.ssi_hub.specs.declared.outcome.CarriedLine.{CarriedLine}

-- so many versions are held after the course
pub record HasVersions (course : Course) (versions : ℕ) : Type 0 where
  pub open_txns : ℕ
  pub kept : ℕ
  pub keys : ℕ
  pub is : reply smallest_ordered_pivot course Stat ≡ Counts open_txns kept versions keys

-- a line was carried out, and it counts
abbrev pub is_counted : Option CarriedLine → Bool
is_counted None = false
is_counted (Some carried) = carried.counted

-- of lines that count: the line is that of a commit
abbrev pub is_commit : Bytes → Bool
is_commit line = starts_with nat_eq line (codes "commit ")

-- how many commits there were, with this line, which counts: at most so many are counted
abbrev pub commits_with : Bytes → ℕ → ℕ
commits_with line commits = if is_commit line then min (commits + 1) (2 ^ 64 - 1) else commits
