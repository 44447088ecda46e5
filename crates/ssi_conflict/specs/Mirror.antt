-- When a tracker stands for a list of calls, when it is ready for a commit, and what its answers say.
use Rattle.std.specs.Prelude.{◌≡◌, ℕ, Bool, true, List, ◌∷◌, Option, Some, None, Result, Ok, Err, is_some}
use Rattle.std.specs.List.{list_any}
use Rattle.std.specs.declared.alloc.AllocError.{AllocError}
use Rattle.adya_keys.specs.Meaning.Keys.{Key}
use Rattle.ssi_reads.specs.Clauses.Marks.{has_txn}
use Rattle.ssi_conflict.specs.Meaning.Calls.{Call, Commits}
use Rattle.ssi_conflict.specs.Clauses.Allowed.{IsAllowed, last_stamp}
use Rattle.ssi_conflict.specs.Clauses.Pairs.{IsOrderedPivot}
use Rattle.ssi_conflict.specs.Meaning.Kept.{is_kept}
use Rattle.ssi_conflict.specs.Machinery.Rows.{StandsFor}
use Rattle.ssi_conflict.specs.Machinery.Tables.{row_at, IsTidy, IsPrepared}
use Rattle.ssi_conflict.specs.declared.answer.Answer.{Answer}
use Rattle.ssi_conflict.specs.declared.answer.Answer.TheVariants.{Safe, Unsafe}
use Rattle.ssi_conflict.specs.declared.tracker.Tracker.{Tracker}

-- the pivot that an answer names
abbrev pub pivot_of : Answer → Option ℕ
pivot_of Safe = None
pivot_of (Unsafe p) = Some p

-- the calls after one that may be refused: it is carried out only if the answer is Safe
abbrev pub carried : Call → List Call → Result Answer AllocError → List Call
carried c calls (Ok Safe) = c ∷ calls
carried c calls (Ok (Unsafe p)) = calls
carried c calls (Err e) = calls

-- the table is in order, and its rows and the marks stand for the calls
pub record Holds {M : Type 0} (marked : M → ℕ → Key → Bool) (tracker : Tracker M) (calls : List Call) : Type 0 where
  pub rows : StandsFor (row_at tracker.table) (marked tracker.marks) calls
  pub tidy : IsTidy tracker.table
  pub last : tracker.table.last ≡ last_stamp calls

-- the tracker stands for the calls: no pivot stands after them, what the tracker has of each transaction is what the
-- calls say of it, and it has exactly the kept ones
pub record Stands {M : Type 0} (marked : M → ℕ → Key → Bool) (tracker : Tracker M) (calls : List Call) : Type 0 where
  pub holds : Holds marked tracker calls
  pub exact : (t : ℕ) → is_some (row_at tracker.table t) ≡ true → is_kept t calls ≡ true

-- the tracker is ready for the commit of t with these keys: that takes no memory, and no pivot would stand after it
pub record IsReady {M : Type 0} (marked : M → ℕ → Key → Bool) (tracker : Tracker M) (t : ℕ) (ks : List Key) :
    Type 0 where
  pub prepared : IsPrepared tracker.table t ks
  pub readers : (r : ℕ) → has_txn tracker.readers.items r ≡ list_any (marked tracker.marks r) ks
  pub safe : (calls : List Call) (n : ℕ) → Stands marked tracker calls → IsAllowed (Commits t n ks) calls
      → (q : ℕ) → IsOrderedPivot q (Commits t n ks ∷ calls) → ⊥
