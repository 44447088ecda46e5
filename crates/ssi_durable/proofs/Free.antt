-- Which steps have committed, and those before the first of them.
use Rattle.std.proofs.Common.{◌≡◌, Bool, true, false, cond, List, [], ◌∷◌, ◌++◌, Option, Some, None, inl, inr, refl, sym, ◌∙◌, ap}
use Rattle.std.specs.Prelude.{ℕ, ◌||◌, nat_eq, codes}
use Rattle.std.specs.List.{starts_with}
use Rattle.std.proofs.lemmas.Bool.{false≢true}
use Rattle.ssi_conflict.specs.Computing.Steps.{smallest_ordered_pivot}
use Rattle.ssi_store.specs.Meaning.Acts.{acts}
use Rattle.ssi_store.specs.Meaning.Courses.{Command, Answer, Course, txn_for}
use Rattle.ssi_store.specs.Meaning.Courses.{Begin, Get, Put, Del, Scan, ScanFirst, Commit, Abort, Collect, Stat}
use Rattle.ssi_store.specs.Meaning.Courses.{Begun, Value, Absent, Done, Rows, Committed, Aborted, Conflict, Unsafe, Kept, Counts, Refused, Busy, Idle, Range, Long, Spent, Memory}
use Rattle.ssi_store.specs.Meaning.Replies.{IsAnswer, reply_for, counts_answer}
use Rattle.ssi_line.specs.Meaning.Steps.{Step, Given, Dumped, NotDumped, Stopped, NotRead, TooLong, MayFollow, step_text}
use Rattle.ssi_line.specs.Clauses.Counting.{counts}
use Rattle.ssi_durable.specs.Meaning.Early.{is_commit_answer, is_committed, free, waits}

-- ---- one more step

free_if : (b : Bool) (x : Step) (xs more : List Step) (w : Bool)
    → cond b [] (x ∷ (xs ++ cond w [] more)) ≡ cond b [] (x ∷ xs) ++ cond (b || w) [] more
free_if true x xs more w = refl
free_if false x xs more w = refl

pub free_append : (steps more : List Step) → free (steps ++ more) ≡ free steps ++ cond (waits steps) [] (free more)
free_append [] more = refl
free_append (s ∷ steps) more =
    ap (λ (l : List Step). cond (is_committed s) [] (s ∷ l)) (free_append steps more)
    ∙ free_if (is_committed s) s (free steps) (free more) (waits steps)

or_assoc : (a b c : Bool) → (a || (b || c)) ≡ ((a || b) || c)
or_assoc true b c = refl
or_assoc false b c = refl

pub waits_append : (steps more : List Step) → waits (steps ++ more) ≡ (waits steps || waits more)
waits_append [] more = refl
waits_append (s ∷ steps) more =
    ap (λ (b : Bool). is_committed s || b) (waits_append steps more) ∙ or_assoc (is_committed s) (waits steps) (waits more)

-- steps are those that are free, and then others if one has committed
pub record AreParted (steps : List Step) : Type 0 where
  pub rest : List Step
  pub parts : steps ≡ free steps ++ rest
  pub none : waits steps ≡ false → rest ≡ []

parted_by : (b : Bool) (s : Step) (steps : List Step) → AreParted steps → (rest : List Step)
    × (s ∷ steps ≡ cond b [] (s ∷ free steps) ++ rest) × ((b || waits steps) ≡ false → rest ≡ [])
parted_by true s steps p = (s ∷ steps, refl, λ e. absurd (false≢true (sym e)))
parted_by false s steps p = (p.rest, ap (λ (l : List Step). s ∷ l) p.parts, p.none)

pub parted : (steps : List Step) → AreParted steps
parted [] = record { rest = []; parts = refl; none = λ e. refl }
parted (s ∷ steps) =
    let (rest, parts, none) = parted_by (is_committed s) s steps (parted steps) in
    record { rest = rest; parts = parts; none = none }

-- ---- a step that doesn't count hasn't committed

stat_counts : (t : Option ℕ) (c : Course) → reply_for smallest_ordered_pivot t c Stat ≡ counts_answer (acts c)
stat_counts None c = refl
stat_counts (Some n) c = refl

not_to_stat : (c : Course) → IsAnswer smallest_ordered_pivot c Stat Committed → ⊥
not_to_stat c (inl same) = absurd (false≢true (sym (ap is_commit_answer (same ∙ stat_counts (txn_for Stat c) c))))
not_to_stat c (inr same) = absurd (false≢true (sym (ap is_commit_answer same.0)))

answered : (course : Course) (c : Command) (a : Answer) → counts (Given c a) ≡ false
    → IsAnswer smallest_ordered_pivot course c a → is_commit_answer a ≡ false
answered course (Begin s) Committed e is = absurd (false≢true (sym e))
answered course (Get s k) Committed e is = absurd (false≢true (sym e))
answered course (Put s k v) Committed e is = absurd (false≢true (sym e))
answered course (Del s k) Committed e is = absurd (false≢true (sym e))
answered course (Scan s low high) Committed e is = absurd (false≢true (sym e))
answered course (ScanFirst s low high n) Committed e is = absurd (false≢true (sym e))
answered course (Commit s) Committed e is = absurd (false≢true (sym e))
answered course (Abort s) Committed e is = absurd (false≢true (sym e))
answered course Collect Committed e is = absurd (false≢true (sym e))
answered course Stat Committed e is = absurd (not_to_stat course is)
answered course c (Begun t) e is = refl
answered course c (Value v) e is = refl
answered course c Absent e is = refl
answered course c Done e is = refl
answered course c (Rows rows) e is = refl
answered course c Aborted e is = refl
answered course c (Conflict k t) e is = refl
answered course c (Unsafe t) e is = refl
answered course c (Kept n) e is = refl
answered course c (Counts a b d f) e is = refl
answered course c (Refused r) e is = refl

pub uncounted_goes_on : (course : Course) (s : Step) → counts s ≡ false → MayFollow course s → is_committed s ≡ false
uncounted_goes_on course (Given c a) e is = answered course c a e is
uncounted_goes_on course (Dumped h ts) e is = refl
uncounted_goes_on course NotDumped e is = refl
uncounted_goes_on course Stopped e is = refl
uncounted_goes_on course NotRead e is = refl
uncounted_goes_on course TooLong e is = refl

-- ---- the reply to a step that counts begins so if and only if it has committed

given_said : (c : Command) (a : Answer) → starts_with nat_eq (step_text (Given c a)) (codes "committed") ≡ is_commit_answer a
given_said c (Begun t) = refl
given_said c (Value v) = refl
given_said c Absent = refl
given_said c Done = refl
given_said c (Rows rows) = refl
given_said c Committed = refl
given_said c Aborted = refl
given_said c (Conflict k t) = refl
given_said c (Unsafe t) = refl
given_said c (Kept n) = refl
given_said c (Counts a b d f) = refl
given_said c (Refused Busy) = refl
given_said c (Refused Idle) = refl
given_said c (Refused Range) = refl
given_said c (Refused Long) = refl
given_said c (Refused Spent) = refl
given_said c (Refused Memory) = refl

pub said : (s : Step) → counts s ≡ true → starts_with nat_eq (step_text s) (codes "committed") ≡ is_committed s
said (Given c a) e = given_said c a
said (Dumped h ts) e = absurd (false≢true e)
said NotDumped e = absurd (false≢true e)
said Stopped e = absurd (false≢true e)
said NotRead e = absurd (false≢true e)
said TooLong e = absurd (false≢true e)
