-- A line that doesn't count changes nothing that the store stands for.
use Rattle.std.proofs.Common.{◌≡◌, Bool, true, false, cond, refl, sym, subst}
use Rattle.std.specs.Prelude.{not, ◌&&◌}
use Rattle.ssi_store.specs.Meaning.Courses.{Command, Answer, Refusal, Refused, Course, Then, Stat}
use Rattle.ssi_store.specs.Meaning.Courses as Is
use Rattle.ssi_line.specs.Meaning.Steps.{Given}
use Rattle.ssi_line.specs.Clauses.Counting.{is_stat, is_refusal, logged_course}

stat_is : (c : Command) → is_stat c ≡ true → c ≡ Stat
stat_is (Is.Begin s) is = cc
stat_is (Is.Get s k) is = cc
stat_is (Is.Put s k v) is = cc
stat_is (Is.Del s k) is = cc
stat_is (Is.Scan s low high) is = cc
stat_is (Is.ScanFirst s low high n) is = cc
stat_is (Is.Commit s) is = cc
stat_is (Is.Abort s) is = cc
stat_is Is.Collect is = cc
stat_is Is.Stat is = refl

refusal_is : (a : Answer) → is_refusal a ≡ true → (r : Refusal) × (a ≡ Refused r)
refusal_is (Is.Begun n) is = cc
refusal_is (Is.Value v) is = cc
refusal_is Is.Absent is = cc
refusal_is Is.Done is = cc
refusal_is (Is.Rows rows) is = cc
refusal_is Is.Committed is = cc
refusal_is Is.Aborted is = cc
refusal_is (Is.Conflict k w) is = cc
refusal_is (Is.Unsafe p) is = cc
refusal_is (Is.Kept n) is = cc
refusal_is (Is.Counts open_txns kept versions keys) is = cc
refusal_is (Is.Refused r) is = (r, refl)

-- a command was carried out
pub logged : {T : Type 0} (is_at : T → Course → Type 0) (new : T) (course : Course) (c : Command) (a : Answer)
    → ((b : Answer) → is_at new (Then course Stat b) → is_at new course)
    → ((d : Command) (r : Refusal) → is_at new (Then course d (Refused r)) → is_at new course)
    → is_at new (Then course c a) → is_at new (logged_course course (Given c a))
logged is_at new course c a stats refusals at = by_command (is_stat c) refl
  where
    by_answer : (refused : Bool) → is_refusal a ≡ refused → is_at new (cond (not refused) (Then course c a) course)
    by_answer true is =
        let (r, same) = refusal_is a is in refusals c r (subst (λ (x : Answer). is_at new (Then course c x)) same at)
    by_answer false is = at

    by_command : (stat : Bool) → is_stat c ≡ stat → is_at new (logged_course course (Given c a))
    by_command true is =
        subst (λ (s : Bool). is_at new (cond (not s && not (is_refusal a)) (Then course c a) course)) (sym is)
        (stats a (subst (λ (d : Command). is_at new (Then course d a)) (stat_is c is) at))
    by_command false is =
        subst (λ (s : Bool). is_at new (cond (not s && not (is_refusal a)) (Then course c a) course)) (sym is)
        (by_answer (is_refusal a) refl)
