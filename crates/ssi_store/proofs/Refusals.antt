-- A refusal changes nothing that is seen of a course.
use Rattle.std.proofs.Common.{◌≡◌, ℕ, Bool, true, false, [], ◌++◌, Option, Some, None, refl, ap, subst, ◌∙◌, if◌then◌else◌}
use Rattle.std.specs.Prelude.{IfSome}
use Rattle.adya_keys.specs.Meaning.Keys.{Bytes}
use Rattle.ssi_store.specs.Meaning.Acts.{act_by, acts}
use Rattle.ssi_store.specs.Meaning.Courses.{Command, Course, Refusal, Refused, Then, is_of, txn_for, txn_in}
use Rattle.ssi_store.specs.Meaning.Courses as Do
use Rattle.ssi_store.specs.Machinery.Opens.{IsOpen, Sessions, open_at}
use Rattle.ssi_store.specs.Mirror.Standing.{IsLog, Parts, StandsFor}

no_act : (t : Option ℕ) (command : Command) (r : Refusal) → act_by t command (Refused r) ≡ []
no_act None command r = refl
no_act (Some t) (Do.Begin s) r = refl
no_act (Some t) (Do.Get s k) r = refl
no_act (Some t) (Do.Put s k v) r = refl
no_act (Some t) (Do.Del s k) r = refl
no_act (Some t) (Do.Scan s low high) r = refl
no_act (Some t) (Do.ScanFirst s low high n) r = refl
no_act (Some t) (Do.Commit s) r = refl
no_act (Some t) (Do.Abort s) r = refl
no_act (Some t) Do.Collect r = refl
no_act (Some t) Do.Stat r = refl

same_acts : (c : Course) (command : Command) (r : Refusal) → acts (Then c command (Refused r)) ≡ acts c
same_acts c command r = ap (λ log. log ++ acts c) (no_act (txn_for command c) command r)

same_txn : (s : Bytes) (c : Course) (command : Command) (r : Refusal) → txn_in s (Then c command (Refused r)) ≡ txn_in s c
same_txn s c command r = by (is_of s command) (txn_in s c)
  where
    by : (b : Bool) (t : Option ℕ) → (if b then t else t) ≡ t
    by true t = refl
    by false t = refl

pub stands_before : (p : Parts) (next : ℕ) (es : Sessions) (c : Course) (command : Command) (r : Refusal)
    → StandsFor p next es (Then c command (Refused r)) → StandsFor p next es c
stands_before p next es c command r stands = let (proper, answers, follows) = stands.follows in record {
  follows = follows;
  log = subst (IsLog p) (same_acts c command r) stands.log;
  next_is = stands.next_is;
  txns = λ s. stands.txns s ∙ same_txn s c command r;
  views = λ s. subst (λ log. IfSome (open_at s es) (IsOpen log)) (same_acts c command r) (stands.views s);
}
