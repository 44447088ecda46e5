-- A count changes nothing that is seen of a course.
use Rattle.std.proofs.Common.{◌≡◌, ℕ, List, Option, subst, inl, inr}
use Rattle.ssi_conflict.specs.Computing.Steps.{smallest_ordered_pivot}
use Rattle.ssi_conflict.specs.Meaning.Calls.{Call}
use Rattle.ssi_store.specs.Meaning.Acts.{acts}
use Rattle.ssi_store.specs.Meaning.Courses.{Answer, Course, Stat, Then}
use Rattle.ssi_store.specs.Meaning.Replies.{IsAnswer, counts_answer}
use Rattle.ssi_store.specs.Machinery.Opens.{Sessions}
use Rattle.ssi_store.specs.Mirror.Standing.{Parts, StandsFor}

-- memory never runs out for it
its_answer : (pivot : List Call → Option ℕ) (c : Course) (answer : Answer) → IsAnswer pivot c Stat answer
    → answer ≡ counts_answer (acts c)
its_answer pivot c answer (inl is) = is
its_answer pivot c answer (inr (is, may)) = cc

without_it : (p : Parts) (next : ℕ) (es : Sessions) (c : Course) → StandsFor p next es (Then c Stat (counts_answer (acts c)))
    → StandsFor p next es c
without_it p next es c stands = let (proper, answers, follows) = stands.follows in record {
  follows = follows;
  log = stands.log;
  next_is = stands.next_is;
  txns = stands.txns;
  views = stands.views;
}

pub stands_before : (p : Parts) (next : ℕ) (es : Sessions) (c : Course) (answer : Answer)
    → StandsFor p next es (Then c Stat answer) → StandsFor p next es c
stands_before p next es c answer stands =
    let (proper, answers, follows) = stands.follows in
    without_it p next es c
    (subst (λ (a : Answer). StandsFor p next es (Then c Stat a)) (its_answer smallest_ordered_pivot c answer answers) stands)
