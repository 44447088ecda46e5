-- What the lives of a server leave.
use Rattle.std.proofs.Common.{◌≡◌, Bool, true, false, cond, List, [], ◌∷◌, ◌++◌, refl, sym, ◌∙◌, ap, subst}
use Rattle.std.proofs.lemmas.List.{append-nil, append_assoc}
use Rattle.std.specs.List.{AllByRecursion}
use Rattle.adya_keys.specs.Meaning.Keys.{Bytes}
use Rattle.ssi_store.specs.Meaning.Courses.{Course, New}
use Rattle.ssi_line.specs.Meaning.Steps.{Step}
use Rattle.ssi_line.specs.Clauses.Counting.{counts}
use Rattle.ssi_hub.specs.Clauses.Calls.{Call, Opened, Received, Ran, Wrote, Closed, all_steps}
use Rattle.ssi_durable.specs.Meaning.Logs.{LeadsIfCounted, counted, logged, told, released, AllLead, HaveLed}
use Rattle.ssi_durable.specs.Meaning.Lives.{IsLife, AreLives, IsExplained, IsKept}
use Rattle.ssi_durable.specs.Meaning.Replays.{Replays}
use Rattle.ssi_durable.proofs.Stepping.{replays_on}

-- what is explained by a front of the lines is explained by the lines
more_explains : (lines rest : List Bytes) (s : Step) → IsExplained lines s → IsExplained (lines ++ rest) s
more_explains lines rest s is = record {
  front = is.front;
  rest = is.rest ++ rest;
  parts = ap (λ (l : List Bytes). l ++ rest) is.parts ∙ append_assoc is.front is.rest rest;
  course = is.course;
  replayed = is.replayed;
  follows = is.follows;
}

pub all_more : (lines rest : List Bytes) (steps : List Step) → AllByRecursion (IsExplained lines) steps
    → AllByRecursion (IsExplained (lines ++ rest)) steps
all_more lines rest [] all = tt
all_more lines rest (s ∷ steps) all = (more_explains lines rest s all.0, all_more lines rest steps all.1)

both : (P : Step → Type 0) (a b : List Step) → AllByRecursion P a → AllByRecursion P b → AllByRecursion P (a ++ b)
both P [] b p q = q
both P (x ∷ a) b p q = (p.0, both P a b p.1 q)

-- one line leads on if it counts
lead_if : (c : Bool) (course : Course) (line : Bytes) (next : Course) (rest : List Bytes) → LeadsIfCounted c course line next
    → (end : Course) → Replays next rest end → Replays course (cond c (line ∷ rest) rest) end
lead_if true course line next rest leads end after = (next, leads, after)
lead_if false course line next rest same end after = subst (λ (c : Course). Replays c rest end) same after

-- lines and their steps after `before`
pub record AreExplained (before : List Bytes) (more : List Bytes) (steps : List Step) (end : Course) : Type 0 where
  pub replayed : Replays (New 1) (before ++ more) end
  pub all : AllByRecursion (IsExplained (before ++ more)) steps

front_if : (c : Bool) (before : List Bytes) (line : Bytes) (rest : List Bytes)
    → before ++ cond c (line ∷ rest) rest ≡ (before ++ cond c (line ∷ []) []) ++ rest
front_if true before line rest = sym (append_assoc before (line ∷ []) rest)
front_if false before line rest = ap (λ (l : List Bytes). l ++ rest) (sym (append-nil before))

one_more : (c : Bool) (before : List Bytes) (course : Course) (line : Bytes) (next : Course) → Replays (New 1) before course
    → LeadsIfCounted c course line next → Replays (New 1) (before ++ cond c (line ∷ []) []) next
one_more c before course line next was leads =
    replays_on (New 1) before (cond c (line ∷ []) []) course next was (lead_if c course line next [] leads next refl)

explain : (before : List Bytes) (course : Course) (lines : List Bytes) (steps : List Step) (end : Course)
    → Replays (New 1) before course → AllLead course lines steps end → AreExplained before (counted lines steps) steps end
explain before course [] [] end was led = record {
  replayed = subst (λ (l : List Bytes). Replays (New 1) l end) (sym (append-nil before))
      (subst (λ (c : Course). Replays (New 1) before c) (sym led) was);
  all = tt;
}
explain before course (line ∷ lines) (s ∷ steps) end was led =
    let (next, is, after) = led in
    let now = before ++ cond (counts s) (line ∷ []) [] in
    let rest = explain now next lines steps end (one_more (counts s) before course line next was is.leads) after in
    let same = sym (front_if (counts s) before line (counted lines steps)) in
    record {
      replayed = subst (λ (l : List Bytes). Replays (New 1) l end) same rest.replayed;
      all = (
        record {
          front = before;
          rest = cond (counts s) (line ∷ counted lines steps) (counted lines steps);
          parts = refl;
          course = course;
          replayed = was;
          follows = is.follows;
        },
        subst (λ (l : List Bytes). AllByRecursion (IsExplained l) steps) same rest.all,
      );
    }
explain before course [] (s ∷ steps) end was led = absurd led
explain before course (line ∷ lines) [] end was led = absurd led

-- the calls of a life that started with these lines
pub explained : (lines : List Bytes) (start : Course) (calls : List Call) (end : Course) → Replays (New 1) lines start
    → HaveLed start calls end → AreExplained lines (logged calls) (all_steps calls) end
explained lines start [] end was led = record {
  replayed = subst (λ (l : List Bytes). Replays (New 1) l end) (sym (append-nil lines))
      (subst (λ (c : Course). Replays (New 1) lines c) (sym led) was);
  all = tt;
}
explained lines start (Ran t ls ss ∷ calls) end was led =
    let (mid, before, after) = led in
    let first = explained lines start calls mid was before in
    let then = explain (lines ++ logged calls) mid ls ss end first.replayed after in
    let same = append_assoc lines (logged calls) (counted ls ss) in
    record {
      replayed = subst (λ (l : List Bytes). Replays (New 1) l end) same then.replayed;
      all = both _ (all_steps calls) ss
          (subst (λ (l : List Bytes). AllByRecursion (IsExplained l) (all_steps calls)) same
          (all_more (lines ++ logged calls) (counted ls ss) (all_steps calls) first.all))
          (subst (λ (l : List Bytes). AllByRecursion (IsExplained l) ss) same then.all);
    }
explained lines start (Opened t ∷ calls) end was led = explained lines start calls end was led
explained lines start (Received t bytes ∷ calls) end was led = explained lines start calls end was led
explained lines start (Wrote t bytes ∷ calls) end was led = explained lines start calls end was led
explained lines start (Closed t ∷ calls) end was led = explained lines start calls end was led

-- the calls up to the last one that wrote something have led somewhere, too
told_led : (start : Course) (calls : List Call) (end : Course) → HaveLed start calls end → (mid : Course) × HaveLed start (told calls) mid
told_led start [] end led = (end, led)
told_led start (Wrote t [] ∷ calls) end led = told_led start calls end led
told_led start (Wrote t (b ∷ bytes) ∷ calls) end led = (end, led)
told_led start (Ran t ls ss ∷ calls) end led = told_led start calls led.0 led.1
told_led start (Opened t ∷ calls) end led = told_led start calls end led
told_led start (Received t bytes ∷ calls) end led = told_led start calls end led
told_led start (Closed t ∷ calls) end led = told_led start calls end led

-- ---- lives

-- the lines at the start stay
starts_stay : (lines : List Bytes) (lives : List (List Call)) (left : List Bytes) → AreLives lines lives left
    → (more : List Bytes) × (left ≡ lines ++ more)
starts_stay lines [] left is = ([], is ∙ sym (append-nil lines))
starts_stay lines (calls ∷ lives) left is =
    let (next, life, after) = is in
    let (more, e) = starts_stay next lives left after in (
      released calls ++ (life.between.more ++ more),
      e ∙ ap (λ (l : List Bytes). l ++ more) life.between.has ∙ append_assoc (lines ++ released calls) life.between.more more
          ∙ append_assoc lines (released calls) (life.between.more ++ more),
    )

one_kept : (lines : List Bytes) (calls : List Call) (next left more : List Bytes) → IsLife lines calls next → left ≡ next ++ more
    → IsKept left calls
one_kept lines calls next left more life e =
    let rest = life.between.more ++ more in
    let whole : left ≡ (lines ++ released calls) ++ rest =
    e ∙ ap (λ (l : List Bytes). l ++ more) life.between.has ∙ append_assoc (lines ++ released calls) life.between.more more in
    let (mid, led) = told_led life.start calls life.end life.led in
    let told_ones = explained lines life.start (told calls) mid life.replayed led in
    record {
      before = lines;
      after = rest;
      lines = whole ∙ append_assoc lines (released calls) rest;
      steps = subst (λ (l : List Bytes). AllByRecursion (IsExplained l) (all_steps (told calls))) (sym whole)
          (all_more (lines ++ released calls) rest (all_steps (told calls)) told_ones.all);
    }

pub lives_keep : (lines : List Bytes) (lives : List (List Call)) (left : List Bytes) → AreLives lines lives left
    → AllByRecursion (IsKept left) lives
lives_keep lines [] left is = tt
lives_keep lines (calls ∷ lives) left is =
    let (next, life, after) = is in
    let (more, e) = starts_stay next lives left after in
    (one_kept lines calls next left more life e, lives_keep next lives left after)
