-- What the lives of a server leave of which only the reply `committed` waits for the disk.
use Rattle.std.proofs.Common.{◌≡◌, List, [], ◌∷◌, ◌++◌, sym, ◌∙◌, ap, subst}
use Rattle.std.proofs.lemmas.List.{append-nil, append_assoc}
use Rattle.std.specs.List.{AllByRecursion}
use Rattle.adya_keys.specs.Meaning.Keys.{Bytes}
use Rattle.ssi_store.specs.Meaning.Courses.{Course}
use Rattle.ssi_hub.specs.Clauses.Calls.{Call, Opened, Received, Ran, Wrote, Closed, all_steps}
use Rattle.ssi_durable.specs.Meaning.Logs.{logged, HaveLed}
use Rattle.ssi_durable.specs.Meaning.Lives.{IsExplained}
use Rattle.ssi_durable.specs.Meaning.EarlyLives.{AreEarlyLives, EarlyLife, IsEarlyKept, IsEarlyLife}
use Rattle.ssi_durable.proofs.Kept.{all_more, explained}

-- the calls that came first have led somewhere, too
first_led : (start : Course) (recent sure : List Call) (end : Course) → HaveLed start (recent ++ sure) end → (mid : Course) × HaveLed start sure mid
first_led start [] sure end led = (end, led)
first_led start (Ran t ls ss ∷ recent) sure end led = first_led start recent sure led.0 led.1
first_led start (Opened t ∷ recent) sure end led = first_led start recent sure end led
first_led start (Received t bytes ∷ recent) sure end led = first_led start recent sure end led
first_led start (Wrote t bytes ∷ recent) sure end led = first_led start recent sure end led
first_led start (Closed t ∷ recent) sure end led = first_led start recent sure end led

-- the lines at the start stay
starts_stay : (lines : List Bytes) (lives : List EarlyLife) (left : List Bytes) → AreEarlyLives lines lives left
    → (more : List Bytes) × (left ≡ lines ++ more)
starts_stay lines [] left is = ([], is ∙ sym (append-nil lines))
starts_stay lines (one ∷ lives) left is =
    let (next, life, after) = is in
    let (more, e) = starts_stay next lives left after in (
      logged life.sure ++ (life.between.more ++ more),
      e ∙ ap (λ (l : List Bytes). l ++ more) life.between.has ∙ append_assoc (lines ++ logged life.sure) life.between.more more
          ∙ append_assoc lines (logged life.sure) (life.between.more ++ more),
    )

one_kept : (lines : List Bytes) (one : EarlyLife) (next left more : List Bytes) → IsEarlyLife lines one next → left ≡ next ++ more
    → IsEarlyKept left one
one_kept lines one next left more life e =
    let rest = life.between.more ++ more in
    let whole : left ≡ (lines ++ logged life.sure) ++ rest =
    e ∙ ap (λ (l : List Bytes). l ++ more) life.between.has ∙ append_assoc (lines ++ logged life.sure) life.between.more more in
    let (mid, led) = first_led life.start life.recent life.sure life.end
    (subst (λ (cs : List Call). HaveLed life.start cs life.end) life.cut life.led) in
    let sure_ones = explained lines life.start life.sure mid life.replayed led in
    let all_ones = explained lines life.start one.calls life.end life.replayed life.led in
    record {
      lines = lines;
      sure = life.sure;
      recent = life.recent;
      cut = life.cut;
      rest = rest;
      parts = whole ∙ append_assoc lines (logged life.sure) rest;
      kept = subst (λ (l : List Bytes). AllByRecursion (IsExplained l) (all_steps life.sure)) (sym whole)
          (all_more (lines ++ logged life.sure) rest (all_steps life.sure) sure_ones.all);
      explained = all_ones.all;
      told = life.told;
    }

pub early_lives_keep : (lines : List Bytes) (lives : List EarlyLife) (left : List Bytes) → AreEarlyLives lines lives left
    → AllByRecursion (IsEarlyKept left) lives
early_lives_keep lines [] left is = tt
early_lives_keep lines (one ∷ lives) left is =
    let (next, life, after) = is in
    let (more, e) = starts_stay next lives left after in
    (one_kept lines one next left more life e, early_lives_keep next lives left after)
