-- What may be given out to a connection, and what is left of it.
use Rattle.std.proofs.Common.{◌≡◌, ℕ, zero, suc, ◌+◌, ◌-◌, ◌≤◌, ◌<◌, ◌⊎◌, inl, inr, Bool, true, false, cond, Option, Some, None, nat_eq, min, List, [], ◌∷◌, ◌++◌, length, take, drop, refl, sym, ◌∙◌, ap, subst, arith}
use Rattle.std.specs.Prelude.{◌==◌, codes}
use Rattle.std.specs.Option.{option_map}
use Rattle.std.specs.List.{starts_with}
use Rattle.std.proofs.lemmas.Bool.{false≢true, eq-eqb}
use Rattle.std.proofs.lemmas.Option.{same_Some, none-some}
use Rattle.std.proofs.lemmas.List.{append-nil, append_assoc, append_cancel_left, take-append-drop, take-append-le, take_min, drop_min, drop-take, length-take, drop_at}
use Rattle.sqlite_disk.specs.declared.Disk.{Ghosts}
use Rattle.adya_keys.specs.Meaning.Keys.{Bytes}
use Rattle.ssi_line.specs.Meaning.Steps.{Step, step_text, steps_text}
use Rattle.ssi_line.specs.Clauses.Counting.{counts}
use Rattle.ssi_hub.specs.declared.hub.Hub.{Hub}
use Rattle.ssi_hub.specs.Clauses.Buffers.{Buffers, first_unsent, with_written}
use Rattle.ssi_hub.specs.Clauses.Clipping.{clipped}
use Rattle.ssi_hub.specs.Clauses.Calls.{Call, Wrote, is_open, steps_of, written_to}
use Rattle.ssi_hub.specs.Clauses.Serving.{IsServed}
use Rattle.ssi_hub.specs.Mirror.{Stands, buffers_of}
use Rattle.ssi_durable.specs.declared.holds.Holds.{Holds}
use Rattle.ssi_durable.specs.declared.journal.Journal.{Journal}
use Rattle.ssi_durable.specs.declared.release.Release.{Release}
use Rattle.ssi_durable.specs.declared.server.Server.{Server}
use Rattle.ssi_durable.specs.Meaning.Early.{is_committed, waits}
use Rattle.ssi_durable.specs.Mirror.Holds.{HasHeld, all_wait, free_in, front_by}
use Rattle.ssi_durable.specs.Mirror.Servers.{unsent_of, to_give, hub_of, holds_of, gives_early, is_settled, has_failed}
use Rattle.ssi_durable.specs.Clauses.Holding.{AreHeld, IsHeld, is_early}
use Rattle.ssi_durable.proofs.Free.{said}
use Rattle.ssi_durable.proofs.Holding.{Grown, begins, front_is, text_append, wrote_nothing, wrote_some}

-- ---- a connection that is open

pub record IsAt (dumps : Bool) (t : ℕ) (calls : List Call) (unsent : Bytes) : Type 0 where
  pub opened : is_open t calls ≡ true
  pub replies : steps_text (steps_of t calls) ≡ written_to t calls ++ unsent

at_by : (dumps : Bool) (t : ℕ) (calls : List Call) (b : Buffers) (left unsent : Bytes) → IsServed dumps t calls left unsent → (o : Bool)
    → is_open t calls ≡ o → Some b ≡ cond o (Some (record { waiting = clipped left; unsent = unsent })) None → IsAt dumps t calls b.unsent
at_by dumps t calls b left unsent served true opened same =
    let now = same_Some b (record { waiting = clipped left; unsent = unsent }) same in record {
      opened = opened;
      replies = served.replies ∙ ap (λ (y : Buffers). written_to t calls ++ y.unsent) (sym now);
    }
at_by dumps t calls b left unsent served false opened same = absurd (none-some b (sym same))

pub is_at_open : (dumps : Bool) (hub : Hub) (calls : List Call) (t : ℕ) (b : Buffers) → Stands dumps hub calls → buffers_of hub t ≡ Some b
    → IsAt dumps t calls b.unsent
is_at_open dumps hub calls t b stands has =
    let (left, unsent, served, is) = stands.served t in
    at_by dumps t calls b left unsent served (is_open t calls) refl (sym has ∙ is)

-- one that isn't has nothing unsent
pub closed_has_none : (dumps : Bool) (hub : Hub) (calls : List Call) (t : ℕ) → Stands dumps hub calls → is_open t calls ≡ false
    → buffers_of hub t ≡ None
closed_has_none dumps hub calls t stands closed =
    let (left, unsent, served, is) = stands.served t in
    is ∙ ap (λ (o : Bool). cond o (Some (record { waiting = clipped left; unsent = unsent })) None) closed

-- ---- a step of it

no_change : (holds : Holds) (t before : ℕ) → HasHeld t before false holds holds
no_change holds t before = record { was = λ e. e; own = λ e. refl; others = λ e u apart. refl }

-- the step has not committed
pub grown_freely : (holds : Holds) (t : ℕ) (s : Step) (sure since rest : List Call) (was : AreHeld holds sure since rest)
    → is_committed s ≡ false → Grown holds holds t s sure since rest was
grown_freely holds t s sure since rest was none = record {
  before = length (was.each t).told.unwritten;
  held = λ e. (
    subst (λ (b : Bool). HasHeld t (length (was.each t).told.unwritten) b holds holds) (sym none)
        (no_change holds t (length (was.each t).told.unwritten)),
    λ w. refl,
  );
}

-- the step counts, and `before` bytes were unsent before its reply. If that is lost then all replies wait
pub grown_by : (dumps : Bool) (hub after : Hub) (calls now made : List Call) (t : ℕ) (s : Step) (old new : Holds)
    (sure since rest : List Call) (before : ℕ) (x : Buffers) → Stands dumps hub calls → Stands dumps after now → now ≡ made ++ calls
    → ((u : ℕ) (cs : List Call) → steps_of u (made ++ cs) ≡ steps_of u cs ++ cond (t == u) (s ∷ []) [])
    → ((cs : List Call) (u : ℕ) → written_to u (made ++ cs) ≡ written_to u cs) → calls ≡ since ++ rest → buffers_of hub t ≡ Some x
    → before ≡ length x.unsent → counts s ≡ true → (buffers_of after t ≡ None → all_wait new ≡ true)
    → ((b : Buffers) → buffers_of after t ≡ Some b
    → HasHeld t before (starts_with nat_eq (drop before b.unsent) (codes "committed")) old new)
    → (was : AreHeld old sure since rest) → Grown old new t s sure since rest was
grown_by dumps hub after calls now made t s old new sure since rest before x stands stood is steps written parts has at counted lost kept was =
    record {
      before = before;
      held = λ all. (by_buffers all (buffers_of after t) refl, λ none. at ∙ ap (λ (l : Bytes). length l) (whole none));
    }
  where
    was_at : IsAt dumps t calls x.unsent
    was_at = is_at_open dumps hub calls t x stands has

    -- `since` are the calls that aren't sure, and then those that are
    placed : calls ≡ was.recent ++ (sure ++ rest)
    placed = parts ∙ ap (λ (cs : List Call). cs ++ rest) was.cut ∙ append_assoc was.recent sure rest

    whole : waits (steps_of t was.recent) ≡ false → x.unsent ≡ (was.each t).told.unwritten
    whole none =
        let b = begins x.unsent (all_wait old) (free_in old t) t (sure ++ rest) was.recent (was.each t)
        (subst (λ (cs : List Call). steps_text (steps_of t cs) ≡ written_to t cs ++ x.unsent) placed was_at.replies) in
        b.parts ∙ ap (λ (l : Bytes). (was.each t).told.unwritten ++ l) (b.none none) ∙ append-nil (was.each t).told.unwritten

    more : (b : Buffers) → buffers_of after t ≡ Some b → b.unsent ≡ x.unsent ++ steps_text (s ∷ [])
    more b there =
        let now_at = is_at_open dumps after now t b stood there in
        append_cancel_left (written_to t calls) b.unsent (x.unsent ++ steps_text (s ∷ []))
        (ap (λ (l : Bytes). l ++ b.unsent) (sym (ap (written_to t) is ∙ written calls t)) ∙ sym now_at.replies
        ∙ ap (λ (cs : List Call). steps_text (steps_of t cs)) is ∙ ap steps_text (steps t calls)
        ∙ ap (λ (b : Bool). steps_text (steps_of t calls ++ cond b (s ∷ []) [])) (eq-eqb t t refl)
        ∙ text_append (steps_of t calls) (s ∷ []) ∙ ap (λ (l : Bytes). l ++ steps_text (s ∷ [])) was_at.replies
        ∙ append_assoc (written_to t calls) x.unsent (steps_text (s ∷ [])))

    by_buffers : all_wait new ≡ false → (o : Option Buffers) → buffers_of after t ≡ o → HasHeld t before (is_committed s) old new
    by_buffers all None none = absurd (false≢true (sym all ∙ lost none))
    by_buffers all (Some b) there =
        subst (λ (w : Bool). HasHeld t before w old new)
        (ap (λ (l : Bytes). starts_with nat_eq l (codes "committed"))
        (ap (drop before) (more b there) ∙ drop_at x.unsent (steps_text (s ∷ [])) before (sym at) ∙ append-nil (step_text s))
        ∙ said s counted)
        (kept b there)

-- ---- what may be given out is a front of what is unsent

pub front_of : (all : Bool) (free : Option ℕ) (unsent : Bytes) → (rest : Bytes) × (unsent ≡ front_by all free unsent ++ rest)
front_of true free unsent = (unsent, refl)
front_of false None unsent = ([], sym (append-nil unsent))
front_of false (Some n) unsent = (drop n unsent, sym (take-append-drop n unsent))

front_if : (b : Bool) (front unsent : Bytes) → (rest : Bytes) × (unsent ≡ front ++ rest)
    → (rest : Bytes) × (unsent ≡ cond b [] front ++ rest)
front_if true front unsent is = (unsent, refl)
front_if false front unsent is = is

all_if : (b : Bool) (unsent : Bytes) → (rest : Bytes) × (unsent ≡ cond b unsent [] ++ rest)
all_if true unsent = ([], sym (append-nil unsent))
all_if false unsent = (unsent, refl)

one_of : (b : Bool) (p q unsent : Bytes) → (rest : Bytes) × (unsent ≡ p ++ rest) → (rest : Bytes) × (unsent ≡ q ++ rest)
    → (rest : Bytes) × (unsent ≡ cond b p q ++ rest)
one_of true p q unsent is other = is
one_of false p q unsent is other = other

nothing_of : (front rest : Bytes) → [] ≡ front ++ rest → front ≡ []
nothing_of [] rest e = refl
nothing_of (b ∷ front) rest e = absurd (omega (arith, ap (λ (l : Bytes). length l) e))

-- the first bytes that are to be written
first_of : (o : Option Buffers) (n : ℕ) → first_unsent n o ≡ take n (unsent_of o)
first_of None zero = refl
first_of None (suc n) = refl
first_of (Some b) n = refl

pub left_of : (o : Option Buffers) (n : ℕ) → unsent_of (option_map (with_written n) o) ≡ drop n (unsent_of o)
left_of None zero = refl
left_of None (suc n) = refl
left_of (Some b) n = refl

drop_none : (n : ℕ) → ◌≡◌ {A = Bytes} [] (drop n [])
drop_none zero = refl
drop_none (suc n) = refl

-- what is left once bytes of it were written
left_free : (n count : ℕ) (unsent : Bytes) → count ≤ n → take (n - count) (drop count unsent) ≡ drop count (take n unsent)
left_free n count unsent few =
    sym (ap (λ (m : ℕ). drop count (take m unsent)) (sum n count few) ∙ drop-take count (n - count) unsent)
  where
    sum : (n count : ℕ) → count ≤ n → n ≡ count + (n - count)
    sum n count few = omega (arith, few)

pub left_by : (all : Bool) (free : Option ℕ) (unsent : Bytes) (count : ℕ) → (c : ℕ) → c ≡ min count (length (front_by all free unsent))
    → front_by all (option_map (λ n. n - c) free) (drop c unsent) ≡ drop count (front_by all free unsent)
left_by true free unsent count c is = drop_none count
left_by false None unsent count c is = ap (λ (n : ℕ). drop n unsent) is ∙ drop_min count unsent
left_by false (Some n) unsent count c is =
    left_free n c unsent (omega (arith, is, length-take n unsent))
    ∙ ap (λ (m : ℕ). drop m (take n unsent)) is ∙ drop_min count (take n unsent)

module _ {S D : Type 0} {disk : Ghosts D} where
  pub gives_front : (s : Server S D disk) (t : ℕ) → (rest : Bytes) × (unsent_of (buffers_of (hub_of s) t) ≡ to_give s t ++ rest)
  gives_front s t =
      let unsent = unsent_of (buffers_of (hub_of s) t) in
      let early = front_by (all_wait (holds_of s)) (free_in (holds_of s) t) unsent in
      one_of (gives_early s) (cond (has_failed s) [] early) (cond (is_settled s) unsent []) unsent
      (front_if (has_failed s) early unsent (front_of (all_wait (holds_of s)) (free_in (holds_of s) t) unsent))
      (all_if (is_settled s) unsent)

  -- the first bytes of that are the first that are to be written
  pub first_given : (s : Server S D disk) (t count c : ℕ) → c ≡ min count (length (to_give s t))
      → first_unsent c (buffers_of (hub_of s) t) ≡ take count (to_give s t)
  first_given s t count c is =
      let (rest, parts) = gives_front s t in
      let g = to_give s t in
      first_of (buffers_of (hub_of s) t) c ∙ ap (take c) parts ∙ take-append-le c g rest (omega (arith, is))
      ∙ ap (λ (n : ℕ). take n g) is ∙ take_min count g

  pub none_given : (s : Server S D disk) (t count c : ℕ) → c ≡ min count (length (to_give s t)) → buffers_of (hub_of s) t ≡ None → c ≡ 0
  none_given s t count c is none =
      let (rest, parts) = gives_front s t in
      let same = nothing_of (to_give s t) rest (sym (ap unsent_of none) ∙ parts) in
      omega (arith, is, ap (λ (l : Bytes). length l) same)

  -- with `early`, that is nothing or all that isn't written before the first reply that waits
  pub early_given : (dumps : Bool) (s : Server S D disk) (calls since rest sure : List Call) (t : ℕ) → gives_early s ≡ true
      → Stands dumps (hub_of s) calls → calls ≡ since ++ rest → is_open t calls ≡ true → (was : AreHeld (holds_of s) sure since rest)
      → (to_give s t ≡ []) ⊎ (to_give s t ≡ (was.each t).told.unwritten)
  early_given dumps s calls since rest sure t early stands parts opened was =
      by_failed (has_failed s) (all_wait (holds_of s)) refl
    where
      x : Bytes
      x = unsent_of (buffers_of (hub_of s) t)

      replies : steps_text (steps_of t calls) ≡ written_to t calls ++ x
      replies = by_buffers (buffers_of (hub_of s) t) refl
        where
          by_buffers : (o : Option Buffers) → buffers_of (hub_of s) t ≡ o → steps_text (steps_of t calls) ≡ written_to t calls ++ unsent_of o
          by_buffers None none =
              let (left, unsent, served, is) = stands.served t in
              absurd (none-some (record { waiting = clipped left; unsent = unsent })
              (sym none ∙ is ∙ ap (λ (o : Bool). cond o (Some (record { waiting = clipped left; unsent = unsent })) None) opened))
          by_buffers (Some b) there = (is_at_open dumps (hub_of s) calls t b stands there).replies

      placed : calls ≡ was.recent ++ (sure ++ rest)
      placed = parts ∙ ap (λ (cs : List Call). cs ++ rest) was.cut ∙ append_assoc was.recent sure rest

      front : (all : Bool) → all_wait (holds_of s) ≡ all → (front_by all (free_in (holds_of s) t) x ≡ [])
          ⊎ (front_by all (free_in (holds_of s) t) x ≡ (was.each t).told.unwritten)
      front true e = inl refl
      front false e =
          let held : IsHeld false (free_in (holds_of s) t) t (sure ++ rest) was.recent =
          record { told = (was.each t).told; free_is = λ _. (was.each t).free_is e } in
          inr (front_is x (free_in (holds_of s) t) t (sure ++ rest) was.recent held
          (begins x false (free_in (holds_of s) t) t (sure ++ rest) was.recent held
          (subst (λ (cs : List Call). steps_text (steps_of t cs) ≡ written_to t cs ++ x) placed replies)))

      by_early : (failed all : Bool) (b : Bool) → b ≡ true → all_wait (holds_of s) ≡ all
          → (cond b (cond failed [] (front_by all (free_in (holds_of s) t) x)) (cond (is_settled s) x []) ≡ [])
          ⊎ (cond b (cond failed [] (front_by all (free_in (holds_of s) t) x)) (cond (is_settled s) x []) ≡ (was.each t).told.unwritten)
      by_early true all true e same = inl refl
      by_early false all true e same = front all same
      by_early failed all false e same = absurd (false≢true e)

      by_failed : (failed all : Bool) → all_wait (holds_of s) ≡ all
          → (cond (gives_early s) (cond failed [] (front_by all (free_in (holds_of s) t) x)) (cond (is_settled s) x []) ≡ [])
          ⊎ (cond (gives_early s) (cond failed [] (front_by all (free_in (holds_of s) t) x)) (cond (is_settled s) x [])
          ≡ (was.each t).told.unwritten)
      by_failed failed all same = by_early failed all (gives_early s) early same

-- ---- so many bytes of it were written

given_some : (g unwritten : Bytes) (count c : ℕ) → c ≡ min count (length g) → (g ≡ []) ⊎ (g ≡ unwritten)
    → (left : Bytes) × (length (take count g) ≡ c) × (unwritten ≡ take count g ++ left)
given_some g unwritten count c is (inl none) =
    (unwritten, length-take count g ∙ sym is, sym (ap (λ (l : Bytes). take count l ++ unwritten) none ∙ nothing count))
  where
    nothing : (n : ℕ) → take n [] ++ unwritten ≡ unwritten
    nothing zero = refl
    nothing (suc n) = refl
given_some g unwritten count c is (inr all) = (
  drop count unwritten,
  length-take count g ∙ sym is,
  sym (ap (λ (l : Bytes). take count l ++ drop count unwritten) all
      ∙ take-append-drop count unwritten),
)

module _ {S D : Type 0} {disk : Ghosts D} (dumps : Bool) (s : Server S D disk) (calls since rest sure : List Call) (t count c : ℕ)
    (new : Holds) (early : gives_early s ≡ true) (stands : Stands dumps (hub_of s) calls) (parts : calls ≡ since ++ rest)
    (is : c ≡ min count (length (to_give s t))) (was_none : all_wait new ≡ all_wait (holds_of s))
    (own : free_in new t ≡ option_map (λ n. n - c) (free_in (holds_of s) t))
    (others : (u : ℕ) → (u ≡ t → ⊥) → free_in new u ≡ free_in (holds_of s) u)
    (was : AreHeld (holds_of s) sure since rest) where
  pub held_written : is_open t calls ≡ true → AreHeld new sure (Wrote t (take count (to_give s t)) ∷ since) rest
  held_written opened =
      let (left, same, cut) = given_some (to_give s t) (was.each t).told.unwritten count c is
      (early_given dumps s calls since rest sure t early stands parts opened was) in
      wrote_some (holds_of s) new t c (λ e. sym was_none ∙ e) (λ e. own) (λ e. others) sure since rest was (take count (to_give s t)) left same cut

  pub held_closed : is_open t calls ≡ false → AreHeld new sure since rest
  held_closed closed =
      wrote_nothing (holds_of s) new t c (λ e. sym was_none ∙ e) (λ e. own) (λ e. others) sure since rest was
      (none_given s t count c is (closed_has_none dumps (hub_of s) calls t stands closed))

module _ {S D : Type 0} {disk : Ghosts D} where
  -- by default something is given out only once all lines are on the disk
  pub some_settled : (s : Server S D disk) (t count : ℕ) → gives_early s ≡ false → 0 < length (take count (to_give s t))
      → is_settled s ≡ true
  some_settled s t count e some = by_early (gives_early s) (is_settled s) e refl some
    where
      x : Bytes
      x = unsent_of (buffers_of (hub_of s) t)

      early : Bytes
      early = cond (has_failed s) [] (front_by (all_wait (holds_of s)) (free_in (holds_of s) t) x)

      none : (n : ℕ) → 0 < length {A = ℕ} (take n []) → ⊥
      none zero some = absurd (omega (arith, some))
      none (suc n) some = absurd (omega (arith, some))

      by_early : (b settled : Bool) → b ≡ false → is_settled s ≡ settled → 0 < length (take count (cond b early (cond settled x [])))
          → is_settled s ≡ true
      by_early true settled e is some = absurd (false≢true (sym e))
      by_early false true e is some = is
      by_early false false e is some = absurd (none count some)

  pub given_left : (s now : Server S D disk) (t count c : ℕ) → c ≡ min count (length (to_give s t)) → now.journal ≡ s.journal
      → now.release ≡ s.release → buffers_of (hub_of now) t ≡ option_map (with_written c) (buffers_of (hub_of s) t)
      → all_wait (holds_of now) ≡ all_wait (holds_of s)
      → free_in (holds_of now) t ≡ option_map (λ n. n - c) (free_in (holds_of s) t) → to_give now t ≡ drop count (to_give s t)
  given_left s now t count c is journal release buffers all free =
      ap (λ (b : Bool). cond b (cond (has_failed now) [] (front_by (all_wait (holds_of now)) (free_in (holds_of now) t) y)) (cond (is_settled now) y []))
      (ap (λ (r : Release). is_early r) release)
      ∙ ap (λ (b : Bool). cond (gives_early s) (cond b [] (front_by (all_wait (holds_of now)) (free_in (holds_of now) t) y)) (cond (is_settled now) y []))
      (ap (λ (j : Journal D disk). j.has_failed) journal)
      ∙ ap (λ (b : Bool). cond (gives_early s) (cond (has_failed s) [] (front_by (all_wait (holds_of now)) (free_in (holds_of now) t) y)) (cond b y []))
      (ap (λ (j : Journal D disk). j.is_settled) journal)
      ∙ ap (λ (b : Bool). cond (gives_early s) (cond (has_failed s) [] (front_by b (free_in (holds_of now) t) y)) (cond (is_settled s) y [])) all
      ∙ ap (λ (o : Option ℕ). cond (gives_early s) (cond (has_failed s) [] (front_by (all_wait (holds_of s)) o y)) (cond (is_settled s) y [])) free
      ∙ ap (λ (l : Bytes). cond (gives_early s) (cond (has_failed s) [] (front_by (all_wait (holds_of s))
      (option_map (λ n. n - c) (free_in (holds_of s) t)) l)) (cond (is_settled s) l []))
      (ap unsent_of buffers ∙ left_of (buffers_of (hub_of s) t) c)
      ∙ by_case (gives_early s) (has_failed s) (is_settled s) is
    where
      x : Bytes
      x = unsent_of (buffers_of (hub_of s) t)

      y : Bytes
      y = unsent_of (buffers_of (hub_of now) t)

      front : Bytes
      front = front_by (all_wait (holds_of s)) (free_in (holds_of s) t) x

      left : Bytes
      left = front_by (all_wait (holds_of s)) (option_map (λ n. n - c) (free_in (holds_of s) t)) (drop c x)

      by_case : (early failed settled : Bool)
          → c ≡ min count (length (cond early (cond failed [] front) (cond settled x [])))
          → cond early (cond failed [] left) (cond settled (drop c x) []) ≡ drop count (cond early (cond failed [] front) (cond settled x []))
      by_case true true settled is = drop_none count
      by_case true false settled is = left_by (all_wait (holds_of s)) (free_in (holds_of s) t) x count c is
      by_case false failed true is = ap (λ (n : ℕ). drop n x) is ∙ drop_min count x
      by_case false failed false is = drop_none count
