-- What a hub stands for after one more call.
use Rattle.std.proofs.Common.{◌≡◌, ◌≢◌, ℕ, ◌<◌, ◌≤◌, ◌+◌, List, [], ◌∷◌, ◌++◌, Bool, true, false, cond, Option, Some, None, Result, Ok, Err, take, drop}
use Rattle.std.proofs.Common.{refl, sym, ap, subst, ◌∙◌, arith, take-append-drop, inl, inr}
use Rattle.std.specs.Prelude.{◌==◌, option_map, OnOk, OnErr, MatchResult}
use Rattle.std.specs.List.{AllByRecursion}
use Rattle.std.proofs.lemmas.List.Elements.{All-nil}
use Rattle.std.proofs.lemmas.Bool.{eqb-true, eqb-false, eq-eqb, cases_lt, both_ways}
use Rattle.ssi_line.specs.Meaning.Steps.{Step, is_stop}
use Rattle.ssi_hub.specs.Clauses.Clipping.{clipped}
use Rattle.ssi_hub.specs.Clauses.Buffers.{Buffers, no_bytes, with_received, with_written, first_unsent}
use Rattle.ssi_hub.specs.Clauses.Calls.{Call, Opened, Received, Wrote, Closed, token_of, is_open, all_steps, with_call}
use Rattle.ssi_hub.specs.Clauses.Runs.{EndsSo}
use Rattle.ssi_hub.specs.Clauses.Serving.{IsServed, StandsFor}
use Rattle.ssi_hub.specs.Machinery.Changes.{Changes, AreSame}
use Rattle.ssi_hub.proofs.Clips.{clips_pieces}
use Rattle.ssi_hub.proofs.Served.{served_none, served_other, open_other, fresh_served, fresh_closed, served_received, served_wrote, served_opened, served_closed}

-- what the hub has of a connection of which this is said
abbrev pub shown : Bool → List ℕ → List ℕ → Option Buffers
shown opened left unsent = cond opened (Some (record { waiting = clipped left; unsent = unsent })) None

abbrev pub Served : (keeps : Bool) → (ℕ → Option Buffers) → ℕ → List Call → Type 0
Served keeps buffers t calls = (left : List ℕ) × (unsent : List ℕ) × IsServed keeps t calls left unsent
    × (buffers t ≡ shown (is_open t calls) left unsent)

-- ---- nothing has changed

pub stands_same : (keeps : Bool) (b new : ℕ → Option Buffers) (next after : ℕ) (stopped ends : Bool) (calls : List Call)
    → ((t : ℕ) → new t ≡ b t) → after ≡ next → ends ≡ stopped → StandsFor keeps b next stopped calls
    → StandsFor keeps new after ends calls
stands_same keeps b new next after stopped ends calls same next_is stopped_is s = record {
  served = λ t. let (left, unsent, served, has) = s.served t in (left, unsent, served, same t ∙ has);
  given = subst (λ n. AllByRecursion (λ c. token_of c < n) calls) (sym next_is) s.given;
  ends = subst (λ e. EndsSo e (all_steps calls)) (sym stopped_is) s.ends;
}

-- ---- one more call

pub given_open : (next t : ℕ) (calls : List Call) → AllByRecursion (λ c. token_of c < next) calls
    → is_open t calls ≡ true → t < next
given_open next t calls given opened = elim (cases_lt t next) [
  | inl below ↦ below
  | inr above ↦ absurd (both_ways (is_open t calls) (fresh_closed next t calls given above) opened)
]

pub stands_more : (keeps : Bool) (b new : ℕ → Option Buffers) (next : ℕ) (stopped ends : Bool) (c : Call) (calls : List Call)
    → StandsFor keeps b next stopped calls → token_of c < next → ((u : ℕ) → u ≢ token_of c → new u ≡ b u)
    → Served keeps new (token_of c) (c ∷ calls) → EndsSo ends (all_steps (c ∷ calls))
    → StandsFor keeps new next ends (c ∷ calls)
stands_more keeps b new next stopped ends c calls s below others self last = record {
  served = λ t. by_token (token_of c == t) t refl;
  given = (below, s.given);
  ends = last;
}
  where
    by_token : (same : Bool) (t : ℕ) → (token_of c == t) ≡ same → Served keeps new t (c ∷ calls)
    by_token true t is = subst (λ u. Served keeps new u (c ∷ calls)) (eqb-true (token_of c) t is) self
    by_token false t is =
        let (left, unsent, served, has) = s.served t in (
          left,
          unsent,
          served_other keeps t c calls left unsent is served,
          others t (λ same. eqb-false (token_of c) t is (sym same))
              ∙ has ∙ ap (λ o. shown o left unsent) (sym (open_other t c calls is)),
        )

each_same : (b new : ℕ → Option Buffers) (t : ℕ) → ((u : ℕ) → u ≢ t → new u ≡ b u) → new t ≡ b t
    → (u : ℕ) → new u ≡ b u
each_same b new t others same u = by_token (u == t) refl
  where
    by_token : (is : Bool) → (u == t) ≡ is → new u ≡ b u
    by_token true e = subst (λ v. new v ≡ b v) (sym (eqb-true u t e)) same
    by_token false e = others u (eqb-false u t e)

-- a call that carries nothing out
pub stands_call : (keeps : Bool) (b new : ℕ → Option Buffers) (next after : ℕ) (stopped ends : Bool) (c : Call) (calls : List Call)
    → StandsFor keeps b next stopped calls → ((u : ℕ) → u ≢ token_of c → new u ≡ b u) → after ≡ next → ends ≡ stopped
    → all_steps (c ∷ calls) ≡ all_steps calls
    → (is_open (token_of c) calls ≡ false → new (token_of c) ≡ b (token_of c))
    → (is_open (token_of c) calls ≡ true → Served keeps new (token_of c) (c ∷ calls))
    → StandsFor keeps new after ends (with_call c calls)
stands_call keeps b new next after stopped ends c calls s others next_is stopped_is quiet gone there =
    by_open (is_open (token_of c) calls) refl
  where
    by_open : (opened : Bool) → is_open (token_of c) calls ≡ opened
        → StandsFor keeps new after ends (cond opened (c ∷ calls) calls)
    by_open true is =
        stands_same keeps new new next after stopped ends (c ∷ calls) (λ _. refl) next_is stopped_is
        (stands_more keeps b new next stopped stopped c calls s (given_open next (token_of c) calls s.given is) others
        (there is) (subst (λ (l : List Step). EndsSo stopped l) (sym quiet) s.ends))
    by_open false is =
        stands_same keeps b new next after stopped ends calls (each_same b new (token_of c) others (gone is)) next_is stopped_is s

-- what is said of a connection that is open, and of one that isn't
has_none : (keeps : Bool) (b : ℕ → Option Buffers) (t : ℕ) (calls : List Call) → Served keeps b t calls → is_open t calls ≡ false → b t ≡ None
has_none keeps b t calls (left, unsent, served, has) is = has ∙ ap (λ o. shown o left unsent) is

has_some : (b : ℕ → Option Buffers) (t : ℕ) (calls : List Call) (left unsent : List ℕ)
    → b t ≡ shown (is_open t calls) left unsent → is_open t calls ≡ true
    → b t ≡ Some (record { waiting = clipped left; unsent = unsent })
has_some b t calls left unsent has is = has ∙ ap (λ o. shown o left unsent) is

pub received_stands : (keeps : Bool) (b new : ℕ → Option Buffers) (next after : ℕ) (stopped ends : Bool) (t : ℕ) (bytes : List ℕ)
    (calls : List Call) → StandsFor keeps b next stopped calls → new t ≡ option_map (with_received bytes) (b t)
    → ((u : ℕ) → u ≢ t → new u ≡ b u) → after ≡ next → ends ≡ stopped
    → StandsFor keeps new after ends (with_call (Received t bytes) calls)
received_stands keeps b new next after stopped ends t bytes calls s self others next_is stopped_is =
    stands_call keeps b new next after stopped ends (Received t bytes) calls s others next_is stopped_is refl
    (λ is. let none = has_none keeps b t calls (s.served t) is in
    self ∙ ap (λ (o : Option Buffers). option_map (with_received bytes) o) none ∙ sym none)
    (λ is. let (left, unsent, served, has) = s.served t in (
      left ++ bytes,
      unsent,
      served_received keeps t bytes calls left unsent served,
      self ∙ ap (λ (o : Option Buffers). option_map (with_received bytes) o) (has_some b t calls left unsent has is)
          ∙ ap (λ (w : List ℕ). Some (record { waiting = w; unsent = unsent })) (clips_pieces left bytes)
          ∙ ap (λ o. shown o (left ++ bytes) unsent) (sym is),
    ))

pub wrote_stands : (keeps : Bool) (b new : ℕ → Option Buffers) (next after : ℕ) (stopped ends : Bool) (t count : ℕ) (bytes : List ℕ)
    (calls : List Call) → StandsFor keeps b next stopped calls → new t ≡ option_map (with_written count) (b t)
    → ((x : Buffers) → b t ≡ Some x → bytes ≡ take count x.unsent)
    → ((u : ℕ) → u ≢ t → new u ≡ b u) → after ≡ next → ends ≡ stopped
    → StandsFor keeps new after ends (with_call (Wrote t bytes) calls)
wrote_stands keeps b new next after stopped ends t count bytes calls s self are others next_is stopped_is =
    stands_call keeps b new next after stopped ends (Wrote t bytes) calls s others next_is stopped_is refl
    (λ is. let none = has_none keeps b t calls (s.served t) is in
    self ∙ ap (λ (o : Option Buffers). option_map (with_written count) o) none ∙ sym none)
    (λ is. let (left, unsent, served, has) = s.served t in
    let some = has_some b t calls left unsent has is in (
      left,
      drop count unsent,
      served_wrote keeps t bytes calls left unsent (drop count unsent)
          (sym (ap (λ (l : List ℕ). l ++ drop count unsent) (are (record { waiting = clipped left; unsent = unsent }) some)
          ∙ take-append-drop count unsent)) served,
      self ∙ ap (λ (o : Option Buffers). option_map (with_written count) o) some
          ∙ ap (λ o. shown o left (drop count unsent)) (sym is),
    ))

own : (t : ℕ) → (t == t) ≡ true
own t = eq-eqb t t refl

closed_now : (t : ℕ) (calls : List Call) → is_open t (Closed t ∷ calls) ≡ false
closed_now t calls = rw (own t) refl

pub closed_stands : (keeps : Bool) (b new : ℕ → Option Buffers) (next after : ℕ) (stopped ends : Bool) (t : ℕ) (calls : List Call)
    → StandsFor keeps b next stopped calls → new t ≡ None → ((u : ℕ) → u ≢ t → new u ≡ b u) → after ≡ next → ends ≡ stopped
    → StandsFor keeps new after ends (with_call (Closed t) calls)
closed_stands keeps b new next after stopped ends t calls s self others next_is stopped_is =
    stands_call keeps b new next after stopped ends (Closed t) calls s others next_is stopped_is refl
    (λ is. self ∙ sym (has_none keeps b t calls (s.served t) is))
    (λ is. let (left, unsent, served, has) = s.served t in (
      left,
      unsent,
      served_closed keeps t t calls left unsent served,
      self ∙ ap (λ o. shown o left unsent) (sym (closed_now t calls)),
    ))

given_later : (next after : ℕ) (calls : List Call) → next ≤ after → AllByRecursion (λ c. token_of c < next) calls
    → AllByRecursion (λ c. token_of c < after) calls
given_later next after [] rises given = tt
given_later next after (c ∷ calls) rises given = (omega (arith, given.0), given_later next after calls rises given.1)

opened_now : (t : ℕ) (calls : List Call) → is_open t (Opened t ∷ calls) ≡ true
opened_now t calls = rw (own t) refl

pub opened_stands : (keeps : Bool) (b new : ℕ → Option Buffers) (next after : ℕ) (stopped ends : Bool) (t : ℕ) (calls : List Call)
    → StandsFor keeps b next stopped calls → t ≡ next → new t ≡ Some no_bytes → ((u : ℕ) → u ≢ t → new u ≡ b u)
    → after ≡ next + 1 → ends ≡ stopped → StandsFor keeps new after ends (Opened t ∷ calls)
opened_stands keeps b new next after stopped ends t calls s token self others next_is stopped_is =
    let rises : next ≤ after = omega (arith, next_is) in
    let below : t < after = omega (arith, token, next_is) in
    let above : next ≤ t = omega (arith, token) in
    stands_same keeps new new after after stopped ends (Opened t ∷ calls) (λ _. refl) refl stopped_is
    (stands_more keeps b new after stopped stopped (Opened t) calls
    (record { served = s.served; given = given_later next after calls rises s.given; ends = s.ends }) below others (
      [],
      [],
      served_opened keeps t t calls [] [] (fresh_served keeps next t calls s.given above),
      self ∙ ap (λ o. shown o [] []) (sym (opened_now t calls)),
    ) s.ends)

-- ---- what a call of a table leaves

pub received_so : {T E : Type 0} (keeps : Bool) (r : Result T E) (b new : ℕ → Option Buffers) (next : ℕ) (stopped : Bool) (t : ℕ)
    (bytes : List ℕ) (calls : List Call) → StandsFor keeps b next stopped calls
    → OnOk r (Changes b new t (option_map (with_received bytes) (b t))) → OnErr r (AreSame b new)
    → MatchResult r (λ _. StandsFor keeps new next stopped (with_call (Received t bytes) calls))
    (λ _. StandsFor keeps new next stopped calls)
received_so keeps (Ok x) b new next stopped t bytes calls s ok err =
    received_stands keeps b new next next stopped stopped t bytes calls s ok.own ok.others refl refl
received_so keeps (Err e) b new next stopped t bytes calls s ok err =
    stands_same keeps b new next next stopped stopped calls err refl refl s

first_is : (count : ℕ) (o : Option Buffers) (x : Buffers) → o ≡ Some x → first_unsent count o ≡ take count x.unsent
first_is count o x is = ap (λ (q : Option Buffers). first_unsent count q) is

pub wrote_so : (keeps : Bool) (b new : ℕ → Option Buffers) (next : ℕ) (stopped : Bool) (t count : ℕ) (calls : List Call)
    → StandsFor keeps b next stopped calls → Changes b new t (option_map (with_written count) (b t))
    → StandsFor keeps new next stopped (with_call (Wrote t (first_unsent count (b t))) calls)
wrote_so keeps b new next stopped t count calls s changes =
    wrote_stands keeps b new next next stopped stopped t count (first_unsent count (b t)) calls s changes.own
    (λ x is. first_is count (b t) x is) changes.others refl refl

pub closed_so : (keeps : Bool) (b new : ℕ → Option Buffers) (next : ℕ) (stopped : Bool) (t : ℕ) (calls : List Call)
    → StandsFor keeps b next stopped calls → Changes b new t None → StandsFor keeps new next stopped (with_call (Closed t) calls)
closed_so keeps b new next stopped t calls s changes =
    closed_stands keeps b new next next stopped stopped t calls s changes.own changes.others refl refl

pub opened_so : (keeps : Bool) (b new : ℕ → Option Buffers) (next after : ℕ) (stopped : Bool) (calls : List Call)
    → StandsFor keeps b next stopped calls → Changes b new next (Some no_bytes) → after ≡ next + 1
    → StandsFor keeps new after stopped (Opened next ∷ calls)
opened_so keeps b new next after stopped calls s changes more =
    opened_stands keeps b new next after stopped stopped next calls s refl changes.own changes.others more refl

pub new_so : (keeps : Bool) (b : ℕ → Option Buffers) → ((t : ℕ) → b t ≡ None) → StandsFor keeps b 0 false []
new_so keeps b none = record {
  served = λ t. ([], [], served_none keeps t, none t);
  given = tt;
  ends = All-nil (λ x. is_stop x ≡ false);
}
