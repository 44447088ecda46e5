-- How a connection ends when the run was stopped.
use Rattle.std.proofs.Common.{◌≡◌, ◌<◌, ◌∙◌, ℕ, Bool, true, cond, List, [], ◌∷◌, ◌++◌, length, Option, Some, None, refl, sym, ap, subst, arith}
use Rattle.std.specs.Prelude.{MatchOption, is_some, nat_lt, false}
use Rattle.std.specs.List.{AllByRecursion}
use Rattle.std.proofs.lemmas.Bool.{false≢true, lt-ltb}
use Rattle.ssi_hub.specs.declared.hub.Hub.{Hub}
use Rattle.ssi_hub.specs.Clauses.Buffers.{Buffers}
use Rattle.ssi_hub.specs.Clauses.Clipping.{clipped}
use Rattle.ssi_hub.specs.Clauses.Calls.{Call, Opened, Received, Ran, Wrote, Closed, is_open, with_call}
use Rattle.ssi_hub.specs.Clauses.Serving.{IsServed}
use Rattle.ssi_hub.specs.Mirror.{Stands, buffers_of}
use Rattle.ssi_cli.specs.declared.closing.Closing.{Closing}
use Rattle.ssi_cli.specs.declared.closing.Closing.TheVariants.{Ended, Broken, Stopped}
use Rattle.ssi_cli.specs.Clauses.Parting.{IsPartedFor, HasParted}
use Rattle.ssi_cli.specs.Clauses.Turns.{Makes, Exchanged, HasUnsent, IsUseOf}
use Rattle.ssi_cli.proofs.Makings.{open_at, makes_more}

-- how it ends, if replies are unsent or none are
abbrev pub ends_by : Bool → Closing
ends_by unsent = cond unsent Stopped Ended

uses_leave_open : (t : ℕ) (made calls : List Call) → AllByRecursion (IsUseOf t) made → is_open t calls ≡ true
    → is_open t (made ++ calls) ≡ true
uses_leave_open t [] calls uses opened = opened
uses_leave_open t (Opened u ∷ made) calls uses opened = absurd uses.0
uses_leave_open t (Received u bytes ∷ made) calls uses opened = uses_leave_open t made calls uses.1 opened
uses_leave_open t (Ran u lines steps ∷ made) calls uses opened = uses_leave_open t made calls uses.1 opened
uses_leave_open t (Wrote u bytes ∷ made) calls uses opened = uses_leave_open t made calls uses.1 opened
uses_leave_open t (Closed u ∷ made) calls uses opened = absurd uses.0

there_is : (o : Option Buffers) → is_some o ≡ true → (b : Buffers) × (o ≡ Some b)
there_is None is = absurd (false≢true is)
there_is (Some b) is = (b, refl)

parted_for : (t : ℕ) (calls : List Call) (wants : Bool) (left unsent : List ℕ) → IsServed true t calls left unsent
    → wants ≡ nat_lt 0 (length unsent) → IsPartedFor t calls (ends_by wants)
parted_for t calls wants left [] served is =
    subst (λ w. IsPartedFor t calls (ends_by w)) (sym is) (left, served)
parted_for t calls wants left (b ∷ bytes) served is =
    let some : 0 < length (b ∷ bytes) = omega (arith) in
    subst (λ w. IsPartedFor t calls (ends_by w)) (sym (is ∙ lt-ltb 0 (length (b ∷ bytes)) some)) (left, b ∷ bytes, served, some)

module _ {S : Type 0} (remaining contents : S → Option (List ℕ)) (t : ℕ) (start left : S) (old mid new : Hub) where
  pub parts : (wants : Bool) → is_some (buffers_of old t) ≡ true
      → Makes old mid (λ _ made. Exchanged remaining contents t start left made [])
      → MatchOption (buffers_of mid t) (wants ≡ false) (λ b. wants ≡ nat_lt 0 (length b.unsent))
      → ((calls : List Call) → Stands true mid calls → Stands true new (with_call (Closed t) calls))
      → Makes old new (HasParted remaining contents t start left (ends_by wants))
  parts wants there makes told closes = λ calls s.
      let (b, has) = there_is (buffers_of old t) there in
      let (made, stands, quiet, one) = makes calls s in
      let opened : is_open t (made ++ calls) ≡ true =
      uses_leave_open t made calls one.uses (open_at old t b has calls s) in
      let (rest, unsent, served, is) = stands.served t in
      let now : Buffers = record { waiting = clipped rest; unsent = unsent } in
      let has_now : buffers_of mid t ≡ Some now = is ∙ ap (λ o. cond o (Some now) None) opened in
      let how : wants ≡ nat_lt 0 (length unsent) =
      subst (λ (o : Option Buffers). MatchOption o (wants ≡ false) (λ b. wants ≡ nat_lt 0 (length b.unsent))) has_now told in (
        Closed t ∷ made,
        subst (Stands true new) (ap (λ o. cond o (Closed t ∷ (made ++ calls)) (made ++ calls)) opened)
            (closes (made ++ calls) stands),
        quiet,
        record {
          writes = made;
          is = refl;
          exchanged = one;
          for = parted_for t (made ++ calls) wants rest unsent served how;
        },
      )

-- a write that failed ends it, too
pub breaks_off : {S : Type 0} (remaining contents : S → Option (List ℕ)) (t : ℕ) (start left : S) (old new : Hub)
    (why : Closing) → (why ≡ Broken) × Makes old new (λ calls made. (earlier : List Call) × (made ≡ Closed t ∷ earlier)
    × HasUnsent true t (earlier ++ calls) × Exchanged remaining contents t start left earlier [])
    → Makes old new (HasParted remaining contents t start left why)
breaks_off remaining contents t start left old new why broken =
    makes_more old new (λ calls made. (earlier : List Call) × (made ≡ Closed t ∷ earlier) × HasUnsent true t (earlier ++ calls)
    × Exchanged remaining contents t start left earlier []) (HasParted remaining contents t start left why) broken.1
    (λ calls made is. let (earlier, same, unsent, one) = is in record {
      writes = earlier;
      is = same;
      exchanged = one;
      for = subst (λ w. IsPartedFor t (earlier ++ calls) w) (sym broken.0) unsent;
    })
