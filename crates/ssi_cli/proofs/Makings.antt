-- Calls of a hub of one connection, and what they say of its stream.
use Rattle.std.proofs.Common.{◌≡◌, ℕ, ◌-◌, ◌<◌, length-drop, Bool, true, false, cond, List, [], ◌∷◌, ◌++◌, length, take, Option, Some, None, refl, sym, ap, subst, ◌∙◌, append_assoc, append-nil, Result, Ok, Err, OnOk, IfErr, arith, ◌⊎◌, inl, inr}
use Rattle.std.specs.Prelude.{◌==◌, not, ◌&&◌, nat_le, IsOk, MatchOption, MatchResult}
use Rattle.std.specs.Option.{option_map}
use Rattle.std.specs.Io.KnownBytes.{Consumes, Appends, Keeps}
use Rattle.std.proofs.KnownBytes.{Consumes-nil, Appends-nil}
use Rattle.std.proofs.lemmas.Bool.{eq-eqb, both_ways, false≢true}
use Rattle.std.proofs.lemmas.Option.{same_Some, none-some}
use Rattle.ssi_hub.specs.declared.hub.Hub.{Hub}
use Rattle.ssi_hub.specs.Clauses.Buffers.{Buffers, first_unsent, with_written}
use Rattle.ssi_hub.specs.Clauses.Clipping.{clipped, has_line}
use Rattle.ssi_hub.specs.Clauses.Calls.{Call, Received, Wrote, Closed, token_of, is_open, with_call, sent_by, all_steps}
use Rattle.ssi_hub.specs.Clauses.Serving.{StandsFor, IsServed}
use Rattle.ssi_hub.specs.Mirror.{Stands, buffers_of, is_stopped}
use Rattle.ssi_cli.specs.Clauses.Turns.{Makes, Exchanged, HasUnsent, NoneUnsent, MayRun}
use Rattle.ssi_cli.specs.declared.peer.Sent.TheVariants.{Bytes, Never}
use Rattle.ssi_cli.proofs.Exchanges.{steps_both, exchanged_both}

-- ---- a connection that is open

pub served_at : (b : ℕ → Option Buffers) (next : ℕ) (stopped : Bool) (calls : List Call) (t : ℕ) (x : Buffers)
    → StandsFor true b next stopped calls → b t ≡ Some x
    → (left : List ℕ) × IsServed true t calls left x.unsent × (x.waiting ≡ clipped left) × (is_open t calls ≡ true)
served_at b next stopped calls t x s has =
    let (left, unsent, served, is) = s.served t in
    by_open left unsent served (is_open t calls) refl (sym has ∙ is)
  where
    by_open : (left unsent : List ℕ) → IsServed true t calls left unsent → (o : Bool) → is_open t calls ≡ o
        → Some x ≡ cond o (Some (record { waiting = clipped left; unsent = unsent })) None
        → (left : List ℕ) × IsServed true t calls left x.unsent × (x.waiting ≡ clipped left) × (is_open t calls ≡ true)
    by_open left unsent served true opened same =
        let now = same_Some x (record { waiting = clipped left; unsent = unsent }) same in (
          left,
          subst (λ u. IsServed true t calls left u) (sym (ap (λ (y : Buffers). y.unsent) now)) served,
          ap (λ (y : Buffers). y.waiting) now,
          opened,
        )
    by_open left unsent served false opened same = absurd (none-some x (sym same))

pub open_at : (hub : Hub) (t : ℕ) (x : Buffers) → buffers_of hub t ≡ Some x → (calls : List Call) → Stands true hub calls
    → is_open t calls ≡ true
open_at hub t x has calls s =
    let (left, served, waits, opened) = served_at (buffers_of hub) hub.next (is_stopped hub) calls t x s has in opened

pub is_there : (Q : Buffers → Type 0) (o : Option Buffers) (r : Bool) → MatchOption o (r ≡ false) Q → r ≡ true
    → (x : Buffers) × (o ≡ Some x)
is_there Q None r m is = absurd (both_ways r m is)
is_there Q (Some x) r m is = (x, refl)

-- nothing is read while a line waits
pub cant_read : (stopped : Bool) (o : Option Buffers) (r : Bool)
    → MatchOption o (r ≡ false) (λ b. r ≡ (not stopped && (not (has_line b.waiting) && nat_le (length b.unsent) 65536)))
    → r ≡ true → MayRun stopped o → ⊥
cant_read stopped None r m is may = may
cant_read stopped (Some b) r m is may =
    let (goes, waits, short) = may in
    false≢true
    (sym (m
    ∙ ap (λ o. not o && (not (has_line b.waiting) && nat_le (length b.unsent) 65536)) goes
    ∙ ap (λ o. not o && nat_le (length b.unsent) 65536) waits)
    ∙ is)

-- ---- calls, one after the other

pub makes_none : (hub : Hub) (P : List Call → List Call → Type 0) → ((calls : List Call) → P calls []) → Makes hub hub P
makes_none hub P is = λ calls s. ([], s, refl, is calls)

pub makes_one : (old new : Hub) (c : Call) (P : List Call → List Call → Type 0)
    → ((calls : List Call) → Stands true old calls → is_open (token_of c) calls ≡ true) → all_steps (c ∷ []) ≡ []
    → ((calls : List Call) → Stands true old calls → Stands true new (with_call c calls))
    → ((calls : List Call) → Stands true old calls → P calls (c ∷ [])) → Makes old new P
makes_one old new c P opened quiet stands is = λ calls s. (
  c ∷ [],
  subst (Stands true new) (ap (λ o. cond o (c ∷ calls) calls) (opened calls s)) (stands calls s),
  quiet,
  is calls s,
)

pub makes_both : (old mid new : Hub) (P Q R : List Call → List Call → Type 0) → Makes old mid P → Makes mid new Q
    → ((calls some more : List Call) → P calls some → Q (some ++ calls) more → R calls (more ++ some)) → Makes old new R
makes_both old mid new P Q R first then both = λ calls s.
    let (some, stands, quiet, is) = first calls s in
    let (more, now, still, goes) = then (some ++ calls) stands in (
      more ++ some,
      subst (Stands true new) (sym (append_assoc more some calls)) now,
      steps_both more some ∙ ap (λ l. l ++ all_steps more) quiet ∙ still,
      both calls some more is goes,
    )

pub makes_more : (old new : Hub) (P Q : List Call → List Call → Type 0) → Makes old new P
    → ((calls made : List Call) → P calls made → Q calls made) → Makes old new Q
makes_more old new P Q first more = λ calls s.
    let (made, stands, quiet, is) = first calls s in (made, stands, quiet, more calls made is)

pub open_by : (Q : Buffers → Type 0) (hub : Hub) (t : ℕ) (r : Bool) → MatchOption (buffers_of hub t) (r ≡ false) Q
    → r ≡ true → (calls : List Call) → Stands true hub calls → is_open t calls ≡ true
open_by Q hub t r m is calls s = let (x, has) = is_there Q (buffers_of hub t) r m is in open_at hub t x has calls s

pub ended_if_none : {E : Type 0} (n : ℕ) → n ≡ 0 → (0 < n) ⊎ E → E
ended_if_none n e (inl some) = absurd (omega (arith, some, e))
ended_if_none n e (inr x) = x

pub when_ok : {T E P : Type 0} (r : Result T E) → OnOk r P → IsOk r → P
when_ok (Ok x) m is = m
when_ok (Err e) m is = absurd (false≢true is)

-- of two calls the first was made, or the second after an error
pub made_if_ok : {T E : Type 0} (r : Result T E) (old new : Hub) (c d : Call) (P : List Call → List Call → Type 0)
    → ((calls : List Call) → Stands true old calls
    → MatchResult r (λ _. Stands true new (with_call c calls)) (λ _. Stands true new (with_call d calls)))
    → ((calls : List Call) → Stands true old calls → is_open (token_of c) calls ≡ true) → all_steps (c ∷ []) ≡ []
    → ((calls : List Call) → P calls (c ∷ [])) → OnOk r (Makes old new P)
made_if_ok (Ok x) old new c d P stands opened quiet is = makes_one old new c P opened quiet stands (λ calls s. is calls)
made_if_ok (Err e) old new c d P stands opened quiet is = tt

pub made_if_err : {T E : Type 0} (r : Result T E) (why : E) (old new : Hub) (c d : Call)
    (P : List Call → List Call → Type 0)
    → ((calls : List Call) → Stands true old calls
    → MatchResult r (λ _. Stands true new (with_call c calls)) (λ _. Stands true new (with_call d calls)))
    → ((calls : List Call) → Stands true old calls → is_open (token_of d) calls ≡ true) → all_steps (d ∷ []) ≡ []
    → IfErr r (λ e. e ≡ why) → ((calls : List Call) → P calls (d ∷ [])) → IfErr r (λ e. (e ≡ why) × Makes old new P)
made_if_err (Ok x) why old new c d P stands opened quiet said is = tt
made_if_err (Err e) why old new c d P stands opened quiet said is =
    (said, makes_one old new d P opened quiet stands (λ calls s. is calls))

-- ---- what is exchanged by one call

own : (t : ℕ) → (t == t) ≡ true
own t = eq-eqb t t refl

pub exchanged_dropped : {S : Type 0} (remaining contents : S → Option (List ℕ)) (t : ℕ) (old new : S) (bytes : List ℕ)
    → Consumes (remaining old) (remaining new) bytes → contents new ≡ contents old
    → Exchanged remaining contents t old new [] bytes
exchanged_dropped remaining contents t old new bytes read same = record {
  uses = tt;
  read = read;
  written = subst (λ o. Appends (contents old) o []) (sym same) (Appends-nil (contents old));
}

pub exchanged_received : {S : Type 0} (remaining contents : S → Option (List ℕ)) (t : ℕ) (old new : S) (bytes : List ℕ)
    → Consumes (remaining old) (remaining new) bytes → contents new ≡ contents old
    → Exchanged remaining contents t old new (Received t bytes ∷ []) []
exchanged_received remaining contents t old new bytes read same = record {
  uses = (refl, tt);
  read = subst (Consumes (remaining old) (remaining new)) (sym all) read;
  written = subst (λ o. Appends (contents old) o []) (sym same) (Appends-nil (contents old));
}
  where
    all : sent_by t (Received t bytes ∷ []) ++ [] ≡ bytes
    all = append-nil (sent_by t (Received t bytes ∷ [])) ∙ ap (λ o. cond o bytes []) (own t)

pub exchanged_wrote : {S : Type 0} (remaining contents : S → Option (List ℕ)) (t : ℕ) (old new : S) (bytes : List ℕ)
    → remaining new ≡ remaining old → Appends (contents old) (contents new) bytes
    → Exchanged remaining contents t old new (Wrote t bytes ∷ []) []
exchanged_wrote remaining contents t old new bytes same wrote = record {
  uses = (refl, tt);
  read = subst (λ o. Consumes (remaining old) o []) (sym same) (Consumes-nil (remaining old));
  written = subst (Appends (contents old) (contents new)) (sym (ap (λ o. cond o bytes []) (own t))) wrote;
}

keeps_appends : (a b : Option (List ℕ)) → Keeps a b → Appends a b []
keeps_appends None b kept = tt
keeps_appends (Some x) None kept = absurd kept
keeps_appends (Some x) (Some y) kept = kept ∙ sym (append-nil x)

pub exchanged_kept : {S : Type 0} (remaining contents : S → Option (List ℕ)) (t : ℕ) (old new : S)
    → remaining new ≡ remaining old → Keeps (contents old) (contents new)
    → Exchanged remaining contents t old new [] []
exchanged_kept remaining contents t old new same kept = record {
  uses = tt;
  read = subst (λ o. Consumes (remaining old) o []) (sym same) (Consumes-nil (remaining old));
  written = keeps_appends (contents old) (contents new) kept;
}

-- ---- writing what is unsent

pub as_many : (o : Option Buffers) (n : ℕ) (bytes : List ℕ) → MatchOption o (n ≡ 0) (λ b. n ≡ length b.unsent)
    → MatchOption o (bytes ≡ []) (λ b. bytes ≡ b.unsent) → length bytes ≡ n
as_many None n bytes none is = ap (λ (l : List ℕ). length l) is ∙ sym none
as_many (Some b) n bytes counted is = ap (λ (l : List ℕ). length l) is ∙ sym counted

pub counts : (o : Option Buffers) (n : ℕ) (bytes : List ℕ) → MatchOption o (bytes ≡ []) (λ b. bytes ≡ b.unsent)
    → n ≡ length bytes → MatchOption o (n ≡ 0) (λ b. n ≡ length b.unsent)
counts None n bytes is counted = counted ∙ ap (λ (l : List ℕ). length l) is
counts (Some b) n bytes is counted = counted ∙ ap (λ (l : List ℕ). length l) is

pub counts_less : (o now : Option Buffers) (n count : ℕ) → MatchOption o (n ≡ 0) (λ b. n ≡ length b.unsent)
    → now ≡ option_map (with_written count) o → MatchOption now (n - count ≡ 0) (λ b. n - count ≡ length b.unsent)
counts_less o now n count counted is =
    subst (λ (x : Option Buffers). MatchOption x (n - count ≡ 0) (λ b. n - count ≡ length b.unsent)) (sym is) (by_open o counted)
  where
    by_open : (o : Option Buffers) → MatchOption o (n ≡ 0) (λ b. n ≡ length b.unsent)
        → MatchOption (option_map (with_written count) o) (n - count ≡ 0) (λ b. n - count ≡ length b.unsent)
    by_open None none = omega (arith, none)
    by_open (Some b) counted = ap (λ m. m - count) counted ∙ sym (length-drop count b.unsent)

pub none_left : (o : Option Buffers) (n : ℕ) → MatchOption o (n ≡ 0) (λ b. n ≡ length b.unsent) → n ≡ 0 → NoneUnsent o
none_left None n counted none = tt
none_left (Some b) n counted none = empty b.unsent (sym counted ∙ none)
  where
    empty : (xs : List ℕ) → length xs ≡ 0 → xs ≡ []
    empty [] e = refl
    empty (x ∷ xs) e = absurd (omega (arith, e))

unsent_is : (o : Option Buffers) (bytes : List ℕ) → MatchOption o (bytes ≡ []) (λ b. bytes ≡ b.unsent) → 0 < length bytes
    → (x : Buffers) × (o ≡ Some x) × (bytes ≡ x.unsent)
unsent_is None bytes m some = absurd (omega (arith, some, ap (λ (l : List ℕ). length l) m))
unsent_is (Some x) bytes m some = (x, refl, m)

module _ {S : Type 0} (remaining contents : S → Option (List ℕ)) (t : ℕ) (start old new : S) (first hub now : Hub)
    (bytes : List ℕ) where
  pub sends : (count : ℕ) → MatchOption (buffers_of hub t) (bytes ≡ []) (λ b. bytes ≡ b.unsent) → 0 < length bytes
      → Makes first hub (λ _ made. Exchanged remaining contents t start old made [])
      → remaining new ≡ remaining old → Appends (contents old) (contents new) (take count bytes)
      → ((calls : List Call) → Stands true hub calls
      → Stands true now (with_call (Wrote t (first_unsent count (buffers_of hub t))) calls))
      → Makes first now (λ _ made. Exchanged remaining contents t start new made [])
  sends count m some makes same wrote stands =
      let (x, has, is) = unsent_is (buffers_of hub t) bytes m some in
      let front : take count bytes ≡ first_unsent count (buffers_of hub t) =
      ap (take count) is ∙ sym (ap (first_unsent count) has) in
      makes_both first hub now (λ _ made. Exchanged remaining contents t start old made [])
      (λ _ made. Exchanged remaining contents t old new made []) (λ _ made. Exchanged remaining contents t start new made [])
      makes
      (makes_one hub now (Wrote t (first_unsent count (buffers_of hub t)))
      (λ _ made. Exchanged remaining contents t old new made []) (open_at hub t x has) refl stands
      (λ calls s. exchanged_wrote remaining contents t old new (first_unsent count (buffers_of hub t)) same
      (subst (Appends (contents old) (contents new)) front wrote)))
      (λ calls some more one two. exchanged_both remaining contents t start old new some more [] one two)

  pub stays : Makes first hub (λ _ made. Exchanged remaining contents t start old made [])
      → remaining new ≡ remaining old → Keeps (contents old) (contents new)
      → Makes first hub (λ _ made. Exchanged remaining contents t start new made [])
  stays makes same kept =
      makes_more first hub (λ _ made. Exchanged remaining contents t start old made [])
      (λ _ made. Exchanged remaining contents t start new made []) makes
      (λ calls made one. exchanged_both remaining contents t start old new made [] [] one
      (exchanged_kept remaining contents t old new same kept))

  pub breaks : MatchOption (buffers_of hub t) (bytes ≡ []) (λ b. bytes ≡ b.unsent) → 0 < length bytes
      → Makes first hub (λ _ made. Exchanged remaining contents t start old made [])
      → remaining new ≡ remaining old → Keeps (contents old) (contents new)
      → ((calls : List Call) → Stands true hub calls → Stands true now (with_call (Closed t) calls))
      → Makes first now (λ calls made. (earlier : List Call) × (made ≡ Closed t ∷ earlier) × HasUnsent true t (earlier ++ calls)
      × Exchanged remaining contents t start new earlier [])
  breaks m some makes same kept stands = λ calls s.
      let (x, has, is) = unsent_is (buffers_of hub t) bytes m some in
      let (made, mid, quiet, one) = stays makes same kept calls s in
      let (left, served, waits, opened) = served_at (buffers_of hub) hub.next (is_stopped hub) (made ++ calls) t x mid has in (
        Closed t ∷ made,
        subst (Stands true now) (ap (λ o. cond o (Closed t ∷ (made ++ calls)) (made ++ calls)) opened) (stands (made ++ calls) mid),
        quiet,
        (made, refl, (left, x.unsent, served, subst (λ (l : List ℕ). 0 < length l) is some), one),
      )

pub never_bytes : (n : ℕ) → Never ≡ Bytes n → ⊥
never_bytes n e = cc

pub some_bytes : (n m : ℕ) → Bytes n ≡ Bytes m → 0 < m → 0 < n
some_bytes n m e some =
    let same : n ≡ m = cc in
    omega (arith, same, some)
