-- Calls of a server of one connection, and what they say of its stream.
use Rattle.std.proofs.Common.{◌≡◌, ℕ, ◌<◌, Bool, true, false, cond, List, [], ◌∷◌, ◌++◌, length, take, Option, Some, None, refl, sym, ap, subst, ◌∙◌, append-nil, length-append, Result, Ok, Err, OnOk, IfErr, arith, ◌⊎◌, inl, inr}
use Rattle.std.specs.Prelude.{◌==◌, MatchOption, MatchResult}
use Rattle.std.specs.Io.KnownBytes.{Consumes, Appends, Keeps}
use Rattle.std.proofs.KnownBytes.{Consumes-nil, Appends-nil, Appends-trans}
use Rattle.std.proofs.lemmas.Bool.{eq-eqb, both_ways}
use Rattle.std.proofs.lemmas.Option.{same_Some, none-some}
use Rattle.sqlite_disk.specs.declared.Disk.{Ghosts}
use Rattle.ssi_store.specs.Meaning.Courses.{Course}
use Rattle.ssi_hub.specs.Clauses.Buffers.{Buffers}
use Rattle.ssi_hub.specs.Clauses.Clipping.{clipped}
use Rattle.ssi_hub.specs.Clauses.Calls.{Call, Received, Wrote, Closed, token_of, is_open, with_call, sent_by, written_to, all_steps}
use Rattle.ssi_hub.specs.Clauses.Serving.{StandsFor, IsServed}
use Rattle.ssi_hub.specs.Mirror.{buffers_of, is_stopped}
use Rattle.ssi_durable.specs.declared.server.Server.{Server}
use Rattle.ssi_durable.specs.Clauses.Serving.{Began}
use Rattle.ssi_durable.specs.Mirror.Servers.{Serves, hub_of, to_give, unsent_of}
use Rattle.ssi_durable.proofs.Giving.{gives_front}
use Rattle.ssi_cli.specs.declared.peer.Sent.TheVariants.{Bytes}
use Rattle.ssi_cli.specs.Clauses.Turns.{Exchanged, HasUnsent}
use Rattle.ssi_data.specs.Clauses.Calls.{MakesQuietly}

pub own : (t : ℕ) → (t == t) ≡ true
own t = eq-eqb t t refl

-- ---- a connection that is open

pub served_at : (dumps : Bool) (b : ℕ → Option Buffers) (next : ℕ) (stopped : Bool) (calls : List Call) (t : ℕ) (x : Buffers)
    → StandsFor dumps b next stopped calls → b t ≡ Some x
    → (left : List ℕ) × IsServed dumps t calls left x.unsent × (x.waiting ≡ clipped left) × (is_open t calls ≡ true)
served_at dumps b next stopped calls t x s has =
    let (left, unsent, served, is) = s.served t in
    by_open left unsent served (is_open t calls) refl (sym has ∙ is)
  where
    by_open : (left unsent : List ℕ) → IsServed dumps t calls left unsent → (o : Bool) → is_open t calls ≡ o
        → Some x ≡ cond o (Some (record { waiting = clipped left; unsent = unsent })) None
        → (left : List ℕ) × IsServed dumps t calls left x.unsent × (x.waiting ≡ clipped left) × (is_open t calls ≡ true)
    by_open left unsent served true opened same =
        let now = same_Some x (record { waiting = clipped left; unsent = unsent }) same in (
          left,
          subst (λ u. IsServed dumps t calls left u) (sym (ap (λ (y : Buffers). y.unsent) now)) served,
          ap (λ (y : Buffers). y.waiting) now,
          opened,
        )
    by_open left unsent served false opened same = absurd (none-some x (sym same))

pub is_there : (Q : Buffers → Type 0) (o : Option Buffers) (r : Bool) → MatchOption o (r ≡ false) Q → r ≡ true
    → (x : Buffers) × (o ≡ Some x)
is_there Q None r m is = absurd (both_ways r m is)
is_there Q (Some x) r m is = (x, refl)

pub ended_if_none : {E : Type 0} (n : ℕ) → n ≡ 0 → (0 < n) ⊎ E → E
ended_if_none n e (inl some) = absurd (omega (arith, some, e))
ended_if_none n e (inr x) = x

-- ---- what is exchanged by one call

pub none_exchanged : {S : Type 0} (remaining contents : S → Option (List ℕ)) (t : ℕ) (stream : S)
    → Exchanged remaining contents t stream stream [] []
none_exchanged remaining contents t stream =
    record { uses = tt; read = Consumes-nil (remaining stream); written = Appends-nil (contents stream) }

pub exchanged_dropped : {S : Type 0} (remaining contents : S → Option (List ℕ)) (t : ℕ) (old new : S) (bytes : List ℕ)
    → Consumes (remaining old) (remaining new) bytes → contents new ≡ contents old
    → Exchanged remaining contents t old new [] bytes
exchanged_dropped remaining contents t old new bytes read same = record {
  uses = tt;
  read = read;
  written = subst (λ o. Appends (contents old) o []) (sym same) (Appends-nil (contents old));
}

-- a read of no bytes
pub nothing_exchanged : {S : Type 0} (remaining contents : S → Option (List ℕ)) (t : ℕ) (old new : S) (count : ℕ)
    (room : List ℕ) → count ≡ 0 → Consumes (remaining old) (remaining new) (take count room) → contents new ≡ contents old
    → Exchanged remaining contents t old new [] []
nothing_exchanged remaining contents t old new count room none read same =
    exchanged_dropped remaining contents t old new []
    (subst (λ (m : ℕ). Consumes (remaining old) (remaining new) (take m room)) none read) same

pub exchanged_received : {S : Type 0} (remaining contents : S → Option (List ℕ)) (t : ℕ) (old new : S) (bytes : List ℕ)
    → Consumes (remaining old) (remaining new) bytes → contents new ≡ contents old
    → Exchanged remaining contents t old new (Received t bytes ∷ []) []
exchanged_received remaining contents t old new bytes read same = record {
  uses = (refl, tt);
  read = subst (Consumes (remaining old) (remaining new)) (sym all) read;
  written = subst (λ o. Appends (contents old) o []) (sym same) (Appends-nil (contents old));
}
  where
    all : sent_by t (Received t bytes ∷ []) ++ [] ≡ bytes
    all = append-nil (sent_by t (Received t bytes ∷ [])) ∙ ap (λ o. cond o bytes []) (own t)

keeps_appends : (a b : Option (List ℕ)) → Keeps a b → Appends a b []
keeps_appends None b kept = tt
keeps_appends (Some x) None kept = absurd kept
keeps_appends (Some x) (Some y) kept = kept ∙ sym (append-nil x)

-- one more write, after what was exchanged
pub exchanged_more : {S : Type 0} (remaining contents : S → Option (List ℕ)) (t : ℕ) (start old new : S) (bytes : List ℕ)
    (made : List Call) → Exchanged remaining contents t start old made [] → remaining new ≡ remaining old
    → Appends (contents old) (contents new) bytes → Exchanged remaining contents t start new (Wrote t bytes ∷ made) []
exchanged_more remaining contents t start old new bytes made one same wrote = record {
  uses = (refl, one.uses);
  read = subst (λ o. Consumes (remaining start) o (sent_by t made ++ [])) (sym same) one.read;
  written = subst (Appends (contents start) (contents new))
      (sym (ap (λ o. cond o (written_to t made ++ bytes) (written_to t made)) (own t)))
      (Appends-trans (contents start) (contents old) (contents new) (written_to t made) bytes one.written wrote);
}

-- what was exchanged stays if nothing is
pub exchanged_kept : {S : Type 0} (remaining contents : S → Option (List ℕ)) (t : ℕ) (start old new : S) (made : List Call)
    → Exchanged remaining contents t start old made [] → remaining new ≡ remaining old
    → Keeps (contents old) (contents new) → Exchanged remaining contents t start new made []
exchanged_kept remaining contents t start old new made one same kept = record {
  uses = one.uses;
  read = subst (λ o. Consumes (remaining start) o (sent_by t made ++ [])) (sym same) one.read;
  written = subst (Appends (contents start) (contents new)) (append-nil (written_to t made))
      (Appends-trans (contents start) (contents old) (contents new) (written_to t made) [] one.written
      (keeps_appends (contents old) (contents new) kept));
}

-- ---- calls, one after the other

module _ {T D : Type 0} {disk : Ghosts D} (dumps : Bool) (is_at : T → Course → Type 0) where
  pub open_at : (server : Server T D disk) (t : ℕ) (x : Buffers) → buffers_of (hub_of server) t ≡ Some x
      → (n : ℕ) (began : Began) (calls : List Call) → Serves dumps is_at n began server calls → is_open t calls ≡ true
  open_at server t x has n began calls s =
      let hub = hub_of server in
      let (left, served, waits, opened) = served_at dumps (buffers_of hub) hub.next (is_stopped hub) calls t x s.stands has in opened

  pub open_by : (Q : Buffers → Type 0) (server : Server T D disk) (t : ℕ) (r : Bool)
      → MatchOption (buffers_of (hub_of server) t) (r ≡ false) Q → r ≡ true
      → (n : ℕ) (began : Began) (calls : List Call) → Serves dumps is_at n began server calls → is_open t calls ≡ true
  open_by Q server t r m is n began calls s =
      let (x, has) = is_there Q (buffers_of (hub_of server) t) r m is in open_at server t x has n began calls s

  pub makes_none : (server : Server T D disk) (P : List Call → List Call → Type 0) → ((calls : List Call) → P calls [])
      → MakesQuietly dumps is_at server server P
  makes_none server P is = λ n began calls s. ([], s, refl, is calls)

  pub makes_one : (old new : Server T D disk) (c : Call) (P : List Call → List Call → Type 0)
      → ((n : ℕ) (began : Began) (calls : List Call) → Serves dumps is_at n began old calls
      → is_open (token_of c) calls ≡ true) → all_steps (c ∷ []) ≡ []
      → ((n : ℕ) (began : Began) (calls : List Call) → Serves dumps is_at n began old calls
      → Serves dumps is_at n began new (with_call c calls))
      → ((calls : List Call) → P calls (c ∷ [])) → MakesQuietly dumps is_at old new P
  makes_one old new c P opened quiet serves is = λ n began calls s. (
    c ∷ [],
    subst (Serves dumps is_at n began new) (ap (λ o. cond o (c ∷ calls) calls) (opened n began calls s)) (serves n began calls s),
    quiet,
    is calls,
  )

  -- of two calls the first was made, or the second after an error
  pub made_if_ok : {A E : Type 0} (r : Result A E) (old new : Server T D disk) (c d : Call)
      (P : List Call → List Call → Type 0)
      → ((n : ℕ) (began : Began) (calls : List Call) → Serves dumps is_at n began old calls
      → MatchResult r (λ _. Serves dumps is_at n began new (with_call c calls)) (λ _. Serves dumps is_at n began new (with_call d calls)))
      → ((n : ℕ) (began : Began) (calls : List Call) → Serves dumps is_at n began old calls
      → is_open (token_of c) calls ≡ true) → all_steps (c ∷ []) ≡ []
      → ((calls : List Call) → P calls (c ∷ [])) → OnOk r (MakesQuietly dumps is_at old new P)
  made_if_ok (Ok x) old new c d P serves opened quiet is = makes_one old new c P opened quiet serves is
  made_if_ok (Err e) old new c d P serves opened quiet is = tt

  pub made_if_err : {A E : Type 0} (r : Result A E) (why : E) (old new : Server T D disk) (c d : Call)
      (P : List Call → List Call → Type 0)
      → ((n : ℕ) (began : Began) (calls : List Call) → Serves dumps is_at n began old calls
      → MatchResult r (λ _. Serves dumps is_at n began new (with_call c calls)) (λ _. Serves dumps is_at n began new (with_call d calls)))
      → ((n : ℕ) (began : Began) (calls : List Call) → Serves dumps is_at n began old calls
      → is_open (token_of d) calls ≡ true) → all_steps (d ∷ []) ≡ []
      → IfErr r (λ e. e ≡ why) → ((calls : List Call) → P calls (d ∷ []))
      → IfErr r (λ e. (e ≡ why) × MakesQuietly dumps is_at old new P)
  made_if_err (Ok x) why old new c d P serves opened quiet said is = tt
  made_if_err (Err e) why old new c d P serves opened quiet said is =
      (said, makes_one old new d P opened quiet serves is)

  -- ---- writing what may be given out

  -- if something may be, then something is unsent
  has_unsent : (server : Server T D disk) (t : ℕ) → 0 < length (to_give server t)
      → (x : Buffers) × (buffers_of (hub_of server) t ≡ Some x) × (0 < length x.unsent)
  has_unsent server t some =
      let (rest, parts) = gives_front server t in
      by_open (buffers_of (hub_of server) t) refl
      (omega (arith, some, ap (λ (l : List ℕ). length l) parts, length-append (to_give server t) rest))
    where
      by_open : (o : Option Buffers) → buffers_of (hub_of server) t ≡ o → 0 < length (unsent_of o)
          → (x : Buffers) × (buffers_of (hub_of server) t ≡ Some x) × (0 < length x.unsent)
      by_open None is some = absurd (omega (arith, some))
      by_open (Some x) is some = (x, is, some)

  module _ {S : Type 0} (remaining contents : S → Option (List ℕ)) (t : ℕ) (start old new : S)
      (first server now : Server T D disk) (bytes : List ℕ) (out : bytes ≡ to_give server t) (some : 0 < length bytes)
      (makes : MakesQuietly dumps is_at first server (λ _ made. Exchanged remaining contents t start old made [])) where
    has : (x : Buffers) × (buffers_of (hub_of server) t ≡ Some x) × (0 < length x.unsent)
    has = has_unsent server t (subst (λ (l : List ℕ). 0 < length l) out some)

    pub sends : (count : ℕ) → remaining new ≡ remaining old → Appends (contents old) (contents new) (take count bytes)
        → ((n : ℕ) (began : Began) (calls : List Call) → Serves dumps is_at n began server calls
        → Serves dumps is_at n began now (with_call (Wrote t (take count (to_give server t))) calls))
        → MakesQuietly dumps is_at first now (λ _ made. Exchanged remaining contents t start new made [])
    sends count same wrote serves = λ n began calls s.
        let (x, there, unsent) = has in
        let (made, mid, quiet, one) = makes n began calls s in
        let wrote_now = take count (to_give server t) in
        let opened = open_at server t x there n began (made ++ calls) mid in (
          Wrote t wrote_now ∷ made,
          subst (Serves dumps is_at n began now) (ap (λ o. cond o (Wrote t wrote_now ∷ (made ++ calls)) (made ++ calls)) opened)
              (serves n began (made ++ calls) mid),
          quiet,
          exchanged_more remaining contents t start old new wrote_now made one same
              (subst (Appends (contents old) (contents new)) (ap (take count) out) wrote),
        )

    pub breaks : remaining new ≡ remaining old → Keeps (contents old) (contents new)
        → ((n : ℕ) (began : Began) (calls : List Call) → Serves dumps is_at n began server calls
        → Serves dumps is_at n began now (with_call (Closed t) calls))
        → MakesQuietly dumps is_at first now (λ calls made. (earlier : List Call) × (made ≡ Closed t ∷ earlier)
        × HasUnsent dumps t (earlier ++ calls) × Exchanged remaining contents t start new earlier [])
    breaks same kept serves = λ n began calls s.
        let (x, there, unsent) = has in
        let (made, mid, quiet, one) = makes n began calls s in
        let hub = hub_of server in
        let (left, served, waits, opened) =
        served_at dumps (buffers_of hub) hub.next (is_stopped hub) (made ++ calls) t x mid.stands there in (
          Closed t ∷ made,
          subst (Serves dumps is_at n began now) (ap (λ o. cond o (Closed t ∷ (made ++ calls)) (made ++ calls)) opened)
              (serves n began (made ++ calls) mid),
          quiet,
          (
            made,
            refl,
            (left, x.unsent, served, unsent),
            exchanged_kept remaining contents t start old new made one same kept,
          ),
        )

  pub stays : {S : Type 0} (remaining contents : S → Option (List ℕ)) (t : ℕ) (start old new : S)
      (first server : Server T D disk)
      → MakesQuietly dumps is_at first server (λ _ made. Exchanged remaining contents t start old made [])
      → remaining new ≡ remaining old → Keeps (contents old) (contents new)
      → MakesQuietly dumps is_at first server (λ _ made. Exchanged remaining contents t start new made [])
  stays remaining contents t start old new first server makes same kept = λ n began calls s.
      let (made, mid, quiet, one) = makes n began calls s in
      (made, mid, quiet, exchanged_kept remaining contents t start old new made one same kept)

pub some_bytes : (n m : ℕ) → Bytes n ≡ Bytes m → 0 < m → 0 < n
some_bytes n m e some =
    let same : n ≡ m = cc in
    omega (arith, same, some)
