-- Who wrote what, a transaction's last write of a key, and whose a commit is.
use Rattle.std.proofs.Common.{◌≡◌, ℕ, ◌==◌, true, ◌&&◌, List, [], ◌∷◌, Some, None, is_some, refl, sym, ap, arith}
use Rattle.std.specs.List.{filter_map, Contains}
use Rattle.std.proofs.lemmas.Bool.{eqb-true, eq-eqb, and_parts, and_from}
use Rattle.std.proofs.lemmas.Option.{same_Some, none-some}
use Rattle.lemmas.proofs.Members.{none_contained, Contains-cons}
use Rattle.lemmas.proofs.Filters.{Contains-filter, filter-source, filter_map-source}
use Rattle.lemmas.proofs.Options.{some_value, some_unless_none}
use Rattle.lemmas.proofs.Tests.{list_any-source}
use Rattle.lemmas.proofs.Orderings.{bytes_eq-same, bytes_eq-from}
use Rattle.adya_keys.specs.Meaning.Keys.{key_eq}
use Rattle.adya_values.specs.Meaning.Histories.{Entry, Event, Write, Delete, Read, Scan, Commit, Abort}
use Rattle.adya_values.specs.Meaning.Events.{txn_of, written, writes_of, last, last_write, commits, is_committed}
use Rattle.adya_values.specs.Clauses.Rules.{installs}

-- ---- the last of a list

pub last_contained : {X : Type 0} (xs : List X) (x : X) → last xs ≡ Some x → Contains xs x
last_contained [] x e = absurd (none-some x e)
last_contained (y ∷ []) x e = (0, omega arith, same_Some y x e)
last_contained (y ∷ z ∷ zs) x e = Contains-cons y (z ∷ zs) x (last_contained (z ∷ zs) x e)

pub last_cons : {X : Type 0} (x : X) (xs : List X) → last (x ∷ xs) ≡ None → ⊥
last_cons x [] e = none-some x (sym e)
last_cons x (y ∷ ys) e = last_cons y ys e

pub last_missing : {X : Type 0} (xs : List X) (x : X) → Contains xs x → last xs ≡ None → ⊥
last_missing [] x c e = none_contained x c
last_missing (y ∷ ys) x c e = last_cons y ys e

-- ---- writes

-- a write of the key by the transaction
pub record IsWriteOf (t : ℕ) (k : List ℕ) (es : List Event) (w : Entry) : Type 0 where
  pub there : Contains (filter_map written es) w
  pub txn_is : w.version.txn ≡ t
  pub key_is : w.version.key ≡ k

pub last_write_from : (t : ℕ) (k : List ℕ) (es : List Event) (w : Entry) → last_write t k es ≡ Some w
    → IsWriteOf t k es w
last_write_from t k es w e =
    let at = filter-source (λ x. x.version.txn == t && key_eq x.version.key k) (filter_map written es) w
    (last_contained (writes_of t k es) w e) in
    let both = and_parts _ _ at.1 in
    record { there = at.0; txn_is = eqb-true _ _ both.0; key_is = bytes_eq-same _ _ both.1 }

-- who has written a key has a last write of it
pub last_write_missing : (t : ℕ) (k : List ℕ) (es : List Event) (w : Entry) → IsWriteOf t k es w
    → last_write t k es ≡ None → ⊥
last_write_missing t k es w is =
    last_missing (writes_of t k es) w
    (Contains-filter (λ x. x.version.txn == t && key_eq x.version.key k) (filter_map written es) w is.there
    (and_from _ _ (eq-eqb _ _ is.txn_is) (bytes_eq-from _ _ is.key_is)))

pub has_last_write : (es : List Event) (w : Entry) → Contains (filter_map written es) w
    → is_some (last_write w.version.txn w.version.key es) ≡ true
has_last_write es w c =
    some_unless_none _ (last_write_missing w.version.txn w.version.key es w (record { there = c; txn_is = refl; key_is = refl }))

-- a version is written by an event of its transaction
pub written_txn : (e : Event) (o : Entry) → written e ≡ Some o → txn_of e ≡ o.version.txn
written_txn (Write t k m v) o e = ap (λ w. w.version.txn) (same_Some _ o e)
written_txn (Delete t k m) o e = ap (λ w. w.version.txn) (same_Some _ o e)
written_txn (Read t r v) o e = absurd (none-some o e)
written_txn (Scan t low high es) o e = absurd (none-some o e)
written_txn (Commit t) o e = absurd (none-some o e)
written_txn (Abort t) o e = absurd (none-some o e)

pub writer_of : (es : List Event) (o : Entry) → Contains (filter_map written es) o
    → (w : Event) × Contains es w × (txn_of w ≡ o.version.txn)
writer_of es o c = let at = filter_map-source written es o c in (at.0, at.1, written_txn at.0 o at.2)

-- ---- commits

pub commits_txn : (t : ℕ) (e : Event) → commits t e ≡ true → txn_of e ≡ t
commits_txn t (Write u k m v) c = absurd (cc (c))
commits_txn t (Delete u k m) c = absurd (cc (c))
commits_txn t (Read u r v) c = absurd (cc (c))
commits_txn t (Scan u low high es) c = absurd (cc (c))
commits_txn t (Commit u) c = eqb-true _ _ c
commits_txn t (Abort u) c = absurd (cc (c))

-- a committed transaction has an event
pub committed_source : (events : List Event) (t : ℕ) → is_committed events t ≡ true
    → (e : Event) × Contains events e × (txn_of e ≡ t)
committed_source events t c = let r = list_any-source (commits t) events c in (r.0, r.1, commits_txn t r.0 r.2)

-- and so has one that installs a version
pub installs_source : (events : List Event) (k : List ℕ) (t : ℕ) → installs events k t ≡ true
    → (e : Event) × Contains events e × (txn_of e ≡ t)
installs_source events k t i = committed_source events t (and_parts (is_committed events t) _ i).0

-- the last write of a transaction that installs a version
pub installs_write : (events : List Event) (k : List ℕ) (t : ℕ) → installs events k t ≡ true
    → (w : Entry) × IsWriteOf t k events w
installs_write events k t i =
    let w = some_value (last_write t k events) (and_parts (is_committed events t) _ i).1 in
    (w.0, last_write_from t k events w.0 w.1)
