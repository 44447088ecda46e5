-- What the events say that tables record.
use Rattle.std.proofs.Common.{◌≡◌, ℕ, Bool, false, List, Option, Some, None, option_map, refl, sym, ap, subst}
use Rattle.std.proofs.lemmas.Option.{none-some, same_Some}
use Rattle.txn_table.specs.Mirror.{value_for}
use Rattle.adya_values.specs.declared.event.Version.{Version}
use Rattle.adya_values.specs.Meaning.Histories.{Entry, Event, Write, Delete, Read, Scan, Commit, Abort}
use Rattle.adya_values.specs.Meaning.Events.{aborts, commit_of, commits, written}
use Rattle.txn_table.specs.declared.TxnTable.{TxnTable}
use Rattle.adya_terms.specs.declared.tables.Ended.{Ended}
use Rattle.adya_terms.specs.declared.tables.Tables.{Tables}
use Rattle.adya_terms.specs.Machinery.OwnWrites.{place_of}
use Rattle.adya_terms.specs.Machinery.Tables.{Tell}
use Rattle.adya_terms.specs.Machinery.Telling.{replaced_in, told, Means}

-- the write with a version
pub write_of : (o : Option Entry) (v : Version) → Some v ≡ option_map (λ (w : Entry). w.version) o → (w : Entry) × (o ≡ Some w) × (w.version ≡ v)
write_of None v is = absurd (none-some v (sym is))
write_of (Some w) v is = (w, refl, sym (same_Some v w.version is))

pub no_write : (o : Option Entry) → None ≡ option_map (λ (w : Entry). w.version) o → o ≡ None
no_write None is = refl
no_write (Some w) is = absurd (none-some w.version is)

pub writes_commit_none : (e : Event) (w : Entry) → written e ≡ Some w → (t : ℕ) → commits t e ≡ false
writes_commit_none (Write u k m v) w is t = refl
writes_commit_none (Delete u k m) w is t = refl
writes_commit_none (Read u r v) w is t = refl
writes_commit_none (Scan u low high es) w is t = refl
writes_commit_none (Commit u) w is t = absurd (none-some w is)
writes_commit_none (Abort u) w is t = refl

pub writes_abort_none : (e : Event) (w : Entry) → written e ≡ Some w → (t : ℕ) → aborts t e ≡ false
writes_abort_none (Write u k m v) w is t = refl
writes_abort_none (Delete u k m) w is t = refl
writes_abort_none (Read u r v) w is t = refl
writes_abort_none (Scan u low high es) w is t = refl
writes_abort_none (Commit u) w is t = refl
writes_abort_none (Abort u) w is t = absurd (none-some w is)

pub commit_is : (e : Event) (t : ℕ) → commit_of e ≡ Some t → e ≡ Commit t
commit_is (Write u k m v) t is = absurd (none-some t is)
commit_is (Delete u k m) t is = absurd (none-some t is)
commit_is (Read u r v) t is = absurd (none-some t is)
commit_is (Scan u low high es) t is = absurd (none-some t is)
commit_is (Commit u) t is = ap Commit (same_Some u t is)
commit_is (Abort u) t is = absurd (none-some t is)

pub commits_none : (e : Event) → commit_of e ≡ None → (t : ℕ) → commits t e ≡ false
commits_none (Write u k m v) is t = refl
commits_none (Delete u k m) is t = refl
commits_none (Read u r v) is t = refl
commits_none (Scan u low high es) is t = refl
commits_none (Commit u) is t = absurd (none-some u (sym is))
commits_none (Abort u) is t = refl

-- the ends of transactions
abbrev committed_in : Tables → ℕ → Bool
committed_in t u = (value_for t.ended u).committed

abbrev aborted_in : Tables → ℕ → Bool
aborted_in t u = (value_for t.ended u).aborted

-- tables of the same events with the same ends
pub means_after : (t n : Tables) → n.ended ≡ t.ended → told n ≡ told t → (before : List Event)
    → Tell (committed_in t) (aborted_in t) (place_of n.writes) (replaced_in n) (told t) before → Means n before
means_after t n ended same before m =
    subst (λ all. Tell (committed_in n) (aborted_in n) (place_of n.writes) (replaced_in n) all before) (sym same)
    (subst (λ (d : TxnTable Ended). Tell (λ u. (value_for d u).committed) (λ u. (value_for d u).aborted) (place_of n.writes) (replaced_in n) (told t) before) (sym ended) m)
