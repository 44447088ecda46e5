-- The recorded history is well-formed, event by event.
use Rattle.std.specs.List.{Contains, filter_map}
use Rattle.std.proofs.Common.{IfSome, List, None, Option, Some, [], ap, append_assoc, cond, if◌then◌else◌, inl, inr, length, nat_lt, refl, subst, suc, sym, true, ℕ, ◌&&◌, ◌++◌, ◌==◌, ◌∙◌, ◌∷◌, ◌≡◌, ◌⊎◌}
use Rattle.std.proofs.lemmas.Bool.{and_left, and_parts, cases_Bool, cond-false, cond-true, eq-eqb, eqb-true, or_from, or_left}
use Rattle.std.proofs.lemmas.List.{append-nil}
use Rattle.std.proofs.lemmas.List.Elements.{Contains-append_cases, Contains-append_left, Contains-append_right}
use Rattle.std.proofs.lemmas.Option.{cond_some, none-some, same_Some}
use Rattle.lemmas.proofs.Filters.{filter_map-source}
use Rattle.lemmas.proofs.Members.{All-from_contained, Contains-head, none_contained}
use Rattle.adya_values.proofs.RisingNumbers.{only_one}
use Rattle.lemmas.proofs.Orderings.{bytes_eq-itself, bytes_eq-same}
use Rattle.adya_values.specs.Meaning.Events.{entry, last_write, listed, observed, txn_of, writes_of, written}
use Rattle.adya_values.specs.Meaning.Histories.{Abort, Commit, Content, Dead, Delete, Entry, Event, Live, Read, Scan, Write}
use Rattle.adya_keys.specs.Meaning.Keys.{key_eq, key_le, lies_in}
use Rattle.adya_values.specs.Clauses.Rules.{EachAfter, IsNumbered, IsOpen, IsRising, ListsOnly, SeesOwnWrites, WasWritten}
use Rattle.adya_values.proofs.KeyLookups.{listed_from}
use Rattle.ssi_versions.specs.Meaning.Changes.{otherwise}
use Rattle.ssi_store.specs.Meaning.Acts.{Aborts, Act, Collects, Commits, Gets, Scans, Begins, Writes, has_committed, has_begun}
use Rattle.ssi_store.specs.Meaning.Recording.{events, get_event, get_found, recorded, write_event}
use Rattle.ssi_store.specs.Meaning.Seeing.{commit_count, committed, keys, own_write, scanned, sees, snapshot, write_count, wrote}
use Rattle.adya_keys.proofs.KeyOrder.{key_le-itself, lies_in-itself}
use Rattle.ssi_store.proofs.Lists.{option_cases}
use Rattle.ssi_store.proofs.Recorded.{aborted_events, committed_events, count_of_events, made, of_get, of_write, own_of_events, versions, versions_of_events, written_write}
use Rattle.ssi_store.proofs.SeenByEvents.{all_seen, get_shows, get_txn, otherwise_cases, scanned_is, scanned_rises, sees_is, shows, begun_stays}
use Rattle.ssi_store.proofs.SoundLogs.{Open, Sound, not_open, open_from}
use Rattle.ssi_store.proofs.Stamps.{committed_stays}
use Rattle.ssi_store.proofs.OwnWrites.{committed_step, own_write_is}

each_more : (P : List Event → Event → Type 0) (before es : List Event) (e : Event) → EachAfter P before es
    → P (before ++ es) e → EachAfter P before (es ++ e ∷ [])
each_more P before [] e each p = (subst (λ l. P l e) (append-nil before) p, tt)
each_more P before (x ∷ xs) e each p = (
  each.0,
  each_more P (before ++ x ∷ []) xs e each.1 (subst (λ l. P l e) (sym (append_assoc before (x ∷ []) xs)) p),
)

-- a rule holds of all recorded events if it holds of each new one
pub each_recorded : (P : List Event → Event → Type 0)
    → ((a : Act) (log : List Act) → Sound (a ∷ log) → (e : Event) → Contains (recorded a log) e → P (events log) e)
    → (log : List Act) → Sound log → EachAfter P [] (events log)
each_recorded P h [] s = tt
each_recorded P h (Begins t ∷ log) s = subst (EachAfter P []) (sym (append-nil (events log)))
    (each_recorded P h log s.1)
each_recorded P h (Writes t k c ∷ log) s = each_more P [] (events log) _ (each_recorded P h log s.1)
    (h (Writes t k c) log s _ (Contains-head _ []))
each_recorded P h (Gets t k ∷ log) s = each_more P [] (events log) _ (each_recorded P h log s.1)
    (h (Gets t k) log s _ (Contains-head _ []))
each_recorded P h (Scans t low high ∷ log) s = each_more P [] (events log) _ (each_recorded P h log s.1)
    (h (Scans t low high) log s _ (Contains-head _ []))
each_recorded P h (Commits t ∷ log) s = each_more P [] (events log) _ (each_recorded P h log s.1)
    (h (Commits t) log s _ (Contains-head _ []))
each_recorded P h (Aborts t ∷ log) s = each_more P [] (events log) _ (each_recorded P h log s.1)
    (h (Aborts t) log s _ (Contains-head _ []))
each_recorded P h (Collects ∷ log) s = subst (EachAfter P []) (sym (append-nil (events log)))
    (each_recorded P h log s.1)

-- a fact of single events holds of all recorded ones
all_recorded : (P : Event → Type 0)
    → ((a : Act) (log : List Act) → Sound (a ∷ log) → (e : Event) → Contains (recorded a log) e → P e)
    → (log : List Act) → Sound log → (e : Event) → Contains (events log) e → P e
all_recorded P h [] s e c = absurd (none_contained e c)
all_recorded P h (a ∷ log) s e c =
    elim (Contains-append_cases (events log) (recorded a log) e c)
    [ inl old ↦ all_recorded P h log s.1 e old | inr new ↦ h a log s e new ]

write_txn : (t : ℕ) (k : List ℕ) (n : ℕ) (c : Content) → txn_of (write_event t k n c) ≡ t
write_txn t k n (Live v) = refl
write_txn t k n Dead = refl

-- M1
recorded_open : (a : Act) (log : List Act) → Sound (a ∷ log) → (e : Event) → Contains (recorded a log) e
    → Open (txn_of e) log
recorded_open (Begins t) log s e c = absurd (none_contained e c)
recorded_open (Writes t k d) log s e c = subst (λ x. Open (txn_of x) log) (only_one _ e c)
    (subst (λ x. Open x log) (sym (write_txn t k (suc (write_count t k log)) d)) (open_from t log s.0))
recorded_open (Gets t k) log s e c = subst (λ x. Open (txn_of x) log) (only_one _ e c)
    (subst (λ x. Open x log) (sym (get_txn t k (sees t k log))) (open_from t log s.0))
recorded_open (Scans t low high) log s e c = subst (λ x. Open (txn_of x) log) (only_one _ e c) (open_from t log s.0.0)
recorded_open (Commits t) log s e c = subst (λ x. Open (txn_of x) log) (only_one _ e c) (open_from t log s.0.opened)
recorded_open (Aborts t) log s e c = subst (λ x. Open (txn_of x) log) (only_one _ e c) (open_from t log s.0)
recorded_open Collects log s e c = absurd (none_contained e c)

pub open_until : (a : Act) (log : List Act) → Sound (a ∷ log) → (e : Event) → Contains (recorded a log) e
    → IsOpen (events log) e
open_until a log s e c =
    let o = recorded_open a log s e c in
    or_from _ _ (committed_events (txn_of e) log ∙ o.uncommitted) (aborted_events (txn_of e) log ∙ o.unaborted)

-- M2
if_none : {X : Type 0} (P : X → Type 0) (o : Option X) → o ≡ None → IfSome o P
if_none P o e = subst (λ x. IfSome x P) (sym e) tt

if_some : {X : Type 0} (P : X → Type 0) (o : Option X) (x : X) → o ≡ Some x → P x → IfSome o P
if_some P o x e p = subst (λ y. IfSome y P) (sym e) p

pub numbered : (a : Act) (log : List Act) → Sound (a ∷ log) → (e : Event) → Contains (recorded a log) e
    → IsNumbered (events log) e
numbered (Begins t) log s e c = absurd (none_contained e c)
numbered (Writes t k d) log s e c =
    subst (IsNumbered (events log)) (only_one _ e c)
    (if_some (λ w. w.version.m ≡ suc (length (writes_of w.version.txn w.version.key (events log)))) _ (made t k d log)
    (written_write t k (suc (write_count t k log)) d) (ap suc (sym (count_of_events t k log))))
numbered (Gets t k) log s e c =
    subst (IsNumbered (events log)) (only_one _ e c)
    (if_none (λ w. w.version.m ≡ suc (length (writes_of w.version.txn w.version.key (events log)))) _
    (of_get written None (λ u r v. refl) (λ u low high es. refl) t k (sees t k log)))
numbered (Scans t low high) log s e c = subst (IsNumbered (events log)) (only_one _ e c) tt
numbered (Commits t) log s e c = subst (IsNumbered (events log)) (only_one _ e c) tt
numbered (Aborts t) log s e c = subst (IsNumbered (events log)) (only_one _ e c) tt
numbered Collects log s e c = absurd (none_contained e c)

-- what a new event shows of a key is what its transaction sees of it
new_shows : (a : Act) (log : List Act) → Sound (a ∷ log) → (e : Event) → Contains (recorded a log) e
    → (k : List ℕ) (o : Option Entry) → shows e k ≡ Some o → sees (txn_of e) k log ≡ o
new_shows (Begins t) log s e c k o f = absurd (none_contained e c)
new_shows (Commits t) log s e c k o f = absurd (none-some o (ap (λ x. shows x k) (only_one _ e c) ∙ f))
new_shows (Aborts t) log s e c k o f = absurd (none-some o (ap (λ x. shows x k) (only_one _ e c) ∙ f))
new_shows (Writes t j n) log s e c k o f =
    absurd (none-some o (sym (of_write (λ x. shows x k) None (λ u i m v. refl) (λ u i m. refl) t j
    (suc (write_count t j log)) n) ∙ (ap (λ x. shows x k) (only_one _ e c) ∙ f)))
new_shows (Gets t j) log s e c k o f =
    let same = only_one _ e c in
    let parts = get_shows t j (sees t j log) (λ w g. (sees_is t j log w g).0) k o (ap (λ x. shows x k) same ∙ f) in
    let txn : txn_of e ≡ t = ap txn_of (sym same) ∙ get_txn t j (sees t j log) in
    ap (λ x. sees x k log) txn ∙ (ap (λ x. sees t x log) (sym parts.0) ∙ parts.1)
new_shows (Scans t low high) log s e c k o f =
    let same = only_one _ e c in
    let parts = cond_some (lies_in low high k) (listed k (scanned t low high log)) o (ap (λ x. shows x k) same ∙ f) in
    ap (λ x. sees (txn_of x) k log) (sym same) ∙ (sym (scanned_is t low high k log parts.0) ∙ parts.1)
new_shows Collects log s e c k o f = absurd (none_contained e c)

-- what an event reads or lists it shows
get_observed : (t : ℕ) (j : List ℕ) (v : Option Entry) → ((w : Entry) → v ≡ Some w → w.version.key ≡ j)
    → (o : Entry) → Contains (observed (get_event t j v)) o → shows (get_event t j v) o.version.key ≡ Some (Some o)
get_observed t j None key o c = absurd (none_contained o c)
get_observed t j (Some w) key o c = by_content w.content refl c
  where
    by_content : (d : Content) → w.content ≡ d → Contains (observed (get_found t j w d)) o
        → shows (get_found t j w d) o.version.key ≡ Some (Some o)
    by_content (Live v) f c =
        let same : entry w.version (Live v) ≡ o = only_one _ o c in
        ap (λ x. shows (Read t w.version v) x.version.key) (sym same) ∙
        (cond-true {A = Option (Option Entry)} (key_eq w.version.key w.version.key)
        (Some (Some (entry w.version (Live v)))) None (bytes_eq-itself w.version.key) ∙
        ap (λ x. Some (Some x)) same)
    by_content Dead f c =
        let same : w ≡ o = only_one _ o c in
        let at : w.version.key ≡ j = key w refl in
        ap (λ x. shows (Scan t j j (w ∷ [])) x.version.key) (sym same) ∙
        (cond-true {A = Option (Option Entry)} (lies_in j j w.version.key)
        (Some (listed w.version.key (w ∷ []))) None (lies_in-itself j w.version.key (sym at)) ∙
        (ap Some (cond-true {A = Option Entry} (key_eq w.version.key w.version.key) (Some w) None
        (bytes_eq-itself w.version.key)) ∙ ap (λ x. Some (Some x)) same))

pub scanned_source : (t : ℕ) (low high : List ℕ) (log : List Act) (o : Entry) → Contains (scanned t low high log) o
    → ((lies_in low high o.version.key) ≡ true) × (sees t o.version.key log ≡ Some o)
scanned_source t low high log o c =
    let f = λ (j : List ℕ). if lies_in low high j then sees t j log else None in
    let x = filter_map-source f (keys log) o c in
    elim (cases_Bool (lies_in low high x.0)) [
      | inl inside ↦
          let seen : sees t x.0 log ≡ Some o = rw inside at x.2 in
          let key = (sees_is t x.0 log o seen).0 in
          (ap (λ y. lies_in low high y) key ∙ inside, ap (λ y. sees t y log) key ∙ seen)
      | inr out ↦ absurd (let nothing : None ≡ Some o = rw out at x.2 in none-some o nothing)
    ]

observed_shows : (a : Act) (log : List Act) → Sound (a ∷ log) → (e : Event) → Contains (recorded a log) e
    → (o : Entry) → Contains (observed e) o → shows e o.version.key ≡ Some (Some o)
observed_shows (Begins t) log s e c o d = absurd (none_contained e c)
observed_shows (Commits t) log s e c o d = absurd
    (none_contained o (subst (λ x. Contains (observed x) o) (sym (only_one _ e c)) d))
observed_shows (Aborts t) log s e c o d = absurd
    (none_contained o (subst (λ x. Contains (observed x) o) (sym (only_one _ e c)) d))
observed_shows (Writes t k n) log s e c o d =
    absurd (none_contained o (subst (λ l. Contains l o)
    (of_write observed [] (λ u i m v. refl) (λ u i m. refl) t k (suc (write_count t k log)) n)
    (subst (λ x. Contains (observed x) o) (sym (only_one _ e c)) d)))
observed_shows (Gets t k) log s e c o d =
    let same = only_one _ e c in
    ap (λ x. shows x o.version.key) (sym same)
    ∙ get_observed t k (sees t k log) (λ w f. (sees_is t k log w f).0) o
    (subst (λ x. Contains (observed x) o) (sym same) d)
observed_shows (Scans t low high) log s e c o d =
    let same = only_one _ e c in
    let source = scanned_source t low high log o (subst (λ x. Contains (observed x) o) (sym same) d) in
    ap (λ x. shows x o.version.key) (sym same) ∙
    (cond-true {A = Option (Option Entry)} (lies_in low high o.version.key)
    (Some (listed o.version.key (scanned t low high log))) None source.0 ∙
    ap Some (scanned_is t low high o.version.key log source.0 ∙ source.1))
observed_shows Collects log s e c o d = absurd (none_contained e c)

-- M3
own_written : (t : ℕ) (k : List ℕ) (log : List Act) (w : Entry) → own_write t k log ≡ Some w
    → Contains (versions log) w
own_written t k [] w e = absurd (none-some w e)
own_written t k (Begins u ∷ log) w e = own_written t k log w e
own_written t k (Gets u j ∷ log) w e = own_written t k log w e
own_written t k (Scans u low high ∷ log) w e = own_written t k log w e
own_written t k (Commits u ∷ log) w e = own_written t k log w e
own_written t k (Aborts u ∷ log) w e = own_written t k log w e
own_written t k (Writes u j c ∷ log) w e =
    elim (cases_Bool (u == t && key_eq j k)) [
      | inl same ↦
          let both = and_parts (u == t) (key_eq j k) same in
          let count : write_count u j log ≡ write_count t k log = ap (λ x. write_count x j log) (eqb-true u t both.0)
          ∙ ap (λ x. write_count t x log) (bytes_eq-same j k both.1) in
          let entry_is : made u j c log ≡ made t k c log = ap (λ x. made x j c log) (eqb-true u t both.0)
          ∙ ap (λ x. made t x c log) (bytes_eq-same j k both.1) in
          let here : made t k c log ≡ w = same_Some _ w (rw same at e) in
          Contains-append_right (versions log) (made u j c log ∷ []) w
          (subst (Contains (made u j c log ∷ [])) (entry_is ∙ here) (Contains-head _ []))
      | inr other ↦ Contains-append_left (versions log) (made u j c log ∷ []) w
          (own_written t k log w (rw other at e))
    ]
own_written t k (Collects ∷ log) w e = own_written t k log w e

-- the contents of a key are the last write of their committed writer
pub record IsCommittedWrite (k : List ℕ) (log : List Act) (w : Entry) : Type 0 where
  pub committed : has_committed w.version.txn log ≡ true
  pub own : own_write w.version.txn k log ≡ Some w

pub own_stays : (t : ℕ) (k : List ℕ) (a : Act) (log : List Act) → Sound (a ∷ log) → has_committed t log ≡ true
    → own_write t k (a ∷ log) ≡ own_write t k log
own_stays t k (Begins u) log s c = refl
own_stays t k (Gets u j) log s c = refl
own_stays t k (Scans u low high) log s c = refl
own_stays t k (Commits u) log s c = refl
own_stays t k (Aborts u) log s c = refl
own_stays t k (Writes u j d) log s c = cond-false {A = Option Entry} (u == t && key_eq j k) (Some (made t k d log))
    (own_write t k log) (and_left _ _ (not_open u t log s.0 c))
own_stays t k Collects log s c = refl

committed_more : (t : ℕ) (a : Act) (log : List Act) → has_committed t log ≡ true
    → has_committed t (a ∷ log) ≡ true
committed_more = committed_stays

write_stays : (k : List ℕ) (a : Act) (log : List Act) (w : Entry) → Sound (a ∷ log) → IsCommittedWrite k log w
    → IsCommittedWrite k (a ∷ log) w
write_stays k a log w s i = record {
  committed = committed_more w.version.txn a log i.committed;
  own = own_stays w.version.txn k a log s i.committed ∙ i.own;
}

pub contents_own : (k : List ℕ) (s : ℕ) (log : List Act) (w : Entry) → Sound log → committed k s log ≡ Some w
    → IsCommittedWrite k log w
contents_own k s [] w sound e = absurd (none-some w e)
contents_own k s (Begins u ∷ log) w sound e = write_stays k (Begins u) log w sound (contents_own k s log w sound.1 e)
contents_own k s (Gets u j ∷ log) w sound e = write_stays k (Gets u j) log w sound (contents_own k s log w sound.1 e)
contents_own k s (Scans u low high ∷ log) w sound e = write_stays k (Scans u low high) log w sound
    (contents_own k s log w sound.1 e)
contents_own k s (Aborts u ∷ log) w sound e = write_stays k (Aborts u) log w sound (contents_own k s log w sound.1 e)
contents_own k s (Writes u j c ∷ log) w sound e = write_stays k (Writes u j c) log w sound
    (contents_own k s log w sound.1 e)
contents_own k s (Commits u ∷ log) w sound e =
    let e' : cond (nat_lt (commit_count log) s && wrote u k log) (own_write u k log)
    (committed k s log) ≡ Some w = sym (committed_step k s u log) ∙ e in
    elim (cases_Bool (nat_lt (commit_count log) s && wrote u k log)) [
      | inl holds ↦
          let own : own_write u k log ≡ Some w = rw holds at e' in
          let who : w.version.txn ≡ u = (own_write_is u k log w own).0 in
          record {
            committed = or_left (u == w.version.txn) (has_committed w.version.txn log) (eq-eqb _ _ (sym who));
            own = ap (λ t. own_write t k log) who ∙ own;
          }
      | inr fails ↦ write_stays k (Commits u) log w sound (contents_own k s log w sound.1 (rw fails at e'))
    ]
contents_own k s (Collects ∷ log) w sound e = write_stays k Collects log w sound (contents_own k s log w sound.1 e)

sees_written : (t : ℕ) (k : List ℕ) (log : List Act) (w : Entry) → Sound log → sees t k log ≡ Some w
    → Contains (versions log) w
sees_written t k log w s e =
    elim (otherwise_cases (own_write t k log) (committed k (snapshot t log) log)) [
      | inl own ↦ own_written t k log w (own.1 ∙ (sym own.2 ∙ e))
      | inr others ↦
          own_written w.version.txn k log w (contents_own k (snapshot t log) log w s (sym others.1 ∙ e)).own
    ]

pub was_written : (a : Act) (log : List Act) → Sound (a ∷ log) → (e : Event) → Contains (recorded a log) e
    → WasWritten (events log) e
was_written a log s e c =
    All-from_contained (Contains (filter_map written (events log))) (observed e) (λ o d.
    subst (λ l. Contains l o) (sym (versions_of_events log))
    (sees_written (txn_of e) o.version.key log o s.1
    (new_shows a log s e c o.version.key (Some o) (observed_shows a log s e c o d))))

-- M4
own_first : (t : ℕ) (k : List ℕ) (log : List Act) (o : Option Entry) → sees t k log ≡ o
    → IfSome (last_write t k (events log)) (λ w. o ≡ Some w)
own_first t k log o e =
    elim (option_cases (own_write t k log)) [
      | inl none ↦ if_none (λ w. o ≡ Some w) _ (own_of_events t k log ∙ none)
      | inr some ↦
          if_some (λ w. o ≡ Some w) _ some.0 (own_of_events t k log ∙ some.1)
          (sym e ∙ ap (λ x. otherwise x (committed k (snapshot t log) log)) some.1)
    ]

-- the list has what it shows of a key, and nothing else of it
lists_only : (t : ℕ) (low high k : List ℕ) (es : List Entry) → lies_in low high k ≡ true
    → ((o : Entry) → Contains es o → shows (Scan t low high es) o.version.key ≡ Some (Some o)) → (w : Entry)
    → listed k es ≡ Some w → ListsOnly es w
lists_only t low high k es inside each w at =
    let found = listed_from k es w at in (
      found.0,
      All-from_contained (λ x. key_eq x.version.key w.version.key ≡ true → x ≡ w) es (λ x c same.
          let here : x.version.key ≡ k = bytes_eq-same x.version.key w.version.key same ∙ found.1 in
          let shown : shows (Scan t low high es) k ≡ Some (Some x) = ap (shows (Scan t low high es)) (sym here)
          ∙ each x c in
          let is : Some (listed k es) ≡ Some (Some x) = sym
          (cond-true {A = Option (Option Entry)} (lies_in low high k) (Some (listed k es)) None inside) ∙ shown in
          same_Some x w (sym (same_Some _ _ is) ∙ at)),
    )

own_from_shows : (before : List Event) (e : Event)
    → ((o : Entry) → Contains (observed e) o → shows e o.version.key ≡ Some (Some o))
    → ((k : List ℕ) (o : Option Entry) → shows e k ≡ Some o
    → IfSome (last_write (txn_of e) k before) (λ w. o ≡ Some w)) → SeesOwnWrites before e
own_from_shows before (Read t r v) each h =
    unwrap (last_write t r.key before)
    (h r.key (Some (entry r (Live v)))
    (cond-true {A = Option (Option Entry)} (key_eq r.key r.key) (Some (Some (entry r (Live v)))) None
    (bytes_eq-itself r.key)))
  where
    unwrap : (o : Option Entry) → IfSome o (λ w. Some (entry r (Live v)) ≡ Some w)
        → IfSome o (λ w. entry r (Live v) ≡ w)
    unwrap None i = tt
    unwrap (Some w) i = same_Some _ w i
own_from_shows before (Scan t low high es) each h = λ k inside.
    only k inside (last_write t k before)
    (h k (listed k es) (cond-true {A = Option (Option Entry)} (lies_in low high k) (Some (listed k es)) None inside))
  where
    only : (k : List ℕ) → lies_in low high k ≡ true → (o : Option Entry) → IfSome o (λ w. listed k es ≡ Some w)
        → IfSome o (ListsOnly es)
    only k inside None i = tt
    only k inside (Some w) i = lists_only t low high k es inside each w i
own_from_shows before (Write t k n v) each h = tt
own_from_shows before (Delete t k n) each h = tt
own_from_shows before (Commit t) each h = tt
own_from_shows before (Abort t) each h = tt

pub own_writes : (a : Act) (log : List Act) → Sound (a ∷ log) → (e : Event) → Contains (recorded a log) e
    → SeesOwnWrites (events log) e
own_writes a log s e c = own_from_shows (events log) e (λ o d. observed_shows a log s e c o d)
    (λ k o f. own_first (txn_of e) k log o (new_shows a log s e c k o f))

-- M5
get_rising : (t : ℕ) (j : List ℕ) (v : Option Entry) → ((w : Entry) → v ≡ Some w → w.version.key ≡ j)
    → IsRising (get_event t j v)
get_rising t j None key = (key_le-itself j, refl, All-from_contained _ [] (λ o c. absurd (none_contained o c)))
get_rising t j (Some w) key = by_content w.content
  where
    by_content : (d : Content) → IsRising (get_found t j w d)
    by_content (Live v) = tt
    by_content Dead =
        let at : w.version.key ≡ j = key w refl in (
          key_le-itself j,
          refl,
          All-from_contained (λ x. lies_in j j x.version.key ≡ true) (w ∷ [])
              (λ o c. subst (λ x. lies_in j j x.version.key ≡ true) (only_one w o c)
              (lies_in-itself j w.version.key (sym at))),
        )

write_rising : (t : ℕ) (k : List ℕ) (n : ℕ) (c : Content) → IsRising (write_event t k n c)
write_rising t k n (Live v) = tt
write_rising t k n Dead = tt

scan_rising : (t : ℕ) (low high : List ℕ) (log : List Act) → key_le low high ≡ true
    → IsRising (Scan t low high (scanned t low high log))
scan_rising t low high log le = (
  le,
  scanned_rises t low high log,
  All-from_contained (λ w. lies_in low high w.version.key ≡ true) (scanned t low high log)
      (λ o c. (scanned_source t low high log o c).0),
)

pub rising : (a : Act) (log : List Act) → Sound (a ∷ log) → (e : Event) → Contains (recorded a log) e → IsRising e
rising (Begins t) log s e c = absurd (none_contained e c)
rising (Writes t k d) log s e c = subst IsRising (only_one _ e c) (write_rising t k _ d)
rising (Gets t k) log s e c = subst IsRising (only_one _ e c)
    (get_rising t k (sees t k log) (λ w f. (sees_is t k log w f).0))
rising (Scans t low high) log s e c = subst IsRising (only_one _ e c) (scan_rising t low high log s.0.1)
rising (Commits t) log s e c = subst IsRising (only_one _ e c) tt
rising (Aborts t) log s e c = subst IsRising (only_one _ e c) tt
rising Collects log s e c = absurd (none_contained e c)

-- every event's transaction has begun
pub event_begun : (log : List Act) → Sound log → (e : Event) → Contains (events log) e
    → has_begun (txn_of e) log ≡ true
event_begun [] s e c = absurd (none_contained e c)
event_begun (a ∷ log) s e c =
    elim (Contains-append_cases (events log) (recorded a log) e c) [
      | inl old ↦ begun_stays (txn_of e) a log (event_begun log s.1 e old)
      | inr new ↦ begun_stays (txn_of e) a log (recorded_open a log s e new).begun
    ]

-- what is read or listed at last: own, or a committed transaction's last write
pub observed_right : (log : List Act) → Sound log → (e : Event) → Contains (events log) e → (o : Entry)
    → Contains (observed e) o → (o.version.txn ≡ txn_of e) ⊎ IsCommittedWrite o.version.key log o
observed_right log s e c o d =
    let shown = all_recorded (λ x. (y : Entry) → Contains (observed x) y → shows x y.version.key ≡ Some (Some y))
    (λ a l t x y. observed_shows a l t x y) log s e c o d in
    let seen = all_seen log s e c o.version.key (Some o) shown in
    elim seen.right [
      | inl own ↦ inl (ap (λ w. w.version.txn) (same_Some o own.0 own.1) ∙ own.2)
      | inr snap ↦ inr (contents_own o.version.key (snapshot (txn_of e) log) log o s (sym snap.is))
    ]
