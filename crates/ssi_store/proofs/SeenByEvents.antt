-- What a recorded event shows is the transaction's own, or its snapshot's by a recorded read.
use Rattle.std.specs.List.{Contains}
use Rattle.std.proofs.Common.{List, None, Option, Some, [], ap, cond, if◌then◌else◌, inl, inr, is_some, map, nat_lt, not, refl, subst, suc, sym, true, ℕ, ◌&&◌, ◌==◌, ◌∙◌, ◌∷◌, ◌≡◌, ◌≤◌, ◌⊎◌}
use Rattle.std.proofs.lemmas.Bool.{and_from, and_left, and_parts, cases_Bool, cond-false, cond-true, eq-eqb, le-ltb, not_from_false, or_left, or_right}
use Rattle.std.proofs.lemmas.List.Elements.{Contains-append_cases}
use Rattle.std.proofs.lemmas.Option.{cond_some, none-some}
use Rattle.lemmas.proofs.Members.{none_contained}
use Rattle.adya_values.proofs.RisingNumbers.{only_one}
use Rattle.lemmas.proofs.Orderings.{bytes_eq-from, bytes_eq-itself, bytes_eq-same}
use Rattle.adya_values.specs.Meaning.Events.{entry, listed, txn_of}
use Rattle.adya_values.specs.Meaning.Histories.{Abort, Commit, Content, Dead, Delete, Entry, Event, Live, Read, Scan, Write}
use Rattle.adya_keys.specs.Meaning.Keys.{key_eq, keys_rise, lies_in}
use Rattle.ssi_versions.specs.Meaning.Changes.{otherwise}
use Rattle.ssi_store.specs.Meaning.Acts.{Aborts, Act, Collects, Commits, Gets, Scans, Begins, Writes, has_begun}
use Rattle.ssi_store.specs.Meaning.Recording.{events, get_event, get_found, recorded}
use Rattle.ssi_store.specs.Meaning.Seeing.{commit_count, committed, keys, own_write, scanned, sees, snapshot, write_count, wrote}
use Rattle.adya_keys.proofs.KeyOrder.{lies_in-one}
use Rattle.ssi_store.proofs.Lists.{option_cases}
use Rattle.ssi_store.proofs.Recorded.{of_write}
use Rattle.adya_values.proofs.InsertedKeys.{Contains-inserted}
use Rattle.ssi_store.proofs.RisingKeys.{listed_made, made_rises}
use Rattle.ssi_store.proofs.SoundLogs.{Sound, has_read, not_fresh, open_from, snapshot_within}
use Rattle.ssi_store.proofs.OwnWrites.{committed_step, keys_of_log_rise, own_write_is, wrote_key}

-- what an event shows of a key: a version or none; or nothing, if it doesn't look there
abbrev pub shows : Event → List ℕ → Option (Option Entry)
shows (Read t r v) k = if key_eq r.key k then Some (Some (entry r (Live v))) else None
shows (Scan t low high es) k = if lies_in low high k then Some (listed k es) else None
shows (Write t j n v) k = None
shows (Delete t j n) k = None
shows (Commit t) k = None
shows (Abort t) k = None

pub record IsSnapshots (t : ℕ) (k : List ℕ) (o : Option Entry) (log : List Act) : Type 0 where
  pub read : has_read t k log ≡ true
  pub is : o ≡ committed k (snapshot t log) log

abbrev pub IsOwnEntry : ℕ → Option Entry → Type 0
IsOwnEntry t o = (w : Entry) × (o ≡ Some w) × (w.version.txn ≡ t)

abbrev SeenRight : ℕ → List ℕ → Option Entry → List Act → Type 0
SeenRight t k o log = IsOwnEntry t o ⊎ IsSnapshots t k o log

-- the contents of a key are someone's last write of it
pub contents_is : (k : List ℕ) (s : ℕ) (log : List Act) (w : Entry) → committed k s log ≡ Some w
    → (w.version.key ≡ k) × Contains (keys log) k
contents_is k s [] w e = absurd (none-some w e)
contents_is k s (Begins u ∷ log) w e = contents_is k s log w e
contents_is k s (Gets u j ∷ log) w e = contents_is k s log w e
contents_is k s (Scans u low high ∷ log) w e = contents_is k s log w e
contents_is k s (Aborts u ∷ log) w e = contents_is k s log w e
contents_is k s (Writes u j c ∷ log) w e = let r = contents_is k s log w e in
    (r.0, Contains-inserted j (keys log) k r.1)
contents_is k s (Commits u ∷ log) w e =
    let e' : cond (nat_lt (commit_count log) s && wrote u k log) (own_write u k log)
    (committed k s log) ≡ Some w = sym (committed_step k s u log) ∙ e in
    elim (cases_Bool (nat_lt (commit_count log) s && wrote u k log)) [
      | inl holds ↦
          let own : own_write u k log ≡ Some w = rw holds at e' in
          ((own_write_is u k log w own).1, wrote_key u k log (and_parts _ _ holds).1)
      | inr fails ↦ contents_is k s log w (rw fails at e')
    ]
contents_is k s (Collects ∷ log) w e = contents_is k s log w e

pub otherwise_cases : (o p : Option Entry)
    → ((w : Entry) × (o ≡ Some w) × (otherwise o p ≡ Some w)) ⊎ ((o ≡ None) × (otherwise o p ≡ p))
otherwise_cases None p = inr (refl, refl)
otherwise_cases (Some w) p = inl (w, refl, refl)

pub sees_is : (t : ℕ) (k : List ℕ) (log : List Act) (w : Entry) → sees t k log ≡ Some w
    → (w.version.key ≡ k) × Contains (keys log) k
sees_is t k log w e =
    elim (otherwise_cases (own_write t k log) (committed k (snapshot t log) log)) [
      | inl own ↦
          let same = own.1 ∙ (sym own.2 ∙ e) in
          ((own_write_is t k log w same).1, wrote_key t k log (ap is_some same))
      | inr others ↦ contents_is k (snapshot t log) log w (sym others.1 ∙ e)
    ]

-- what is seen now is own, or the snapshot's if that is read
seen_now : (t : ℕ) (k : List ℕ) (a : Act) (log : List Act) → snapshot t (a ∷ log) ≡ snapshot t log
    → committed k (snapshot t log) (a ∷ log) ≡ committed k (snapshot t log) log
    → (own_write t k log ≡ None → has_read t k (a ∷ log) ≡ true) → SeenRight t k (sees t k log) (a ∷ log)
seen_now t k a log snap same read =
    elim (otherwise_cases (own_write t k log) (committed k (snapshot t log) log)) [
      | inl own ↦ inl (own.0, own.2, (own_write_is t k log own.0 own.1).0)
      | inr others ↦ inr (record {
        read = read others.0;
        is = others.1
            ∙ (sym same ∙ ap (λ s. committed k s (a ∷ log)) (sym snap));
      })
    ]

-- a recorded get shows what is seen of its key, and nothing else
pub get_shows : (t : ℕ) (j : List ℕ) (v : Option Entry) → ((w : Entry) → v ≡ Some w → w.version.key ≡ j)
    → (k : List ℕ) (o : Option Entry) → shows (get_event t j v) k ≡ Some o → (j ≡ k) × (v ≡ o)
get_shows t j None key k o e =
    let parts = cond_some (lies_in j j k) None o e in
    (lies_in-one j k parts.0, parts.1)
get_shows t j (Some w) key k o e = by_content w.content refl e
  where
    by_content : (c : Content) → w.content ≡ c → shows (get_found t j w c) k ≡ Some o → (j ≡ k) × (Some w ≡ o)
    by_content (Live v) f e =
        let parts = cond_some (key_eq w.version.key k) (Some (entry w.version (Live v))) o e in
        (sym (key w refl) ∙ bytes_eq-same _ _ parts.0, ap (λ c. Some (entry w.version c)) f ∙ parts.1)
    by_content Dead f e =
        let parts = cond_some (lies_in j j k) (listed k (w ∷ [])) o e in
        let same : j ≡ k = lies_in-one j k parts.0 in (
          same,
          sym (cond-true {A = Option Entry} (key_eq w.version.key k) (Some w) None
              (bytes_eq-from _ _ (key w refl ∙ same))) ∙ parts.1,
        )

pub get_txn : (t : ℕ) (j : List ℕ) (v : Option Entry) → txn_of (get_event t j v) ≡ t
get_txn t j None = refl
get_txn t j (Some w) = by_content w.content
  where
    by_content : (c : Content) → txn_of (get_found t j w c) ≡ t
    by_content (Live v) = refl
    by_content Dead = refl

-- what a scan lists of a key is of that key
pub scan_key : (t : ℕ) (low high : List ℕ) (log : List Act) (j : List ℕ) (w : Entry)
    → (if lies_in low high j then sees t j log else None) ≡ Some w
    → (w.version.key ≡ j) × Contains (keys log) j
scan_key t low high log j w e =
    elim (cases_Bool (lies_in low high j)) [
      | inl within ↦ (let seen : sees t j log ≡ Some w = rw within at e in sees_is t j log w seen)
      | inr out ↦ let nothing : None ≡ Some w = rw out at e in absurd (none-some w nothing)
    ]

-- a scan lists of each key of its range what is seen of it
pub scanned_lists : (t : ℕ) (low high k : List ℕ) (log : List Act)
    → listed k (scanned t low high log) ≡ (if lies_in low high k then sees t k log else None)
scanned_lists t low high k log =
    listed_made (λ j. if lies_in low high j then sees t j log else None)
    (λ j w e. (scan_key t low high log j w e).0) (keys log) k
    (elim (option_cases (if lies_in low high k then sees t k log else None)) [
      | inl none ↦ inr none
      | inr some ↦ inl (scan_key t low high log k some.0 some.1).1
    ])

pub scanned_is : (t : ℕ) (low high k : List ℕ) (log : List Act) → lies_in low high k ≡ true
    → listed k (scanned t low high log) ≡ sees t k log
scanned_is t low high k log inside =
    scanned_lists t low high k log ∙ cond-true {A = Option Entry} (lies_in low high k) (sees t k log) None inside

-- by rising key
pub scanned_rises : (t : ℕ) (low high : List ℕ) (log : List Act)
    → keys_rise (map (λ w. w.version.key) (scanned t low high log)) ≡ true
scanned_rises t low high log =
    made_rises (λ w. w.version.key) (λ j. if lies_in low high j then sees t j log else None)
    (λ j w e. (scan_key t low high log j w e).0) (keys log) (keys_of_log_rise log)

read_stays : (t : ℕ) (k : List ℕ) (a : Act) (log : List Act) → has_read t k log ≡ true
    → has_read t k (a ∷ log) ≡ true
read_stays t k (Begins u) log e = e
read_stays t k (Writes u j c) log e = e
read_stays t k (Commits u) log e = e
read_stays t k (Aborts u) log e = e
read_stays t k (Gets u j) log e = or_right ((u == t) && key_eq j k && not (wrote u j log)) (has_read t k log) e
read_stays t k (Scans u low high) log e = or_right ((u == t) && lies_in low high k) (has_read t k log) e
read_stays t k Collects log e = e

contents_stay : (k : List ℕ) (s : ℕ) (a : Act) (log : List Act) → s ≤ commit_count log
    → committed k s (a ∷ log) ≡ committed k s log
contents_stay k s (Begins u) log l = refl
contents_stay k s (Writes u j c) log l = refl
contents_stay k s (Gets u j) log l = refl
contents_stay k s (Scans u low high) log l = refl
contents_stay k s (Aborts u) log l = refl
contents_stay k s (Commits u) log l =
    committed_step k s u log ∙
    cond-false {A = Option Entry} (nat_lt (commit_count log) s && wrote u k log) (own_write u k log)
    (committed k s log)
    (and_left _ _ (le-ltb (commit_count log) s l))
contents_stay k s Collects log l = refl

pub snapshot_stays : (t : ℕ) (a : Act) (log : List Act) → Sound (a ∷ log) → has_begun t log ≡ true
    → snapshot t (a ∷ log) ≡ snapshot t log
snapshot_stays t (Begins u) log s b = cond-false {A = ℕ} (u == t) (commit_count log) (snapshot t log)
    (not_fresh u t log s.0 b)
snapshot_stays t (Writes u j c) log s b = refl
snapshot_stays t (Gets u j) log s b = refl
snapshot_stays t (Scans u low high) log s b = refl
snapshot_stays t (Commits u) log s b = refl
snapshot_stays t (Aborts u) log s b = refl
snapshot_stays t Collects log s b = refl

seen_stays : (t : ℕ) (k : List ℕ) (o : Option Entry) (a : Act) (log : List Act) → Sound (a ∷ log)
    → has_begun t log ≡ true → SeenRight t k o log → SeenRight t k o (a ∷ log)
seen_stays t k o a log s b (inl own) = inl own
seen_stays t k o a log s b (inr snap) = inr (record {
  read = read_stays t k a log snap.read;
  is = snap.is ∙ (sym (contents_stay k (snapshot t log) a log (snapshot_within t log))
      ∙ ap (λ n. committed k n (a ∷ log)) (sym (snapshot_stays t a log s b)));
})

pub begun_stays : (t : ℕ) (a : Act) (log : List Act) → has_begun t log ≡ true → has_begun t (a ∷ log) ≡ true
begun_stays t (Begins u) log e = or_right (u == t) (has_begun t log) e
begun_stays t (Writes u j c) log e = e
begun_stays t (Gets u j) log e = e
begun_stays t (Scans u low high) log e = e
begun_stays t (Commits u) log e = e
begun_stays t (Aborts u) log e = e
begun_stays t Collects log e = e

pub record SeenBy (e : Event) (k : List ℕ) (o : Option Entry) (log : List Act) : Type 0 where
  pub begun : has_begun (txn_of e) log ≡ true
  pub right : SeenRight (txn_of e) k o log

new_get : (t : ℕ) (j : List ℕ) (log : List Act) → Sound (Gets t j ∷ log) → (k : List ℕ) (o : Option Entry)
    → shows (get_event t j (sees t j log)) k ≡ Some o → SeenBy (get_event t j (sees t j log)) k o (Gets t j ∷ log)
new_get t j log s k o e =
    let parts = get_shows t j (sees t j log) (λ w f. (sees_is t j log w f).0) k o e in
    let txn = get_txn t j (sees t j log) in
    let begun = (open_from t log s.0).begun in
    let now = seen_now t j (Gets t j) log refl refl (λ none.
    or_left ((t == t) && key_eq j j && not (wrote t j log)) (has_read t j log)
    (and_from _ _ (and_from _ _ (eq-eqb t t refl) (bytes_eq-itself j)) (not_from_false _ (ap is_some none)))) in
    record {
      begun = subst (λ x. has_begun x log ≡ true) (sym txn) begun;
      right = subst (λ x. SeenRight x k o (Gets t j ∷ log)) (sym txn)
          (subst (λ x. SeenRight t x o (Gets t j ∷ log)) parts.0
          (subst (λ x. SeenRight t j x (Gets t j ∷ log)) parts.1 now));
    }

new_scan : (t : ℕ) (low high : List ℕ) (log : List Act) → Sound (Scans t low high ∷ log)
    → (k : List ℕ) (o : Option Entry) → shows (Scan t low high (scanned t low high log)) k ≡ Some o
    → SeenBy (Scan t low high (scanned t low high log)) k o (Scans t low high ∷ log)
new_scan t low high log s k o e =
    let parts = cond_some (lies_in low high k) (listed k (scanned t low high log)) o e in
    let now = seen_now t k (Scans t low high) log refl refl (λ none.
    or_left ((t == t) && lies_in low high k) (has_read t k log)
    (and_from (t == t) (lies_in low high k) (eq-eqb t t refl) parts.0)) in
    record {
      begun = (open_from t log s.0.0).begun;
      right = subst (λ x. SeenRight t k x (Scans t low high ∷ log))
          (sym (scanned_is t low high k log parts.0) ∙ parts.1) now;
    }

new_seen : (a : Act) (log : List Act) → Sound (a ∷ log) → (e : Event) → Contains (recorded a log) e
    → (k : List ℕ) (o : Option Entry) → shows e k ≡ Some o → SeenBy e k o (a ∷ log)
new_seen (Begins t) log s e c k o f = absurd (none_contained e c)
new_seen (Commits t) log s e c k o f = absurd (none-some o (ap (λ x. shows x k) (only_one _ e c) ∙ f))
new_seen (Aborts t) log s e c k o f = absurd (none-some o (ap (λ x. shows x k) (only_one _ e c) ∙ f))
new_seen (Writes t j n) log s e c k o f =
    absurd (none-some o (sym (of_write (λ x. shows x k) None (λ u i m v. refl) (λ u i m. refl) t j
    (suc (write_count t j log)) n) ∙ (ap (λ x. shows x k) (only_one _ e c) ∙ f)))
new_seen (Gets t j) log s e c k o f =
    let same = only_one _ e c in
    subst (λ x. SeenBy x k o (Gets t j ∷ log)) same (new_get t j log s k o (ap (λ x. shows x k) same ∙ f))
new_seen (Scans t low high) log s e c k o f =
    let same = only_one _ e c in
    subst (λ x. SeenBy x k o (Scans t low high ∷ log)) same
    (new_scan t low high log s k o (ap (λ x. shows x k) same ∙ f))
new_seen Collects log s e c k o f = absurd (none_contained e c)

pub all_seen : (log : List Act) → Sound log → (e : Event) → Contains (events log) e → (k : List ℕ) (o : Option Entry)
    → shows e k ≡ Some o → SeenBy e k o log
all_seen [] s e c k o f = absurd (none_contained e c)
all_seen (a ∷ log) s e c k o f =
    elim (Contains-append_cases (events log) (recorded a log) e c) [
      | inl old ↦
          let r = all_seen log s.1 e old k o f in
          record {
            begun = begun_stays (txn_of e) a log r.begun;
            right = seen_stays (txn_of e) k o a log s r.begun r.right;
          }
      | inr new ↦ new_seen a log s e new k o f
    ]
