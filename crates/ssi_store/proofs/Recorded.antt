-- What the recorded events say of commits, aborts and writes.
use Rattle.std.specs.List.{cons_option, filter, filter_map, list_any}
use Rattle.std.proofs.Common.{Bool, List, None, Option, Some, [], ap, cond, false, inl, inr, length, refl, suc, sym, true, ℕ, ◌&&◌, ◌++◌, ◌==◌, ◌||◌, ◌∙◌, ◌∷◌, ◌≡◌}
use Rattle.std.proofs.lemmas.Bool.{and_parts, cases_Bool, cond-false, cond-true, eqb-true}
use Rattle.std.proofs.lemmas.List.{append-nil}
use Rattle.std.proofs.lemmas.List.Elements.{filter-append, filter_map-append}
use Rattle.std.proofs.lemmas.List.Folds.{list_any-append}
use Rattle.lemmas.proofs.Orderings.{bytes_eq-same}
use Rattle.adya_values.specs.Meaning.Events.{aborts, commits, entry, is_committed, last, last_write, version, writes_of, written, commit_of}
use Rattle.adya_values.specs.Meaning.Histories.{Abort, Commit, Content, Dead, Delete, Entry, Event, Live, Read, Scan, Write}
use Rattle.adya_keys.specs.Meaning.Keys.{key_eq}
use Rattle.adya_values.specs.declared.event.Version.{Version}
use Rattle.ssi_store.specs.Meaning.Acts.{Aborts, Act, Collects, Commits, Gets, Scans, Begins, Writes, has_aborted, has_committed}
use Rattle.ssi_store.specs.Meaning.Recording.{events, get_event, get_found, write_event}
use Rattle.ssi_store.specs.Meaning.Seeing.{own_write, sees, write_count}

or_swap : (c b : Bool) → (c || b) ≡ (b || (c || false))
or_swap true true = refl
or_swap true false = refl
or_swap false true = refl
or_swap false false = refl

or_nothing : (b : Bool) → (b || (false || false)) ≡ b
or_nothing true = refl
or_nothing false = refl

-- what holds of every read and scan holds of a recorded get
pub of_get : {Y : Type 0} (f : Event → Y) (y : Y) → ((t : ℕ) (r : Version) (v : List ℕ) → f (Read t r v) ≡ y)
    → ((t : ℕ) (low high : List ℕ) (es : List Entry) → f (Scan t low high es) ≡ y)
    → (t : ℕ) (k : List ℕ) (o : Option Entry) → f (get_event t k o) ≡ y
of_get f y read scan t k None = scan t k k []
of_get f y read scan t k (Some w) = by_content w.content
  where
    by_content : (c : Content) → f (get_found t k w c) ≡ y
    by_content (Live v) = read t w.version v
    by_content Dead = scan t k k (w ∷ [])

pub of_write : {Y : Type 0} (f : Event → Y) (y : Y)
    → ((t : ℕ) (k : List ℕ) (n : ℕ) (v : List ℕ) → f (Write t k n v) ≡ y)
    → ((t : ℕ) (k : List ℕ) (n : ℕ) → f (Delete t k n) ≡ y) → (t : ℕ) (k : List ℕ) (n : ℕ) (c : Content)
    → f (write_event t k n c) ≡ y
of_write f y write delete t k n (Live v) = write t k n v
of_write f y write delete t k n Dead = delete t k n

any_more : (f : Event → Bool) (xs : List Event) (e : Event) (b c : Bool) → f e ≡ c → list_any f xs ≡ b
    → list_any f (xs ++ e ∷ []) ≡ (b || (c || false))
any_more f xs e b c h i = list_any-append f xs (e ∷ [])
    ∙ (ap (λ x. x || (f e || false)) i ∙ ap (λ x. b || (x || false)) h)

any_quiet : (f : Event → Bool) (xs : List Event) (e : Event) (b : Bool) → f e ≡ false → list_any f xs ≡ b
    → list_any f (xs ++ e ∷ []) ≡ b
any_quiet f xs e b h i = any_more f xs e b false h i ∙ or_nothing b

pub committed_events : (t : ℕ) (log : List Act) → is_committed (events log) t ≡ has_committed t log
committed_events t [] = refl
committed_events t (Begins u ∷ log) = ap (list_any (commits t)) (append-nil (events log)) ∙ committed_events t log
committed_events t (Writes u k c ∷ log) = any_quiet (commits t) (events log) _ _
    (of_write (commits t) false (λ u k n v. refl) (λ u k n. refl) u k _ c) (committed_events t log)
committed_events t (Gets u k ∷ log) = any_quiet (commits t) (events log) _ _
    (of_get (commits t) false (λ u r v. refl) (λ u low high es. refl) u k (sees u k log)) (committed_events t log)
committed_events t (Scans u low high ∷ log) = any_quiet (commits t) (events log) _ _ refl (committed_events t log)
committed_events t (Aborts u ∷ log) = any_quiet (commits t) (events log) _ _ refl (committed_events t log)
committed_events t (Commits u ∷ log) = any_more (commits t) (events log) (Commit u) _ (u == t) refl
    (committed_events t log) ∙ sym (or_swap (u == t) (has_committed t log))
committed_events t (Collects ∷ log) = ap (list_any (commits t)) (append-nil (events log)) ∙ committed_events t log

pub aborted_events : (t : ℕ) (log : List Act) → list_any (aborts t) (events log) ≡ has_aborted t log
aborted_events t [] = refl
aborted_events t (Begins u ∷ log) = ap (list_any (aborts t)) (append-nil (events log)) ∙ aborted_events t log
aborted_events t (Writes u k c ∷ log) = any_quiet (aborts t) (events log) _ _
    (of_write (aborts t) false (λ u k n v. refl) (λ u k n. refl) u k _ c) (aborted_events t log)
aborted_events t (Gets u k ∷ log) = any_quiet (aborts t) (events log) _ _
    (of_get (aborts t) false (λ u r v. refl) (λ u low high es. refl) u k (sees u k log)) (aborted_events t log)
aborted_events t (Scans u low high ∷ log) = any_quiet (aborts t) (events log) _ _ refl (aborted_events t log)
aborted_events t (Commits u ∷ log) = any_quiet (aborts t) (events log) _ _ refl (aborted_events t log)
aborted_events t (Aborts u ∷ log) = any_more (aborts t) (events log) (Abort u) _ (u == t) refl (aborted_events t log)
    ∙ sym (or_swap (u == t) (has_aborted t log))
aborted_events t (Collects ∷ log) = ap (list_any (aborts t)) (append-nil (events log)) ∙ aborted_events t log

map_quiet : {X : Type 0} (f : Event → Option X) (xs : List Event) (e : Event) (ys : List X) → f e ≡ None
    → filter_map f xs ≡ ys → filter_map f (xs ++ e ∷ []) ≡ ys
map_quiet f xs e ys h i = filter_map-append f xs (e ∷ [])
    ∙ (ap (λ o. filter_map f xs ++ cons_option o []) h ∙ (append-nil (filter_map f xs) ∙ i))

map_more : {X : Type 0} (f : Event → Option X) (xs : List Event) (e : Event) (ys : List X) (y : X) → f e ≡ Some y
    → filter_map f xs ≡ ys → filter_map f (xs ++ e ∷ []) ≡ ys ++ y ∷ []
map_more f xs e ys y h i = filter_map-append f xs (e ∷ [])
    ∙ (ap (λ o. filter_map f xs ++ cons_option o []) h ∙ ap (λ l. l ++ y ∷ []) i)

-- the transactions in the order of their commits
abbrev pub committers : List Act → List ℕ
committers [] = []
committers (Commits t ∷ log) = committers log ++ t ∷ []
committers (a ∷ log) = committers log

pub commits_of_events : (log : List Act) → filter_map commit_of (events log) ≡ committers log
commits_of_events [] = refl
commits_of_events (Begins u ∷ log) = ap (filter_map commit_of) (append-nil (events log)) ∙ commits_of_events log
commits_of_events (Writes u k c ∷ log) = map_quiet commit_of (events log) _ _
    (of_write commit_of None (λ u k n v. refl) (λ u k n. refl) u k _ c) (commits_of_events log)
commits_of_events (Gets u k ∷ log) = map_quiet commit_of (events log) _ _
    (of_get commit_of None (λ u r v. refl) (λ u low high es. refl) u k (sees u k log)) (commits_of_events log)
commits_of_events (Scans u low high ∷ log) = map_quiet commit_of (events log) _ _ refl (commits_of_events log)
commits_of_events (Aborts u ∷ log) = map_quiet commit_of (events log) _ _ refl (commits_of_events log)
commits_of_events (Commits u ∷ log) = map_more commit_of (events log) (Commit u) _ u refl (commits_of_events log)
commits_of_events (Collects ∷ log) = ap (filter_map commit_of) (append-nil (events log)) ∙ commits_of_events log

-- the version that a write makes after those before it
abbrev pub made : ℕ → List ℕ → Content → List Act → Entry
made t k c log = entry (version k t (suc (write_count t k log))) c

-- all versions, in the order in which they were written
abbrev pub versions : List Act → List Entry
versions [] = []
versions (Writes t k c ∷ log) = versions log ++ made t k c log ∷ []
versions (a ∷ log) = versions log

pub written_write : (t : ℕ) (k : List ℕ) (n : ℕ) (c : Content)
    → written (write_event t k n c) ≡ Some (entry (version k t n) c)
written_write t k n (Live v) = refl
written_write t k n Dead = refl

pub versions_of_events : (log : List Act) → filter_map written (events log) ≡ versions log
versions_of_events [] = refl
versions_of_events (Begins u ∷ log) = ap (filter_map written) (append-nil (events log)) ∙ versions_of_events log
versions_of_events (Writes u k c ∷ log) = map_more written (events log) _ _ (made u k c log) (written_write u k _ c)
    (versions_of_events log)
versions_of_events (Gets u k ∷ log) = map_quiet written (events log) _ _
    (of_get written None (λ u r v. refl) (λ u low high es. refl) u k (sees u k log)) (versions_of_events log)
versions_of_events (Scans u low high ∷ log) = map_quiet written (events log) _ _ refl (versions_of_events log)
versions_of_events (Aborts u ∷ log) = map_quiet written (events log) _ _ refl (versions_of_events log)
versions_of_events (Commits u ∷ log) = map_quiet written (events log) _ _ refl (versions_of_events log)
versions_of_events (Collects ∷ log) = ap (filter_map written) (append-nil (events log)) ∙ versions_of_events log

last_more : {X : Type 0} (xs : List X) (x : X) → last (xs ++ x ∷ []) ≡ Some x
last_more [] x = refl
last_more (y ∷ []) x = refl
last_more (y ∷ z ∷ zs) x = last_more (z ∷ zs) x

pub length_more : {X : Type 0} (xs : List X) (x : X) → length (xs ++ x ∷ []) ≡ suc (length xs)
length_more [] x = refl
length_more (y ∷ ys) x = ap suc (length_more ys x)

abbrev is_own : ℕ → List ℕ → Entry → Bool
is_own t k w = w.version.txn == t && key_eq w.version.key k

writes_more : (t : ℕ) (k : List ℕ) (xs : List Entry) (x : Entry)
    → filter (is_own t k) (xs ++ x ∷ []) ≡ filter (is_own t k) xs ++ cond (is_own t k x) (x ∷ []) []
writes_more t k xs x = filter-append (is_own t k) xs (x ∷ [])

-- the transaction's own write is the last one recorded, and their number is right
pub record IsOwn (t : ℕ) (k : List ℕ) (log : List Act) : Type 0 where
  pub last_is : last (filter (is_own t k) (versions log)) ≡ own_write t k log
  pub count_is : length (filter (is_own t k) (versions log)) ≡ write_count t k log

own_of_versions : (t : ℕ) (k : List ℕ) (log : List Act) → IsOwn t k log
own_of_versions t k [] = record { last_is = refl; count_is = refl }
own_of_versions t k (Begins u ∷ log) = let r = own_of_versions t k log in record
    { last_is = r.last_is; count_is = r.count_is }
own_of_versions t k (Gets u j ∷ log) = let r = own_of_versions t k log in record
    { last_is = r.last_is; count_is = r.count_is }
own_of_versions t k (Scans u low high ∷ log) = let r = own_of_versions t k log in record
    { last_is = r.last_is; count_is = r.count_is }
own_of_versions t k (Commits u ∷ log) = let r = own_of_versions t k log in record
    { last_is = r.last_is; count_is = r.count_is }
own_of_versions t k (Aborts u ∷ log) = let r = own_of_versions t k log in record
    { last_is = r.last_is; count_is = r.count_is }
own_of_versions t k (Writes u j c ∷ log) =
    let r = own_of_versions t k log in
    let more = writes_more t k (versions log) (made u j c log) in
    elim (cases_Bool (u == t && key_eq j k)) [
      | inl same ↦
          let kept : filter (is_own t k) (versions (Writes u j c ∷ log)) ≡ filter (is_own t k)
          (versions log) ++ made u j c log ∷ [] = more
          ∙ ap (λ b. filter (is_own t k) (versions log) ++ cond b (made u j c log ∷ []) []) same in
          let count_same : write_count u j log ≡ write_count t k log = ap (λ x. write_count x j log)
          (eqb-true u t (and_parts (u == t) (key_eq j k) same).0)
          ∙ ap (λ x. write_count t x log) (bytes_eq-same j k (and_parts (u == t) (key_eq j k) same).1) in
          let entry_same : made u j c log ≡ made t k c log = ap (λ x. made x j c log)
          (eqb-true u t (and_parts (u == t) (key_eq j k) same).0)
          ∙ ap (λ x. made t x c log) (bytes_eq-same j k (and_parts (u == t) (key_eq j k) same).1) in
          record {
            last_is = ap last kept ∙ (last_more (filter (is_own t k) (versions log)) (made u j c log)
                ∙ (ap Some entry_same ∙ sym (cond-true {A = Option Entry} (u == t && key_eq j k)
                (Some (made t k c log)) (own_write t k log) same)));
            count_is = ap length kept ∙ (length_more (filter (is_own t k) (versions log)) (made u j c log)
                ∙ (ap suc r.count_is ∙ sym (cond-true {A = ℕ} (u == t && key_eq j k) (suc (write_count t k log))
                (write_count t k log) same)));
          }
      | inr other ↦
          let kept : filter (is_own t k) (versions (Writes u j c ∷ log)) ≡ filter (is_own t k) (versions log) = more
          ∙ (ap (λ b. filter (is_own t k) (versions log) ++ cond b (made u j c log ∷ []) []) other ∙ append-nil _) in
          record {
            last_is = ap last kept ∙ (r.last_is
                ∙ sym (cond-false {A = Option Entry} (u == t && key_eq j k) (Some (made t k c log))
                (own_write t k log) other));
            count_is = ap length kept ∙ (r.count_is
                ∙ sym (cond-false {A = ℕ} (u == t && key_eq j k) (suc (write_count t k log))
                (write_count t k log) other));
          }
    ]
own_of_versions t k (Collects ∷ log) = let r = own_of_versions t k log in record
    { last_is = r.last_is; count_is = r.count_is }

pub own_of_events : (t : ℕ) (k : List ℕ) (log : List Act) → last_write t k (events log) ≡ own_write t k log
own_of_events t k log = ap (λ l. last (filter (is_own t k) l)) (versions_of_events log)
    ∙ (own_of_versions t k log).last_is

pub count_of_events : (t : ℕ) (k : List ℕ) (log : List Act)
    → length (writes_of t k (events log)) ≡ write_count t k log
count_of_events t k log = ap (λ l. length (filter (is_own t k) l)) (versions_of_events log)
    ∙ (own_of_versions t k log).count_is
