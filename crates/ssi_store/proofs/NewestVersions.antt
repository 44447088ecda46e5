-- What a store holds after a course: of each key the newest committed version.
use Rattle.std.specs.List.{Contains, cons_option, filter, filter_map}
use Rattle.std.proofs.Common.{Bool, List, None, Option, Some, ap, arith, cond, false, if◌then◌else◌, inl, inr, map, refl, subst, sym, true, ℕ, ◌∙◌, ◌∷◌, ◌≡◌, ◌==◌, ◌⊎◌, []}
use Rattle.std.proofs.lemmas.Bool.{cases_Bool, cond-false, cond-true, eq-eqb}
use Rattle.adya_keys.specs.Meaning.Keys.{keys_rise, lies_in}
use Rattle.adya_values.specs.declared.edition.Edition.{Edition}
use Rattle.adya_values.specs.declared.edition.Edition.TheVariants.{One, Two}
use Rattle.adya_values.specs.Meaning.Events.{listed, shown, visible}
use Rattle.adya_values.specs.Meaning.Histories.{Entry, FinalPair}
use Rattle.adya_values.specs.Meaning.Serial.{pair, visible_pair_of, visible_pairs}
use Rattle.ssi_versions.specs.Meaning.Changes.{Held, entry_in, otherwise}
use Rattle.ssi_versions.specs.Clauses.ByStamp.{newest_within}
use Rattle.ssi_versions.specs.Mirror.{is_of, chain_of, found_in, key_in}
use Rattle.ssi_snapshot.specs.Clauses.Listings.{IsListing, keys as keys_of_entries, within}
use Rattle.ssi_recorder.specs.Laws.{CommitsAreListed}
use Rattle.ssi_recorder.specs.Meaning.Recorded.{history_of_events}
use Rattle.ssi_store.specs.Laws.{FinalsAreContents, NewTxnsSeeContents}
use Rattle.ssi_store.specs.Machinery.Below.{Below}
use Rattle.ssi_store.specs.Machinery.HeldRows.{entries_in}
use Rattle.ssi_store.specs.Machinery.Opens.{Sessions}
use Rattle.ssi_store.specs.Meaning.Acts.{Aborts, Act, Begins, acts, begun, has_begun, is_open, open_txns}
use Rattle.ssi_store.specs.Meaning.Contents.{newest_entries}
use Rattle.ssi_store.specs.Meaning.Courses.{Course}
use Rattle.ssi_store.specs.Meaning.Recording.{events}
use Rattle.ssi_store.specs.Meaning.Seeing.{changed, commit_count, committed, keys, sees, snapshot}
use Rattle.ssi_store.specs.Clauses.Finished.{close, closed}
use Rattle.ssi_store.specs.Mirror.Standing.{Parts, StandsFor}
use Rattle.ssi_store.proofs.ChangesAllowed.{changed_installable, late_protected}
use Rattle.ssi_store.proofs.Closing.{closed_sound}
use Rattle.ssi_store.proofs.Lists.{filter_map_same, option_cases}
use Rattle.ssi_store.proofs.MadeHistories.{recorder_makes}
use Rattle.ssi_store.proofs.Opens.{blank}
use Rattle.ssi_store.proofs.OwnWrites.{keys_of_log_rise}
use Rattle.ssi_store.proofs.RisingKeys.{listed_made, made_rises}
use Rattle.ssi_store.proofs.SeenByEvents.{contents_is}
use Rattle.ssi_store.proofs.SoundCourses.{course_stands}
use Rattle.ssi_store.proofs.SoundLogs.{Sound}

-- the newest committed version of the key
abbrev newest : List Act → List ℕ → Option Entry
newest log k = committed k (commit_count log) log

newest_key : (log : List Act) (k : List ℕ) (w : Entry) → newest log k ≡ Some w → w.version.key ≡ k
newest_key log k w e = (contents_is k (commit_count log) log w e).0

newest_written : (log : List Act) (k : List ℕ) → Contains (keys log) k ⊎ (newest log k ≡ None)
newest_written log k = elim (option_cases (newest log k)) [
  | inl none ↦ inr none
  | inr some ↦ inl (contents_is k (commit_count log) log some.0 some.1).1
]

newest_listing : (log : List Act) → IsListing (newest log) (newest_entries log)
newest_listing log = record {
  rising = made_rises (λ w. w.version.key) (newest log) (newest_key log) (keys log) (keys_of_log_rise log);
  each = λ k. listed_made (newest log) (newest_key log) (keys log) k (newest_written log k);
}

-- what versions list of a key
listed_found : (k : List ℕ) (hs : List Held) → listed k (entries_in hs) ≡ entry_in (found_in k hs)
listed_found k [] = refl
listed_found k (h ∷ hs) =
    elim (cases_Bool (is_of k h)) [ inl same ↦ rw same refl | inr other ↦ rw other (listed_found k hs) ]

keys_held : (hs : List Held) → keys_of_entries (entries_in hs) ≡ map key_in hs
keys_held [] = refl
keys_held (h ∷ hs) = ap (λ ks. h.entry.version.key ∷ ks) (keys_held hs)

-- what the chains show of each key at the last commit
pub held_newest : {p : Parts} {next : ℕ} {es : Sessions} {c : Course} → StandsFor p next es c → Below → (hs : List Held)
    → keys_rise (map key_in hs) ≡ true → ((k : List ℕ) → found_in k hs ≡ newest_within p.commits (chain_of k p.holds))
    → entries_in hs ≡ newest_entries (acts c)
held_newest {p = p} {c = c} st b hs rises found =
    let log = acts c in
    let n = commit_count log in
    b.unique (newest log) (entries_in hs) (newest_entries log) (record {
      rising = ap keys_rise (keys_held hs) ∙ rises;
      each = λ k. listed_found k hs ∙ ap entry_in (found k ∙ ap (λ s. newest_within s (chain_of k p.holds)) st.log.commits
          ∙ ap (newest_within n) (st.log.chains k)
          ∙ b.shows (changed log) (changed_installable log) k n (late_protected n log (omega arith)));
    }) (newest_listing log)

-- the visible ones of what is made of keys, each of its own key
visible_made : (f : List ℕ → Option Entry) → ((k : List ℕ) (w : Entry) → f k ≡ Some w → w.version.key ≡ k)
    → (ks : List (List ℕ)) → filter_map (λ k. visible_pair_of k (shown (f k))) ks ≡ visible_pairs (filter_map f ks)
visible_made f own [] = refl
visible_made f own (k ∷ ks) = by_first (f k) refl (visible_made f own ks)
  where
    by_first : (o : Option Entry) → f k ≡ o
        → filter_map (λ j. visible_pair_of j (shown (f j))) ks ≡ visible_pairs (filter_map f ks)
        → cons_option (visible_pair_of k (shown o)) (filter_map (λ j. visible_pair_of j (shown (f j))) ks)
        ≡ visible_pairs (cons_option o (filter_map f ks))
    by_first None e rest = rest
    by_first (Some w) e rest =
        ap (λ j. cons_option (visible_pair_of j (visible w.content)) (filter_map (λ j. visible_pair_of j (shown (f j))) ks))
        (sym (own k w e))
        ∙ ap (cons_option (visible_pair_of w.version.key (visible w.content))) rest

log_finals : CommitsAreListed → (edition : Edition) (unfinished : List ℕ) (log : List Act) → Sound log
    → (history_of_events edition unfinished (events log)).finals ≡ visible_pairs (newest_entries log)
log_finals listed edition unfinished log s =
    ap (λ h. h.finals) (recorder_makes listed edition unfinished log s)
    ∙ visible_made (newest log) (newest_key log) (keys log)

-- an abort changes none of it
close_newest : (ts : List ℕ) (log : List Act) → newest_entries (close ts log) ≡ newest_entries log
close_newest [] log = refl
close_newest (t ∷ ts) log = close_newest ts (cond (is_open t log) (Aborts t ∷ log) log) ∙ one (is_open t log)
  where
    one : (b : Bool) → newest_entries (cond b (Aborts t ∷ log) log) ≡ newest_entries log
    one true = refl
    one false = refl

pub finals_are_contents : CommitsAreListed → FinalsAreContents
finals_are_contents listed pivot c f =
    let sound = (course_stands pivot c f).sound in (
      log_finals listed One [] (closed (acts c)) (closed_sound (acts c) sound)
          ∙ ap visible_pairs (close_newest (begun (acts c)) (acts c)),
      log_finals listed Two (open_txns (acts c)) (acts c) sound,
    )

-- the visible ones of the keys of a range, each made of its own key
module _ (low high : List ℕ) (f : List ℕ → Option Entry) (own : (k : List ℕ) (w : Entry) → f k ≡ Some w → w.version.key ≡ k) where
  abbrev passes : FinalPair → Bool
  passes r = lies_in low high r.key

  by_content : (inside : List Entry) (all : List FinalPair) (w : Entry) (b : Bool) → lies_in low high w.version.key ≡ b
      → (x : Option (List ℕ)) → visible w.content ≡ x → visible_pairs inside ≡ filter passes all
      → visible_pairs (cons_option (if b then Some w else None) inside)
      ≡ filter passes (cons_option (visible_pair_of w.version.key x) all)
  by_content inside all w true is None shows rest =
      ap (λ y. cons_option (visible_pair_of w.version.key y) (visible_pairs inside)) shows ∙ rest
  by_content inside all w true is (Some v) shows rest =
      ap (λ y. cons_option (visible_pair_of w.version.key y) (visible_pairs inside)) shows
      ∙ ap (λ rs. pair w.version.key v ∷ rs) rest
      ∙ sym (cond-true {A = List FinalPair} (lies_in low high w.version.key) (pair w.version.key v ∷ filter passes all)
      (filter passes all) is)
  by_content inside all w false is None shows rest = rest
  by_content inside all w false is (Some v) shows rest = rest
      ∙ sym (cond-false {A = List FinalPair} (lies_in low high w.version.key) (pair w.version.key v ∷ filter passes all)
      (filter passes all) is)

  by_first : (k : List ℕ) (inside es : List Entry) (o : Option Entry) → f k ≡ o
      → visible_pairs inside ≡ filter passes (visible_pairs es)
      → visible_pairs (cons_option (if lies_in low high k then o else None) inside)
      ≡ filter passes (visible_pairs (cons_option o es))
  by_first k inside es None e rest =
      elim (lies_in low high k) as (λ b. visible_pairs (cons_option (if b then None else None) inside)
      ≡ filter passes (visible_pairs es)) [
        | true ↦ rest
        | false ↦ rest
      ]
  by_first k inside es (Some w) e rest =
      subst (λ j. visible_pairs (cons_option (if lies_in low high j then Some w else None) inside)
      ≡ filter passes (visible_pairs (w ∷ es))) (own k w e)
      (by_content inside (visible_pairs es) w (lies_in low high w.version.key) refl (visible w.content) refl rest)

  range_made : (ks : List (List ℕ)) → visible_pairs (filter_map (within low high f) ks)
      ≡ filter (λ r. lies_in low high r.key) (visible_pairs (filter_map f ks))
  range_made [] = refl
  range_made (k ∷ ks) = by_first k (filter_map (within low high f) ks) (filter_map f ks) (f k) refl (range_made ks)

-- a transaction that begins sees the newest committed versions
sees_newest : (t : ℕ) (log : List Act) → Sound log → has_begun t log ≡ false → (k : List ℕ)
    → sees t k (Begins t ∷ log) ≡ newest log k
sees_newest t log s fresh k =
    ap (λ o. otherwise o (committed k (snapshot t (Begins t ∷ log)) log)) ((blank t log s fresh).own k)
    ∙ ap (λ n. committed k n log)
    (cond-true {A = ℕ} (t == t) (commit_count log) (snapshot t log) (eq-eqb t t refl))

pub new_txns_see_contents : NewTxnsSeeContents
new_txns_see_contents pivot c f t fresh low high =
    let log = acts c in
    ap visible_pairs (filter_map_same (within low high (λ k. sees t k (Begins t ∷ log))) (within low high (newest log)) (keys log)
    (λ k. ap (λ o. if lies_in low high k then o else None) (sees_newest t log (course_stands pivot c f).sound fresh k)))
    ∙ range_made low high (newest log) (newest_key log) (keys log)
