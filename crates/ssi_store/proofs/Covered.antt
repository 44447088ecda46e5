-- What a history of a course is: checked, a snapshot history, covered by pairs, and without a pivot.
use Rattle.std.specs.List.{filter_map}
use Rattle.std.proofs.Common.{Bool, List, Option, Some, [], ap, arith, cond, false, length, not, refl, subst, suc, sym, true, ℕ, ◌==◌, ◌∙◌, ◌∷◌, ◌≡◌}
use Rattle.std.proofs.lemmas.Bool.{and_from, both_ways, eq-eqb, ne_eqb, not_from_false}
use Rattle.std.proofs.lemmas.Option.{none-some, same_Some}
use Rattle.lemmas.proofs.Filters.{filter-source, filter_map-source}
use Rattle.lemmas.proofs.Members.{none_contained}
use Rattle.lemmas.proofs.Tests.{list_all_when, list_any_when}
use Rattle.adya_values.specs.Computing.Shapes.{fits_edition, is_shape}
use Rattle.adya_values.specs.Clauses.Acceptance.{IsChecked}
use Rattle.adya_values.specs.Meaning.Edges.{Edge}
use Rattle.adya_values.specs.Meaning.Events.{shown}
use Rattle.adya_values.specs.Meaning.Histories.{Order}
use Rattle.adya_values.specs.Meaning.Serial.{visible_pair_of}
use Rattle.adya_values.specs.declared.edition.Edition.{Edition}
use Rattle.adya_values.specs.declared.edition.Edition.TheVariants.{One, Two}
use Rattle.ssi_recorder.specs.Laws.{CommitsAreListed}
use Rattle.ssi_recorder.specs.Meaning.Recorded.{history_of_events, order_line}
use Rattle.ssi_conflict.specs.Meaning.Calls.{Call}
use Rattle.ssi_conflict.specs.Laws.{AbortsMakeNoPair}
use Rattle.ssi_conflict.specs.Clauses.Pairs.{IsOrderedPivot, IsPair, IsPivot}
use Rattle.snapshot_histories.specs.Clauses.Snapshots.{IsDangerous}
use Rattle.ssi_store.specs.Meaning.Acts.{Aborts, Act, acts, is_open, open_txns, begun}
use Rattle.ssi_store.specs.Meaning.Courses.{Course}
use Rattle.ssi_store.specs.Clauses.Coverage.{course_snapshot, IsCovered}
use Rattle.ssi_store.specs.Meaning.Recording.{dumped, events}
use Rattle.ssi_store.specs.Clauses.Finished.{close, closed, finished}
use Rattle.ssi_store.specs.Meaning.Seeing.{commit_count, committed, keys, snapshot}
use Rattle.ssi_store.specs.Meaning.Tracked.{tracked}
use Rattle.ssi_store.proofs.ChangesAllowed.{open_there}
use Rattle.ssi_store.proofs.Closing.{close_safe, closed_ended, closed_sound}
use Rattle.ssi_store.proofs.SnapshotHistories.{danger_is_ordered, danger_is_pivot, edge_pair_by, is_snapshot_history}
use Rattle.ssi_store.proofs.ReachedKeys.{row_key}
use Rattle.ssi_store.proofs.LoggedHistories.{history_of_log, installers}
use Rattle.ssi_store.proofs.MadeHistories.{recorder_makes}
use Rattle.ssi_store.proofs.NoPivot.{no_pivot}
use Rattle.ssi_store.proofs.PivotRules.{IsRule}
use Rattle.ssi_store.proofs.RisingKeys.{made_rises}
use Rattle.adya_values.proofs.RisingNumbers.{numbers_rise-filter}
use Rattle.ssi_store.proofs.SoundLogs.{Safe, Sound}
use Rattle.ssi_store.proofs.SoundCourses.{Stands}
use Rattle.ssi_store.proofs.Snapshots.{concurrent_same, danger_same, snapshots_same, snapshot_is, begun_rise}
use Rattle.ssi_store.proofs.CheckedHistories.{is_checked}
use Rattle.ssi_store.proofs.OwnWrites.{keys_of_log_rise}

close_pair : AbortsMakeNoPair → (r u : ℕ) (ts : List ℕ) (log : List Act) → IsPair r u (tracked (close ts log))
    → IsPair r u (tracked log)
close_pair aborts r u [] log p = p
close_pair aborts r u (t ∷ ts) log p =
    one (is_open t log) (close_pair aborts r u ts (cond (is_open t log) (Aborts t ∷ log) log) p)
  where
    one : (b : Bool) → IsPair r u (tracked (cond b (Aborts t ∷ log) log)) → IsPair r u (tracked log)
    one true p = aborts t (tracked log) r u p
    one false p = p

close_snapshot : (x : ℕ) (ts : List ℕ) (log : List Act) → snapshot x (close ts log) ≡ snapshot x log
close_snapshot x [] log = refl
close_snapshot x (t ∷ ts) log = close_snapshot x ts (cond (is_open t log) (Aborts t ∷ log) log) ∙ one (is_open t log)
  where
    one : (b : Bool) → snapshot x (cond b (Aborts t ∷ log) log) ≡ snapshot x log
    one true = refl
    one false = refl

order_is : (k : List ℕ) (l : List ℕ) (o : Order) → order_line k l ≡ Some o
    → (o.key ≡ k) × (not (length o.writers == 0) ≡ true)
order_is k [] o e = absurd (none-some o e)
order_is k (t ∷ ts) o e = (
  sym (ap (λ x. x.key) (same_Some _ o e)),
  ap (λ x. not (length x.writers == 0))
      (sym (same_Some _ o e)) ∙ not_from_false _ (ne_eqb (suc (length ts)) 0 (λ z. omega (arith, z))),
)

is_shaped : (edition : Edition) (unfinished : List ℕ) (log : List Act)
    → is_shape (history_of_log edition unfinished log).orders (history_of_log edition unfinished log).finals ≡ true
is_shaped edition unfinished log =
    and_from _ _
    (and_from _ _
    (list_all_when (λ o. not (length o.writers == 0)) (filter_map (λ k. order_line k (installers k log)) (keys log))
    (λ o c.
    let k = filter_map-source (λ k. order_line k (installers k log)) (keys log) o c in
    (order_is k.0 (installers k.0 log) o k.2).1))
    (made_rises (λ o. o.key) (λ k. order_line k (installers k log)) (λ j o e. (order_is j (installers j log) o e).0)
    (keys log) (keys_of_log_rise log)))
    (made_rises (λ f. f.key) (λ k. visible_pair_of k (shown (committed k (commit_count log) log)))
    (λ j f e. row_key j (shown (committed j (commit_count log) log)) f e) (keys log) (keys_of_log_rise log))

-- wherever the history of a log has a dangerous structure, a pivot stands
abbrev Endangers : (ℕ → List Call → Type 0) → Type 0
Endangers IsStanding = (edition : Edition) (unfinished : List ℕ) (log : List Act) → Sound log
    → IsChecked (history_of_log edition unfinished log) → (into out : Edge)
    → IsDangerous (history_of_log edition unfinished log) (λ x. snapshot x log) into out
    → IsStanding out.from (tracked log)

pub pivot_endangers : Endangers IsPivot
pivot_endangers edition unfinished log s checked into out d = danger_is_pivot edition unfinished log s into out d

pub ordered_endangers : Endangers IsOrderedPivot
ordered_endangers edition unfinished log s checked into out d =
    danger_is_ordered edition unfinished log s checked into out d

module _ (listed : CommitsAreListed) (aborts : AbortsMakeNoPair) (IsStanding : ℕ → List Call → Type 0)
    (pivot : List Call → Option ℕ) (rule : IsRule IsStanding pivot) (dangers : Endangers IsStanding)
    (c : Course) (stands : Stands pivot c) where
  -- of a log that has the course's snapshots and no other pairs
  covered : (edition : Edition) (unfinished : List ℕ) (log : List Act) → Sound log → Safe pivot log
      → IsChecked (history_of_log edition unfinished log) → fits_edition edition unfinished ≡ true
      → ((t : ℕ) → snapshot t log ≡ course_snapshot c t)
      → ((r u : ℕ) → IsPair r u (tracked log) → IsPair r u (tracked (acts c)))
      → IsCovered IsStanding c (history_of_events edition unfinished (events log))
  covered edition unfinished log sound safe checked fits at back =
      let h = history_of_log edition unfinished log in
      let start = λ (x : ℕ). snapshot x log in
      subst (IsCovered IsStanding c) (sym (recorder_makes listed edition unfinished log sound)) (record {
        safe = record {
          checked = checked;
          snapshots = snapshots_same h start (course_snapshot c) at (is_snapshot_history edition unfinished log sound);
          no_danger = λ into out d. no_pivot IsStanding pivot rule log sound safe out.from
              (dangers edition unfinished log sound checked into out (danger_same h start (course_snapshot c) at into out d));
        };
        shaped = is_shaped edition unfinished log;
        fits = fits;
        pairs = λ e i kind apart. back e.from e.to
            (edge_pair_by edition unfinished log sound e.kind e.key e.from e.to kind i.0 i.1
            (concurrent_same h start (course_snapshot c) at e.from e.to apart));
        no_pivot = no_pivot IsStanding pivot rule (acts c) stands.sound stands.safe;
      })

  pub finished_covered : IsCovered IsStanding c (finished c)
  finished_covered =
      let sound = closed_sound (acts c) stands.sound in
      covered One [] (closed (acts c)) sound (close_safe pivot (begun (acts c)) (acts c) stands.safe)
      (is_checked One [] (closed (acts c)) sound (λ t e. absurd (both_ways _ (closed_ended (acts c) t) e))
      (λ t d. absurd (none_contained t d)))
      refl
      (λ t. close_snapshot t (begun (acts c)) (acts c) ∙ sym (snapshot_is c t))
      (λ r u p. close_pair aborts r u (begun (acts c)) (acts c) p)

  pub dumped_covered : IsCovered IsStanding c (dumped c)
  dumped_covered =
      let is_open_one = λ (t : ℕ). is_open t (acts c) in
      covered Two (open_txns (acts c)) (acts c) stands.sound stands.safe
      (is_checked Two (open_txns (acts c)) (acts c) stands.sound
      (λ t e. list_any_when (λ u. u == t) (open_txns (acts c)) t (open_there t (acts c) e) (eq-eqb t t refl))
      (λ t d. (filter-source is_open_one (begun (acts c)) t d).1))
      (numbers_rise-filter is_open_one (begun (acts c)) (begun_rise (acts c) stands.sound))
      (λ t. sym (snapshot_is c t))
      (λ r u p. p)
