-- A log in two parts, at whose border no transaction is open: those of the first part come first in a serial order, and leave what
-- the log held there.
use Rattle.std.proofs.Common.{◌≡◌, ℕ, suc, ◌≤◌, Bool, true, false, List, [], ◌++◌, length, Some, slice_get, refl, sym, ◌∙◌, ap, subst, arith, inl, inr}
use Rattle.std.specs.Prelude.{flat_map}
use Rattle.std.proofs.lemmas.Bool.{cases_Bool}
use Rattle.adya_values.specs.Meaning.Events.{is_committed, shown}
use Rattle.adya_values.specs.Meaning.Histories.{History}
use Rattle.adya_values.specs.Meaning.Orders.{installer}
use Rattle.adya_values.specs.Meaning.Serial.{Contents, empty, run, events_of}
use Rattle.adya_values.specs.Clauses.Acceptance.{IsAccepted}
use Rattle.adya_values.specs.declared.edition.Edition.TheVariants.{One}
use Rattle.adya_laws.proofs.SerialContents.{HoldsVersion, holds-start}
use Rattle.ssi_store.specs.Meaning.Acts.{Act, has_begun, has_committed, is_open}
use Rattle.ssi_store.specs.Meaning.Seeing.{commit_count, committed, snapshot}
use Rattle.ssi_store.proofs.Installed.{writers_are}
use Rattle.ssi_store.proofs.LoggedHistories.{history_of_log, installers}
use Rattle.ssi_store.proofs.Recorded.{committed_events}
use Rattle.ssi_store.proofs.SnapshotHistories.{is_snapshot_history}
use Rattle.ssi_store.proofs.SoundLogs.{Sound, committed_begun, stamp_above}
use Rattle.ssi_store.proofs.Stamps.{installer_is, stamp_in_log}
use Rattle.ssi_segments.proofs.QuietMoments.{IsQuiet, earlier, later, in_two_parts, early_place, place_early}
use Rattle.ssi_segments.proofs.Fronts.{front_holds}
use Rattle.ssi_segments.proofs.LaterActs.{contents_kept, no_later_commit, sees_log, stamp_within}
use Rattle.ssi_segments.proofs.EarlyValues.{IsCount, early_value}

module _ (log more : List Act) (serial : List ℕ) (sound : Sound (more ++ log))
    (ended : (t : ℕ) → is_open t log ≡ false)
    (a : IsAccepted (history_of_log One [] (more ++ log)) serial) where
  abbrev all : List Act
  all = more ++ log

  abbrev pub whole : History
  whole = history_of_log One [] all

  abbrev loads : ℕ → Bool
  loads t = has_begun t log

  abbrev pub loading : List ℕ
  loading = earlier loads serial

  abbrev pub others : List ℕ
  others = later loads serial

  abbrev began_at : ℕ → ℕ
  began_at t = snapshot t all

  has_committed_in : (t : ℕ) → is_committed whole.events t ≡ true → has_committed t all ≡ true
  has_committed_in t c = sym (committed_events t all) ∙ c

  quiet : IsQuiet whole began_at loads (commit_count log)
  quiet = record {
    checked = a.checked;
    snapshots = is_snapshot_history One [] all sound;
    early = λ t c e. (
        let before = no_later_commit t more log sound e (ended t) (has_committed_in t c) in
        let number = stamp_within t more log sound before in
        let same = stamp_in_log One [] t number.0 all sound number.1 in
        let within = number.2 in
        omega (arith, same, within)
        );
    late = λ t c e. sees_log t more log e (committed_begun t all sound (has_committed_in t c));
  }

  pub two_parts : IsAccepted whole (loading ++ others)
  two_parts = in_two_parts whole began_at loads (commit_count log) quiet serial a

  abbrev pub left : Contents
  left = run empty (flat_map (events_of whole.events) loading)

  holds : (k : List ℕ) → HoldsVersion whole (loading ++ others) k (length loading) (left k)
  holds k = front_holds whole (loading ++ others) two_parts [] loading others refl empty
      (λ j. holds-start whole (loading ++ others) j) k

  installed : (k : List ℕ) (q u : ℕ) → slice_get (installers k all) q ≡ Some u → installer whole k (suc q) ≡ Some u
  installed k q u e = ap (λ xs. slice_get xs q) (writers_are One [] k all) ∙ e

  committed_one : (k : List ℕ) (q u : ℕ) → slice_get (installers k all) q ≡ Some u → is_committed whole.events u ≡ true
  committed_one k q u e = committed_events u all ∙ (installer_is k q u all e).committed

  counts : (k : List ℕ) → IsCount k (commit_count log) all (holds k).upto
  counts k = record {
    within = subst (λ xs. (holds k).upto ≤ length xs) (writers_are One [] k all) (holds k).within;
    done = λ q u m at st l. (
        let early = place_early whole began_at loads (commit_count log) quiet serial a u
        ((holds k).done (suc q) u (installed k q u at) (omega (arith, l))) in
        let within = quiet.early u (committed_one k q u at) early in
        let same = stamp_in_log One [] u m all sound st in
        omega (arith, within, same)
        );
    only = λ q u m at st l. elim (cases_Bool (loads u)) [
      | inl early ↦ (
          let within = (holds k).only (suc q) u (installed k q u at)
          (early_place whole began_at loads (commit_count log) quiet serial a u (committed_one k q u at) early) in
          omega (arith, within)
          )
      | inr late ↦ absurd (
          let after = quiet.late u (committed_one k q u at) late in
          let above = (stamp_above u m all sound st).0 in
          omega (arith, after, above, l)
          )
    ];
  }

  -- the transactions that load leave what the log holds at its end
  pub left_shows : (k : List ℕ) → left k ≡ shown (committed k (commit_count log) log)
  left_shows k =
      (holds k).value ∙ early_value One [] k (commit_count log) all sound (holds k).upto (counts k)
      ∙ ap shown (contents_kept k more log)
