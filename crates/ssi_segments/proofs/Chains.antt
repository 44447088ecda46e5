-- Segments one after the other.
use Rattle.std.proofs.Common.{◌≡◌, ℕ, Bool, true, false, cond, not, ◌&&◌, List, [], ◌∷◌, refl, sym, ◌∙◌, ap, subst}
use Rattle.adya_values.specs.Meaning.Events.{is_committed}
use Rattle.adya_values.specs.Meaning.Histories.{FinalPair}
use Rattle.adya_values.specs.Meaning.Serial.{run}
use Rattle.adya_laws.specs.Laws.{AcceptedAgrees}
use Rattle.adya_laws.proofs.SerialRuns.{run_append, AllSee-append}
use Rattle.ssi_recorder.specs.Laws.{CommitsAreListed}
use Rattle.ssi_store.specs.Laws.{OrderedDumpedAreCovered, OrderedFinishedAreCovered, FinalsAreContents}
use Rattle.ssi_store.specs.Meaning.Acts.{acts, has_begun}
use Rattle.ssi_store.specs.Meaning.Contents.{contents_after}
use Rattle.ssi_segments.specs.Laws.{ListsItsOwn, SegmentsAreSerial}
use Rattle.ssi_segments.specs.Meaning.Segments.{Segment, IsSegment, Holds, all_events, history_of, left_after, own_events}
use Rattle.ssi_segments.proofs.Parts.{filter_counts}
use Rattle.ssi_segments.proofs.LoadedSegments.{goes}

-- which transactions a part of a certificate has
both_tests : (a b : Bool) → ◌≡◌ {A = ℕ} (cond a (cond b 1 0) 0) (cond (a && b) 1 0)
both_tests true b = refl
both_tests false b = refl

lists_own : (rows : List FinalPair) (s : Segment) → IsSegment rows s → ListsItsOwn s
lists_own rows s is t =
    let is_own = not (has_begun t (acts s.loaded)) in
    filter_counts (λ u. not (has_begun u (acts s.loaded))) s.serial t is_own refl
    ∙ ap (λ n. cond is_own n 0) (is.accepted.committed_once t)
    ∙ both_tests is_own (is_committed (history_of s).events t)

module _ (agree : AcceptedAgrees) (listed : CommitsAreListed) (so_far : OrderedDumpedAreCovered)
    (at_end : OrderedFinishedAreCovered) (finals : FinalsAreContents) where
  pub are_serial : SegmentsAreSerial
  are_serial rows [] are m has = record { listed = tt; see = tt; finals = has }
  are_serial rows (s ∷ ss) are m has =
      let first = goes agree listed so_far at_end finals rows s are.0 m has in
      let rest = are_serial (contents_after s.course) ss are.1 (run m (own_events s)) first.finals in
      record {
        listed = (lists_own rows s are.0, rest.listed);
        see = AllSee-append (own_events s) (all_events ss) m first.see rest.see;
        finals = subst (λ n. Holds n (left_after (contents_after s.course) ss)) (sym (run_append (own_events s) (all_events ss) m))
            rest.finals;
      }
