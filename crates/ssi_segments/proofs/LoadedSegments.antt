-- A segment: the transactions that load come first, and leave the rows that they load.
use Rattle.std.proofs.Common.{◌≡◌, ℕ, Bool, true, false, cond, ◌↔◌, List, [], ◌∷◌, ◌++◌, Some, refl, sym, ◌∙◌, ap, subst, append_assoc}
use Rattle.std.specs.Prelude.{flat_map, Contains}
use Rattle.std.proofs.lemmas.Bool.{false_from_ne_true}
use Rattle.std.proofs.lemmas.List.Concat.{flat_map-append}
use Rattle.std.proofs.lemmas.Option.{none-some}
use Rattle.adya_keys.specs.Meaning.Keys.{Key}
use Rattle.adya_values.specs.Computing.Shapes.{is_shape}
use Rattle.adya_values.specs.Meaning.Events.{shown}
use Rattle.adya_values.specs.Meaning.Histories.{Event, FinalPair, History}
use Rattle.adya_values.specs.Meaning.Serial.{Contents, empty, pair, run, events_of, serial_events, AllSee, Agrees}
use Rattle.adya_values.specs.Clauses.Acceptance.{IsAccepted}
use Rattle.adya_values.specs.declared.edition.Edition.TheVariants.{One}
use Rattle.adya_laws.specs.Laws.{AcceptedAgrees}
use Rattle.adya_laws.proofs.SerialRuns.{run_append}
use Rattle.ssi_recorder.specs.Laws.{CommitsAreListed}
use Rattle.ssi_recorder.specs.Meaning.Recorded.{history_of_events}
use Rattle.ssi_conflict.specs.Computing.Steps.{smallest_ordered_pivot}
use Rattle.ssi_store.specs.Laws.{OrderedDumpedAreCovered, OrderedFinishedAreCovered, FinalsAreContents}
use Rattle.ssi_store.specs.Meaning.Acts.{Act, Aborts, acts, begun, has_begun, is_open}
use Rattle.ssi_store.specs.Meaning.Contents.{contents_after}
use Rattle.ssi_store.specs.Meaning.Courses.{New}
use Rattle.ssi_store.specs.Meaning.Recording.{events}
use Rattle.ssi_store.specs.Meaning.Seeing.{commit_count, committed}
use Rattle.ssi_store.specs.Clauses.Finished.{close, closed}
use Rattle.ssi_store.proofs.Closing.{closed_sound}
use Rattle.ssi_store.proofs.LoggedHistories.{history_of_log}
use Rattle.ssi_store.proofs.MadeHistories.{recorder_makes}
use Rattle.ssi_store.proofs.SoundCourses.{course_stands}
use Rattle.ssi_store.proofs.SoundLogs.{Sound}
use Rattle.ssi_segments.specs.Meaning.Segments.{Segment, IsSegment, Holds, history_of, own_events}
use Rattle.ssi_segments.proofs.QuietMoments.{earlier, later}
use Rattle.ssi_segments.proofs.Fronts.{all_see_same, same_run, see_rest}
use Rattle.ssi_segments.proofs.HeldContents.{contents_show, same_maps}
use Rattle.ssi_segments.proofs.LogsInTwo.{two_parts, left_shows}
use Rattle.ssi_segments.proofs.Courses.{Follow, IsLonger, follows, longer}

-- an end of those that are open adds to a log
close_longer : (ts : List ℕ) (log : List Act) → IsLonger log (close ts log)
close_longer [] log = record { more = []; is = refl }
close_longer (t ∷ ts) log = by_open (λ l. close_longer ts l) (is_open t log) refl
  where
    by_open : ((l : List Act) → IsLonger l (close ts l)) → (b : Bool) → is_open t log ≡ b → IsLonger log (close (t ∷ ts) log)
    by_open others true e =
        let rest = others (Aborts t ∷ log) in
        record {
          more = rest.more ++ (Aborts t ∷ []);
          is = ap (λ b. close ts (cond b (Aborts t ∷ log) log)) e ∙ rest.is
              ∙ sym (append_assoc rest.more (Aborts t ∷ []) log);
        }
    by_open others false e =
        let rest = others log in
        record { more = rest.more; is = ap (λ b. close ts (cond b (Aborts t ∷ log) log)) e ∙ rest.is }

-- run from a map that holds the rows, the segment's own transactions see what was recorded, and leave what it holds at its end
pub record Goes (m : Contents) (s : Segment) : Type 0 where
  pub see : AllSee m (own_events s)
  pub finals : Holds (run m (own_events s)) (contents_after s.course)

module _ (agree : AcceptedAgrees) (listed : CommitsAreListed) (so_far : OrderedDumpedAreCovered)
    (at_end : OrderedFinishedAreCovered) (finals : FinalsAreContents) (rows : List FinalPair) (s : Segment) (is : IsSegment rows s) where
  began : Follow s.loaded
  began = follows s.loads (New 1) s.loaded is.load tt

  went_on : Follow s.course
  went_on = follows s.rest s.loaded s.course is.replayed began

  abbrev log : List Act
  log = acts s.loaded

  ends : IsLonger log (closed (acts s.course))
  ends =
      let first = longer s.rest s.loaded s.course is.replayed in
      let last = close_longer (begun (acts s.course)) (acts s.course) in
      record { more = last.more ++ first.more; is = last.is ∙ ap (λ l. last.more ++ l) first.is ∙ sym (append_assoc last.more first.more log) }

  sound : Sound (ends.more ++ log)
  sound = subst Sound ends.is (closed_sound (acts s.course) (course_stands smallest_ordered_pivot s.course went_on).sound)

  made : history_of s ≡ history_of_log One [] (ends.more ++ log)
  made = ap (λ l. history_of_events One [] (events l)) ends.is ∙ recorder_makes listed One [] (ends.more ++ log) sound

  none_open : (t : ℕ) → is_open t log ≡ false
  none_open t = false_from_ne_true (is_open t log) (λ o.
      (let has = (course_stands smallest_ordered_pivot s.loaded began).held t o in none-some t (sym (is.idle has.0) ∙ has.1)))

  accepted : IsAccepted (history_of_log One [] (ends.more ++ log)) s.serial
  accepted = subst (λ h. IsAccepted h s.serial) made is.accepted

  abbrev h : History
  h = history_of_log One [] (ends.more ++ log)

  abbrev first : List Event
  first = flat_map (events_of h.events) (earlier (λ t. has_begun t log) s.serial)

  abbrev own : List Event
  own = flat_map (events_of h.events) (later (λ t. has_begun t log) s.serial)

  agrees : Agrees h (earlier (λ t. has_begun t log) s.serial ++ later (λ t. has_begun t log) s.serial)
  agrees = agree h _ (subst (λ g. is_shape g.orders g.finals ≡ true) made (at_end s.course went_on).shaped)
      (two_parts log ends.more s.serial sound none_open accepted)

  parted : serial_events h (earlier (λ t. has_begun t log) s.serial ++ later (λ t. has_begun t log) s.serial) ≡ first ++ own
  parted = flat_map-append (events_of h.events) (earlier (λ t. has_begun t log) s.serial) (later (λ t. has_begun t log) s.serial)

  loads_rows : Holds (run empty first) rows
  loads_rows k v =
      subst (λ o. (o ≡ Some v) ↔ Contains rows (pair k v)) (sym (left_shows log ends.more s.serial sound none_open accepted k))
      (subst (λ l. (shown (committed k (commit_count log) log) ≡ Some v) ↔ Contains l (pair k v)) is.holds
      (contents_show listed so_far finals s.loaded began k v))

  final_contents : Holds (run (run empty first) own) (contents_after s.course)
  final_contents k v =
      let here : h.finals ≡ contents_after s.course =
      ap (λ g. g.finals) (sym made) ∙ (finals smallest_ordered_pivot s.course went_on).0 in
      subst (λ l. (run (run empty first) own k ≡ Some v) ↔ Contains l (pair k v)) here
      (subst (λ x. (x k ≡ Some v) ↔ Contains h.finals (pair k v)) (ap (run empty) parted ∙ run_append first own empty)
      (agrees.finals k v))

  pub goes : (m : Contents) → Holds m rows → Goes m s
  goes m has =
      let same = same_maps (run empty first) m rows loads_rows has in
      let seen : AllSee m own =
      all_see_same own (run empty first) m same (see_rest first own empty (subst (AllSee empty) parted agrees.sees)) in
      let now : (k : Key) → run (run empty first) own k ≡ run m own k = same_run own (run empty first) m same in
      let back : own ≡ own_events s =
      ap (λ g. flat_map (events_of g.events) (later (λ t. has_begun t log) s.serial)) (sym made) in
      record {
        see = subst (AllSee m) back seen;
        finals = subst (λ es. Holds (run m es) (contents_after s.course)) back
            (λ k v. subst (λ o. (o ≡ Some v) ↔ Contains (contents_after s.course) (pair k v)) (now k) (final_contents k v));
      }
