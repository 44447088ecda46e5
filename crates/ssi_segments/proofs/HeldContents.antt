-- What a store holds after a course, as a map.
use Rattle.std.proofs.Common.{◌≡◌, ℕ, true, ◌↔◌, List, length, Option, Some, None, refl, sym, ◌∙◌, ap, subst}
use Rattle.std.specs.Prelude.{Contains}
use Rattle.std.proofs.lemmas.Bool.{and_parts}
use Rattle.std.proofs.lemmas.Option.{none-some}
use Rattle.adya_values.specs.Computing.Shapes.{is_shape}
use Rattle.adya_values.specs.Meaning.Events.{shown}
use Rattle.adya_values.specs.Meaning.Histories.{FinalPair}
use Rattle.adya_values.specs.Meaning.Orders.{value_at, writers}
use Rattle.adya_values.specs.Meaning.Serial.{Contents, pair}
use Rattle.adya_values.specs.Clauses.Acceptance.{IsChecked}
use Rattle.adya_values.specs.Clauses.Rules.{final_value}
use Rattle.adya_values.specs.declared.edition.Edition.TheVariants.{Two}
use Rattle.adya_laws.proofs.ListedPairs.{finals_are}
use Rattle.ssi_recorder.specs.Laws.{CommitsAreListed}
use Rattle.ssi_conflict.specs.Computing.Steps.{smallest_ordered_pivot}
use Rattle.ssi_store.specs.Laws.{OrderedDumpedAreCovered, FinalsAreContents}
use Rattle.ssi_store.specs.Meaning.Acts.{acts, open_txns}
use Rattle.ssi_store.specs.Meaning.Contents.{contents_after}
use Rattle.ssi_store.specs.Meaning.Courses.{Course}
use Rattle.ssi_store.specs.Meaning.Recording.{dumped}
use Rattle.ssi_store.specs.Meaning.Seeing.{commit_count, committed}
use Rattle.ssi_store.proofs.CheckedHistories.{last_value}
use Rattle.ssi_store.proofs.Installed.{writers_are}
use Rattle.ssi_store.proofs.LoggedHistories.{history_of_log}
use Rattle.ssi_store.proofs.MadeHistories.{recorder_makes}
use Rattle.ssi_store.proofs.SoundCourses.{course_stands}
use Rattle.ssi_store.proofs.Stamps.{contents_newest}
use Rattle.ssi_segments.proofs.Fronts.{AreSame}
use Rattle.ssi_segments.proofs.Courses.{Follow}
use Rattle.ssi_segments.specs.Meaning.Segments.{Holds}

module _ (listed : CommitsAreListed) (covered : OrderedDumpedAreCovered) (finals : FinalsAreContents) where
  pub contents_show : (c : Course) → Follow c → Holds (λ k. shown (committed k (commit_count (acts c)) (acts c))) (contents_after c)
  contents_show c f k v =
      let log = acts c in
      let open_ones = open_txns log in
      let sound = (course_stands smallest_ordered_pivot c f).sound in
      let h = history_of_log Two open_ones log in
      let made : dumped c ≡ h = recorder_makes listed Two open_ones log sound in
      let cover = covered c f in
      let checked = subst IsChecked made cover.safe.checked in
      let shaped = subst (λ g. is_shape g.orders g.finals ≡ true) made cover.shaped in
      let last : value_at h k (length (writers h k)) ≡ shown (committed k (commit_count log) log) =
      last_value Two open_ones k log sound (committed k (commit_count log) log) refl
      (contents_newest k (commit_count log) log sound) (length (writers h k)) (ap length (writers_are Two open_ones k log)) in
      let here : h.finals ≡ contents_after c = ap (λ g. g.finals) (sym made) ∙ (finals smallest_ordered_pivot c f).1 in
      subst (λ o. (o ≡ Some v) ↔ Contains (contents_after c) (pair k v)) (checked.well_formed.finals k ∙ last)
      (subst (λ l. (final_value h.finals k ≡ Some v) ↔ Contains l (pair k v)) here
      (finals_are h.finals (and_parts _ _ shaped).1 k v))

-- maps with the same rows hold the same
pub same_maps : (m n : Contents) (rows : List FinalPair) → Holds m rows → Holds n rows → AreSame m n
same_maps m n rows of_m of_n k = by_value (m k) refl (n k) refl
  where
    by_value : (x : Option (List ℕ)) → m k ≡ x → (y : Option (List ℕ)) → n k ≡ y → m k ≡ n k
    by_value (Some v) e y f = e ∙ sym ((of_n k v).1 ((of_m k v).0 e))
    by_value None e None f = e ∙ sym f
    by_value None e (Some v) f = absurd (none-some v (sym e ∙ (of_m k v).1 ((of_n k v).0 f)))
