-- In a checked history, what a committed transaction reads or lists of another is this one's last write, and it is committed.
use Rattle.std.proofs.Common.{◌≡◌, ◌≢◌, true, false, ◌||◌, Some, subst, inl, inr}
use Rattle.std.specs.List.{Contains}
use Rattle.std.proofs.lemmas.Bool.{cases_Bool, both_ways, false_from_ne_true}
use Rattle.std.proofs.lemmas.List.Elements.{All-contains}
use Rattle.adya_values.specs.Meaning.Histories.{Entry, Event, History}
use Rattle.adya_values.specs.Meaning.Events.{txn_of, last_write, is_committed, is_unfinished, is_aborted}
use Rattle.adya_values.specs.Clauses.Rules.{has_ended}
use Rattle.adya_values.specs.Meaning.Phenomena.{ReadsCommitted}
use Rattle.adya_values.specs.Computing.Faults.{is_entry}
use Rattle.adya_values.specs.Clauses.Acceptance.{IsChecked}
use Rattle.adya_values.proofs.Entries.{is_entry-same, is_entry-from}
use Rattle.lemmas.proofs.Booleans.{first_of_three}

module _ (h : History) (checked : IsChecked h) where
  pub read_not_aborted : (e : Event) (o : Entry) → ReadsCommitted h e o → is_aborted h o.version.txn ≡ false
  read_not_aborted e o r = false_from_ne_true _ (λ c. checked.no_aborted_read (e, o, r, c))

  pub read_last_write : (e : Event) (o : Entry) → ReadsCommitted h e o → o.version.txn ≢ txn_of e
      → last_write o.version.txn o.version.key h.events ≡ Some o
  read_last_write e o r ne =
      let found = last_write o.version.txn o.version.key h.events in
      elim (cases_Bool (is_entry found o)) [
        | inl t ↦ is_entry-same found o t
        | inr f ↦ absurd (checked.no_intermediate_read (e, o, r, ne, (λ s. both_ways _ f (is_entry-from found o s))))
      ]

  -- the writer of what is read is committed, if it has an event at all
  pub read_committed : (e : Event) (o : Entry) → ReadsCommitted h e o → (w : Event) → Contains h.events w
      → txn_of w ≡ o.version.txn → is_committed h.events o.version.txn ≡ true
  read_committed e o r w there same =
      let ended = subst (λ x. (has_ended h.events x || is_unfinished h x) ≡ true) same
      (All-contains (λ x. (has_ended h.events (txn_of x) || is_unfinished h (txn_of x)) ≡ true)
      h.events w checked.well_formed.ends.ended there) in
      first_of_three (is_committed h.events o.version.txn) _ (is_unfinished h o.version.txn) ended
      (read_not_aborted e o r)
