-- Each test of a rule passes exactly if the rule holds.
use Rattle.std.proofs.Common.{◌≡◌, ℕ, suc, ◌↔◌, Bool, true, not, ◌||◌, List, length, Option, Some, None, IfSome, refl, sym, ap, subst, inl, inr}
use Rattle.std.specs.List.{filter_map, list_any, Contains}
use Rattle.std.proofs.lemmas.Bool.{eqb-true, eq-eqb, and_parts, and_from, or_cases, both_ways, not-true, not_from_false}
use Rattle.std.proofs.lemmas.Option.{same_Some, none-some}
use Rattle.lemmas.proofs.Booleans.{or_unless}
use Rattle.lemmas.proofs.Tests.{all_pass, list_all_when, list_any-source, list_any_when, All-from_test, test-from_All}
use Rattle.lemmas.proofs.Orderings.{bytes_eq-same, bytes_eq-from}
use Rattle.adya_keys.specs.Meaning.Keys.{key_eq, lies_in}
use Rattle.adya_values.specs.Meaning.Histories.{Live, Entry, Event, Write, Delete, Read, Scan, Commit, Abort, Order, History}
use Rattle.adya_values.specs.Meaning.Events.{entry, written, observed, writes_of, last_write}
use Rattle.adya_values.specs.Clauses.Rules.{IsOpen, IsNumbered, WasWritten, ListsOnly, SeesOwnWrites, IsRising, installs}
use Rattle.adya_values.specs.Computing.Faults.{entry_eq, is_none_or, lists_only, none_or_lists_only, is_open, is_next, was_written, sees_own, is_rising, is_value, lists_exactly}
use Rattle.adya_values.proofs.Entries.{entry_eq-same, entry_eq-itself, entry_eq-from}
use Rattle.adya_values.proofs.Writes.{last_write_from, installs_source}
use Rattle.adya_values.proofs.ListsExactly.{counts_from_test, test_from_counts}
use Rattle.adya_rules.specs.Clauses.FirstFaults.{ListsWriters}

pub open_test : (before : List Event) (e : Event) → (is_open before e ≡ true) ↔ IsOpen before e
open_test before e = (not-true _, not_from_false _)

next_test : (before : List Event) (o : Option Entry)
    → (is_next before o ≡ true) ↔ IfSome o (λ w. w.version.m ≡ suc (length (writes_of w.version.txn w.version.key before)))
next_test before None = (λ e. tt, λ e. refl)
next_test before (Some w) = (eqb-true _ _, eq-eqb _ _)

pub numbered_test : (before : List Event) (e : Event) → (is_next before (written e) ≡ true) ↔ IsNumbered before e
numbered_test before e = next_test before (written e)

-- an entry is in a list exactly if it is equal to one of them
contained_test : (es : List Entry) (w : Entry) → (list_any (entry_eq w) es ≡ true) ↔ Contains es w
contained_test es w = (there, λ c. list_any_when (entry_eq w) es w c (entry_eq-itself w))
  where
    there : list_any (entry_eq w) es ≡ true → Contains es w
    there t = let r = list_any-source (entry_eq w) es t in subst (Contains es) (sym (entry_eq-same w r.0 r.2)) r.1

pub written_test : (before : List Event) (e : Event) → (was_written before e ≡ true) ↔ WasWritten before e
written_test before e =
    let ws = filter_map written before in
    let test : Entry → Bool = λ o. list_any (entry_eq o) ws in (
      All-from_test (Contains ws) test (observed e) (λ o. (contained_test ws o).0),
      test-from_All (Contains ws) test (observed e) (λ o. (contained_test ws o).1),
    )

none_or_test : (o : Option Entry) (x : Entry) → (is_none_or o x ≡ true) ↔ IfSome o (λ w. x ≡ w)
none_or_test None x = (λ e. tt, λ e. refl)
none_or_test (Some w) x = (λ e. sym (entry_eq-same w x e), λ e. entry_eq-from w x (sym e))

-- an entry of the same key is this one
abbrev IsOnlyOfKey : Entry → Entry → Type 0
IsOnlyOfKey w x = key_eq x.version.key w.version.key ≡ true → x ≡ w

abbrev is_only_of_key : Entry → Entry → Bool
is_only_of_key w x = not (key_eq x.version.key w.version.key) || entry_eq x w

only_of_key_test : (w x : Entry) → (is_only_of_key w x ≡ true) ↔ IsOnlyOfKey w x
only_of_key_test w x = (there, λ same. or_unless _ _ (λ t. entry_eq-from x w (same t)))
  where
    there : is_only_of_key w x ≡ true → IsOnlyOfKey w x
    there s same =
        elim (or_cases _ _ s) [
          | inl other ↦ absurd (both_ways _ (not-true _ other) same)
          | inr y ↦ entry_eq-same x w y
        ]

lists_only_test : (es : List Entry) (w : Entry) → (lists_only es w ≡ true) ↔ ListsOnly es w
lists_only_test es w = (
  λ t. let both = and_parts _ _ t in (
    (contained_test es w).0 both.0,
    All-from_test (IsOnlyOfKey w) (is_only_of_key w) es (λ x. (only_of_key_test w x).0) both.1,
  ),
  λ only. and_from _ _ ((contained_test es w).1 only.0)
      (test-from_All (IsOnlyOfKey w) (is_only_of_key w) es (λ x. (only_of_key_test w x).1) only.1),
)

none_or_lists_only_test : (es : List Entry) (o : Option Entry)
    → (none_or_lists_only es o ≡ true) ↔ IfSome o (ListsOnly es)
none_or_lists_only_test es None = (λ e. tt, λ e. refl)
none_or_lists_only_test es (Some w) = lists_only_test es w

-- a scan lists of a key of its range only its transaction's last write
module _ (t : ℕ) (low high : List ℕ) (es : List Entry) (before : List Event) where
  abbrev lists_own : List ℕ → Bool
  lists_own k = not (lies_in low high k) || none_or_lists_only es (last_write t k before)

  scan_own : sees_own before (Scan t low high es) ≡ true → (k : List ℕ) → lies_in low high k ≡ true → (o : Option Entry)
      → last_write t k before ≡ o → IfSome o (ListsOnly es)
  scan_own e k inside None f = tt
  scan_own e k inside (Some w) f =
      let at = last_write_from t k before w f in
      let here = all_pass (λ x. lists_own x.version.key) (filter_map written before) w e at.there in
      let now = subst (λ j. lists_own j ≡ true) at.key_is here in
      elim (or_cases _ _ now) [
        | inl out ↦ absurd (both_ways _ (not-true _ out) inside)
        | inr own ↦ (lists_only_test es w).0 (subst (λ x. none_or_lists_only es x ≡ true) f own)
      ]

  scan_test : (sees_own before (Scan t low high es) ≡ true) ↔ SeesOwnWrites before (Scan t low high es)
  scan_test = (
    λ s k inside. scan_own s k inside (last_write t k before) refl,
    λ own. list_all_when (λ w. lists_own w.version.key) (filter_map written before)
        (λ w c. or_unless _ _ (λ inside.
        (none_or_lists_only_test es (last_write t w.version.key before)).1 (own w.version.key inside))),
  )

pub own_test : (before : List Event) (e : Event) → (sees_own before e ≡ true) ↔ SeesOwnWrites before e
own_test before (Read t r v) = none_or_test (last_write t r.key before) (entry r (Live v))
own_test before (Scan t low high es) = scan_test t low high es before
own_test before (Write t k m v) = (λ s. tt, λ s. refl)
own_test before (Delete t k m) = (λ s. tt, λ s. refl)
own_test before (Commit t) = (λ s. tt, λ s. refl)
own_test before (Abort t) = (λ s. tt, λ s. refl)

pub rising_test : (e : Event) → (is_rising e ≡ true) ↔ IsRising e
rising_test (Scan t low high es) =
    let inside : Entry → Bool = λ w. lies_in low high w.version.key in (
      λ e.
          let one = and_parts _ _ e in
          let two = and_parts _ _ one.0 in
          (two.0, two.1, All-from_test (λ w. inside w ≡ true) inside es (λ w s. s) one.1),
      λ r. and_from _ _ (and_from _ _ r.0 r.1) (test-from_All (λ w. inside w ≡ true) inside es (λ w s. s) r.2),
    )
rising_test (Read t r v) = (λ s. tt, λ s. refl)
rising_test (Write t k m v) = (λ s. tt, λ s. refl)
rising_test (Delete t k m) = (λ s. tt, λ s. refl)
rising_test (Commit t) = (λ s. tt, λ s. refl)
rising_test (Abort t) = (λ s. tt, λ s. refl)

pub writers_test : (h : History) (o : Order)
    → (lists_exactly (installs h.events o.key) o.writers h.events ≡ true) ↔ ListsWriters h o
writers_test h o = (
  counts_from_test (installs h.events o.key) o.writers h.events (installs_source h.events o.key),
  test_from_counts (installs h.events o.key) o.writers h.events,
)

pub value_test : (o : Option (List ℕ)) (v : List ℕ) → (is_value o v ≡ true) ↔ (o ≡ Some v)
value_test None v = (λ e. absurd (cc (e)), λ e. absurd (none-some v e))
value_test (Some w) v = (λ e. ap Some (bytes_eq-same w v e), λ e. bytes_eq-from w v (same_Some w v e))
