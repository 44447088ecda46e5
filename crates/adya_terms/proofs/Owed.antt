-- What a scan has to list of its own transaction's writes is what the rule asks.
use Rattle.std.proofs.Common.{◌≡◌, ℕ, Bool, true, false, not, ◌||◌, List, Option, Some, None, is_some, option_and_then, refl, sym, ap, ◌∙◌, subst, inl, inr}
use Rattle.std.specs.Bool.{OnTrue, OnFalse}
use Rattle.std.specs.List.{filter_map}
use Rattle.std.specs.Option.{option_or}
use Rattle.std.specs.BTreeMap.{get}
use Rattle.std.specs.Ordering.{nat_cmp}
use Rattle.std.proofs.lemmas.Bool.{cases_Bool, both_ways, not-true, or_cases, or_left, or_right}
use Rattle.txn_table.specs.Mirror.{value_for}
use Rattle.adya_keys.specs.Meaning.Keys.{lies_in}
use Rattle.adya_values.specs.Meaning.Histories.{Entry, Event, Scan}
use Rattle.adya_values.specs.Meaning.Events.{written, last_write}
use Rattle.adya_values.specs.Mirror.Events.{events_of}
use Rattle.adya_values.specs.Computing.Faults.{none_or_lists_only, sees_own}
use Rattle.adya_values.proofs.Writes.{last_write_from}
use Rattle.lemmas.proofs.Tests.{list_all_when, all_pass}
use Rattle.adya_terms.specs.declared.scans.Owed.{Owed}
use Rattle.adya_terms.specs.Machinery.Tables.{own, written_at}
use Rattle.adya_terms.specs.Machinery.Chains.{chain_passes, own_place, walk}
use Rattle.adya_terms.specs.Machinery.OwnWrites.{place_numbered, place_of}
use Rattle.adya_terms.specs.Machinery.Scans.{listed}
use Rattle.adya_terms.proofs.Numbers.{key_is}
use Rattle.adya_keys.specs.Machinery.Within.{key_at}
use Rattle.adya_values.specs.Mirror.Numbers.{keys_of}
use Rattle.adya_keys.specs.Mirror.{number_in}
use Rattle.lemmas.proofs.Options.{some_value}
use Rattle.adya_terms.specs.Machinery.Owed.{passes, AreShown}
use Rattle.adya_terms.proofs.Chains.{fails_somewhere, passes_found}

module _ (o : Owed) (before : List Event)
    (places : (k : List ℕ) → written_at (events_of o.scan.now.events.now) (place_of o.writes.now (own o.txn k)) ≡ last_write o.txn k before) where
  abbrev all : List Event
  all = events_of o.scan.now.events.now

  abbrev es : List Entry
  es = listed o.scan.now

  abbrev low : List ℕ
  low = o.scan.now.low

  abbrev high : List ℕ
  high = o.scan.now.high

  abbrev asked : List ℕ → Bool
  asked k = not (lies_in low high k) || none_or_lists_only es (last_write o.txn k before)

  abbrev is_seen : Bool
  is_seen = sees_own before (Scan o.txn low high es)

  same : (k : List ℕ) → passes o k ≡ asked k
  same k = ap (λ w. not (lies_in low high k) || none_or_lists_only es w) (places k)

  -- the rule asks it of each key, written or not
  seen_asked : is_seen ≡ true → (k : List ℕ) → lies_in low high k ≡ true → (w : Option Entry) → last_write o.txn k before ≡ w
      → none_or_lists_only es w ≡ true
  seen_asked seen k inside None is = refl
  seen_asked seen k inside (Some w) is =
      let at = last_write_from o.txn k before w is in
      let now = subst (λ j. asked j ≡ true) at.key_is (all_pass (λ x. asked x.version.key) (filter_map written before) w seen at.there) in
      elim (or_cases _ _ now) [
        | inl out ↦ absurd (both_ways _ (not-true _ out) inside)
        | inr own ↦ subst (λ x. none_or_lists_only es x ≡ true) is own
      ]

  seen_passes : is_seen ≡ true → (k : List ℕ) → passes o k ≡ true
  seen_passes seen k =
      elim (cases_Bool (lies_in low high k)) [
        | inl inside ↦ same k ∙ or_right _ _ (seen_asked seen k inside (last_write o.txn k before) refl)
        | inr out ↦ or_left _ _ (ap not out)
      ]

  abbrev later : List ℕ → Option ℕ
  later k = own_place o.writes.now.later o.txn k

  abbrev keys : List (List ℕ)
  keys = keys_of o.writes.now.events.now

  abbrev found_in_chain : ℕ → Option ℕ
  found_in_chain n = walk o.writes.now.rows.items n (value_for o.writes.now.chains o.txn).len (value_for o.writes.now.chains o.txn).last

  -- the place of a key with a number
  found_at : (k : List ℕ) (n : ℕ) → number_in keys k ≡ Some n → place_of o.writes.now (own o.txn k) ≡ option_or (later k) (found_in_chain n)
  found_at k n is = ap (option_and_then (place_numbered o.writes.now (own o.txn k))) is

  seen_shown : is_seen ≡ true → AreShown (get nat_cmp o.writes.now.later o.txn) low high es all
  seen_shown seen k p inside at =
      let n = some_value (number_in keys k) (o.writes.now.known (own o.txn k) (ap is_some at)) in
      let found : place_of o.writes.now (own o.txn k) ≡ Some p = found_at k n.0 n.1 ∙ ap (λ q. option_or q (found_in_chain n.0)) at in
      ap (λ q. none_or_lists_only es (written_at all q)) (sym found)
      ∙ ap (none_or_lists_only es) (places k) ∙ seen_asked seen k inside (last_write o.txn k before) refl

  abbrev numbered : ℕ → Bool
  numbered n = passes o (key_at keys n)

  abbrev chained : Bool
  chained = chain_passes o.writes.now.rows.items numbered (value_for o.writes.now.chains o.txn).len (value_for o.writes.now.chains o.txn).last

  -- what is in the chain and what isn't
  all_passes : chained ≡ true → AreShown (get nat_cmp o.writes.now.later o.txn) low high es all → (k : List ℕ) → passes o k ≡ true
  all_passes chain shown k =
      elim (cases_Bool (lies_in low high k)) [
        | inl inside ↦ by_number inside (number_in keys k) refl
        | inr out ↦ or_left _ _ (ap not out)
      ]
    where
      nowhere : place_of o.writes.now (own o.txn k) ≡ None → passes o k ≡ true
      nowhere none = or_right _ _ (ap (λ r. none_or_lists_only es (written_at all r)) none)

      by_chain : (n : ℕ) → number_in keys k ≡ Some n → later k ≡ None → (q : Option ℕ) → found_in_chain n ≡ q → passes o k ≡ true
      by_chain n has none None is = nowhere (found_at k n has ∙ (ap (λ r. option_or r (found_in_chain n)) none ∙ is))
      by_chain n has none (Some p) is =
          subst (λ j. passes o j ≡ true) (key_is keys k n has)
          (passes_found o.writes.now.rows.items numbered (value_for o.writes.now.chains o.txn).len (value_for o.writes.now.chains o.txn).last chain n p is)

      by_later : lies_in low high k ≡ true → (n : ℕ) → number_in keys k ≡ Some n → (q : Option ℕ) → later k ≡ q → passes o k ≡ true
      by_later inside n has None none = by_chain n has none (found_in_chain n) refl
      by_later inside n has (Some p) at =
          let found : place_of o.writes.now (own o.txn k) ≡ Some p = found_at k n has ∙ ap (λ r. option_or r (found_in_chain n)) at in
          or_right _ _ (ap (λ r. none_or_lists_only es (written_at all r)) found ∙ shown k p inside at)

      by_number : lies_in low high k ≡ true → (n : Option ℕ) → number_in keys k ≡ n → passes o k ≡ true
      by_number inside None has = nowhere (ap (option_and_then (place_numbered o.writes.now (own o.txn k))) has)
      by_number inside (Some n) has = by_later inside n has (later k) refl

  seen_all : ((k : List ℕ) → passes o k ≡ true) → is_seen ≡ true
  seen_all pass = list_all_when (λ x. asked x.version.key) (filter_map written before) (λ w c. sym (same w.version.key) ∙ pass w.version.key)

  pub chain_fails : chained ≡ false → false ≡ is_seen
  chain_fails fails =
      let at = fails_somewhere o.writes.now.rows.items numbered (value_for o.writes.now.chains o.txn).len (value_for o.writes.now.chains o.txn).last fails in
      elim (cases_Bool is_seen) [
        | inl seen ↦ absurd (both_ways _ at.1 (seen_passes seen (key_at keys at.0)))
        | inr is ↦ sym is
      ]

  pub owed_is : chained ≡ true → (b : Bool) → OnTrue b (AreShown (get nat_cmp o.writes.now.later o.txn) low high es all)
      → OnFalse b (AreShown (get nat_cmp o.writes.now.later o.txn) low high es all → ⊥) → b ≡ is_seen
  owed_is chain true shown missed = sym (seen_all (all_passes chain shown))
  owed_is chain false shown missed =
      elim (cases_Bool is_seen) [
        | inl seen ↦ absurd (missed (seen_shown seen))
        | inr is ↦ sym is
      ]
