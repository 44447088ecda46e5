-- The value of the last version of an order line, by the write that the line holds for its last writer.
use Rattle.std.proofs.Common.{◌≡◌, ◌∙◌, ℕ, suc, Bool, List, [], Option, Some, None, ap, length, map, refl, slice_get, sym, true}
use Rattle.std.specs.Prelude.{option_and_then}
use Rattle.adya_values.specs.declared.event.Version.{Version}
use Rattle.adya_keys.specs.Meaning.Keys.{keys_rise}
use Rattle.adya_values.specs.Meaning.Histories.{Event, Order}
use Rattle.adya_values.specs.Meaning.Events.{last_write, shown}
use Rattle.adya_values.specs.Meaning.Orders.{installer, line_of, shown_by}
use Rattle.adya_values.specs.Computing.Faults.{last_value}
use Rattle.adya_values.proofs.KeyLookups.{line_found}
use Rattle.adya_terms.specs.declared.line_places.LinePlaces.{LinePlaces}
use Rattle.adya_terms.specs.Machinery.Checks.{parts}
use Rattle.adya_terms.specs.Machinery.Places.{held, places_in, AreWrites}
use Rattle.adya_terms.specs.Machinery.Tables.{written_at, Own, Tell}
use Rattle.adya_terms.proofs.InstalledWrites.{installed_if_last, installs}
use Rattle.lemmas.proofs.Members.{Contains-slice_get}

shown_last : (k : List ℕ) (all : List Event) (t : Option ℕ) → shown (option_and_then (λ u. last_write u k all) t) ≡ shown_by k all t
shown_last k all None = refl
shown_last k all (Some t) = refl

module _ (c a : ℕ → Bool) (l : Own → Option ℕ) (v : Version → Option ℕ) (all : List Event) (m : Tell c a l v all all)
    (rows : List Order) (rise : keys_rise (map (λ o. o.key) rows) ≡ true)
    (x : LinePlaces) (ws : AreWrites l x rows) (line : ℕ) (o : Order) (at_line : slice_get rows line ≡ Some o) where
  writers_are : line_of rows o.key ≡ o.writers
  writers_are = line_found rows o rise (Contains-slice_get rows line o at_line)

  last_of : (n : ℕ) → length o.writers ≡ n → last_value (parts all rows []) o.key ≡ shown_by o.key all (installer (parts all rows []) o.key n)
  last_of n long = ap (λ i. shown_by o.key all (installer (parts all rows []) o.key i)) (ap length writers_are ∙ long)

  -- nobody installs a version
  pub no_writer : length o.writers ≡ 0 → None ≡ last_value (parts all rows []) o.key
  no_writer none = sym (last_of 0 none)

  -- the index of the last one's write is what the line holds for the last writer
  pub last_held : (p : ℕ) → length o.writers ≡ suc p → (at : Option ℕ) → at ≡ option_and_then held (slice_get (places_in x line) p)
      → shown (written_at all at) ≡ last_value (parts all rows []) o.key
  last_held p long at e =
      ap shown (installs all x rows line p o (installed_if_last l all m.last_is x rows ws) at_line at e) ∙
      (shown_last o.key all (slice_get o.writers p) ∙
      (ap (λ us. shown_by o.key all (slice_get us p)) (sym writers_are) ∙ sym (last_of (suc p) long)))
