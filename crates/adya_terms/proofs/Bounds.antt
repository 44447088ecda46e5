-- The keys that a scan lists. Rising keys lie between two bounds if the first and the last of them do.
use Rattle.std.proofs.Common.{◌≡◌, ◌∙◌, suc, ◌-◌, Bool, true, false, ◌&&◌, List, [], ◌∷◌, length, map, option_map, Some, slice_get, ap, arith, inl, inr, refl, sym}
use Rattle.std.specs.List.{list_all}
use Rattle.std.proofs.lemmas.Bool.{cases_Bool}
use Rattle.std.proofs.lemmas.Option.{none-some, same_Some, slice_get-map}
use Rattle.std.proofs.Math.Bool.{and-true}
use Rattle.std.proofs.lemmas.List.{length-map}
use Rattle.std.proofs.lemmas.List.Folds.{list_all-map}
use Rattle.std.proofs.lemmas.Simd.{map-map}
use Rattle.adya_values.specs.declared.seen.Seen.{Seen}
use Rattle.adya_values.specs.Meaning.Histories.{Entry}
use Rattle.adya_values.specs.Mirror.Numbers.{seen_entry}
use Rattle.adya_terms.specs.declared.scans.Scan.{Scan}
use Rattle.adya_terms.specs.Machinery.Scans.{key_seen, listed}
use Rattle.adya_terms.proofs.Numbers.{seen_keys}
use Rattle.adya_keys.specs.Meaning.Keys.{Key, key_le, key_lt, keys_rise, lies_in}
use Rattle.adya_keys.proofs.KeyOrder.{key_le-from_lt, key_le-trans}
use Rattle.adya_keys.proofs.Keys.{keys_rise-tail}
use Rattle.adya_keys.proofs.RisingKeys.{earlier_below}

module _ (low high : Key) where
  -- of two keys, the lesser within the lower bound and the greater within the upper one
  two_lie : (k j l : Key) → key_le k j ≡ true → key_le k l ≡ true
      → ((key_le low k && key_le k high) && (key_le low j && key_le l high)) ≡ (key_le low k && key_le l high)
  two_lie k j l first last =
      elim (cases_Bool (key_le low k)) [
        | inr out ↦ rw out refl
        | inl above ↦
            let also : key_le low j ≡ true = key_le-trans low k j above first in
            elim (cases_Bool (key_le l high)) [
              | inl below ↦ rw (above, also, below, key_le-trans k l high last below) refl
              | inr past ↦ rw (above, also, past) (and-false (key_le k high))
            ]
      ]
    where
      and-false : (b : Bool) → (b && false) ≡ false
      and-false true = refl
      and-false false = refl

  pub ends_tell : (ks : List Key) (f l : Key) → keys_rise ks ≡ true → slice_get ks 0 ≡ Some f → slice_get ks (length ks - 1) ≡ Some l
      → list_all (lies_in low high) ks ≡ (key_le low f && key_le l high)
  ends_tell [] f l r first last = absurd (none-some f first)
  ends_tell (k ∷ []) f l r first last =
      and-true (lies_in low high k) ∙ (ap (λ x. key_le low x && key_le k high) (same_Some k f first) ∙ ap (λ x. key_le low f && key_le x high) (same_Some k l last))
  ends_tell (k ∷ j ∷ ks) f l r first last =
      let end : length (k ∷ j ∷ ks) - 1 ≡ suc (length ks) = omega arith in
      let end_after : length ks ≡ length (j ∷ ks) - 1 = omega arith in
      let there : slice_get (k ∷ j ∷ ks) (suc (length ks)) ≡ Some l = ap (slice_get (k ∷ j ∷ ks)) (sym end) ∙ last in
      let less : key_lt k l ≡ true = earlier_below (k ∷ j ∷ ks) 0 (suc (length ks)) k l r (omega arith) refl there in
      let next : key_lt k j ≡ true = earlier_below (k ∷ j ∷ ks) 0 1 k j r (omega arith) refl refl in
      ap (λ b. lies_in low high k && b) (ends_tell (j ∷ ks) j l (keys_rise-tail k (j ∷ ks) r) refl (ap (slice_get (j ∷ ks)) (sym end_after) ∙ there)) ∙
      (two_lie k j l (key_le-from_lt k j next) (key_le-from_lt k l less) ∙ ap (λ x. key_le low x && key_le l high) (same_Some k f first))

-- ---- the keys of a scan's entries

abbrev pub entry_key : Scan → Seen → Key
entry_key s x = (seen_entry s.events.now x).version.key

pub entry_keys : (s : Scan) → keys_rise (map (λ w. w.version.key) (listed s)) ≡ keys_rise (map (entry_key s) s.seen.now)
entry_keys s = ap keys_rise (map-map (λ (w : Entry). w.version.key) (seen_entry s.events.now) s.seen.now)

pub all_lie : (s : Scan) (f l : Seen) → keys_rise (map (λ w. w.version.key) (listed s)) ≡ true
    → slice_get s.seen.now 0 ≡ Some f → slice_get s.seen.now (length s.seen.now - 1) ≡ Some l
    → list_all (λ x. lies_in s.low s.high (key_seen s x)) s.seen.now ≡ (key_le s.low (key_seen s f) && key_le (key_seen s l) s.high)
all_lie s f l r first last =
    let ks = map (key_seen s) s.seen.now in
    let rise : keys_rise ks ≡ true = ap keys_rise (seen_keys s.events.now s.low s.seen.now s.there) ∙ r in
    let count : length ks ≡ length s.seen.now = length-map s.seen.now (key_seen s) in
    sym (list_all-map (lies_in s.low s.high) (key_seen s) s.seen.now) ∙
    ends_tell s.low s.high ks (key_seen s f) (key_seen s l) rise
    (slice_get-map (key_seen s) s.seen.now 0 ∙ ap (option_map (key_seen s)) first)
    (ap (λ n. slice_get ks (n - 1)) count ∙ (slice_get-map (key_seen s) s.seen.now (length s.seen.now - 1) ∙ ap (option_map (key_seen s)) last))
