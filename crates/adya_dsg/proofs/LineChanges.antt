-- The places of order lines where a scan's match changes.
use Rattle.std.proofs.Common.{◌≡◌, ℕ, suc, ◌+◌, ◌-◌, ◌<◌, ◌≤◌, List, length, take, drop, get_or, refl, sym, ◌∙◌, ap, subst, arith}
use Rattle.std.specs.List.Sorted.{IsNonDecreasingBy}
use Rattle.std.proofs.lemmas.Option.{get_or_from_slice_get, slice_get_read}
use Rattle.adya_values.specs.Meaning.Histories.{History}
use Rattle.adya_values.specs.Meaning.Orders.{writers}
use Rattle.adya_values.specs.Meaning.Selections.{changes_matches}
use Rattle.adya_terms.specs.Machinery.LinePlaces.{AreStarts, line_places}
use Rattle.adya_dsg.specs.Machinery.Links.{changed_places}
use Rattle.adya_dsg.proofs.Numbers.{passing_rise}

-- the places of a line rise
pub places_rise : (h : History) (k qs : List ℕ) → qs ≡ changed_places h k → IsNonDecreasingBy (λ q. q) qs
places_rise h k qs are =
    subst (IsNonDecreasingBy (λ q. q)) (sym are) (passing_rise (changes_matches h k) 1 (length (writers h k)))

-- where the places of a line start and end
module _ (places starts : List ℕ) (ordered : AreStarts starts (length places)) (line a b : ℕ)
    (within : suc line < length starts) (from : a ≡ get_or starts line a) (to : b ≡ get_or starts (line + 1) b) where
  start : get_or starts line 0 ≡ a
  start = get_or_from_slice_get starts line a 0 (slice_get_read starts (length starts) line a refl (omega (arith, within)) from)

  next : suc line ≡ line + 1
  next = omega arith

  end : get_or starts (suc line) 0 ≡ b
  end =
      ap (λ n. get_or starts n 0) next ∙
      get_or_from_slice_get starts (line + 1) b 0 (slice_get_read starts (length starts) (line + 1) b refl (omega (arith, within)) to)

  pub start_first : a ≤ b
  start_first = subst (λ n. n ≤ b) start (subst (λ n. get_or starts line 0 ≤ n) end (ordered.rise line within))

  pub end_within : b ≤ length places
  end_within = subst (λ n. n ≤ length places) end (ordered.within line within)

  pub are_places : take (b - a) (drop a places) ≡ line_places places starts line
  are_places = ap (λ n. take (n - a) (drop a places)) (sym end) ∙
      ap (λ n. take (get_or starts (suc line) 0 - n) (drop n places)) (sym start)
