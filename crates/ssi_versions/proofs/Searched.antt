-- Where snapshots rise, the first one that isn't below a stamp tells whether some lies between two.
use Rattle.std.proofs.Common.{◌≡◌, ℕ, ◌≤◌, ◌<◌, Bool, true, false, ◌&&◌, List, length, slice_get, slice_index_or, Some, None, refl, ◌∙◌, ap, sym, arith, nat_le, nat_lt, inl, inr}
use Rattle.std.specs.List.{list_any, AllWithin}
use Rattle.std.proofs.lemmas.Bool.{cases_Bool, cases_lt, and_from, and_left, and_right, ltb-true, ltb-false, lt-ltb, le-ltb, le-leb, lt-leb}
use Rattle.std.proofs.lemmas.Option.{slice_get_within, get_or_from_slice_get, slice_get-get_or, none-some}
use Rattle.std.proofs.lemmas.List.Recursion.{or_at, or_from_places}
use Rattle.ssi_versions.specs.Machinery.Snapshots.{Rises, is_between}

pub partitioned : (ss : List ℕ) (low : ℕ) → Rises ss → (i j d : ℕ) → i ≤ j → j < length ss → nat_lt (slice_index_or ss j d) low ≡ true → nat_lt (slice_index_or ss i d) low ≡ true
partitioned ss low rises i j d le within t = lt-ltb (slice_index_or ss i d) low (omega (arith, rises i j d le within, ltb-true (slice_index_or ss j d) low t))

low_out : (ss : List ℕ) (low high k : ℕ) → nat_lt (slice_index_or ss k 0) low ≡ true → (nat_le low (slice_index_or ss k 0) && nat_lt (slice_index_or ss k 0) high) ≡ false
low_out ss low high k t = and_left (nat_le low (slice_index_or ss k 0)) (nat_lt (slice_index_or ss k 0) high) (lt-leb low (slice_index_or ss k 0) (ltb-true (slice_index_or ss k 0) low t))

pub searched_some : (ss : List ℕ) (low high i s : ℕ) → Rises ss → slice_get ss i ≡ Some s
    → AllWithin (λ y. nat_lt y low ≡ true) ss 0 i → AllWithin (λ y. nat_lt y low ≡ false) ss i (length ss) → nat_lt s high ≡ is_between ss low high
searched_some ss low high i s rises is below above =
    let within : i < length ss = slice_get_within ss i s is in
    let here : slice_index_or ss i 0 ≡ s = get_or_from_slice_get ss i s 0 is in
    let from : low ≤ slice_index_or ss i 0 = ltb-false (slice_index_or ss i 0) low (above i 0 (omega arith) within) in
    let test : ℕ → Bool = λ y. nat_le low y && nat_lt y high in
    elim (cases_Bool (nat_lt s high)) [
      | inl t ↦
          t ∙ sym (or_at (list_any test) test refl (λ x xs. refl) ss i 0 within
          (and_from (nat_le low (slice_index_or ss i 0)) (nat_lt (slice_index_or ss i 0) high) (le-leb low (slice_index_or ss i 0) from) (ap (λ y. nat_lt y high) here ∙ t)))
      | inr f ↦
          f ∙ sym (or_from_places (list_any test) test refl (λ x xs. refl) ss 0 (λ k h.
          elim (cases_lt k i) [
            | inl lt ↦ low_out ss low high k (below k 0 (omega arith) lt)
            | inr le ↦ and_right (nat_le low (slice_index_or ss k 0)) (nat_lt (slice_index_or ss k 0) high)
                (le-ltb (slice_index_or ss k 0) high (omega (arith, rises i k 0 le h, here, ltb-false s high f)))
          ]))
    ]

pub searched_none : (ss : List ℕ) (low high i : ℕ) → slice_get ss i ≡ None → AllWithin (λ y. nat_lt y low ≡ true) ss 0 i → false ≡ is_between ss low high
searched_none ss low high i is below =
    let test : ℕ → Bool = λ y. nat_le low y && nat_lt y high in
    sym (or_from_places (list_any test) test refl (λ x xs. refl) ss 0 (λ k h.
    elim (cases_lt k i) [
      | inl lt ↦ low_out ss low high k (below k 0 (omega arith) lt)
      | inr le ↦ absurd (none-some (slice_index_or ss i 0) (sym is ∙ slice_get-get_or ss i 0 (omega (arith, le, h))))
    ]))
