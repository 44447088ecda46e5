-- Packed lists: what is at an index, and what stays when a list is added.
use Rattle.std.proofs.Common.{◌≡◌, ◌∙◌, ℕ, zero, suc, ◌+◌, ◌-◌, ◌≤◌, true, List, [], ◌∷◌, ◌++◌, length, Some, slice_get, sym, ap, subst, refl, arith}
use Rattle.std.proofs.Math.Nat.{le_trans}
use Rattle.std.specs.Prelude.{nat_le}
use Rattle.std.proofs.lemmas.Bool.{and_from, and_parts, eq-eqb, eqb-true, le-leb, leb-true}
use Rattle.std.proofs.lemmas.List.{length-append}
use Rattle.std.proofs.lemmas.Option.{none-some, same_Some}
use Rattle.adya_keys.specs.Machinery.Within.{part}
use Rattle.adya_keys.specs.Machinery.Ends.{are_ends, end_before, parts_in}
use Rattle.adya_keys.proofs.Within.{last_part, part_stays}

-- what is known of the first end and of the others
record IsFirst (n e : ℕ) (es : List ℕ) (at : ℕ) : Type 0 where
  order : at ≤ e
  rest : are_ends n es e ≡ true

first_end : (n e : ℕ) (es : List ℕ) (at : ℕ) → are_ends n (e ∷ es) at ≡ true → IsFirst n e es at
first_end n e es at v =
    let both = and_parts (nat_le at e) (are_ends n es e) v in
    record { order = leb-true at e both.0; rest = both.1 }

within : (n : ℕ) (es : List ℕ) (at : ℕ) → are_ends n es at ≡ true → at ≤ n
within n [] at v = let same : at ≡ n = eqb-true at n v in omega (arith, same)
within n (e ∷ es) at v =
    let f : IsFirst n e es at = first_end n e es at v in
    le_trans f.order (within n es e f.rest)

-- a part begins where it should and ends within the list
pub record IsBetween (n begin end : ℕ) : Type 0 where
  pub order : begin ≤ end
  pub within : end ≤ n

pub end_at : (n : ℕ) (es : List ℕ) (at i e : ℕ) → are_ends n es at ≡ true → slice_get es i ≡ Some e → IsBetween n (end_before es at i) e
end_at n [] at i e v g = absurd (none-some e g)
end_at n (d ∷ es) at zero e v g =
    let f : IsFirst n d es at = first_end n d es at v in
    subst (IsBetween n at) (same_Some d e g) (record { order = f.order; within = within n es d f.rest })
end_at n (d ∷ es) at (suc i) e v g = end_at n es d i e (first_end n d es at v).rest g

-- a part begins where the one before it ends
pub begins_after : (es : List ℕ) (at i e : ℕ) → slice_get es i ≡ Some e → end_before es at (suc i) ≡ e
begins_after [] at i e g = absurd (none-some e g)
begins_after (d ∷ es) at zero e g = same_Some d e g
begins_after (d ∷ es) at (suc i) e g = begins_after es d i e g

module _ {A : Type 0} (xs : List A) where
  pub found_part : (es : List ℕ) (at i e : ℕ) → slice_get es i ≡ Some e
      → slice_get (parts_in xs es at) i ≡ Some (part (end_before es at i) (e - end_before es at i) xs)
  found_part [] at i e g = absurd (none-some e g)
  found_part (d ∷ es) at zero e g = ap (λ x. Some (part at (x - at) xs)) (same_Some d e g)
  found_part (d ∷ es) at (suc i) e g = found_part es d i e g

  pub length-parts_in : (es : List ℕ) (at : ℕ) → length (parts_in xs es at) ≡ length es
  length-parts_in [] at = refl
  length-parts_in (e ∷ es) at = ap suc (length-parts_in es e)

-- ---- one more part

module _ {A : Type 0} (xs ys : List A) (e : ℕ) (up : e ≡ length xs + length ys) where
  last_elements : part (length xs) (e - length xs) (xs ++ ys) ≡ ys
  last_elements =
      let count : e - length xs ≡ length ys = omega (arith, up) in
      ap (λ n. part (length xs) n (xs ++ ys)) count ∙ last_part xs ys

  still_ends : (es : List ℕ) (at : ℕ) → are_ends (length xs) es at ≡ true → are_ends (length (xs ++ ys)) (es ++ e ∷ []) at ≡ true
  still_ends [] at v =
      let same : at ≡ length xs = eqb-true at (length xs) v in
      and_from _ _ (le-leb at e (omega (arith, same, up))) (eq-eqb e (length (xs ++ ys)) (up ∙ sym (length-append xs ys)))
  still_ends (d ∷ es) at v =
      let f : IsFirst (length xs) d es at = first_end (length xs) d es at v in
      and_from _ _ (le-leb at d f.order) (still_ends es d f.rest)

  added_part : (es : List ℕ) (at : ℕ) → are_ends (length xs) es at ≡ true
      → parts_in (xs ++ ys) (es ++ e ∷ []) at ≡ parts_in xs es at ++ ys ∷ []
  added_part [] at v =
      ap (λ n. part n (e - n) (xs ++ ys) ∷ []) (eqb-true at (length xs) v) ∙ ap (λ t. t ∷ []) last_elements
  added_part (d ∷ es) at v =
      let f : IsFirst (length xs) d es at = first_end (length xs) d es at v in
      let later : d ≤ length xs = within (length xs) es d f.rest in
      let there : at + (d - at) ≤ length xs = omega (arith, f.order, later) in
      ap (λ t. t ∷ parts_in (xs ++ ys) (es ++ e ∷ []) d) (part_stays at (d - at) xs ys there) ∙
      ap (λ ps. part at (d - at) xs ∷ ps) (added_part es d f.rest)

-- the lists after a part was added
pub record IsPushed {A : Type 0} (xs more ys : List A) (es later : List ℕ) : Type 0 where
  pub valid : are_ends (length more) later 0 ≡ true
  pub parts : parts_in more later 0 ≡ parts_in xs es 0 ++ ys ∷ []

pub pushed : {A : Type 0} (xs more ys : List A) (es later : List ℕ) (e : ℕ)
    → more ≡ xs ++ ys → later ≡ es ++ e ∷ [] → e ≡ length more → are_ends (length xs) es 0 ≡ true → IsPushed xs more ys es later
pushed xs more ys es later e x l end v =
    let up : e ≡ length xs + length ys = end ∙ (ap length x ∙ length-append xs ys) in
    record {
      valid = rw (x, l) (still_ends xs ys e up es 0 v);
      parts = rw (x, l) (added_part xs ys e up es 0 v);
    }

-- the part at an index, which begins and ends here
pub record IsFound {A : Type 0} (xs : List A) (es : List ℕ) (i begin e : ℕ) : Type 0 where
  pub between : IsBetween (length xs) begin e
  pub get : slice_get (parts_in xs es 0) i ≡ Some (part begin (e - begin) xs)

pub found : {A : Type 0} (xs : List A) (es : List ℕ) (i begin e : ℕ) → are_ends (length xs) es 0 ≡ true
    → begin ≡ end_before es 0 i → slice_get es i ≡ Some e → IsFound xs es i begin e
found xs es i begin e v b there = record {
  between = rw b (end_at (length xs) es 0 i e v there);
  get = rw b (found_part xs es 0 i e there);
}
