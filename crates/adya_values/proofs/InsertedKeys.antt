-- Rising keys, and one key more among them.
use Rattle.std.specs.List.{Contains}
use Rattle.std.proofs.Common.{◌≡◌, ◌⊎◌, ℕ, true, List, [], ◌∷◌, refl, subst, sym, inl, inr}
use Rattle.std.proofs.lemmas.Bool.{and_from, and_parts, cases_Bool}
use Rattle.lemmas.proofs.Members.{none_contained, Contains-head, Contains-cons, Contains-cases}
use Rattle.lemmas.proofs.Orderings.{bytes_eq-same, bytes_lt-trans}
use Rattle.adya_keys.specs.Meaning.Keys.{key_eq, key_lt, keys_rise}
use Rattle.adya_values.specs.Meaning.KeySets.{insert}
use Rattle.adya_keys.proofs.Keys.{keys_rise-tail}
use Rattle.adya_keys.proofs.KeyOrder.{key_lt-from_not}

pub head_below : (x : List ℕ) (ys : List (List ℕ)) (y : List ℕ) → keys_rise (x ∷ ys) ≡ true → Contains ys y
    → key_lt x y ≡ true
head_below x [] y r c = absurd (none_contained y c)
head_below x (z ∷ ys) y r c =
    let both = and_parts (key_lt x z) (keys_rise (z ∷ ys)) r in
    elim (Contains-cases z ys y c) [
      | inl e ↦ subst (λ w. key_lt x w ≡ true) e both.0
      | inr d ↦ bytes_lt-trans x z y both.0 (head_below z ys y both.1 d)
    ]

pub rises_with_head : (x : List ℕ) (ys : List (List ℕ)) → ((y : List ℕ) → Contains ys y → key_lt x y ≡ true)
    → keys_rise ys ≡ true → keys_rise (x ∷ ys) ≡ true
rises_with_head x [] h r = refl
rises_with_head x (y ∷ ys) h r = and_from (key_lt x y) (keys_rise (y ∷ ys)) (h y (Contains-head y ys)) r

pub Contains-insert : (k : List ℕ) (js : List (List ℕ)) → Contains (insert k js) k
Contains-insert k [] = Contains-head k []
Contains-insert k (j ∷ js) =
    elim (cases_Bool (key_lt k j)) [
      | inl less ↦ rw less (Contains-head k (j ∷ js))
      | inr more ↦
          rw more (elim (cases_Bool (key_eq k j)) [
            | inl same ↦ rw same (subst (λ x. Contains (j ∷ js) x) (sym (bytes_eq-same k j same)) (Contains-head j js))
            | inr other ↦ rw other (Contains-cons j (insert k js) k (Contains-insert k js))
          ])
    ]

past_head : (j : List ℕ) (xs ys : List (List ℕ)) (i : List ℕ) → (Contains xs i → Contains ys i)
    → Contains (j ∷ xs) i → Contains (j ∷ ys) i
past_head j xs ys i rest c =
    elim (Contains-cases j xs i c) [
      | inl e ↦ subst (Contains (j ∷ ys)) e (Contains-head j ys)
      | inr d ↦ Contains-cons j ys i (rest d)
    ]

pub Contains-inserted : (k : List ℕ) (js : List (List ℕ)) (i : List ℕ) → Contains js i → Contains (insert k js) i
Contains-inserted k [] i c = absurd (none_contained i c)
Contains-inserted k (j ∷ js) i c =
    elim (cases_Bool (key_lt k j)) [
      | inl less ↦ rw less (Contains-cons k (j ∷ js) i c)
      | inr more ↦
          rw more (elim (cases_Bool (key_eq k j)) [
            | inl same ↦ rw same c
            | inr other ↦ rw other (past_head j js (insert k js) i (Contains-inserted k js i) c)
          ])
    ]

past_either : (x : List ℕ) (xs ys : List (List ℕ)) (n z : List ℕ) → (Contains ys z → (n ≡ z) ⊎ Contains xs z)
    → Contains (x ∷ ys) z → (n ≡ z) ⊎ Contains (x ∷ xs) z
past_either x xs ys n z h c =
    elim (Contains-cases x ys z c) [
      | inl e ↦ inr (subst (Contains (x ∷ xs)) e (Contains-head x xs))
      | inr d ↦ elim (h d) [ inl e ↦ inl e | inr f ↦ inr (Contains-cons x xs z f) ]
    ]

insert_source : (k : List ℕ) (js : List (List ℕ)) (y : List ℕ) → Contains (insert k js) y → (k ≡ y) ⊎ Contains js y
insert_source k [] y c = Contains-cases k [] y c
insert_source k (j ∷ js) y c =
    elim (cases_Bool (key_lt k j)) [
      | inl less ↦ Contains-cases k (j ∷ js) y (rw less at c)
      | inr more ↦ elim (cases_Bool (key_eq k j)) [
        | inl same ↦ inr (rw (more, same) at c)
        | inr other ↦ past_either j js (insert k js) k y (insert_source k js y) (rw (more, other) at c)
      ]
    ]

pub insert_rises : (k : List ℕ) (js : List (List ℕ)) → keys_rise js ≡ true → keys_rise (insert k js) ≡ true
insert_rises k [] r = refl
insert_rises k (j ∷ js) r =
    elim (cases_Bool (key_lt k j)) [
      | inl less ↦ rw less (and_from (key_lt k j) (keys_rise (j ∷ js)) less r)
      | inr more ↦ rw more (elim (cases_Bool (key_eq k j)) [
        | inl same ↦ rw same r
        | inr other ↦ rw other (rises_with_head j (insert k js) (λ y c.
            elim (insert_source k js y c) [
              | inl e ↦ subst (λ x. key_lt j x ≡ true) e (key_lt-from_not k j more other)
              | inr d ↦ head_below j js y r d
            ]) (insert_rises k js (keys_rise-tail j js r)))
      ])
    ]
