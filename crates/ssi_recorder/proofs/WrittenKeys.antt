-- The keys that were written rise, and each key that was written is there. What is made of some of them is made of
-- all, if nothing is made of the others.
use Rattle.std.proofs.Common.{◌≡◌, ℕ, true, ◌⊎◌, List, [], ◌∷◌, Option, None, refl, sym, ◌∙◌, ap, subst, inl, inr, fold}
use Rattle.std.specs.List.{Contains, filter_map, cons_option}
use Rattle.lemmas.proofs.Members.{none_contained, Contains-head, Contains-cons, Contains-cases}
use Rattle.lemmas.proofs.Orderings.{bytes_lt-trans, bytes_lt-apart}
use Rattle.adya_keys.specs.Meaning.Keys.{key_lt, keys_rise}
use Rattle.adya_values.specs.Meaning.Histories.{Entry}
use Rattle.adya_values.specs.Meaning.KeySets.{insert}
use Rattle.adya_keys.proofs.Keys.{keys_rise-tail}
use Rattle.adya_values.proofs.InsertedKeys.{head_below, Contains-insert, Contains-inserted, insert_rises}

-- ---- the keys of writes

abbrev pub keys_with : List (List ℕ) → List Entry → List (List ℕ)
keys_with ks ws = fold (λ ks w. insert w.version.key ks) ks ws

pub keys_with_rise : (ks : List (List ℕ)) (ws : List Entry) → keys_rise ks ≡ true → keys_rise (keys_with ks ws) ≡ true
keys_with_rise ks [] r = r
keys_with_rise ks (w ∷ ws) r = keys_with_rise (insert w.version.key ks) ws (insert_rises w.version.key ks r)

keys_with_keep : (ks : List (List ℕ)) (ws : List Entry) (k : List ℕ) → Contains ks k → Contains (keys_with ks ws) k
keys_with_keep ks [] k c = c
keys_with_keep ks (w ∷ ws) k c =
    keys_with_keep (insert w.version.key ks) ws k (Contains-inserted w.version.key ks k c)

pub keys_with_all : (ks : List (List ℕ)) (ws : List Entry) (w : Entry) → Contains ws w
    → Contains (keys_with ks ws) w.version.key
keys_with_all ks [] w c = absurd (none_contained w c)
keys_with_all ks (x ∷ ws) w c =
    elim (Contains-cases x ws w c) [
      | inl e ↦
          keys_with_keep (insert x.version.key ks) ws w.version.key
          (subst (λ y. Contains (insert x.version.key ks) y.version.key) e (Contains-insert x.version.key ks))
      | inr d ↦ keys_with_all (insert x.version.key ks) ws w d
    ]

-- ---- what is made of keys

-- the keys of the one list are among those of the other, and nothing is made of the other's further keys
pub made_of_some : {Y : Type 0} (f : List ℕ → Option Y) (ks js : List (List ℕ)) → keys_rise ks ≡ true
    → keys_rise js ≡ true → ((j : List ℕ) → Contains js j → Contains ks j)
    → ((k : List ℕ) → Contains ks k → Contains js k ⊎ (f k ≡ None)) → filter_map f js ≡ filter_map f ks
made_of_some f [] [] rk rj among others = refl
made_of_some f [] (j ∷ js) rk rj among others = absurd (none_contained j (among j (Contains-head j js)))
made_of_some f (k ∷ ks) [] rk rj among others =
    elim (others k (Contains-head k ks)) [
      | inl c ↦ absurd (none_contained k c)
      | inr none ↦
          made_of_some f ks [] (keys_rise-tail k ks rk) rj (λ j c. absurd (none_contained j c))
          (λ i d. others i (Contains-cons k ks i d)) ∙
          ap (λ o. cons_option o (filter_map f ks)) (sym none)
    ]
made_of_some f (k ∷ ks) (j ∷ js) rk rj among others =
    elim (Contains-cases k ks j (among j (Contains-head j js))) [
      | inl same ↦
          ap (λ x. cons_option (f x) (filter_map f js)) (sym same) ∙
          ap (cons_option (f k)) (made_of_some f ks js (keys_rise-tail k ks rk) (keys_rise-tail j js rj)
          (λ i c. elim (Contains-cases k ks i (among i (Contains-cons j js i c))) [
            | inl e ↦ absurd (bytes_lt-apart j i (head_below j js i rj c) (sym same ∙ e))
            | inr d ↦ d
          ])
          (λ i d. elim (others i (Contains-cons k ks i d)) [
            | inl c ↦ elim (Contains-cases j js i c) [
              | inl e ↦ absurd (bytes_lt-apart k i (head_below k ks i rk d) (same ∙ e))
              | inr b ↦ inl b
            ]
            | inr none ↦ inr none
          ]))
      | inr later ↦
          let less : key_lt k j ≡ true = head_below k ks j rk later in
          let below : (i : List ℕ) → Contains (j ∷ js) i → key_lt k i ≡ true = λ i c.
          elim (Contains-cases j js i c) [
            | inl e ↦ subst (λ x. key_lt k x ≡ true) e less
            | inr d ↦ bytes_lt-trans k j i less (head_below j js i rj d)
          ] in
          let none : f k ≡ None = elim (others k (Contains-head k ks)) [
            | inl c ↦ absurd (bytes_lt-apart k k (below k c) refl)
            | inr e ↦ e
          ] in
          made_of_some f ks (j ∷ js) (keys_rise-tail k ks rk) rj
          (λ i c. elim (Contains-cases k ks i (among i c)) [
            | inl e ↦ absurd (bytes_lt-apart k i (below i c) e)
            | inr d ↦ d
          ])
          (λ i d. others i (Contains-cons k ks i d)) ∙
          ap (λ o. cons_option o (filter_map f ks)) (sym none)
    ]
