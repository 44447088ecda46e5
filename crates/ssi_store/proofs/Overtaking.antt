-- The smallest overtaken key, one write after the other, and what the log says of it.
use Rattle.std.specs.List.{Contains, find}
use Rattle.std.proofs.Common.{Bool, List, None, Option, Some, [], ap, cond, false, inl, inr, map, option_map, refl, subst, sym, true, ℕ, ◌&&◌, ◌++◌, ◌∙◌, ◌∷◌, ◌≡◌, IfSome}
use Rattle.std.proofs.lemmas.Bool.{and_parts, both_ways, cases_Bool, cond-false, cond-true}
use Rattle.std.proofs.lemmas.List.Elements.{Contains-append_cases, Contains-append_left, Contains-append_right}
use Rattle.lemmas.proofs.Finds.{none_found}
use Rattle.std.proofs.lemmas.Option.{none-some, same_Some}
use Rattle.lemmas.proofs.Members.{Contains-cases, Contains-cons, Contains-head, none_contained}
use Rattle.adya_values.proofs.RisingNumbers.{only_one}
use Rattle.adya_values.specs.declared.event.Version.{Version}
use Rattle.adya_values.specs.declared.event.Content.{Content}
use Rattle.adya_keys.proofs.Keys.{keys_rise-tail}
use Rattle.adya_keys.specs.Meaning.Keys.{key_le, key_lt, keys_rise}
use Rattle.ssi_versions.specs.Meaning.Changes.{Held, held, is_installed_above, last_version}
use Rattle.ssi_versions.specs.Clauses.ByStamp.{newest, is_above}
use Rattle.ssi_versions.specs.Mirror.{chain_of, write_of}
use Rattle.ssi_snapshot.specs.Clauses.Listings.{keys as listed_keys}
use Rattle.ssi_store.specs.Meaning.Acts.{Act}
use Rattle.ssi_store.specs.Meaning.Replies.{conflict, is_overtaken, last_writer, writer_in}
use Rattle.ssi_store.specs.Meaning.Seeing.{changed, keys, own_keys, snapshot, wrote}
use Rattle.ssi_store.specs.Machinery.Below.{Below}
use Rattle.ssi_store.specs.Machinery.Overtaken.{IsLeast, is_passed, passed_by, key_of, lesser}
use Rattle.ssi_store.specs.declared.overtaken.Overtaken.{Overtaken}
use Rattle.ssi_store.proofs.ChangesAllowed.{changed_installable}
use Rattle.adya_keys.proofs.KeyOrder.{key_le-itself, key_le-from_lt, key_le-from_not, key_le-trans, key_lt-from_le_lt, key_lt-never}
use Rattle.adya_values.proofs.InsertedKeys.{head_below}
use Rattle.ssi_store.proofs.OwnWrites.{keys_of_log_rise, own_key_there, own_key_written, wrote_key}

module _ (test : List ℕ → Bool) (ks : List (List ℕ)) (k : List ℕ) where
  -- a key that fails the test changes nothing
  passed_over : (o : Option (List ℕ)) → IsLeast test ks o → test k ≡ false → IsLeast test (ks ++ k ∷ []) o
  passed_over None least fails = λ j c. elim (Contains-append_cases ks (k ∷ []) j c) [
    | inl old ↦ least j old
    | inr new ↦ subst (λ x. test x ≡ false) (only_one k j new) fails
  ]
  passed_over (Some i) least fails = (
    Contains-append_left ks (k ∷ []) i least.0,
    least.1,
    λ j c passes. elim (Contains-append_cases ks (k ∷ []) j c) [
      | inl old ↦ least.2 j old passes
      | inr new ↦ absurd (both_ways (test k) fails (subst (λ x. test x ≡ true) (sym (only_one k j new)) passes))
    ],
  )

  there : Contains (ks ++ k ∷ []) k
  there = Contains-append_right ks (k ∷ []) k (Contains-head k [])

  -- a key that passes it is compared with the least one so far
  taken : (o : Option Overtaken) (v : Overtaken) → IsLeast test ks (option_map key_of o) → test k ≡ true → v.key ≡ k
      → IsLeast test (ks ++ k ∷ []) (option_map key_of (lesser o (Some v)))
  taken None v least passes is = subst (λ x. IsLeast test (ks ++ k ∷ []) (Some x)) (sym is) (
    there,
    passes,
    λ j c test_j. elim (Contains-append_cases ks (k ∷ []) j c) [
      | inl old ↦ absurd (both_ways (test j) (least j old) test_j)
      | inr new ↦ subst (λ x. key_le k x ≡ true) (only_one k j new) (key_le-itself k)
    ],
  )
  taken (Some a) v least passes is = elim (cases_Bool (key_lt a.key v.key)) [
    | inl less ↦ subst (λ w. IsLeast test (ks ++ k ∷ []) (option_map key_of w))
        (sym (cond-true {A = Option Overtaken} (key_lt a.key v.key) (Some a) (Some v) less)) (
          Contains-append_left ks (k ∷ []) a.key least.0,
          least.1,
          λ j c test_j. elim (Contains-append_cases ks (k ∷ []) j c) [
            | inl old ↦ least.2 j old test_j
            | inr new ↦ subst (λ x. key_le a.key x ≡ true) (is ∙ only_one k j new) (key_le-from_lt a.key v.key less)
          ],
        )
    | inr more ↦ subst (λ w. IsLeast test (ks ++ k ∷ []) (option_map key_of w))
        (sym (cond-false {A = Option Overtaken} (key_lt a.key v.key) (Some a) (Some v) more))
        (subst (λ x. IsLeast test (ks ++ k ∷ []) (Some x)) (sym is) (
          there,
          passes,
          λ j c test_j. elim (Contains-append_cases ks (k ∷ []) j c) [
            | inl old ↦ key_le-trans k a.key j (subst (λ x. key_le x a.key ≡ true) is (key_le-from_not v.key a.key more))
                (least.2 j old test_j)
            | inr new ↦ subst (λ x. key_le k x ≡ true) (only_one k j new) (key_le-itself k)
          ],
        ))
  ]

-- one more key
pub least_step : (test : List ℕ → Bool) (ks : List (List ℕ)) (k : List ℕ) (o f : Option Overtaken)
    → IsLeast test ks (option_map key_of o) → option_map key_of f ≡ cond (test k) (Some k) None
    → IsLeast test (ks ++ k ∷ []) (option_map key_of (lesser o f))
least_step test ks k o None least found =
    subst (λ x. IsLeast test (ks ++ k ∷ []) (option_map key_of x)) (sym (with_none o))
    (passed_over test ks k (option_map key_of o) least (fails (test k) found))
  where
    with_none : (a : Option Overtaken) → lesser a None ≡ a
    with_none None = refl
    with_none (Some a) = refl

    fails : (b : Bool) → None ≡ cond b (Some k) None → b ≡ false
    fails true e = absurd (none-some k e)
    fails false e = refl
least_step test ks k o (Some v) least found =
    taken test ks k o v least (passes (test k) found).0 (passes (test k) found).1
  where
    passes : (b : Bool) → Some v.key ≡ cond b (Some k) None → (b ≡ true) × (v.key ≡ k)
    passes true e = (refl, same_Some v.key k e)
    passes false e = absurd (none-some v.key (sym e))

-- of both that are compared it holds, so of the lesser one
pub lesser_has : (P : Overtaken → Type 0) (o f : Option Overtaken) → IfSome o P → IfSome f P → IfSome (lesser o f) P
lesser_has P None f h g = g
lesser_has P (Some a) None h g = h
lesser_has P (Some a) (Some b) h g = either (key_lt a.key b.key)
  where
    either : (x : Bool) → IfSome (cond x (Some a) (Some b)) P
    either true = h
    either false = g

-- the least one of rising keys is found first
find_least : (test : List ℕ → Bool) (ks : List (List ℕ)) (j : List ℕ) → keys_rise ks ≡ true → Contains ks j → test j ≡ true
    → ((k : List ℕ) → Contains ks k → test k ≡ true → key_le j k ≡ true) → find test ks ≡ Some j
find_least test [] j rise c passes least = absurd (none_contained j c)
find_least test (k ∷ ks) j rise c passes least = elim (cases_Bool (test k)) [
  | inl good ↦ cond-true {A = Option (List ℕ)} (test k) (Some k) (find test ks) good
      ∙ (elim (Contains-cases k ks j c) [
        | inl same ↦ ap Some same
        | inr rest ↦ absurd (key_lt-never j (key_lt-from_le_lt j k j (least k (Contains-head k ks) good)
            (head_below k ks j rise rest)))
      ])
  | inr bad ↦ cond-false {A = Option (List ℕ)} (test k) (Some k) (find test ks) bad
      ∙ (elim (Contains-cases k ks j c) [
        | inl same ↦ absurd (both_ways (test k) bad (subst (λ x. test x ≡ true) (sym same) passes))
        | inr rest ↦ find_least test ks j (keys_rise-tail k ks rise) rest passes
            (λ i d. least i (Contains-cons k ks i d))
      ])
]

module _ (b : Below) (holds : List Held) (log : List Act) (chains : (k : List ℕ) → chain_of k holds ≡ held k (changed log)) where
  last_is : (k : List ℕ) → newest (chain_of k holds) ≡ last_version k (changed log)
  last_is k = ap newest (chains k) ∙ b.last_held (changed log) k

  pub writer_is : (k : List ℕ) → passed_by k holds ≡ last_writer k log
  writer_is k = ap writer_in (last_is k)

  passed_is : (s : ℕ) (k : List ℕ) → is_passed s holds k ≡ is_installed_above k s (changed log)
  passed_is s k = ap (is_above s) (last_is k) ∙ sym (b.last_above (changed log) (changed_installable log) k s)

  overtaken_is : (t : ℕ) (k : List ℕ) → wrote t k log ≡ true → is_overtaken t log k ≡ is_passed (snapshot t log) holds k
  overtaken_is t k w = ap (λ x. x && is_installed_above k (snapshot t log) (changed log)) w ∙ sym (passed_is (snapshot t log) k)

  pub conflict_is : (t : ℕ) (o : Option (List ℕ)) → IsLeast (is_passed (snapshot t log) holds) (own_keys t log) o
      → conflict t log ≡ o
  conflict_is t None none = none_found (is_overtaken t log) (keys log) (λ k c. elim (cases_Bool (wrote t k log)) [
    | inl w ↦ overtaken_is t k w ∙ none k (own_key_there t k log w)
    | inr n ↦ ap (λ x. x && is_installed_above k (snapshot t log) (changed log)) n
  ])
  conflict_is t (Some j) least =
      let w = own_key_written t j log least.0 in
      find_least (is_overtaken t log) (keys log) j (keys_of_log_rise log) (wrote_key t j log w)
      (overtaken_is t j w ∙ least.1)
      (λ k c over. (let mine = (and_parts (wrote t k log) (is_installed_above k (snapshot t log) (changed log)) over).0 in
      least.2 k (own_key_there t k log mine) (sym (overtaken_is t k mine) ∙ over)))

-- the keys of writes with one more, and of all of them
pub keys_more : (ws : List (Version × Content)) (w : Version × Content)
    → listed_keys (map write_of (ws ++ w ∷ [])) ≡ listed_keys (map write_of ws) ++ w.0.key ∷ []
keys_more [] w = refl
keys_more (v ∷ ws) w = ap (λ ks. v.0.key ∷ ks) (keys_more ws w)
