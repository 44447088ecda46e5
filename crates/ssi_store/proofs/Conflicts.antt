-- The key of a conflict is the smallest overtaken one.
use Rattle.std.specs.List.{Contains, find}
use Rattle.std.proofs.Common.{Bool, List, None, Option, Some, [], ap, inl, inr, refl, subst, sym, true, ℕ, ◌∙◌, ◌∷◌, ◌≡◌}
use Rattle.std.proofs.lemmas.Bool.{and_parts, both_ways, cases_Bool, cond-false, cond-true, false_from_ne_true}
use Rattle.std.proofs.lemmas.Option.{same_Some}
use Rattle.lemmas.proofs.Finds.{find-source, find_none}
use Rattle.lemmas.proofs.Members.{Contains-cases, none_contained}
use Rattle.adya_keys.specs.Meaning.Keys.{key_le, key_lt, keys_rise}
use Rattle.adya_keys.proofs.Keys.{keys_rise-tail}
use Rattle.ssi_store.specs.Meaning.Acts.{Act}
use Rattle.ssi_store.specs.Meaning.Replies.{conflict, is_overtaken}
use Rattle.ssi_store.specs.Meaning.Seeing.{keys, wrote}
use Rattle.ssi_store.specs.Laws.{ConflictIsLeast, IsLeastOvertaken}
use Rattle.adya_keys.proofs.KeyOrder.{key_le-anti, key_le-from_eq, key_le-from_lt}
use Rattle.adya_values.proofs.InsertedKeys.{head_below}
use Rattle.ssi_store.proofs.OwnWrites.{keys_of_log_rise, wrote_key}

-- the first of rising keys that passes a test is the smallest one
first_is_least : (p : List ℕ → Bool) (ks : List (List ℕ)) → keys_rise ks ≡ true → (k : List ℕ) → find p ks ≡ Some k
    → (j : List ℕ) → Contains ks j → p j ≡ true → key_le k j ≡ true
first_is_least p [] r k e j c h = absurd (none_contained j c)
first_is_least p (x ∷ ks) r k e j c h =
    elim (cases_Bool (p x)) [
      | inl holds ↦
          let here : x ≡ k = same_Some x k
          (sym (cond-true {A = Option (List ℕ)} (p x) (Some x) (find p ks) holds) ∙ e) in
          elim (Contains-cases x ks j c) [
            | inl same ↦ key_le-from_eq k j (sym here ∙ same)
            | inr later ↦ key_le-from_lt k j (subst (λ y. key_lt y j ≡ true) here (head_below x ks j r later))
          ]
      | inr fails ↦ elim (Contains-cases x ks j c) [
        | inl same ↦ absurd (both_ways (p x) fails (ap p same ∙ h))
        | inr later ↦ first_is_least p ks (keys_rise-tail x ks r) k
            (sym (cond-false {A = Option (List ℕ)} (p x) (Some x) (find p ks) fails) ∙ e) j later h
      ]
    ]

module _ (t : ℕ) (log : List Act) where
  overtaken_there : (k : List ℕ) → is_overtaken t log k ≡ true → Contains (keys log) k
  overtaken_there k h = wrote_key t k log (and_parts (wrote t k log) _ h).0

  least_found : (o : Option (List ℕ)) → conflict t log ≡ o → IsLeastOvertaken t log o
  least_found None e = λ k. false_from_ne_true (is_overtaken t log k)
      (λ h. both_ways _ (find_none (is_overtaken t log) (keys log) k e (overtaken_there k h)) h)
  least_found (Some k) e = (
    (find-source (is_overtaken t log) (keys log) k e).1,
    λ j h. first_is_least (is_overtaken t log) (keys log) (keys_of_log_rise log) k e j (overtaken_there j h) h,
  )

  least_is_one : (o p : Option (List ℕ)) → IsLeastOvertaken t log o → IsLeastOvertaken t log p → o ≡ p
  least_is_one None None a b = refl
  least_is_one None (Some k) a b = absurd (both_ways _ (a k) b.0)
  least_is_one (Some k) None a b = absurd (both_ways _ (b k) a.0)
  least_is_one (Some k) (Some j) a b = ap Some (key_le-anti k j (a.1 j b.0) (b.1 k a.0))

pub conflict_is_least : ConflictIsLeast
conflict_is_least t log found =
    let is : IsLeastOvertaken t log (conflict t log) = least_found t log (conflict t log) refl in
    (least_found t log found, λ least. least_is_one t log (conflict t log) found is least)
