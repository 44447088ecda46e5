-- A list in which each key stands once, told by its keys.
use Rattle.std.proofs.Common.{◌≡◌, ◌<◌, ℕ, suc, length, false, if◌then◌else◌, List, [], ◌∷◌, Some, refl, ◌∙◌, ap, subst, arith}
use Rattle.std.specs.List.{filter_map, cons_option, Contains}
use Rattle.lemmas.proofs.Members.{Contains-head, Contains-cons, map-source}
use Rattle.lemmas.proofs.Orderings.{bytes_eq-itself}
use Rattle.adya_keys.specs.Meaning.Keys.{key_eq}
use Rattle.adya_values.specs.Meaning.Histories.{Entry}
use Rattle.adya_values.specs.Meaning.Events.{listed}
use Rattle.ssi_versions.specs.Clauses.Conditions.{AreApart}
use Rattle.ssi_snapshot.specs.Clauses.Listings.{keys}
use Rattle.ssi_snapshot.specs.Laws.{ListIsByKey}

-- the first of a list is of another key than the later ones
head_apart : (v : Entry) (vs : List Entry) (w : Entry) → AreApart (v ∷ vs) → Contains vs w → key_eq v.version.key w.version.key ≡ false
head_apart v vs w apart c =
    let in' : c.0 < length vs = c.1 in
    subst (λ x. key_eq v.version.key x.version.key ≡ false) c.2 (apart 0 (suc c.0) w (omega arith) (omega (arith, in')))

tail_apart : (v : Entry) (vs : List Entry) → AreApart (v ∷ vs) → AreApart vs
tail_apart v vs apart = λ i j d lt in'. apart (suc i) (suc j) d (omega (arith, lt)) (omega (arith, in'))

-- an entry of another key than all of these changes nothing of what is listed of them
skip_head : (v : Entry) (vs : List Entry) (ks : List (List ℕ)) → ((k : List ℕ) → Contains ks k → key_eq v.version.key k ≡ false)
    → filter_map (λ k. listed k (v ∷ vs)) ks ≡ filter_map (λ k. listed k vs) ks
skip_head v vs [] other = refl
skip_head v vs (k ∷ ks) other =
    ap (λ b. cons_option (if b then Some v else listed k vs) (filter_map (λ j. listed j (v ∷ vs)) ks)) (other k (Contains-head k ks))
    ∙ ap (cons_option (listed k vs)) (skip_head v vs ks (λ j c. other j (Contains-cons k ks j c)))

pub by_keys : ListIsByKey
by_keys [] apart = refl
by_keys (v ∷ vs) apart =
    ap (λ b. cons_option (if b then Some v else listed v.version.key vs) (filter_map (λ k. listed k (v ∷ vs)) (keys vs))) (bytes_eq-itself v.version.key)
    ∙ ap (λ ws. v ∷ ws)
    (skip_head v vs (keys vs) (λ k c.
    let w = map-source (λ (x : Entry). x.version.key) vs k c in
    subst (λ j. key_eq v.version.key j ≡ false) w.2 (head_apart v vs w.0 apart w.1))
    ∙ by_keys vs (tail_apart v vs apart))
