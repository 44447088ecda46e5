-- The order line, the final line and the listed entry of a key. If the keys rise, the first of a key is the only one.
use Rattle.std.proofs.Common.{◌≡◌, ◌≢◌, ℕ, ◌⊎◌, true, false, cond, ◌||◌, List, [], ◌∷◌, map, slice_get, Some, None, is_some, refl, sym, ◌∙◌, ap, subst, inl, inr}
use Rattle.std.specs.List.{list_any, Contains}
use Rattle.std.proofs.lemmas.Bool.{cases_Bool, or_parts, both_ways}
use Rattle.std.proofs.lemmas.Option.{same_Some, none-some}
use Rattle.lemmas.proofs.Members.{none_contained, Contains-head, Contains-cons, Contains-cases}
use Rattle.lemmas.proofs.Orderings.{bytes_eq-same, bytes_eq-from}
use Rattle.lemmas.proofs.Options.{is_some-cond}
use Rattle.adya_keys.specs.Meaning.Keys.{key_eq, keys_rise}
use Rattle.adya_values.specs.Meaning.Histories.{Entry, Order, FinalPair}
use Rattle.adya_values.specs.Meaning.Events.{listed}
use Rattle.adya_values.specs.Meaning.Orders.{line_of}
use Rattle.adya_values.specs.Clauses.Rules.{final_value}
use Rattle.adya_keys.proofs.Keys.{keys_rise-tail, rises_other}

-- ---- order lines

-- a key has an order line, or none
pub line_cases : (os : List Order) (k : List ℕ)
    → ((o : Order) × Contains os o × (o.key ≡ k) × (line_of os k ≡ o.writers)) ⊎
    ((line_of os k ≡ []) × ((o : Order) → Contains os o → o.key ≢ k))
line_cases [] k = inr (refl, λ o c e. none_contained o c)
line_cases (o ∷ os) k =
    elim (cases_Bool (key_eq o.key k)) [
      | inl t ↦ inl (o, Contains-head o os, bytes_eq-same _ _ t, ap (λ b. cond b o.writers (line_of os k)) t)
      | inr f ↦
          (elim (line_cases os k) [
            | inl r ↦ inl (r.0, Contains-cons o os r.0 r.1, r.2, ap (λ b. cond b o.writers (line_of os k)) f ∙ r.3)
            | inr r ↦
                inr (
                  ap (λ b. cond b o.writers (line_of os k)) f ∙ r.0,
                  λ x c e. elim (Contains-cases o os x c) [
                    | inl s ↦ both_ways _ f (bytes_eq-from _ _ (ap (λ y. y.key) s ∙ e))
                    | inr d ↦ r.1 x d e
                  ],
                )
          ])
    ]

pub line_missing : (os : List Order) (k : List ℕ) → list_any (λ o. key_eq o.key k) os ≡ false → line_of os k ≡ []
line_missing [] k none = refl
line_missing (o ∷ os) k none =
    let both = or_parts (key_eq o.key k) (list_any (λ (x : Order). key_eq x.key k) os) none in
    ap (λ b. cond b o.writers (line_of os k)) both.0 ∙ line_missing os k both.1

pub line_found : (os : List Order) (o : Order) → keys_rise (map (λ x. x.key) os) ≡ true → Contains os o
    → line_of os o.key ≡ o.writers
line_found [] o r c = absurd (none_contained o c)
line_found (x ∷ os) o r c =
    elim (Contains-cases x os o c) [
      | inl s ↦
          ap (λ b. cond b x.writers (line_of os o.key)) (bytes_eq-from _ _ (ap (λ y. y.key) s)) ∙ ap (λ y. y.writers) s
      | inr d ↦
          ap (λ b. cond b x.writers (line_of os o.key)) (rises_other (λ (y : Order). y.key) x os o r d) ∙
          line_found os o (keys_rise-tail x.key (map (λ y. y.key) os) r) d
    ]

-- a key with a writer has an order line
pub line_written : (os : List Order) (k : List ℕ) (i u : ℕ) → slice_get (line_of os k) i ≡ Some u
    → (o : Order) × Contains os o × (o.key ≡ k)
line_written os k i u e =
    elim (line_cases os k) [
      | inl o ↦ (o.0, o.1, o.2)
      | inr none ↦ absurd (none-some u (subst (λ xs. slice_get xs i ≡ Some u) none.0 e))
    ]

-- ---- final lines

pub final_cases : (fs : List FinalPair) (k : List ℕ)
    → ((f : FinalPair) × Contains fs f × (f.key ≡ k) × (final_value fs k ≡ Some f.value)) ⊎
    ((final_value fs k ≡ None) × ((f : FinalPair) → Contains fs f → f.key ≢ k))
final_cases [] k = inr (refl, λ f c e. none_contained f c)
final_cases (f ∷ fs) k =
    elim (cases_Bool (key_eq f.key k)) [
      | inl t ↦ inl (f, Contains-head f fs, bytes_eq-same _ _ t, ap (λ b. cond b (Some f.value) (final_value fs k)) t)
      | inr n ↦
          (elim (final_cases fs k) [
            | inl r ↦
                inl (r.0, Contains-cons f fs r.0 r.1, r.2, ap (λ b. cond b (Some f.value) (final_value fs k)) n ∙ r.3)
            | inr r ↦
                inr (
                  ap (λ b. cond b (Some f.value) (final_value fs k)) n ∙ r.0,
                  λ x c e. elim (Contains-cases f fs x c) [
                    | inl s ↦ both_ways _ n (bytes_eq-from _ _ (ap (λ y. y.key) s ∙ e))
                    | inr d ↦ r.1 x d e
                  ],
                )
          ])
    ]

pub final_any : (fs : List FinalPair) (k : List ℕ) → is_some (final_value fs k) ≡ list_any (λ f. key_eq f.key k) fs
final_any [] k = refl
final_any (f ∷ fs) k =
    is_some-cond (key_eq f.key k) f.value (final_value fs k) ∙ ap (λ b. key_eq f.key k || b) (final_any fs k)

pub final_found : (fs : List FinalPair) (f : FinalPair) → keys_rise (map (λ x. x.key) fs) ≡ true → Contains fs f
    → final_value fs f.key ≡ Some f.value
final_found [] f r c = absurd (none_contained f c)
final_found (x ∷ fs) f r c =
    elim (Contains-cases x fs f c) [
      | inl s ↦
          ap (λ b. cond b (Some x.value) (final_value fs f.key)) (bytes_eq-from _ _ (ap (λ y. y.key) s)) ∙
          ap (λ y. Some y.value) s
      | inr d ↦
          ap (λ b. cond b (Some x.value) (final_value fs f.key)) (rises_other (λ (y : FinalPair). y.key) x fs f r d) ∙
          final_found fs f (keys_rise-tail x.key (map (λ y. y.key) fs) r) d
    ]

-- ---- the entries of a scan

-- what a scan lists of a key is of that key and in its list
pub listed_from : (k : List ℕ) (ws : List Entry) (o : Entry) → listed k ws ≡ Some o
    → Contains ws o × (o.version.key ≡ k)
listed_from k [] o e = absurd (none-some o e)
listed_from k (w ∷ ws) o e =
    elim (cases_Bool (key_eq w.version.key k)) [
      | inl holds ↦
          let same : w ≡ o = same_Some w o (subst (λ b. cond b (Some w) (listed k ws) ≡ Some o) holds e) in (
            subst (Contains (w ∷ ws)) same (Contains-head w ws),
            ap (λ x. x.version.key) (sym same) ∙ bytes_eq-same _ _ holds,
          )
      | inr fails ↦
          let rest = listed_from k ws o (subst (λ b. cond b (Some w) (listed k ws) ≡ Some o) fails e) in
          (Contains-cons w ws o rest.0, rest.1)
    ]

-- an entry of a list whose keys rise is what it lists of its key
pub listed_found : (es : List Entry) (w : Entry) → keys_rise (map (λ x. x.version.key) es) ≡ true → Contains es w
    → listed w.version.key es ≡ Some w
listed_found [] w r c = absurd (none_contained w c)
listed_found (x ∷ es) w r c =
    elim (Contains-cases x es w c) [
      | inl s ↦
          ap (λ b. cond b (Some x) (listed w.version.key es)) (bytes_eq-from _ _ (ap (λ y. y.version.key) s)) ∙ ap Some s
      | inr d ↦
          ap (λ b. cond b (Some x) (listed w.version.key es)) (rises_other (λ (y : Entry). y.version.key) x es w r d) ∙
          listed_found es w (keys_rise-tail x.version.key (map (λ y. y.version.key) es) r) d
    ]
