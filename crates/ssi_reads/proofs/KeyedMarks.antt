-- Marks of keys by key and by transaction.
use Rattle.std.proofs.Common.{◌≡◌, ◌≢◌, ℕ, ◌==◌, Bool, true, false, true≢false, cond, not, ◌&&◌, ◌||◌, List, ◌∷◌, Option, refl, sym, ◌∙◌, ap, inl, inr}
use Rattle.std.specs.List.{list_any}
use Rattle.std.specs.Ordering.{nat_cmp, is_eq}
use Rattle.std.specs.Cmp.Lexicographic.{slice_cmp}
use Rattle.std.specs.BTreeMap.{BTreeMap, get}
use Rattle.std.specs.BTreeSet.{BTreeSet}
use Rattle.std.proofs.lemmas.Bool.{cases_Bool, cases_eq, eq-eqb, ne_eqb, cond-true, cond-false, and_parts}
use Rattle.adya_keys.specs.Meaning.Keys.{lies_in}
use Rattle.ssi_reads.specs.Machinery.Indexed.{txn_in, key_in, indexed, listed}
use Rattle.ssi_reads.proofs.Numbers.{is_eq-nat_cmp, txn_at, same_txn, same_key, lies_at, cond_or}
use Rattle.ssi_reads.proofs.Maps.{has_more, has_same}

-- the transactions under one key change
module _ (key : List ℕ) (m n : BTreeMap (List ℕ) (BTreeSet ℕ)) (old new : Option (BTreeSet ℕ))
    (was : get (slice_cmp nat_cmp) m key ≡ old)
    (put : (q : List ℕ) → get (slice_cmp nat_cmp) n q ≡ cond (is_eq (slice_cmp nat_cmp key q)) new (get (slice_cmp nat_cmp) m q)) where
  pub indexed_more : (t : ℕ) → ((u : ℕ) → txn_in new u ≡ cond (is_eq (nat_cmp t u)) true (txn_in old u))
      → (k : List ℕ) (u : ℕ) → indexed n k u ≡ ((is_eq (slice_cmp nat_cmp key k) && is_eq (nat_cmp t u)) || indexed m k u)
  indexed_more t more =
      has_more txn_in (λ q. is_eq (slice_cmp nat_cmp key q)) key (same_key key) (get (slice_cmp nat_cmp) m)
      (get (slice_cmp nat_cmp) n) old new was put (λ u. is_eq (nat_cmp t u))
      (λ u. more u ∙ cond_or (is_eq (nat_cmp t u)) (txn_in old u))

  pub indexed_same : (u : ℕ) → txn_in new u ≡ txn_in old u → (k : List ℕ) → indexed n k u ≡ indexed m k u
  indexed_same =
      has_same txn_in (λ q. is_eq (slice_cmp nat_cmp key q)) key (same_key key) (get (slice_cmp nat_cmp) m)
      (get (slice_cmp nat_cmp) n) old new was put

-- the keys under one transaction change
module _ (t : ℕ) (m n : BTreeMap ℕ (BTreeSet (List ℕ))) (old new : Option (BTreeSet (List ℕ)))
    (was : get nat_cmp m t ≡ old) (put : (u : ℕ) → get nat_cmp n u ≡ cond (is_eq (nat_cmp t u)) new (get nat_cmp m u)) where
  pub listed_more : (key : List ℕ)
      → ((k : List ℕ) → key_in new k ≡ cond (is_eq (slice_cmp nat_cmp key k)) true (key_in old k)) → (u : ℕ) (k : List ℕ)
      → listed n u k ≡ ((is_eq (nat_cmp t u) && is_eq (slice_cmp nat_cmp key k)) || listed m u k)
  listed_more key more =
      has_more key_in (λ u. is_eq (nat_cmp t u)) t (same_txn t) (get nat_cmp m) (get nat_cmp n) old new was put
      (λ k. is_eq (slice_cmp nat_cmp key k)) (λ k. more k ∙ cond_or (is_eq (slice_cmp nat_cmp key k)) (key_in old k))

  pub listed_same : (k : List ℕ) → key_in new k ≡ key_in old k → (u : ℕ) → listed n u k ≡ listed m u k
  listed_same = has_same key_in (λ u. is_eq (nat_cmp t u)) t (same_txn t) (get nat_cmp m) (get nat_cmp n) old new was put

by_both : (a b i l : Bool) → (((b && a) || i) && ((a && b) || l)) ≡ ((a && b) || (i && l))
by_both true true i l = refl
by_both true false i l = refl
by_both false true i l = refl
by_both false false i l = refl

-- both maps take the mark
pub marked_both : (t u : ℕ) (key k : List ℕ) (i i' l l' : Bool)
    → i' ≡ ((is_eq (slice_cmp nat_cmp key k) && is_eq (nat_cmp t u)) || i)
    → l' ≡ ((is_eq (nat_cmp t u) && is_eq (slice_cmp nat_cmp key k)) || l)
    → (i' && l') ≡ (((u == t) && lies_in key key k) || (i && l))
marked_both t u key k i i' l l' e f =
    ap (λ x. x && l') e ∙ (ap (λ x. ((is_eq (slice_cmp nat_cmp key k) && is_eq (nat_cmp t u)) || i) && x) f ∙
    (ap (λ a. ((is_eq (slice_cmp nat_cmp key k) && a) || i) && ((a && is_eq (slice_cmp nat_cmp key k)) || l)) (txn_at t u) ∙
    (ap (λ b. ((b && (u == t)) || i) && (((u == t) && b) || l)) (lies_at key k) ∙ by_both (u == t) (lies_in key key k) i l)))

false_and : (i l l' : Bool) → i ≡ false → (i && l') ≡ (i && l)
false_and true l l' e = absurd (true≢false e)
false_and false l l' e = refl

-- one map takes the mark, and the other doesn't have it
pub marked_one : (t u : ℕ) (key k : List ℕ) (i i' l l' : Bool) → i' ≡ i → (t ≡ u → key ≡ k → i ≡ false)
    → l' ≡ ((is_eq (nat_cmp t u) && is_eq (slice_cmp nat_cmp key k)) || l) → (i' && l') ≡ (i && l)
marked_one t u key k i i' l l' e absent f =
    ap (λ x. x && l') e ∙
    elim (cases_Bool (is_eq (nat_cmp t u) && is_eq (slice_cmp nat_cmp key k))) [
      | inl yes' ↦ (let p = and_parts (is_eq (nat_cmp t u)) _ yes' in false_and i l l' (absent (same_txn t u p.0) (same_key key k p.1)))
      | inr no' ↦ ap (λ x. i && x) (f ∙ ap (λ b. b || l) no')
    ]

or_true : (b c : Bool) → c ≡ true → (b || c) ≡ true
or_true true c e = refl
or_true false c e = e

-- one more of the list is taken
pub take_step : (x u : ℕ) (rest : List ℕ) (listed found found' whole : Bool) → (x ≡ u → listed ≡ true)
    → found' ≡ cond (is_eq (nat_cmp x u)) true found
    → ((list_any (λ y. is_eq (nat_cmp u y)) (x ∷ rest) && listed) || found) ≡ whole
    → ((list_any (λ y. is_eq (nat_cmp u y)) rest && listed) || found') ≡ whole
take_step x u rest listed found found' whole own e inv =
    let later : Bool = list_any (λ y. is_eq (nat_cmp u y)) rest in
    let had : Bool → Bool = λ b. ((b || later) && listed) || found in
    elim (cases_eq x u) [
      | inl same ↦
          let all : found' ≡ true = e ∙ cond-true (is_eq (nat_cmp x u)) true found (is_eq-nat_cmp x u ∙ eq-eqb x u same) in
          let was : had (is_eq (nat_cmp u x)) ≡ true =
          ap had (is_eq-nat_cmp u x ∙ eq-eqb u x (sym same)) ∙ ap (λ b. b || found) (own same) in
          or_true (later && listed) found' all ∙ (sym was ∙ inv)
      | inr apart ↦
          ap (λ b. (later && listed) || b)
          (e ∙ cond-false (is_eq (nat_cmp x u)) true found (is_eq-nat_cmp x u ∙ ne_eqb x u apart)) ∙
          (sym (ap had (is_eq-nat_cmp u x ∙ ne_eqb u x (λ g. apart (sym g)))) ∙ inv)
    ]

-- one transaction goes
pub forget_one : (t u : ℕ) (i i' l l' : Bool) → (u ≡ t → l' ≡ false) → (u ≢ t → i' ≡ i) → (u ≢ t → l' ≡ l) → (i' && l') ≡ (not (u == t) && (i && l))
forget_one t u i i' l l' gone same same' =
    elim (cases_eq u t) [
      | inl e ↦ ap (λ b. i' && b) (gone e) ∙ (and_false i' ∙ sym (ap (λ b. not b && (i && l)) (eq-eqb u t e)))
      | inr ne ↦ ap (λ b. b && l') (same ne) ∙ (ap (λ b. i && b) (same' ne) ∙ sym (ap (λ b. not b && (i && l)) (ne_eqb u t ne)))
    ]
  where
    and_false : (b : Bool) → (b && false) ≡ false
    and_false true = refl
    and_false false = refl
