-- Where each transaction wrote each key last, after one write more.
use Rattle.std.proofs.Common.{◌≡◌, ℕ, length, ◌==◌, ◌<◌, ◌≤◌, ◌&&◌, Bool, true, false, cond, List, [], ◌∷◌, ◌++◌, Option, Some, None, is_some, Result, Ok, Err, IfOk, OnErr, refl, sym, ap, ◌∙◌, subst, inl, inr, arith}
use Rattle.std.specs.Prelude.{option_and_then, IsSome}
use Rattle.std.specs.Option.{option_or}
use Rattle.std.specs.Ordering.{is_eq, nat_cmp}
use Rattle.std.specs.Cmp.{unsigned_tied}
use Rattle.std.specs.Cmp.Lexicographic.{slice_cmp, texts_ties}
use Rattle.std.specs.BTreeMap.{BTreeMap, get}
use Rattle.std.proofs.lemmas.Bool.{and_parts, cases_Bool, eqb-true}
use Rattle.adya_terms.specs.declared.own_writes.Chain.{Chain}
use Rattle.adya_terms.specs.declared.own_writes.Row.{Row}
use Rattle.adya_keys.specs.Meaning.Keys.{Key, key_eq}
use Rattle.adya_keys.specs.Machinery.Within.{key_at}
use Rattle.adya_keys.specs.Mirror.{number_in, AreNumbered}
use Rattle.adya_terms.specs.Machinery.Tables.{own, own_eq, Own}
use Rattle.adya_terms.specs.Machinery.Chains.{longer, own_place, place_in, row, walk, AreFew, AreKnown, AreLinked}
use Rattle.adya_terms.proofs.Chains.{walk_longer, walk_stays}
use Rattle.adya_terms.proofs.Numbers.{no_number, same_number}
use Rattle.lemmas.proofs.Orderings.{bytes_eq-same}

and_false : (b : Bool) → (b && false) ≡ false
and_false true = refl
and_false false = refl

-- with the number of the key, if it has one
abbrev pub place_by : List Key → (ℕ → Chain) → List Row → (Own → Option ℕ) → Own → Option ℕ
place_by ks chains rows later q = option_and_then (λ n. option_or (later q) (walk rows n (chains q.txn).len (chains q.txn).last)) (number_in ks q.key)

module _ (ks : List Key) (numbered : AreNumbered ks) (t n at : ℕ) (within : n < length ks) where
  abbrev own_key : Own
  own_key = own t (key_at ks n)

  -- a write in its transaction's chain
  pub place_longer : (room : ℕ) (old new : ℕ → Chain) (rows : List Row) (later : Own → Option ℕ) → AreLinked (length ks) old rows
      → AreFew room old later → (old t).len < room → ((u : ℕ) → new u ≡ cond (t == u) (longer (old t) rows) (old u))
      → (q : Own) → place_by ks new (rows ++ row at (old t).last n ∷ []) later q ≡ cond (own_eq own_key q) (Some at) (place_by ks old rows later q)
  place_longer room old new rows later linked few short set q = by (number_in ks q.key) refl
    where
      after : List Row
      after = rows ++ row at (old t).last n ∷ []

      with_one : Option ℕ → Option ℕ
      with_one o = option_and_then (λ j. option_or (later q) (walk after j (new q.txn).len (new q.txn).last)) o

      before : Option ℕ → Option ℕ
      before o = option_and_then (λ j. option_or (later q) (walk rows j (old q.txn).len (old q.txn).last)) o

      by : (o : Option ℕ) → number_in ks q.key ≡ o → place_by ks new after later q ≡ cond (own_eq own_key q) (Some at) (place_by ks old rows later q)
      by None none =
          let other = no_number ks numbered n within q.key none in
          ap with_one none ∙ sym (ap (λ b. cond ((t == q.txn) && b) (Some at) (place_by ks old rows later q)) other ∙
          (ap (λ b. cond b (Some at) (place_by ks old rows later q)) (and_false (t == q.txn)) ∙ ap before none))
      by (Some j) is =
          let same : (n == j) ≡ key_eq (key_at ks n) q.key = same_number ks numbered n within q.key j is in
          ap with_one is ∙ (of_number j ∙ sym (ap (λ b. cond ((t == q.txn) && b) (Some at) (place_by ks old rows later q)) (sym same) ∙
          ap (cond ((t == q.txn) && (n == j)) (Some at)) (ap before is)))
        where
          of_number : (j : ℕ) → with_one (Some j) ≡ cond ((t == q.txn) && (n == j)) (Some at) (before (Some j))
          of_number j =
              elim (cases_Bool (t == q.txn)) [
                | inl here ↦
                    let same : t ≡ q.txn = eqb-true t q.txn here in
                    let none : later q ≡ None = few q (subst (λ u. (old u).len < room) same short) in
                    rw (set q.txn, here, none)
                    (walk_longer rows (old t) at n j (length ks) linked.rows_in (linked.chains_in t)
                    ∙ ap (λ u. cond (n == j) (Some at) (walk rows j (old u).len (old u).last)) same)
                | inr other ↦
                    rw (set q.txn, other)
                    (ap (option_or (later q)) (walk_stays rows (row at (old t).last n) j (length ks) linked.rows_in (old q.txn).len (old q.txn).last (linked.chains_in q.txn)))
              ]

  -- a write of a transaction with a full chain
  pub place_later : (chains : ℕ → Chain) (rows : List Row) (old new : Own → Option ℕ)
      → ((q : Own) → new q ≡ cond (own_eq own_key q) (Some at) (old q))
      → (q : Own) → place_by ks chains rows new q ≡ cond (own_eq own_key q) (Some at) (place_by ks chains rows old q)
  place_later chains rows old new set q = by (number_in ks q.key) refl
    where
      place : Option ℕ → Option ℕ → Option ℕ
      place p o = option_and_then (λ j. option_or p (walk rows j (chains q.txn).len (chains q.txn).last)) o

      by : (o : Option ℕ) → number_in ks q.key ≡ o → place_by ks chains rows new q ≡ cond (own_eq own_key q) (Some at) (place_by ks chains rows old q)
      by None none =
          let other = no_number ks numbered n within q.key none in
          ap (place (new q)) none ∙ sym (ap (λ b. cond ((t == q.txn) && b) (Some at) (place_by ks chains rows old q)) other ∙
          (ap (λ b. cond b (Some at) (place_by ks chains rows old q)) (and_false (t == q.txn)) ∙ ap (place (old q)) none))
      by (Some j) is =
          ap (place (new q)) is ∙ (ap (λ p. place p (Some j)) (set q) ∙
          elim (cases_Bool (own_eq own_key q)) [
            | inl here ↦ rw here refl
            | inr other ↦ rw other (sym (ap (place (old q)) is))
          ])

  -- it had no room in its chain
  pub few_later : (room : ℕ) (chains : ℕ → Chain) (old new : Own → Option ℕ) → room ≤ (chains t).len → AreFew room chains old
      → ((q : Own) → new q ≡ cond (own_eq own_key q) (Some at) (old q)) → AreFew room chains new
  few_later room chains old new full few set q less =
      elim (cases_Bool (own_eq own_key q)) [
        | inl here ↦
            let same : t ≡ q.txn = eqb-true t q.txn (and_parts (t == q.txn) _ here).0 in
            let short : (chains t).len < room = subst (λ u. (chains u).len < room) (sym same) less in
            absurd (omega (arith, full, short))
        | inr other ↦ set q ∙ (ap (λ b. cond b (Some at) (old q)) other ∙ few q less)
      ]

  -- its key has a number
  pub known_later : (old new : Own → Option ℕ) → AreKnown ks old → ((q : Own) → new q ≡ cond (own_eq own_key q) (Some at) (old q)) → AreKnown ks new
  known_later old new known set q is =
      elim (cases_Bool (own_eq own_key q)) [
        | inl here ↦
            let same : key_at ks n ≡ q.key = bytes_eq-same _ _ (and_parts (t == q.txn) _ here).1 in
            subst (λ k. is_some (number_in ks k) ≡ true) same (ap is_some (numbered n within))
        | inr other ↦ known q (subst IsSome (set q ∙ ap (λ b. cond b (Some at) (old q)) other) is)
      ]

-- the place under one transaction and key is another, and all others stay
pub place_more : (t : ℕ) (m n : BTreeMap ℕ (BTreeMap (List ℕ) ℕ)) (old new : Option (BTreeMap (List ℕ) ℕ)) (at : ℕ) (key : List ℕ)
    → get nat_cmp m t ≡ old → ((u : ℕ) → get nat_cmp n u ≡ cond (is_eq (nat_cmp t u)) new (get nat_cmp m u))
    → ((k : List ℕ) → place_in new k ≡ cond (is_eq (slice_cmp nat_cmp key k)) (Some at) (place_in old k))
    → (u : ℕ) (k : List ℕ) → own_place n u k ≡ cond (is_eq (nat_cmp t u) && is_eq (slice_cmp nat_cmp key k)) (Some at) (own_place m u k)
place_more t m n old new at key was put more u k =
    elim (cases_Bool (is_eq (nat_cmp t u))) [
      | inl here ↦
          let same : t ≡ u = eqb-true t u (sym (unsigned_tied t u) ∙ here) in
          ap (λ o. place_in o k) (put u ∙ ap (λ b. cond b new (get nat_cmp m u)) here) ∙
          (more k ∙ (ap (λ o. cond (is_eq (slice_cmp nat_cmp key k)) (Some at) (place_in o k)) (sym was ∙ ap (get nat_cmp m) same) ∙
          sym (ap (λ b. cond (b && is_eq (slice_cmp nat_cmp key k)) (Some at) (own_place m u k)) here)))
      | inr other ↦
          ap (λ o. place_in o k) (put u ∙ ap (λ b. cond b new (get nat_cmp m u)) other) ∙
          sym (ap (λ b. cond (b && is_eq (slice_cmp nat_cmp key k)) (Some at) (own_place m u k)) other)
    ]

-- the maps under the transactions have the same places
pub place_same : (m n : BTreeMap ℕ (BTreeMap (List ℕ) ℕ)) (t : ℕ) (old new : Option (BTreeMap (List ℕ) ℕ)) → get nat_cmp m t ≡ old
    → ((u : ℕ) → get nat_cmp n u ≡ cond (is_eq (nat_cmp t u)) new (get nat_cmp m u))
    → ((k : List ℕ) → place_in new k ≡ place_in old k) → (u : ℕ) (k : List ℕ) → own_place n u k ≡ own_place m u k
place_same m n t old new was put same u k =
    elim (cases_Bool (is_eq (nat_cmp t u))) [
      | inl here ↦
          let at : t ≡ u = eqb-true t u (sym (unsigned_tied t u) ∙ here) in
          ap (λ o. place_in o k) (put u ∙ ap (λ b. cond b new (get nat_cmp m u)) here)
          ∙ same k ∙ ap (λ o. place_in o k) (sym was ∙ ap (get nat_cmp m) at)
      | inr other ↦ ap (λ o. place_in o k) (put u ∙ ap (λ b. cond b new (get nat_cmp m u)) other)
    ]

pub tied : (own q : Own) → (is_eq (nat_cmp own.txn q.txn) && is_eq (slice_cmp nat_cmp own.key q.key)) ≡ own_eq own q
tied own q = let txn = unsigned_tied own.txn q.txn in let key = texts_ties own.key q.key in cc

-- the same where the key is this one
pub put_is : (t at : ℕ) (j key : List ℕ) (old new : Own → Option ℕ) → j ≡ key
    → ((u : ℕ) (k : List ℕ) → new (own u k) ≡ cond (is_eq (nat_cmp t u) && is_eq (slice_cmp nat_cmp j k)) (Some at) (old (own u k)))
    → (q : Own) → new q ≡ cond (own_eq (own t key) q) (Some at) (old q)
put_is t at j key old new same put q =
    put q.txn q.key ∙ ap (λ b. cond b (Some at) (old q)) (tied (own t j) q) ∙ ap (λ k. cond (own_eq (own t k) q) (Some at) (old q)) same

pub if_ok : {A E : Type 0} {P Q : A → Type 0} (r : Result A E) → IfOk r P → ((x : A) → P x → Q x) → IfOk r Q
if_ok (Ok x) p next = next x p
if_ok (Err e) p next = tt

pub on_err : {A E P : Type 0} (r : Result A E) → P → OnErr r P
on_err (Ok x) p = tt
on_err (Err e) p = p
