-- Chains of writes, and what one write more changes.
use Rattle.std.proofs.Common.{◌≡◌, ℕ, zero, suc, ◌==◌, ◌<◌, ◌≤◌, Bool, true, false, cond, List, [], ◌∷◌, ◌++◌, length, Option, Some, None, refl, ap, ◌∙◌, subst, inl, inr, arith}
use Rattle.std.specs.Prelude.{slice_get}
use Rattle.std.proofs.lemmas.Bool.{cases_Bool, eqb-true, and_parts}
use Rattle.std.proofs.lemmas.List.{length-append}
use Rattle.adya_terms.specs.declared.own_writes.Chain.{Chain}
use Rattle.adya_terms.specs.declared.own_writes.Row.{Row}
use Rattle.adya_terms.specs.Machinery.Tables.{Own}
use Rattle.adya_terms.specs.Machinery.Chains.{chain_passes, longer, look, row, row_at, row_passes, walk, AreFew, AreLinked}

-- ---- looking through a chain

module _ (rows : List Row) (k : ℕ) where
  pub walk_ends : (n link : ℕ) → row_at rows link ≡ None → walk rows k n link ≡ None
  walk_ends zero link none = refl
  walk_ends (suc n) link none = ap (λ o. look k o (walk rows k n)) none

  pub walk_finds : (n link : ℕ) (r : Row) → row_at rows link ≡ Some r → (r.key == k) ≡ true → walk rows k (suc n) link ≡ Some r.at
  walk_finds n link r at hit = ap (λ o. look k o (walk rows k n)) at ∙ rw hit refl

  pub walk_goes_on : (n link : ℕ) (r : Row) → row_at rows link ≡ Some r → (r.key == k) ≡ false → walk rows k (suc n) link ≡ walk rows k n r.before
  walk_goes_on n link r at miss = ap (λ o. look k o (walk rows k n)) at ∙ rw miss refl

-- ---- a test of all keys of a chain

module _ (rows : List Row) (test : ℕ → Bool) where
  -- it holds of each key that is found
  pub passes_found : (n link : ℕ) → chain_passes rows test n link ≡ true → (k at : ℕ) → walk rows k n link ≡ Some at → test k ≡ true
  passes_found zero link pass k at found = absurd cc
  passes_found (suc n) link pass k at found = by_row (row_at rows link) pass found (λ before. passes_found n before)
    where
      by_row : (o : Option Row) → row_passes test o (chain_passes rows test n) ≡ true → look k o (walk rows k n) ≡ Some at
          → ((before : ℕ) → chain_passes rows test n before ≡ true → (j p : ℕ) → walk rows j n before ≡ Some p → test j ≡ true)
          → test k ≡ true
      by_row None pass found next = absurd cc
      by_row (Some r) pass found next =
          let both = and_parts _ _ pass in
          elim (cases_Bool (r.key == k)) [
            | inl hit ↦ subst (λ j. test j ≡ true) (eqb-true r.key k hit) both.0
            | inr miss ↦ next r.before both.1 k at (rw miss at found)
          ]

  pub passes_ends : (n link : ℕ) → row_at rows link ≡ None → chain_passes rows test n link ≡ true
  passes_ends zero link none = refl
  passes_ends (suc n) link none = ap (λ o. row_passes test o (chain_passes rows test n)) none

  pub passes_goes_on : (n link : ℕ) (r : Row) → row_at rows link ≡ Some r → test r.key ≡ true
      → chain_passes rows test (suc n) link ≡ chain_passes rows test n r.before
  passes_goes_on n link r at pass = ap (λ o. row_passes test o (chain_passes rows test n)) at ∙ rw pass refl

  pub passes_fails : (n link : ℕ) (r : Row) → row_at rows link ≡ Some r → test r.key ≡ false → chain_passes rows test (suc n) link ≡ false
  passes_fails n link r at fails = ap (λ o. row_passes test o (chain_passes rows test n)) at ∙ rw fails refl

  -- if it doesn't hold of all, it doesn't hold of some number
  pub fails_somewhere : (n link : ℕ) → chain_passes rows test n link ≡ false → (k : ℕ) × (test k ≡ false)
  fails_somewhere zero link fails = absurd cc
  fails_somewhere (suc n) link fails = by_row (row_at rows link) fails (λ before. fails_somewhere n before)
    where
      by_row : (o : Option Row) → row_passes test o (chain_passes rows test n) ≡ false
          → ((before : ℕ) → chain_passes rows test n before ≡ false → (k : ℕ) × (test k ≡ false)) → (k : ℕ) × (test k ≡ false)
      by_row None fails next = absurd cc
      by_row (Some r) fails next =
          elim (cases_Bool (test r.key)) [
            | inl pass ↦ next r.before (rw pass at fails)
            | inr here ↦ (r.key, here)
          ]

-- ---- one row more

get_before : {X : Type 0} (xs : List X) (y : X) (i : ℕ) → i < length xs → slice_get (xs ++ y ∷ []) i ≡ slice_get xs i
get_before [] y i less = absurd (omega (arith, less))
get_before (x ∷ xs) y zero less = refl
get_before (x ∷ xs) y (suc i) less = get_before xs y i (omega (arith, less))

get_end : {X : Type 0} (xs : List X) (y : X) → slice_get (xs ++ y ∷ []) (length xs) ≡ Some y
get_end [] y = refl
get_end (x ∷ xs) y = get_end xs y

abbrev Has : {X : Type 0} → (X → Type 0) → Option X → Type 0
Has P None = Unit {0}
Has P (Some x) = P x

get_any : {X : Type 0} (P : X → Type 0) (xs : List X) (y : X) → ((i : ℕ) (x : X) → slice_get xs i ≡ Some x → P x) → P y
    → (i : ℕ) (x : X) → slice_get (xs ++ y ∷ []) i ≡ Some x → P x
get_any P [] y each here zero x at = subst (Has P) at here
get_any P [] y each here (suc i) x at = absurd cc
get_any P (z ∷ xs) y each here zero x at = each zero x at
get_any P (z ∷ xs) y each here (suc i) x at = get_any P xs y (λ j. each (suc j)) here i x at

look_stays : (k : ℕ) (o : Option Row) (f g : ℕ → Option ℕ) → ((x : Row) → o ≡ Some x → f x.before ≡ g x.before) → look k o f ≡ look k o g
look_stays k None f g same = refl
look_stays k (Some x) f g same =
    elim (cases_Bool (x.key == k)) [
      | inl hit ↦ rw hit refl
      | inr miss ↦ rw miss (same x refl)
    ]

module _ (rows : List Row) (r : Row) (k keys : ℕ)
    (linked : (i : ℕ) (x : Row) → slice_get rows i ≡ Some x → (x.before ≤ length rows) × (x.key < keys)) where
  -- chains of these rows stay as they were
  pub walk_stays : (n link : ℕ) → link ≤ length rows → walk (rows ++ r ∷ []) k n link ≡ walk rows k n link
  walk_stays zero link within = refl
  walk_stays (suc n) zero within = refl
  walk_stays (suc n) (suc i) within =
      ap (λ o. look k o (walk (rows ++ r ∷ []) k n)) (get_before rows r i (omega (arith, within)))
      ∙ look_stays k (slice_get rows i) (walk (rows ++ r ∷ []) k n) (walk rows k n)
      (λ x at. walk_stays n x.before (linked i x at).0)

-- the place of the last write of a key in the longer chain
pub walk_longer : (rows : List Row) (chain : Chain) (at j k keys : ℕ)
    → ((i : ℕ) (x : Row) → slice_get rows i ≡ Some x → (x.before ≤ length rows) × (x.key < keys)) → chain.last ≤ length rows
    → walk (rows ++ row at chain.last j ∷ []) k (suc chain.len) (suc (length rows)) ≡ cond (j == k) (Some at) (walk rows k chain.len chain.last)
walk_longer rows chain at j k keys linked within =
    let last : Row = row at chain.last j in
    let new : List Row = rows ++ last ∷ [] in
    let here : row_at new (suc (length rows)) ≡ Some last = get_end rows last in
    elim (cases_Bool (j == k)) [
      | inl hit ↦ walk_finds new k chain.len (suc (length rows)) last here hit ∙ rw hit refl
      | inr miss ↦
          walk_goes_on new k chain.len (suc (length rows)) last here miss
          ∙ walk_stays rows last k keys linked chain.len chain.last within
          ∙ rw miss refl
    ]

-- the row of a number is one of the rows
pub row_among : {P : Row → Type 0} (rows : List Row) → ((i : ℕ) (x : Row) → slice_get rows i ≡ Some x → P x) → (link : ℕ) (r : Row) → row_at rows link ≡ Some r → P r
row_among rows each zero r at = absurd cc
row_among rows each (suc i) r at = each i r at

-- ---- the chains of all transactions

pub longer_is : (chain : Chain) (rows : List Row) (len last : ℕ) → len ≡ suc chain.len → last ≡ suc (length rows)
    → record { len = len; last = last } ≡ longer chain rows
longer_is chain rows len last more end = rw (more, end) refl

module _ (keys : ℕ) (old new : ℕ → Chain) (rows : List Row) (at key : ℕ) (t : ℕ) (numbered : key < keys) (linked : AreLinked keys old rows) where
  more : (n : ℕ) → n ≤ length rows → n ≤ length (rows ++ row at (old t).last key ∷ [])
  more n within = let long = length-append rows (row at (old t).last key ∷ []) in omega (arith, within, long)

  rows_more : (i : ℕ) (r : Row) → slice_get (rows ++ row at (old t).last key ∷ []) i ≡ Some r
      → (r.before ≤ length (rows ++ row at (old t).last key ∷ [])) × (r.key < keys)
  rows_more = get_any (λ r. (r.before ≤ length (rows ++ row at (old t).last key ∷ [])) × (r.key < keys)) rows (row at (old t).last key)
      (λ i r is. (more r.before (linked.rows_in i r is).0, (linked.rows_in i r is).1)) (more (old t).last (linked.chains_in t), numbered)

  pub linked_stays : ((u : ℕ) → new u ≡ old u) → AreLinked keys new (rows ++ row at (old t).last key ∷ [])
  linked_stays same = record {
    chains_in = λ u. rw (same u) (more (old u).last (linked.chains_in u));
    rows_in = rows_more;
  }

  pub linked_longer : ((u : ℕ) → new u ≡ cond (t == u) (longer (old t) rows) (old u))
      → AreLinked keys new (rows ++ row at (old t).last key ∷ [])
  linked_longer set = record {
    chains_in = λ u. elim (cases_Bool (t == u)) [
      | inl here ↦ rw (set u, here) (let long = length-append rows (row at (old t).last key ∷ []) in omega (arith, long))
      | inr other ↦ rw (set u, other) (more (old u).last (linked.chains_in u))
    ];
    rows_in = rows_more;
  }

pub few_longer : (room : ℕ) (old new : ℕ → Chain) (later : Own → Option ℕ) (rows : List Row) (t : ℕ) → AreFew room old later → (old t).len < room
    → ((u : ℕ) → new u ≡ cond (t == u) (longer (old t) rows) (old u)) → AreFew room new later
few_longer room old new later rows t few short set q less =
    elim (cases_Bool (t == q.txn)) [
      | inl here ↦ few q (subst (λ u. (old u).len < room) (eqb-true t q.txn here) short)
      | inr other ↦ few q (rw (set q.txn, other) at less)
    ]
