-- What is read from a list, a set or a map, and compared.
use Rattle.std.proofs.Common.{◌≡◌, ◌≢◌, ℕ, zero, suc, ◌+◌, ◌-◌, ◌<◌, ◌≤◌, ◌||◌, ◌==◌, Bool, true, false, cond, List, Option, Some, None, IfSome, is_some, length, ltb, get_or, take, Result, Ok, Err, IfOk, inl, inr, option_copied, option_map, slice_get, refl, subst, sym, ◌∙◌, ap, arith, rules}
use Rattle.std.specs.List.{list_any}
use Rattle.std.specs.Ordering.{nat_cmp, is_eq}
use Rattle.std.specs.Bool.{OnFalse, OnTrue}
use Rattle.std.specs.BTreeMap.{BTreeMap, get}
use Rattle.std.specs.Prelude.{OnErr}
use Rattle.std.proofs.lemmas.Bool.{OnFalse_from, OnTrue_from, both_ways, cases_Bool, eqb-true, le-ltb, ltb-false, ltb-true}
use Rattle.std.proofs.lemmas.Option.{none-some, same_Some, slice_get_past, slice_get_read}
use denote.Bor.{Bor}
use Rattle.lemmas.proofs.Steps.{turn_at}
use Rattle.txn_table.specs.declared.TxnTable.{TxnTable}
use Rattle.txn_table.specs.Mirror.{HasPlaces}
use Rattle.adya_values.specs.Meaning.Histories.{Order}
use Rattle.adya_terms.specs.Machinery.LinePlaces.{writers_at}
use Rattle.adya_terms.specs.Machinery.LineWriters.{AreTables}
use Rattle.adya_terms.specs.declared.own_writes.Row.{Row}
use Rattle.adya_terms.specs.Machinery.Chains.{row_at}
use Rattle.adya_terms.proofs.Tells.{any_more}

pub got : {X : Type 0} (xs : List X) (i : ℕ) (r : Option (Bor X)) → is_some r ≡ ltb i (length xs)
    → IfSome r (λ x. x.now ≡ get_or xs i x.now) → option_copied r ≡ slice_get xs i
got xs i None s v = sym (slice_get_past xs i (ltb-false i (length xs) (sym s)))
got xs i (Some x) s v = sym (slice_get_read xs (length xs) i x.now refl (ltb-true i (length xs) (sym s)) v)

-- what is found is compared with another
module _ {K : Type 0} (found : Option K) (k other : K) (is : found ≡ Some k) (same : Bool) where
  pub when_same : (same ≡ true → k ≡ other) → OnTrue same (found ≡ Some other)
  when_same law = OnTrue_from same (found ≡ Some other) (λ e. is ∙ ap Some (law e))

  pub when_other : (same ≡ false → k ≡ other → ⊥) → OnFalse same (found ≡ Some other → ⊥)
  when_other law = OnFalse_from same (found ≡ Some other → ⊥) (λ e at. law e (same_Some _ _ (sym is ∙ at)))

-- nothing is read past the end
module _ {X K : Type 0} (key : X → K) (xs : List X) (i n : ℕ) (k : K) (count : n ≡ length xs) (past : n ≤ i) where
  pub none_same : OnTrue (ltb i n) (option_map key (slice_get xs i) ≡ Some k)
  none_same = OnTrue_from (ltb i n) (option_map key (slice_get xs i) ≡ Some k) (λ e. absurd (both_ways (ltb i n) (le-ltb i n past) e))

  pub none_found : OnFalse (ltb i n) (option_map key (slice_get xs i) ≡ Some k → ⊥)
  none_found = OnFalse_from (ltb i n) (option_map key (slice_get xs i) ≡ Some k → ⊥)
      (λ e at. none-some k (sym (ap (option_map key) (slice_get_past xs i (omega (arith, count, past)))) ∙ at))

pub absent : {X P : Type 0} (xs : List X) (i n : ℕ) (x : X) → n ≡ length xs → n ≤ i → slice_get xs i ≡ Some x → P
absent xs i n x count past at = absurd (none-some x (sym (slice_get_past xs i (omega (arith, count, past))) ∙ at))

-- the row with a number that isn't 0
pub row_before : (rows : List Row) (link : ℕ) → link ≢ 0 → slice_get rows (link - 1) ≡ row_at rows link
row_before rows zero some = absurd (some refl)
row_before rows (suc i) some = let same : suc i - 1 ≡ i = omega arith in ap (slice_get rows) same

same_number : (a b : ℕ) → is_eq (nat_cmp a b) ≡ (a == b)
same_number a b = search rules

either : (b c : Bool) → cond b true c ≡ (c || b)
either true true = refl
either true false = refl
either false true = refl
either false false = refl

-- one number more is looked for
pub any_held : (ts : List ℕ) (i x t : ℕ) (had : Bool) → i < length ts → x ≡ get_or ts i x → had ≡ list_any (λ u. u == t) (take i ts)
    → cond (is_eq (nat_cmp x t)) true had ≡ list_any (λ u. u == t) (take (i + 1) ts)
any_held ts i x t had less is was =
    let turn = turn_at ts i x (slice_get_read ts (length ts) i x refl less is) in
    ap (λ b. cond b true had) (same_number x t) ∙
    (either (x == t) had ∙
    (ap (λ b. b || (x == t)) was ∙ sym (ap (list_any (λ u. u == t)) turn.front ∙ any_more (λ u. u == t) (take i ts) x)))

-- ---- one table more, if memory isn't refused

number_is : (a b : ℕ) → is_eq (nat_cmp a b) ≡ true → a ≡ b
number_is a b e = eqb-true a b (sym (same_number a b) ∙ e)

module _ (old new : BTreeMap ℕ (TxnTable ℕ)) (os : List Order) (line : ℕ) (t : TxnTable ℕ) (had : AreTables old os) (has : HasPlaces t (writers_at os line)) where
  one_more : ((q : ℕ) → get nat_cmp new q ≡ cond (is_eq (nat_cmp line q)) (Some t) (get nat_cmp old q)) → AreTables new os
  one_more law q u e =
      elim (cases_Bool (is_eq (nat_cmp line q))) [
        | inl same ↦
            let is : t ≡ u = same_Some t u (sym (law q ∙ ap (λ b. cond b (Some t) (get nat_cmp old q)) same) ∙ e) in
            subst (λ m. HasPlaces m (writers_at os q)) is (subst (λ i. HasPlaces t (writers_at os i)) (number_is line q same) has)
        | inr other ↦ had q u (sym (law q ∙ ap (λ b. cond b (Some t) (get nat_cmp old q)) other) ∙ e)
      ]

pub tables_with : {E : Type 0} (A B C : Type 0) (result : Result (Option (TxnTable ℕ)) E) (old new : BTreeMap ℕ (TxnTable ℕ)) (os : List Order) (line : ℕ)
    (t : TxnTable ℕ) → AreTables old os → HasPlaces t (writers_at os line)
    → IfOk result (λ _. ((q : ℕ) → get nat_cmp new q ≡ cond (is_eq (nat_cmp line q)) (Some t) (get nat_cmp old q)) × A × B × C)
    → OnErr result (new.entries ≡ old.entries) → AreTables new os
tables_with A B C (Ok v) old new os line t had has updates err = one_more old new os line t had has updates.0
tables_with A B C (Err f) old new os line t had has updates err =
    λ q u e. let same : get nat_cmp old q ≡ get nat_cmp new q = search rules in had q u (same ∙ e)
