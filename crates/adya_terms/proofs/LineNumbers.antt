-- The lines of keys in an array by the numbers of the keys: one more line.
use Rattle.std.proofs.Common.{◌≡◌, ℕ, zero, suc, ◌+◌, ◌<◌, ◌≤◌, ◌++◌, true, cond, List, [], length, refl, replicate, set, Option, option_map, slice_get, slice_index, Some, None, sym, ◌∙◌, ap, subst, arith, inl, inr}
use Rattle.std.specs.List.{position_or_len}
use Rattle.std.proofs.lemmas.Bool.{cases_lt, cases_eq, lt-ltb, le-ltb}
use Rattle.std.proofs.lemmas.Grind.{get_or-set_at}
use Rattle.std.proofs.lemmas.List.{get_or-set_other, length-replicate, length-set}
use Rattle.std.proofs.lemmas.List.Sums.{passes_at_first}
use Rattle.std.proofs.lemmas.Option.{none-some, same_Some}
use mir.Syntax.{w64}
use mir.Val.{Fits}
use Rattle.lemmas.proofs.Orderings.{bytes_eq-same}
use Rattle.adya_values.specs.Meaning.Histories.{Order}
use Rattle.adya_keys.specs.Meaning.Keys.{Key, key_eq}
use Rattle.adya_keys.specs.Mirror.{number_in, AreNumbered}
use Rattle.adya_keys.specs.Machinery.Within.{key_at}
use Rattle.adya_terms.specs.Mirror.LineNumbers.{key_of, FindsLines}

abbrev line_key : List Order → ℕ → Key
line_key os i = key_of (slice_get os i)

key_is : (o : Option Order) (k : Key) → option_map (λ (x : Order). x.key) o ≡ Some k → key_of o ≡ k
key_is None k e = absurd (none-some k e)
key_is (Some o) k e = same_Some _ _ e

-- the key has the number that it is found with
pub number_found : (ks : List Key) (k : Key) (n : ℕ) → number_in ks k ≡ Some n → (n < length ks) × (key_at ks n ≡ k)
number_found ks k n e =
    let p = position_or_len (key_eq k) ks in
    elim (cases_lt p (length ks)) [
      | inl l ↦
          let same : p ≡ n = same_Some p n (sym (ap (λ b. cond b (Some p) None) (lt-ltb p (length ks) l)) ∙ e) in
          let at : key_eq k (key_at ks p) ≡ true = passes_at_first (key_eq k) ks [] l in
          (subst (λ i. i < length ks) same l, ap (key_at ks) (sym same) ∙ sym (bytes_eq-same k (key_at ks p) at))
      | inr m ↦ absurd (none-some n (sym (ap (λ b. cond b (Some p) None) (le-ltb p (length ks) m)) ∙ e))
    ]

module _ (ls : List ℕ) (ks : List Key) (numbered : AreNumbered ks) (os : List Order) (i : ℕ) (key : Key)
    (is : option_map (λ (x : Order). x.key) (slice_get os i) ≡ Some key) (had : FindsLines ls ks os i) where
  at : line_key os i ≡ key
  at = key_is (slice_get os i) key is

  -- the line is of no key with another number
  apart : (k : ℕ) → k < length ks → line_key os i ≡ key_at ks k → number_in ks key ≡ Some k
  apart k m same = ap (number_in ks) (sym at ∙ same) ∙ numbered k m

  pub none_more : number_in ks key ≡ None → FindsLines ls ks os (i + 1)
  none_more none = record {
    count = had.count;
    found = λ k j m e. let was = had.found k j m e in let low = was.0 in (omega (arith, low), was.1);
    missing = λ k m e j less same. elim (cases_lt j i) [
      | inl low ↦ had.missing k m e j low same
      | inr high ↦
          let here : j ≡ i = omega (arith, less, high) in
          none-some k (sym none ∙ apart k m (ap (line_key os) (sym here) ∙ same))
    ];
  }

  module _ (n : ℕ) (number : number_in ks key ≡ Some n) where
    found_here : (n < length ks) × (key_at ks n ≡ key)
    found_here = number_found ks key n number

    abbrev put : List ℕ
    put = set ls n (i + 1)

    here : (k : ℕ) → k ≡ n → slice_index put k ≡ i + 1
    here k same = let m = found_here.0 in let c = had.count in get_or-set_at ls n k (i + 1) 0 same (omega (arith, m, c))

    found : (k j : ℕ) → k < length ks → slice_index put k ≡ suc j → (j < i + 1) × (line_key os j ≡ key_at ks k)
    found k j m e =
        elim (cases_eq k n) [
          | inl same ↦
              let at_i : j ≡ i = let is = here k same in omega (arith, e, is) in
              (omega (arith, at_i), ap (line_key os) at_i ∙ (at ∙ (sym found_here.1 ∙ ap (key_at ks) (sym same))))
          | inr other ↦
              let was = had.found k j m (sym (get_or-set_other ls n k (i + 1) 0 other) ∙ e) in
              let low = was.0 in
              (omega (arith, low), was.1)
        ]

    missing : (k : ℕ) → k < length ks → slice_index put k ≡ 0 → (j : ℕ) → j < i + 1 → line_key os j ≡ key_at ks k → ⊥
    missing k m e j less same =
        elim (cases_eq k n) [
          | inl this ↦ let is = here k this in omega (arith, e, is)
          | inr other ↦
              elim (cases_lt j i) [
                | inl low ↦ had.missing k m (sym (get_or-set_other ls n k (i + 1) 0 other) ∙ e) j low same
                | inr high ↦
                    let at_i : j ≡ i = omega (arith, less, high) in
                    other (same_Some k n (sym (apart k m (ap (line_key os) (sym at_i) ∙ same)) ∙ number))
              ]
        ]

    pub one_more : FindsLines (set ls n (i + 1)) ks os (i + 1)
    one_more = record { count = length-set ls n (i + 1) ∙ had.count; found = found; missing = missing }

zero_at : (n k : ℕ) → slice_index (replicate n 0) k ≡ 0
zero_at zero k = refl
zero_at (suc n) zero = refl
zero_at (suc n) (suc k) = zero_at n k

-- before any line
pub none_found : (ls xs : List ℕ) (ks : List Key) (os : List Order) (n : ℕ) → ls ≡ xs ++ replicate n 0 → xs ≡ [] → n ≡ length ks
    → FindsLines ls ks os 0
none_found ls xs ks os n is empty count =
    let zeros : ls ≡ replicate n 0 = is ∙ ap (λ us. us ++ replicate n 0) empty in
    let none : (k : ℕ) → slice_index ls k ≡ 0 = λ k. ap (λ us. slice_index us k) zeros ∙ zero_at n k in
    record {
      count = ap length zeros ∙ (length-replicate n 0 ∙ count);
      found = λ k i m e. let z = none k in absurd (omega (arith, z, e));
      missing = λ k m e i none. absurd (omega (arith, none));
    }

pub fits_number : (k n : ℕ) (ks : List Key) → k < length ks → n ≡ length ks → n < 4294967296 → Fits w64 k
fits_number k n ks less count near = omega (arith, less, count, near)

pub all_seen : (i n m : ℕ) → i ≤ n → n ≤ i → n ≡ m → i ≡ m
all_seen i n m upto past same = omega (arith, upto, past, same)
