-- Order lines by their indexes in the list of lines.
use Rattle.std.proofs.Common.{◌≡◌, ℕ, zero, suc, ◌<◌, ◌≤◌, true, false, cond, List, [], ◌∷◌, map, length, slice_get, Option, Some, None, option_map, refl, sym, ◌∙◌, ap, arith, inl, inr, ◌≢◌, ◌-◌, ◌+◌, ◌==◌, drop, get_or}
use Rattle.std.proofs.lemmas.List.{drop_all}
use Rattle.std.proofs.lemmas.Bool.{cases_Bool, cases_eq, cases_lt, eq-eqb, ne_eqb, and_parts}
use Rattle.std.proofs.lemmas.Option.{none-some, same_Some}
use Rattle.adya_keys.proofs.Keys.{keys_rise-tail}
use Rattle.adya_values.specs.declared.history.History.{History as HistoryValue}
use Rattle.adya_values.specs.declared.orders.Orders.{Orders}
use Rattle.adya_values.specs.Meaning.Histories.{Order, History}
use Rattle.adya_keys.specs.Meaning.Keys.{key_lt, keys_rise}
use Rattle.adya_values.specs.Meaning.Orders.{place, line_of, writers, installer}
use Rattle.adya_values.specs.Mirror.Histories.{history_of, orders_in}
use Rattle.adya_values.specs.Mirror.Lines.{orders_of}
use Rattle.adya_keys.specs.Mirror.{IsBelow}
use Rattle.adya_terms.specs.Mirror.LineNumbers.{key_of}
use Rattle.lemmas.proofs.Steps.{drop_step}
use Rattle.adya_dsg.proofs.Keys.{key_eq-lt, rise_skip}
use Rattle.lemmas.proofs.Orderings.{bytes_eq-itself, bytes_lt-trans, bytes_lt-apart}

-- the orders that a history gives out are its lines
pub lent_lines : (x y : HistoryValue) (os : Orders) → y ≡ x → os ≡ orders_in y → orders_of os ≡ (history_of x).orders
lent_lines x y os same value = ap orders_of value ∙ ap (λ (z : HistoryValue). (history_of z).orders) same

-- the keys of the lines of a history rise
pub lines_rise : (h : HistoryValue) → keys_rise (map (λ (o : Order). o.key) (history_of h).orders) ≡ true
lines_rise h = (and_parts _ _ (and_parts _ _ h.shape).0).1

-- a line by what is told of it
pub key_told : (o : Option Order) (k : List ℕ) → option_map (λ (x : Order). x.key) o ≡ Some k → k ≡ key_of o
key_told None k e = absurd (none-some k e)
key_told (Some o) k e = sym (same_Some o.key k e)

abbrev line : List ℕ → List ℕ → Order
line k ws = record { key = k; writers = ws }

pub line_told : (o : Option Order) (k ws : List ℕ) → option_map (λ (x : Order). x.key) o ≡ Some k
    → option_map (λ (x : Order). x.writers) o ≡ Some ws → o ≡ Some (line k ws)
line_told None k ws e f = absurd (none-some k e)
line_told (Some o) k ws e f =
    ap (λ j. Some (line j o.writers)) (same_Some o.key k e) ∙ ap (λ xs. Some (line k xs)) (same_Some o.writers ws f)

pub place-le : (ws : List ℕ) (t : ℕ) → place ws t ≤ length ws
place-le [] t = omega arith
place-le (x ∷ ws) t =
    let rest = place-le ws t in
    elim (cases_eq x t) [
      | inl e ↦
          let here : place (x ∷ ws) t ≡ 0 = ap (λ b. cond b 0 (suc (place ws t))) (eq-eqb x t e) in
          omega (arith, here)
      | inr e ↦
          let there : place (x ∷ ws) t ≡ suc (place ws t) = ap (λ b. cond b 0 (suc (place ws t))) (ne_eqb x t e) in
          omega (arith, there, rest)
    ]

-- the key of a line among the keys
key_in : (os : List Order) (i : ℕ) → i < length os → slice_get (map (λ (o : Order). o.key) os) i ≡ Some (key_of (slice_get os i))
key_in [] i l = absurd (omega (arith, l))
key_in (o ∷ os) zero l = refl
key_in (o ∷ os) (suc i) l = key_in os i (omega (arith, l))

module _ (os : List Order) (k : List ℕ) (n : ℕ) (is : IsBelow (map (λ (o : Order). o.key) os) k n) where
  -- the first lines are below a key, as many as are counted
  pub keys_below : n ≤ length os → (i : ℕ) → i < n → key_lt (key_of (slice_get os i)) k ≡ true
  keys_below within i l = is.below i (key_of (slice_get os i)) l (key_in os i (omega (arith, l, within)))

  -- and the others aren't
  pub keys_from : (i : ℕ) → n ≤ i → i < length os → key_lt (key_of (slice_get os i)) k ≡ false
  keys_from i l m = is.others i (key_of (slice_get os i)) l (key_in os i m)

first_below : (k : List ℕ) (os : List Order) (j : ℕ) → keys_rise (k ∷ map (λ (o : Order). o.key) os) ≡ true → j < length os
    → key_lt k (key_of (slice_get os j)) ≡ true
first_below k [] j r l = absurd (omega (arith, l))
first_below k (o ∷ os) zero r l = (and_parts _ _ r).0
first_below k (o ∷ os) (suc j) r l =
    first_below k os j (rise_skip k o.key (map (λ (x : Order). x.key) os) r) (omega (arith, l))

pub rises_at : (os : List Order) → keys_rise (map (λ (o : Order). o.key) os) ≡ true → (i j : ℕ) → i < j → j < length os
    → key_lt (key_of (slice_get os i)) (key_of (slice_get os j)) ≡ true
rises_at [] r i j l m = absurd (omega (arith, m))
rises_at (o ∷ os) r i zero l m = absurd (omega (arith, l))
rises_at (o ∷ os) r zero (suc j) l m = first_below o.key os j r (omega (arith, m))
rises_at (o ∷ os) r (suc i) (suc j) l m =
    rises_at os (keys_rise-tail o.key (map (λ (x : Order). x.key) os) r) i j (omega (arith, l)) (omega (arith, m))

-- each line is that of its key
pub writers_at : (os : List Order) → keys_rise (map (λ (o : Order). o.key) os) ≡ true → (i : ℕ) → i < length os
    → (ws : List ℕ) → option_map (λ (o : Order). o.writers) (slice_get os i) ≡ Some ws
    → ws ≡ line_of os (key_of (slice_get os i))
writers_at [] r i l ws e = absurd (omega (arith, l))
writers_at (o ∷ os) r zero l ws e =
    sym (same_Some o.writers ws e) ∙ sym (ap (λ b. cond b o.writers (line_of os o.key)) (bytes_eq-itself o.key))
writers_at (o ∷ os) r (suc i) l ws e =
    let k = key_of (slice_get os i) in
    let below = first_below o.key os i r (omega (arith, l)) in
    writers_at os (keys_rise-tail o.key (map (λ (x : Order). x.key) os) r) i (omega (arith, l)) ws e ∙
    sym (ap (λ b. cond b o.writers (line_of os k)) (key_eq-lt o.key k below))

module _ (os : List Order) (rise : keys_rise (map (λ (o : Order). o.key) os) ≡ true) where
  abbrev at : ℕ → List ℕ
  at i = key_of (slice_get os i)

  -- a key has one line
  pub line_once : (i j : ℕ) → i < length os → j < length os → at i ≡ at j → i ≡ j
  line_once i j l m e =
      elim (cases_lt i j) [
        | inl less ↦ absurd (bytes_lt-apart _ _ (rises_at os rise i j less m) e)
        | inr from ↦
            elim (cases_lt j i) [
              | inl more ↦ absurd (bytes_lt-apart _ _ (rises_at os rise j i more l) (sym e))
              | inr upto ↦ omega (arith, from, upto)
            ]
      ]

  -- the lines before a line are below its key
  pub line_below : (k : List ℕ) (n : ℕ) → n < length os → at n ≡ k → (i : ℕ) → i < n → key_lt (at i) k ≡ true
  line_below k n within here i l = ap (key_lt (at i)) (sym here) ∙ rises_at os rise i n l within

  -- and those after it are above it
  pub line_above : (k : List ℕ) (n : ℕ) → at n ≡ k → (i : ℕ) → n < i → i < length os → key_lt k (at i) ≡ true
  line_above k n here i l m = ap (λ j. key_lt j (at i)) (sym here) ∙ rises_at os rise n i l m

  -- and from it on they aren't
  pub line_from : (k : List ℕ) (n : ℕ) → at n ≡ k → (i : ℕ) → n ≤ i → i < length os → key_lt (at i) k ≡ false
  line_from k n here i l m =
      elim (cases_Bool (key_lt (at i) k)) [
        | inl below ↦ elim (cases_lt n i) [
          | inl before ↦
              let above = line_above k n here i before m in
              absurd (bytes_lt-apart k k (bytes_lt-trans k (at i) k above below) refl)
          | inr more ↦
              let same : i ≡ n = omega (arith, l, more) in
              absurd (bytes_lt-apart (at i) k below (ap at same ∙ here))
        ]
        | inr not ↦ not
      ]

-- the installer of a version that isn't the unborn one
pub installer_after : (h : History) (k : List ℕ) (p : ℕ) → p ≢ 0 → slice_get (writers h k) (p - 1) ≡ installer h k p
installer_after h k zero is = absurd (is refl)
installer_after h k (suc p) is = let e : suc p - 1 ≡ p = omega arith in ap (slice_get (writers h k)) e

-- a search for a place, at the writer of a turn and past the last
module _ (ws : List ℕ) (t i : ℕ) (before : place ws t ≡ i + place (drop i ws) t) where
  module _ (x : ℕ) (l : i < length ws) (is : x ≡ get_or ws i x) where
    here : place (drop i ws) t ≡ cond (x == t) 0 (suc (place (drop (i + 1) ws) t))
    here = ap (λ zs. place zs t) (drop_step ws i x l is)

    pub place_found : (x == t) ≡ true → i ≡ place ws t
    place_found e =
        let none : place (drop i ws) t ≡ 0 = here ∙ ap (λ b. cond b 0 (suc (place (drop (i + 1) ws) t))) e in
        omega (arith, before, none)

    pub place_passed : (x == t) ≡ false → place ws t ≡ (i + 1) + place (drop (i + 1) ws) t
    place_passed e =
        let more : place (drop i ws) t ≡ suc (place (drop (i + 1) ws) t) =
        here ∙ ap (λ b. cond b 0 (suc (place (drop (i + 1) ws) t))) e in
        omega (arith, before, more)

  pub place_past : i ≤ length ws → length ws ≤ i → length ws ≡ place ws t
  place_past l m =
      let none : place (drop i ws) t ≡ 0 = ap (λ zs. place zs t) (drop_all i ws m) in
      omega (arith, before, none, l, m)
