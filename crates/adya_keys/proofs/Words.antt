-- Of two texts the one whose first bytes form the lesser number comes first.
use Rattle.std.proofs.Common.{◌≡◌, ◌∙◌, ℕ, zero, suc, ◌+◌, ◌*◌, ◌-◌, ◌<◌, ◌≤◌, Bool, true, List, [], ◌∷◌, ◌++◌, length, take, replicate, Ordering, Less, Equal, Greater, refl, sym, ap, subst, arith, inl, inr}
use Rattle.std.specs.Prelude.{◌==◌, ◌&&◌, ◌||◌, nat_le, nat_lt}
use Rattle.std.specs.List.{list_all}
use Rattle.std.specs.Cmp.{nat_cmp_is}
use Rattle.std.specs.Cmp.Lexicographic.{slice_cmp}
use Rattle.std.specs.Ordering.{is_lt, nat_cmp, ordering_then}
use Rattle.std.proofs.Math.Bool.{false≢true}
use Rattle.std.proofs.lemmas.Bool.{and_from, and_parts, cases_lt, eqb-true, leb-true, lt-ltb, ltb-true, or_cases}
use Rattle.std.proofs.lemmas.List.{length-take-le}
use Rattle.std.proofs.lemmas.Cmp.{nat_list_cmp_total, tied_itself}
use Rattle.adya_keys.specs.Meaning.Keys.{is_key, is_key_byte, is_within}
use Rattle.adya_keys.specs.Machinery.Padded.{length-padded, padded, padded_back, IsText}
use Rattle.adya_keys.specs.Machinery.Words.{first_word, number_from}

-- ---- one byte after the other

abbrev is_byte : ℕ → Bool
is_byte b = nat_lt b 256

less_first : (x y : ℕ) (o : Ordering) → x < y → ordering_then (nat_cmp x y) o ≡ Less
less_first x y o l = ap (λ r. ordering_then r o) (sym (nat_cmp_is x y Less l))

more_first : (x y : ℕ) (o : Ordering) → y < x → ordering_then (nat_cmp x y) o ≡ Greater
more_first x y o l = ap (λ r. ordering_then r o) (sym (nat_cmp_is x y Greater l))

same_first : (x y : ℕ) (o : Ordering) → x ≡ y → ordering_then (nat_cmp x y) o ≡ o
same_first x y o e = ap (λ r. ordering_then r o) (sym (nat_cmp_is x y Equal e))

less_not_equal : Equal ≡ Less → ⊥
less_not_equal e = false≢true (ap is_lt e)

less_not_greater : Greater ≡ Less → ⊥
less_not_greater e = false≢true (ap is_lt e)

-- ---- numbers of as many bytes

rises : (n m : ℕ) (xs ys : List ℕ) → length xs ≡ length ys → list_all is_byte xs ≡ true → n < m → number_from n xs < number_from m ys
rises n m [] [] e f l = l
rises n m [] (y ∷ ys) e f l = absurd (omega (arith, e))
rises n m (x ∷ xs) [] e f l = absurd (omega (arith, e))
rises n m (x ∷ xs) (y ∷ ys) e f l =
    let (here, rest) = and_parts (is_byte x) _ f in
    let small : x < 256 = ltb-true x 256 here in
    rises (n * 256 + x) (m * 256 + y) xs ys (omega (arith, e)) rest (omega (arith, l, small))

less_number : (n : ℕ) (xs ys : List ℕ) → length xs ≡ length ys → list_all is_byte ys ≡ true → number_from n xs < number_from n ys
    → slice_cmp nat_cmp xs ys ≡ Less
less_number n [] [] e f l = absurd (omega (arith, l))
less_number n [] (y ∷ ys) e f l = refl
less_number n (x ∷ xs) [] e f l = absurd (omega (arith, e))
less_number n (x ∷ xs) (y ∷ ys) e f l =
    let (here, rest) = and_parts (is_byte y) _ f in
    let small : y < 256 = ltb-true y 256 here in
    elim (cases_lt x y) [
      | inl below ↦ less_first x y (slice_cmp nat_cmp xs ys) below
      | inr above ↦ elim (cases_lt y x) [
        | inl more ↦
            let up = rises (n * 256 + y) (n * 256 + x) ys xs (omega (arith, e)) rest (omega (arith, more)) in
            absurd (omega (arith, l, up))
        | inr still ↦
            let same : x ≡ y = omega (arith, above, still) in
            same_first x y (slice_cmp nat_cmp xs ys) same ∙
            less_number (n * 256 + y) xs ys (omega (arith, e)) rest (subst (λ z. number_from (n * 256 + z) xs < number_from (n * 256 + y) ys) same l)
      ]
    ]

-- ---- what follows a text are zeros, which are below each byte

less_text : (n i j : ℕ) (a b : List ℕ) → length a + i ≡ length b + j → slice_cmp nat_cmp (take n (a ++ replicate i 0)) (take n (b ++ replicate j 0)) ≡ Less
    → slice_cmp nat_cmp a b ≡ Less
less_text zero i j a b e l = absurd (less_not_equal l)
less_text (suc n) i j [] [] e l =
    let same : i ≡ j = omega (arith, e) in
    let zeros = take (suc n) (replicate i 0) in
    absurd (less_not_equal (sym (tied_itself nat_list_cmp_total zeros) ∙
    (ap (λ k. slice_cmp nat_cmp zeros (take (suc n) (replicate k 0))) same ∙ l)))
less_text (suc n) i j [] (y ∷ ys) e l = refl
less_text (suc n) i zero (x ∷ xs) [] e l = absurd (omega (arith, e))
less_text (suc n) i (suc j) (x ∷ xs) [] e l =
    elim (cases_lt 0 x) [
      | inl more ↦ absurd (less_not_greater (sym (more_first x 0 _ more) ∙ l))
      | inr none ↦
          let same : x ≡ 0 = omega (arith, none) in
          absurd (never_below xs (less_text n i j xs [] (omega (arith, e)) (sym (same_first x 0 _ same) ∙ l)))
    ]
  where
    never_below : (xs : List ℕ) → slice_cmp nat_cmp xs [] ≡ Less → ⊥
    never_below [] f = less_not_equal f
    never_below (x ∷ xs) f = less_not_greater f
less_text (suc n) i j (x ∷ xs) (y ∷ ys) e l =
    elim (cases_lt x y) [
      | inl below ↦ less_first x y _ below
      | inr above ↦ elim (cases_lt y x) [
        | inl more ↦ absurd (less_not_greater (sym (more_first x y _ more) ∙ l))
        | inr still ↦
            let same : x ≡ y = omega (arith, above, still) in
            same_first x y _ same ∙ less_text n i j xs ys (omega (arith, e)) (sym (same_first x y _ same) ∙ l)
      ]
    ]

-- ---- the first eight bytes of keys

key_byte : (b : ℕ) → is_key_byte b ≡ true → is_byte b ≡ true
unfolding is_key_byte
key_byte b e =
    elim (or_cases (is_within 97 122 b || is_within 48 57 b) (b == 95) e) [
      | inl other ↦ elim (or_cases (is_within 97 122 b) (is_within 48 57 b) other) [
        | inl letter ↦ lt-ltb b 256 (omega (arith, leb-true b 122 (and_parts (nat_le 97 b) (nat_le b 122) letter).1))
        | inr digit ↦ lt-ltb b 256 (omega (arith, leb-true b 57 (and_parts (nat_le 48 b) (nat_le b 57) digit).1))
      ]
      | inr line ↦ lt-ltb b 256 (omega (arith, eqb-true b 95 line))
    ]

key_bytes : (bs : List ℕ) → list_all is_key_byte bs ≡ true → list_all is_byte bs ≡ true
key_bytes [] e = refl
key_bytes (b ∷ bs) e =
    let (here, rest) = and_parts (is_key_byte b) _ e in
    and_from _ _ (key_byte b here) (key_bytes bs rest)

zero_bytes : (n i : ℕ) → list_all is_byte (take n (replicate i 0)) ≡ true
zero_bytes zero i = refl
zero_bytes (suc n) zero = refl
zero_bytes (suc n) (suc i) = zero_bytes n i

front_bytes : (n i : ℕ) (bs : List ℕ) → list_all is_byte bs ≡ true → list_all is_byte (take n (bs ++ replicate i 0)) ≡ true
front_bytes zero i bs e = refl
front_bytes (suc n) i [] e = zero_bytes (suc n) i
front_bytes (suc n) i (b ∷ bs) e =
    let (here, rest) = and_parts (is_byte b) _ e in
    and_from _ _ here (front_bytes n i bs rest)

-- of two keys in their arrays
less_word : (a b : List ℕ) → is_key a ≡ true → is_key b ≡ true → first_word (padded 32 a) < first_word (padded 32 b) → slice_cmp nat_cmp a b ≡ Less
less_word a b good fine l =
    let (sized, bytes) = and_parts (nat_lt 0 (length b) && nat_le (length b) 32) (list_all is_key_byte b) fine in
    let (limits, letters) = and_parts (nat_lt 0 (length a) && nat_le (length a) 32) (list_all is_key_byte a) good in
    let room : length b ≤ 32 = leb-true (length b) 32 (and_parts (nat_lt 0 (length b)) (nat_le (length b) 32) sized).1 in
    let room_too : length a ≤ 32 = leb-true (length a) 32 (and_parts (nat_lt 0 (length a)) (nat_le (length a) 32) limits).1 in
    let eight : (xs : List ℕ) → length xs ≡ 32 → length (take 8 xs) ≡ 8 = λ xs n. length-take-le 8 xs (omega (arith, n)) in
    less_text 8 (32 - length a) (32 - length b) a b (omega (arith, room, room_too))
    (less_number 0 (take 8 (padded 32 a)) (take 8 (padded 32 b))
    (eight (padded 32 a) (length-padded 32 a room_too) ∙ sym (eight (padded 32 b) (length-padded 32 b room)))
    (front_bytes 8 (32 - length b) b (key_bytes b bytes)) l)

pub less_array : (bytes cells : List ℕ) (m n : ℕ) → IsText 32 is_key bytes m → IsText 32 is_key cells n → first_word bytes < first_word cells
    → slice_cmp nat_cmp (take m bytes) (take n cells) ≡ Less
less_array bytes cells m n x y l =
    let own = (padded_back 32 bytes m x.full x.room x.rest).0 in
    let other = (padded_back 32 cells n y.full y.room y.rest).0 in
    less_word (take m bytes) (take n cells) x.good y.good
    (subst (λ bs. first_word (padded 32 (take m bytes)) < first_word bs) (sym other) (subst (λ bs. first_word bs < first_word cells) (sym own) l))
