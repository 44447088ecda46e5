-- Where the forms of a tape begin.
use Rattle.std.proofs.Common.{◌≡◌, ℕ, zero, suc, ◌+◌, ◌-◌, ◌≤◌, true, List, [], ◌∷◌, ◌++◌, length, take, drop, reverse, refl, sym, ap, ◌∙◌, arith}
use Rattle.std.specs.Prelude.{slice_index_or}
use Rattle.std.proofs.lemmas.Bool.{and_parts, eqb-true}
use Rattle.std.proofs.lemmas.List.{length-append, reverse-append, take-append-drop}
use Rattle.edn.specs.declared.tape.Row.{Row}
use Rattle.edn.specs.declared.tape.Node.{Node}
use Rattle.edn.specs.declared.tape.Node.TheVariants.{Atom, End}
use Rattle.edn.specs.Meaning.Forms.{Form}
use Rattle.edn.specs.Meaning.Tapes.{first_of, forms_back}
use Rattle.edn.specs.Machinery.Tapes.{are_atoms, is_fit, is_sound, skip}

-- ---- skipping forms

pub skip_zero : (xs : List Node) → skip xs 0 ≡ xs
skip_zero [] = refl
skip_zero (x ∷ xs) = refl

pub skip_add : (xs : List Node) (a b : ℕ) → skip (skip xs a) b ≡ skip xs (a + b)
skip_add [] a b = refl
skip_add (x ∷ xs) zero b = ap (skip (x ∷ xs)) (let same : b ≡ 0 + b = omega arith in same)
skip_add (Atom a' ∷ xs) (suc a) b =
    skip_add xs a b ∙ ap (skip (Atom a' ∷ xs)) (let same : suc (a + b) ≡ suc a + b = omega arith in same)
skip_add (End row m start ∷ xs) (suc a) b =
    skip_add xs (m + a) b
    ∙ ap (skip xs) (let same : m + a + b ≡ m + (a + b) = omega arith in same)
    ∙ ap (skip (End row m start ∷ xs)) (let same : suc (a + b) ≡ suc a + b = omega arith in same)

drop_none : {X : Type 0} (n : ℕ) → drop {A = X} n [] ≡ []
drop_none zero = refl
drop_none (suc n) = refl

drop_drop : {X : Type 0} (xs : List X) (m n : ℕ) → drop (m + n) xs ≡ drop n (drop m xs)
drop_drop xs zero n = ap (λ k. drop k xs) (let same : 0 + n ≡ n = omega arith in same)
drop_drop [] (suc m) n = drop_none (suc m + n) ∙ sym (drop_none n)
drop_drop (x ∷ xs) (suc m) n = ap (λ k. drop k (x ∷ xs)) (let same : suc m + n ≡ suc (m + n) = omega arith in same) ∙ drop_drop xs m n

pub forms_skip : (xs : List Node) (n : ℕ) → forms_back (skip xs n) ≡ drop n (forms_back xs)
forms_skip [] n = sym (drop_none n)
forms_skip (x ∷ xs) zero = refl
forms_skip (Atom a ∷ xs) (suc n) = forms_skip xs n
forms_skip (End row m start ∷ xs) (suc n) = forms_skip xs (m + n) ∙ drop_drop (forms_back xs) m n

pub sound_skip : (xs : List Node) (n : ℕ) → is_sound xs ≡ true → is_sound (skip xs n) ≡ true
sound_skip [] n sound = refl
sound_skip (x ∷ xs) zero sound = sound
sound_skip (Atom a ∷ xs) (suc n) sound = sound_skip xs n sound
sound_skip (End row m start ∷ xs) (suc n) sound = sound_skip xs (m + n) (and_parts _ _ sound).1

pub skip_within : (xs : List Node) (n : ℕ) → length (skip xs n) ≤ length xs
skip_within [] n = omega arith
skip_within (x ∷ xs) zero = omega arith
skip_within (Atom a ∷ xs) (suc n) = let less = skip_within xs n in omega (arith, less)
skip_within (End row m start ∷ xs) (suc n) = let less = skip_within xs (m + n) in omega (arith, less)

pub skip_atoms : (xs : List Node) (n k : ℕ) → k ≤ n → n ≤ length xs → are_atoms (take n xs) ≡ true
    → length xs - k ≡ length (skip xs k)
skip_atoms [] n k less within flat = omega arith
skip_atoms (x ∷ xs) n zero less within flat = omega arith
skip_atoms (x ∷ xs) zero (suc k) less within flat = absurd (omega (arith, less))
skip_atoms (Atom a ∷ xs) (suc n) (suc k) less within flat =
    let same = skip_atoms xs n k (omega (arith, less)) (omega (arith, within)) flat in omega (arith, same)
skip_atoms (End row m start ∷ xs) (suc n) (suc k) less within flat = absurd (cc)

-- what is left is the last part
skip_drop : (xs : List Node) (n : ℕ) → skip xs n ≡ drop (length xs - length (skip xs n)) xs
skip_drop [] n = sym (drop_none {X = Node} (0 - 0))
skip_drop (x ∷ xs) zero = ap (λ k. drop k (x ∷ xs)) (let same : 0 ≡ length (x ∷ xs) - length (x ∷ xs) = omega arith in same)
skip_drop (Atom a ∷ xs) (suc n) =
    skip_drop xs n
    ∙ ap (λ k. drop k (Atom a ∷ xs)) (let less = skip_within xs n in
    let same : suc (length xs - length (skip xs n)) ≡ suc (length xs) - length (skip xs n) = omega (arith, less) in same)
skip_drop (End row m start ∷ xs) (suc n) =
    skip_drop xs (m + n)
    ∙ ap (λ k. drop k (End row m start ∷ xs)) (let less = skip_within xs (m + n) in
    let same : suc (length xs - length (skip xs (m + n))) ≡ suc (length xs) - length (skip xs (m + n)) = omega (arith, less) in same)

-- ---- the first nodes of a list, from its other end

drop_past : {X : Type 0} (xs ys : List X) → drop (length xs) (xs ++ ys) ≡ ys
drop_past [] ys = refl
drop_past (x ∷ xs) ys = drop_past xs ys

pub length_back : {X : Type 0} (xs : List X) → length (reverse xs) ≡ length xs
length_back [] = refl
length_back (x ∷ xs) =
    ap length (reverse-append (x ∷ []) xs) ∙ length-append (reverse xs) (x ∷ [])
    ∙ (let same = length_back xs in let more : length (reverse xs) + 1 ≡ suc (length xs) = omega (arith, same) in more)

pub length_drop : {X : Type 0} (m : ℕ) (xs : List X) → length (drop m xs) ≡ length xs - m
length_drop zero xs = omega arith
length_drop (suc m) [] = omega arith
length_drop (suc m) (x ∷ xs) = length_drop m xs ∙ (let same : length xs - m ≡ suc (length xs) - suc m = omega arith in same)

take_back : {X : Type 0} (m : ℕ) (xs : List X) → reverse (take m xs) ≡ drop (length xs - m) (reverse xs)
take_back m xs =
    sym (drop_past (reverse (drop m xs)) (reverse (take m xs)))
    ∙ ap (λ k. drop k (reverse (drop m xs) ++ reverse (take m xs))) (length_back (drop m xs) ∙ length_drop m xs)
    ∙ ap (drop (length xs - m)) (sym (reverse-append (take m xs) (drop m xs)) ∙ ap reverse (take-append-drop m xs))

-- as many of the first nodes as are left after skipping are those that are left
pub take_skipped : (xs : List Node) (n : ℕ) → reverse (take (length (skip (reverse xs) n)) xs) ≡ skip (reverse xs) n
take_skipped xs n =
    take_back (length (skip (reverse xs) n)) xs
    ∙ ap (λ k. drop (k - length (skip (reverse xs) n)) (reverse xs)) (sym (length_back xs))
    ∙ sym (skip_drop (reverse xs) n)

pub length_skipped : (ys xs : List Node) (n : ℕ) → reverse ys ≡ skip (reverse xs) n → length ys ≡ length (skip (reverse xs) n)
length_skipped ys xs n same = sym (length_back ys) ∙ ap length same

-- of these nodes those are left that come before the last form
module _ (nodes left kept : List Node) (is : reverse left ≡ skip (reverse nodes) 1) (taken : kept ≡ take (length left) nodes) where
  kept_is : reverse kept ≡ skip (reverse nodes) 1
  kept_is = ap reverse taken ∙ ap (λ k. reverse (take k nodes)) (length_skipped left nodes 1 is) ∙ take_skipped nodes 1

  pub kept_sound : is_sound (reverse nodes) ≡ true → is_sound (reverse kept) ≡ true
  kept_sound sound = ap is_sound kept_is ∙ sound_skip (reverse nodes) 1 sound

  pub kept_forms : forms_back (reverse kept) ≡ drop 1 (forms_back (reverse nodes))
  kept_forms = ap forms_back kept_is ∙ forms_skip (reverse nodes) 1

-- ---- the last node

front_last : {X : Type 0} (y : X) (ys : List X) (x : X) → x ≡ slice_index_or (y ∷ ys) (length ys) x
    → y ∷ ys ≡ take (length ys) (y ∷ ys) ++ x ∷ []
front_last y [] x is = ap (λ z. z ∷ []) (sym is)
front_last y (z ∷ zs) x is = ap (λ r. y ∷ r) (front_last z zs x is)

pub back_last : {X : Type 0} (xs : List X) (x : X) → 1 ≤ length xs → x ≡ slice_index_or xs (length xs - 1) x
    → reverse xs ≡ x ∷ reverse (take (length xs - 1) xs)
back_last [] x some is = absurd (omega (arith, some))
back_last (y ∷ ys) x some is =
    let many : suc (length ys) - 1 ≡ length ys = omega arith in
    ap reverse (front_last y ys x (is ∙ ap (λ k. slice_index_or (y ∷ ys) k x) many))
    ∙ reverse-append (take (length ys) (y ∷ ys)) (x ∷ [])
    ∙ ap (λ k. x ∷ reverse (take k (y ∷ ys))) (sym many)

pub length_front : {X : Type 0} (m : ℕ) (xs : List X) → m ≤ length xs → m ≡ length (take m xs)
length_front zero xs within = refl
length_front (suc m) [] within = absurd (omega (arith, within))
length_front (suc m) (x ∷ xs) within =
    let same = length_front m xs (omega (arith, within)) in let more : suc m ≡ suc (length (take m xs)) = omega (arith, same) in more

module _ (nodes front : List Node) (row : Row) (n start : ℕ) (is : reverse nodes ≡ End row n start ∷ reverse front)
    (sound : is_sound (reverse nodes) ≡ true) where
  parts : is_sound (End row n start ∷ reverse front) ≡ true
  parts = ap is_sound (sym is) ∙ sound

  start_is : start ≡ length (skip (reverse front) n)
  start_is = eqb-true _ _ (and_parts _ _ (and_parts _ _ (and_parts _ _ parts).0).0).0

  pub end_fit : is_fit row n ≡ true
  end_fit = (and_parts _ _ (and_parts _ _ parts).0).1

  front_is : reverse (take start front) ≡ skip (reverse front) n
  front_is = ap (λ k. reverse (take k front)) start_is ∙ take_skipped front n

  pub end_before : reverse (take start front) ≡ skip (reverse nodes) 1
  end_before = front_is ∙ ap (skip (reverse front)) (let same : n ≡ n + 0 = omega arith in same) ∙ ap (λ xs. skip xs 1) (sym is)

  pub end_sound : is_sound (reverse (take start front)) ≡ true
  end_sound = ap is_sound front_is ∙ sound_skip (reverse front) n (and_parts _ _ parts).1

  pub end_within : start ≡ length (take start front)
  end_within =
      let less = skip_within (reverse front) n in
      let long = length_back front in
      let at = start_is in
      length_front start front (omega (arith, less, long, at))

-- ---- the last form of a collection

pub back_one : (fs : List Form) (k : ℕ) → 1 ≤ length fs → reverse (take (suc k) fs) ≡ reverse (take k (drop 1 fs)) ++ first_of fs ∷ []
back_one [] k some = absurd (omega (arith, some))
back_one (f ∷ fs) k some = reverse-append (f ∷ []) (take k fs)

pub length_dropped : (fs : List Form) → length (drop 1 fs) ≡ length fs - 1
length_dropped fs = length_drop 1 fs
