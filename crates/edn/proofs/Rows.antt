-- What is open, and the forms that it has.
use Rattle.std.proofs.Common.{◌≡◌, ℕ, zero, suc, ◌+◌, ◌%◌, ◌==◌, ◌≤◌, ◌<◌, true, List, [], ◌∷◌, ◌++◌, length, take, drop, reverse, Some, None, Ok, Err, refl, sym, ap, ◌∙◌, arith}
use Rattle.std.proofs.lemmas.List.{append-nil, append_assoc, reverse-append}
use Rattle.std.proofs.Math.Nat.{add-mod_right}
use Rattle.edn.specs.declared.builder.Open.{Open}
use Rattle.edn.specs.declared.builder.Open.TheVariants.{Top, Tag, Meta, Discard, Row as Row_}
use Rattle.edn.specs.declared.tape.Node.{Node}
use Rattle.edn.specs.declared.tape.Node.TheVariants.{Atom, End}
use Rattle.edn.specs.declared.tape.Row.{Row}
use Rattle.edn.specs.declared.tape.Row.TheVariants as Of
use Rattle.edn.specs.Meaning.Forms.{Form}
use Rattle.edn.specs.Meaning.Keys.{name_in}
use Rattle.edn.specs.Meaning.Names.{Namespace}
use Rattle.edn.specs.declared.read_fault.Problem.TheVariants.{NoValue}
use Rattle.edn.specs.declared.token.Closing.TheVariants.{Curly}
use Rattle.edn.specs.Meaning.Tapes.{collection, first_of, forms_back, paired}
use Rattle.edn.specs.Machinery.Frames.{is_map}
use Rattle.edn.specs.Machinery.Tapes.{is_fit}
use Rattle.edn.specs.Computing.Building.{Frame, in_map, frames, into_frame, into_map, into_stack, close, or_top, put, row_frame, unpaired, width}
use Rattle.edn.proofs.Tapes.{length_back, length_drop, length_front}

pub length_frames : (os : List Open) (fs : List Form) → length (frames os fs) ≡ length os
length_frames [] fs = refl
length_frames (Top n ∷ os) fs = ap suc (length_frames os (drop n fs))
length_frames (Tag ∷ os) fs = ap suc (length_frames os fs)
length_frames (Meta ∷ os) fs = ap suc (length_frames os fs)
length_frames (Discard ∷ os) fs = ap suc (length_frames os fs)
length_frames (Row_ row n ∷ os) fs = ap suc (length_frames os (drop (width row n) fs))

-- each form ends with a node
pub forms_within : (xs : List Node) → length (forms_back xs) ≤ length xs
forms_within [] = omega arith
forms_within (Atom a ∷ xs) = let less = forms_within xs in omega (arith, less)
forms_within (End row n start ∷ xs) =
    let less = forms_within xs in
    let left = length_drop n (forms_back xs) in
    omega (arith, less, left)

-- ---- one form more

map_more : (namespace : Namespace) (ps : List (Form × Form)) (xs : List Form) (f : Form)
    → in_map namespace (ps ++ paired (xs ++ f ∷ [])) (unpaired (xs ++ f ∷ []))
    ≡ into_map (in_map namespace (ps ++ paired xs) (unpaired xs)) f
map_more namespace ps [] f = refl
map_more namespace ps (k ∷ []) f = ap (λ qs. in_map namespace (qs ++ (k, f) ∷ []) None) (sym (append-nil ps))
map_more namespace ps (k ∷ v ∷ xs) f =
    ap (λ qs. in_map namespace qs (unpaired (xs ++ f ∷ []))) (sym (append_assoc ps ((k, v) ∷ []) (paired (xs ++ f ∷ []))))
    ∙ map_more namespace (ps ++ (k, v) ∷ []) xs f
    ∙ ap (λ qs. into_map (in_map namespace qs (unpaired xs)) f) (append_assoc ps ((k, v) ∷ []) (paired xs))

row_more : (row : Row) (xs : List Form) (f : Form) (outer : List Frame) → width row zero ≤ length xs
    → into_frame (row_frame row xs) outer f ≡ (row_frame row (xs ++ f ∷ []) ∷ outer, None)
row_more Of.List xs f outer some = refl
row_more Of.Vector xs f outer some = refl
row_more Of.Set xs f outer some = refl
row_more Of.Map xs f outer some = ap (λ frame. (frame ∷ outer, None)) (sym (map_more None [] xs f))
row_more Of.NamespacedMap [] f outer some = absurd (omega (arith, some))
row_more Of.NamespacedMap (x ∷ xs) f outer some =
    ap (λ frame. (frame ∷ outer, None)) (sym (map_more (Some (name_in x)) [] xs f))

width_least : (row : Row) (n : ℕ) → width row zero ≤ width row n
width_least Of.List n = omega arith
width_least Of.Vector n = omega arith
width_least Of.Set n = omega arith
width_least Of.Map n = omega arith
width_least Of.NamespacedMap n = omega arith

pub width_beyond : (row : Row) (n : ℕ) → n ≤ width row n
width_beyond Of.List n = omega arith
width_beyond Of.Vector n = omega arith
width_beyond Of.Set n = omega arith
width_beyond Of.Map n = omega arith
width_beyond Of.NamespacedMap n = omega arith

pub width_more : (row : Row) (n : ℕ) → suc (width row n) ≡ width row (n + 1)
width_more Of.List n = omega arith
width_more Of.Vector n = omega arith
width_more Of.Set n = omega arith
width_more Of.Map n = omega arith
width_more Of.NamespacedMap n = omega arith

pub row_counts : (row : Row) (n : ℕ) (os : List Open) (fs : List Form) → width row n < length fs
    → into_stack (frames (Row_ row n ∷ os) (drop 1 fs)) (first_of fs)
    ≡ (row_frame row (reverse (take (width row (n + 1)) fs)) ∷ frames os (drop (width row (n + 1)) fs), None)
row_counts row n os [] some = absurd (omega (arith, some))
row_counts row n os (f ∷ fs) some =
    let k = width row n in
    let within : k ≤ length fs = omega (arith, some) in
    let many : length (reverse (take k fs)) ≡ k = length_back (take k fs) ∙ sym (length_front k fs within) in
    let least = width_least row n in
    row_more row (reverse (take k fs)) f (frames os (drop k fs)) (omega (arith, many, least))
    ∙ ap (λ xs. (row_frame row xs ∷ frames os (drop k fs), None)) (sym (reverse-append (f ∷ []) (take k fs)))
    ∙ ap (λ m. (row_frame row (reverse (take m (f ∷ fs))) ∷ frames os (drop m (f ∷ fs)), None)) (width_more row n)

-- ---- a last key without a value

two_more : (n : ℕ) → suc (suc n) % 2 ≡ n % 2
two_more n = ap (λ k. k % 2) (let same : suc (suc n) ≡ n + 2 = omega arith in same) ∙ add-mod_right n 2

pub unpaired_odd : (xs : List Form) → length xs % 2 ≡ 1 → (k : Form) × (unpaired xs ≡ Some k)
unpaired_odd [] odd = absurd cc
unpaired_odd (k ∷ []) odd = (k, refl)
unpaired_odd (k ∷ v ∷ xs) odd = unpaired_odd xs (sym (two_more (length xs)) ∙ odd)

pub unpaired_even : (xs : List Form) → (length xs % 2 ≡ 1 → ⊥) → unpaired xs ≡ None
unpaired_even [] even = refl
unpaired_even (k ∷ []) even = absurd (even refl)
unpaired_even (k ∷ v ∷ xs) even = unpaired_even xs (λ odd. even (two_more (length xs) ∙ odd))

-- a map, with a namespace or without, that lacks a value, and one that has them all
module _ (n : ℕ) (outer : List Frame) where
  frame_lacks : (row : Row) (xs : List Form) → is_map row ≡ true → length xs ≡ width row n → n % 2 ≡ 1
      → close (row_frame row xs ∷ outer) Curly ≡ Err NoValue
  frame_lacks Of.List xs map many odd = absurd (cc)
  frame_lacks Of.Vector xs map many odd = absurd (cc)
  frame_lacks Of.Set xs map many odd = absurd (cc)
  frame_lacks Of.Map xs map many odd =
      let key = unpaired_odd xs (ap (λ k. k % 2) many ∙ odd) in
      ap (λ o. close (in_map None (paired xs) o ∷ outer) Curly) key.1
  frame_lacks Of.NamespacedMap [] map many odd = absurd (cc)
  frame_lacks Of.NamespacedMap (x ∷ xs) map many odd =
      let same : length xs ≡ n = omega (arith, many) in
      let key = unpaired_odd xs (ap (λ k. k % 2) same ∙ odd) in
      ap (λ o. close (in_map (Some (name_in x)) (paired xs) o ∷ outer) Curly) key.1

  frame_closes : (row : Row) (xs : List Form) → is_map row ≡ true → length xs ≡ width row n → (n % 2 ≡ 1 → ⊥)
      → close (row_frame row xs ∷ outer) Curly ≡ Ok (put (or_top outer) (collection row xs))
  frame_closes Of.List xs map many even = absurd (cc)
  frame_closes Of.Vector xs map many even = absurd (cc)
  frame_closes Of.Set xs map many even = absurd (cc)
  frame_closes Of.Map xs map many even =
      ap (λ o. close (in_map None (paired xs) o ∷ outer) Curly)
      (unpaired_even xs (λ odd. even (ap (λ k. k % 2) (sym many) ∙ odd)))
  frame_closes Of.NamespacedMap [] map many even = absurd (cc)
  frame_closes Of.NamespacedMap (x ∷ xs) map many even =
      let same : length xs ≡ n = omega (arith, many) in
      ap (λ o. close (in_map (Some (name_in x)) (paired xs) o ∷ outer) Curly)
      (unpaired_even xs (λ odd. even (ap (λ k. k % 2) (sym same) ∙ odd)))

module _ (row : Row) (n : ℕ) (os : List Open) (fs : List Form) (map : is_map row ≡ true) (within : width row n ≤ length fs) where
  many : length (reverse (take (width row n) fs)) ≡ width row n
  many = length_back (take (width row n) fs) ∙ sym (length_front (width row n) fs within)

  pub map_lacks : n % 2 ≡ 1 → close (frames (Row_ row n ∷ os) fs) Curly ≡ Err NoValue
  map_lacks odd = frame_lacks n (frames os (drop (width row n) fs)) row (reverse (take (width row n) fs)) map many odd

  pub map_closes : (n % 2 ≡ 1 → ⊥) → close (frames (Row_ row n ∷ os) fs) Curly
      ≡ Ok (put (or_top (frames os (drop (width row n) fs))) (collection row (reverse (take (width row n) fs))))
  map_closes even = frame_closes n (frames os (drop (width row n) fs)) row (reverse (take (width row n) fs)) map many even

pub map_fits : (row : Row) (n : ℕ) → is_map row ≡ true → (n % 2 ≡ 1 → ⊥) → is_fit row (width row n) ≡ true
map_fits Of.List n map even = refl
map_fits Of.Vector n map even = refl
map_fits Of.Set n map even = refl
map_fits Of.Map n map even = let none : n % 2 ≡ 0 = omega (arith, even) in ap (λ k. k == 0) none
map_fits Of.NamespacedMap n map even = let one : suc n % 2 ≡ 1 = omega (arith, even) in ap (λ k. k == 1) one
