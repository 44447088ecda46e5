-- What is within lists: parts that stay where they are when something is added, and keys by their numbers.
use Rattle.std.proofs.Common.{◌≡◌, ◌∙◌, ℕ, zero, suc, ◌+◌, ◌<◌, ◌≤◌, Bool, true, List, [], ◌∷◌, ◌++◌, map, take, drop, length, Some, slice_get, sym, ap, subst, refl, append_assoc, append-nil, arith}
use Rattle.std.specs.Prelude.{nat_lt}
use Rattle.std.specs.List.{list_all}
use Rattle.std.proofs.Math.Seq.{drop-append_seam, take-length}
use Rattle.std.proofs.lemmas.List.{drop-append-le, drop-map, get_or_append_left, length-append, length-drop, take-append-le, take-map}
use Rattle.std.proofs.lemmas.Option.{get_or_from_slice_get, none-some, same_Some, slice_get_within}
use Rattle.std.proofs.lemmas.Bool.{and_from, and_parts, lt-ltb, ltb-true}
use Rattle.adya_keys.specs.Meaning.Keys.{Key}
use Rattle.adya_keys.specs.Machinery.Within.{key_at, part, IsFront}

pub last_part : {A : Type 0} (b x : List A) → part (length b) (length x) (b ++ x) ≡ x
last_part b x = ap (take (length x)) (drop-append_seam b x) ∙ take-length x

pub part-map : {A B : Type 0} (f : A → B) (at n : ℕ) (xs : List A) → part at n (map f xs) ≡ map f (part at n xs)
part-map f at n xs = ap (take n) (drop-map f at xs) ∙ take-map f n (drop at xs)

pub front_trans : {A : Type 0} (xs ys zs : List A) → IsFront xs ys → IsFront ys zs → IsFront xs zs
front_trans xs ys zs f g = (f.0 ++ g.0, g.1 ∙ (ap (λ l. l ++ g.0) f.1 ∙ append_assoc xs f.0 g.0))

pub front_same : {A : Type 0} (xs ys : List A) → ys ≡ xs → IsFront xs ys
front_same xs ys e = ([], e ∙ sym (append-nil xs))

-- a part that is there stays
pub part_stays : {A : Type 0} (at n : ℕ) (xs more : List A) → at + n ≤ length xs → part at n (xs ++ more) ≡ part at n xs
part_stays at n xs more l =
    ap (take n) (drop-append-le at xs more (omega (arith, l))) ∙
    take-append-le n (drop at xs) more (omega (arith, l, length-drop at xs))

-- the key that was found under a number
pub record IsKeyAt (ks : List Key) (n : ℕ) (k : Key) : Type 0 where
  pub there : nat_lt n (length ks) ≡ true
  pub key : key_at ks n ≡ k

pub found_key : (ks : List Key) (n : ℕ) (k : Key) → slice_get ks n ≡ Some k → IsKeyAt ks n k
found_key ks n k e = record {
  there = lt-ltb n (length ks) (slice_get_within ks n k e);
  key = get_or_from_slice_get ks n k [] e;
}

pub key_stays : (ks more : List Key) (n : ℕ) → nat_lt n (length ks) ≡ true → IsKeyAt (ks ++ more) n (key_at ks n)
key_stays ks more n e =
    let l : n < length ks = ltb-true n (length ks) e in
    record {
      there = lt-ltb n (length (ks ++ more)) (omega (arith, l, length-append ks more));
      key = get_or_append_left ks more [] n l;
    }

-- the same of a longer list
pub key_stays_in : (ks longer : List Key) → IsFront ks longer → (n : ℕ) (k : Key) → IsKeyAt ks n k → IsKeyAt longer n k
key_stays_in ks longer front n k at =
    let still = key_stays ks front.0 n at.there in
    subst (λ xs. IsKeyAt xs n k) (sym front.1) (record { there = still.there; key = still.key ∙ at.key })

pub slice_get_end : {A : Type 0} (xs : List A) (x : A) → slice_get (xs ++ x ∷ []) (length xs) ≡ Some x
slice_get_end [] x = refl
slice_get_end (y ∷ ys) x = slice_get_end ys x

-- ---- lists all of whose elements pass

pub all_found : {A : Type 0} (f : A → Bool) (xs : List A) (i : ℕ) (x : A) → slice_get xs i ≡ Some x → list_all f xs ≡ true → f x ≡ true
all_found f [] i x g e = absurd (none-some x g)
all_found f (y ∷ ys) zero x g e = subst (λ z. f z ≡ true) (same_Some y x g) (and_parts _ _ e).0
all_found f (y ∷ ys) (suc i) x g e = all_found f ys i x g (and_parts _ _ e).1

all_taken : {A : Type 0} (f : A → Bool) (n : ℕ) (xs : List A) → list_all f xs ≡ true → list_all f (take n xs) ≡ true
all_taken f zero xs e = refl
all_taken f (suc n) [] e = refl
all_taken f (suc n) (x ∷ xs) e =
    let (here, rest) = and_parts (f x) _ e in
    and_from _ _ here (all_taken f n xs rest)

pub all_in_part : {A : Type 0} (f : A → Bool) (at n : ℕ) (xs : List A) → list_all f xs ≡ true → list_all f (part at n xs) ≡ true
all_in_part f zero n xs e = all_taken f n xs e
all_in_part f (suc at) n [] e = all_taken f n [] e
all_in_part f (suc at) n (x ∷ xs) e = all_in_part f at n xs (and_parts _ _ e).1
