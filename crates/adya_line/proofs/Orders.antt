-- What is read is the line's order, and each order is read from its line.
use Rattle.std.proofs.Common.{◌≡◌, ℕ, zero, suc, ◌<◌, ◌≤◌, false, get_or, List, [], ◌∷◌, ◌++◌, length, Option, Some}
use Rattle.std.proofs.Common.{None, refl, sym, ap, ◌∙◌, append_assoc, arith}
use Rattle.std.specs.Prelude.{decimal, codes}
use Rattle.std.specs.Char.{is_ascii_digit}
use Rattle.std.specs.List.{flat_map, AllByRecursion}
use Rattle.std.proofs.lemmas.List.Concat.{flat_map-cons}
use Rattle.std.proofs.lemmas.List.{length-append, append-nil}
use Rattle.adya_keys.specs.Meaning.Keys.{is_key_byte, IsTxn}
use Rattle.adya_values.specs.Meaning.Histories.{Order}
use Rattle.adya_line.specs.Meaning.Spelling.{later_text, writers_text, order_text}
use Rattle.adya_line.specs.Meaning.Limits.{IsOrder}
use Rattle.adya_line.specs.Computing.Reading.{◌>>=◌, after, writer_at, later_at, writers_at, order_at, with_front}
use Rattle.adya_line.proofs.LineParts.{Only, found, then, weaken, ended, if_then, if_after, after_takes, txn_takes}
use Rattle.adya_line.proofs.LineParts.{txn_again, key_between_takes, key_between_again}

-- ---- what is read is shorter

pub writer_takes : (bytes : List ℕ) → Only (writer_at bytes) (λ x. (bytes ≡ 60 ∷ (decimal x.0 ++ x.1)) × IsTxn x.0)
unfolding writer_at
writer_takes bytes =
    then (after_takes 60 bytes) (λ (rest : List ℕ) a.
    weaken (txn_takes rest) (λ (t : ℕ × List ℕ) h. (a ∙ ap (λ (x : List ℕ). 60 ∷ x) h.0, h.1)))

pub writer_shorter : (bytes rest : List ℕ) (t : ℕ) → writer_at bytes ≡ Some (t, rest) → length rest < length bytes
writer_shorter bytes rest t is =
    let h = (writer_takes bytes).holds in
    let g = rw is at h in
    rw g.0 (omega (arith, length-append (decimal t) rest))

pub after_shorter : (byte : ℕ) (bytes rest : List ℕ) → after byte bytes ≡ Some rest → length rest < length bytes
after_shorter byte bytes rest is =
    let h = (after_takes byte bytes).holds in
    let g = rw is at h in
    rw g (omega arith)

-- ---- the loop

-- what was read, and what is still read, however many more numbers may come
pub record IsOn (front : List ℕ) (bytes : List ℕ) (total : Option (List ℕ × List ℕ)) : Type 0 where
  pub fuel : ℕ
  pub enough : length bytes ≤ fuel
  pub so_far : with_front front (later_at fuel bytes) ≡ total

regroup : (front : List ℕ) (t : ℕ) (read : Option (List ℕ × List ℕ))
    → with_front front (read >>= λ x. Some (t ∷ x.0, x.1)) ≡ with_front (front ++ t ∷ []) read
regroup front t (Some x) = ap (λ (ts : List ℕ). Some (ts, x.1)) (sym (append_assoc front (t ∷ []) x.0))
regroup front t None = refl

goes_on_at : (front : List ℕ) (bytes rest after_t : List ℕ) (t : ℕ) (total : Option (List ℕ × List ℕ)) (k : ℕ)
    → after 60 bytes ≡ Some rest → writer_at rest ≡ Some (t, after_t)
    → length bytes ≤ k → with_front front (later_at k bytes) ≡ total → IsOn (front ++ t ∷ []) after_t total
unfolding later_at
goes_on_at front bytes rest after_t t total zero mark one enough so_far =
    absurd (omega (arith, after_shorter 60 bytes rest mark))
goes_on_at front bytes rest after_t t total (suc k) mark one enough so_far =
    let step : later_at (suc k) bytes ≡ (later_at k after_t >>= λ x. Some (t ∷ x.0, x.1)) = rw (mark, one) refl in
    record {
      fuel = k;
      enough = omega (arith, after_shorter 60 bytes rest mark, writer_shorter rest after_t t one);
      so_far = sym (regroup front t (later_at k after_t)) ∙ sym (ap (with_front front) step) ∙ so_far;
    }

fails_at : (front : List ℕ) (bytes rest : List ℕ) (total : Option (List ℕ × List ℕ)) (k : ℕ)
    → after 60 bytes ≡ Some rest → writer_at rest ≡ None → length bytes ≤ k
    → with_front front (later_at k bytes) ≡ total → total ≡ None
unfolding later_at
fails_at front bytes rest total zero mark none enough so_far = absurd (omega (arith, after_shorter 60 bytes rest mark))
fails_at front bytes rest total (suc k) mark none enough so_far =
    let step : later_at (suc k) bytes ≡ None = rw (mark, none) refl in
    sym so_far ∙ ap (with_front front) step

is_done_at : (front : List ℕ) (bytes : List ℕ) (total : Option (List ℕ × List ℕ)) (k : ℕ) → after 60 bytes ≡ None
    → with_front front (later_at k bytes) ≡ total → total ≡ Some (front, bytes)
unfolding later_at
is_done_at front bytes total zero none so_far = sym so_far ∙ ap (λ (ts : List ℕ). Some (ts, bytes)) (append-nil front)
is_done_at front bytes total (suc k) none so_far =
    let step : later_at (suc k) bytes ≡ Some ([], bytes) = rw none refl in
    sym so_far ∙ ap (with_front front) step ∙ ap (λ (ts : List ℕ). Some (ts, bytes)) (append-nil front)

pub goes_on : (front : List ℕ) (bytes rest after_t : List ℕ) (t : ℕ) (total : Option (List ℕ × List ℕ))
    → after 60 bytes ≡ Some rest → writer_at rest ≡ Some (t, after_t)
    → IsOn front bytes total → IsOn (front ++ t ∷ []) after_t total
goes_on front bytes rest after_t t total mark one on =
    goes_on_at front bytes rest after_t t total on.fuel mark one on.enough on.so_far

pub fails : (front : List ℕ) (bytes rest : List ℕ) (total : Option (List ℕ × List ℕ)) → after 60 bytes ≡ Some rest
    → writer_at rest ≡ None → IsOn front bytes total → total ≡ None
fails front bytes rest total mark none on = fails_at front bytes rest total on.fuel mark none on.enough on.so_far

pub is_done : (front : List ℕ) (bytes : List ℕ) (total : Option (List ℕ × List ℕ)) → after 60 bytes ≡ None
    → IsOn front bytes total → total ≡ Some (front, bytes)
is_done front bytes total none on = is_done_at front bytes total on.fuel none on.so_far

-- ---- the text, nested to the right

abbrev pub later_then : List ℕ → List ℕ → List ℕ
later_then [] rest = rest
later_then (t ∷ ts) rest = 60 ∷ (60 ∷ (decimal t ++ later_then ts rest))

nest_later : (a b rest : List ℕ) → codes "<<" ++ a ++ b ++ rest ≡ 60 ∷ (60 ∷ (a ++ (b ++ rest)))
nest_later a b rest = simp append_assoc

later_then-is : (ts rest : List ℕ) → flat_map later_text ts ++ rest ≡ later_then ts rest
later_then-is [] rest = refl
later_then-is (t ∷ ts) rest =
    ap (λ (x : List ℕ). x ++ rest) (flat_map-cons later_text t ts) ∙
    (nest_later (decimal t) (flat_map later_text ts) rest ∙ ap (λ (x : List ℕ). 60 ∷ (60 ∷ (decimal t ++ x)))
    (later_then-is ts rest))

abbrev writers_then : List ℕ → List ℕ → List ℕ
writers_then [] rest = rest
writers_then (t ∷ ts) rest = decimal t ++ later_then ts rest

writers_then-is : (ts rest : List ℕ) → writers_text ts ++ rest ≡ writers_then ts rest
writers_then-is [] rest = refl
writers_then-is (t ∷ ts) rest = append_assoc (decimal t) (flat_map later_text ts) rest ∙ ap
    (λ (x : List ℕ). decimal t ++ x) (later_then-is ts rest)

abbrev order_then : Order → List ℕ → List ℕ
order_then o rest = 91 ∷ (o.key ++ (58 ∷ writers_then o.writers (93 ∷ rest)))

nest_order : (a b : List ℕ) → codes "[" ++ a ++ codes ":" ++ b ++ codes "]" ≡ 91 ∷ (a ++ (58 ∷ (b ++ (93 ∷ []))))
nest_order a b = simp append_assoc

order_then-is : (o : Order) → order_text o ≡ order_then o []
unfolding order_text
order_then-is o = nest_order o.key (writers_text o.writers) ∙ ap (λ (x : List ℕ). 91 ∷ (o.key ++ (58 ∷ x)))
    (writers_then-is o.writers (93 ∷ []))

-- ---- what is read is spelled so

later_takes : (n : ℕ) (bytes : List ℕ)
    → Only (later_at n bytes) (λ x. (bytes ≡ later_then x.0 x.1) × AllByRecursion IsTxn x.0)
unfolding later_at
later_takes zero bytes = found ([], bytes) (refl, tt)
later_takes (suc n) bytes =
    if_after 60 bytes (found ([], bytes) (refl, tt)) (λ mark m.
    then (writer_takes mark) (λ (one : ℕ × List ℕ) o.
    then (later_takes n one.1) (λ (others : List ℕ × List ℕ) h.
    found (one.0 ∷ others.0, others.1) (
      rw (m, o.0) (ap (λ (x : List ℕ). 60 ∷ (60 ∷ (decimal one.0 ++ x))) h.0),
      (o.1, h.1),
    ))))

writers_takes : (bytes : List ℕ)
    → Only (writers_at bytes) (λ x. (bytes ≡ writers_then x.0 x.1) × (0 < length x.0) × AllByRecursion IsTxn x.0)
unfolding writers_at
writers_takes bytes =
    then (txn_takes bytes) (λ (first : ℕ × List ℕ) f.
    then (later_takes (length first.1) first.1) (λ (later : List ℕ × List ℕ) l.
    found (first.0 ∷ later.0, later.1) (
      rw f.0 (ap (λ (x : List ℕ). decimal first.0 ++ x) l.0),
      omega arith,
      (f.1, l.1),
    )))

pub order_takes : (line : List ℕ) → Only (order_at line) (λ o. (line ≡ order_text o) × IsOrder o)
unfolding order_at
order_takes line =
    then (key_between_takes 91 58 line) (λ (key : List ℕ × List ℕ) k.
    then (writers_takes key.1) (λ (writers : List ℕ × List ℕ) w.
    then (after_takes 93 writers.1) (λ (end : List ℕ) n.
    if_then _ _ (λ e.
    let o : Order = record { key = key.0; writers = writers.0 } in
    let same : line ≡ order_then o [] = rw (k.0, w.0, n, ended end e) refl in
    (same ∙ sym (order_then-is o), record { key = k.1; some = w.1; writers = w.2 })))))

-- ---- each order is read from its text

no_digit : (ts rest : List ℕ) → is_ascii_digit (get_or rest 0 0) ≡ false
    → is_ascii_digit (get_or (later_then ts rest) 0 0) ≡ false
no_digit [] rest stop = stop
no_digit (t ∷ ts) rest stop = refl

later_again : (ts : List ℕ) (n : ℕ) (rest : List ℕ) → AllByRecursion IsTxn ts → after 60 rest ≡ None
    → is_ascii_digit (get_or rest 0 0) ≡ false → length (later_then ts rest) ≤ n
    → later_at n (later_then ts rest) ≡ Some (ts, rest)
unfolding later_at writer_at after
later_again [] zero rest is none stop enough = refl
later_again [] (suc n) rest is none stop enough = rw none refl
later_again (t ∷ ts) zero rest is none stop enough = absurd (omega arith)
later_again (t ∷ ts) (suc n) rest is none stop enough =
    rw (
      txn_again t (later_then ts rest) is.0 (no_digit ts rest stop),
      later_again ts n rest is.1 none stop (omega (arith, length-append (decimal t) (later_then ts rest))),
    ) refl

writers_again : (ts rest : List ℕ) → 0 < length ts → AllByRecursion IsTxn ts → after 60 rest ≡ None
    → is_ascii_digit (get_or rest 0 0) ≡ false → writers_at (writers_then ts rest) ≡ Some (ts, rest)
unfolding writers_at
writers_again [] rest some is none stop = absurd (omega arith)
writers_again (t ∷ ts) rest some is none stop =
    rw (
      txn_again t (later_then ts rest) is.0 (no_digit ts rest stop),
      later_again ts (length (later_then ts rest)) rest is.1 none stop (omega arith),
    ) refl

pub order_again : (o : Order) → IsOrder o → order_at (order_text o) ≡ Some o
unfolding order_at after is_key_byte
order_again o is =
    rw (
      order_then-is o,
      key_between_again 91 58 o.key (writers_then o.writers (93 ∷ [])) is.key refl,
      writers_again o.writers (93 ∷ []) is.some is.writers refl refl,
    ) refl
