-- What the first bytes of a text decide.
use Rattle.std.proofs.Common.{◌≡◌, ◌≢◌, ◌⊎◌, ◌==◌, ℕ, Bool, true, false, not, ◌+◌, ◌-◌, ◌<◌, ◌≤◌, List, [], ◌∷◌, ◌++◌, length, take, drop, Option, Some, None, refl, sym, ap, subst, ◌∙◌, inl, inr, append_assoc, arith}
use Rattle.std.specs.Prelude.{if◌then◌else◌, nat_eq, slice_index, slice_range}
use Rattle.std.specs.Cmp.Lexicographic.{pointwise, same_text}
use Rattle.std.specs.Io.KnownBytes.{Consumes, IsAtEnd, prepend_known}
use Rattle.std.proofs.Math.Seq.{take-append-add, take-append_seam}
use Rattle.std.proofs.lemmas.Bool.{cases_Bool, eqb-false, eqb-true}
use Rattle.std.proofs.lemmas.List.{append-nil, drop_at, drop-append-le, drop-take, length-drop, length-take, length-take-le, take-append-le, take_all, take_at}
use Rattle.std.proofs.lemmas.Option.{same_Some}
use Rattle.edn.specs.declared.reader.Reader.{Reader}
use Rattle.edn.specs.Meaning.Texts.{HasRead}
use Rattle.append_text.specs.declared.text_form.TextForm.{TextForm}
use Rattle.append_text.specs.Meaning.Notations.{after_blanks, after_mark, begins_object, begins_objects, begins_with, is_blank, is_json, mark, notation_in, notation_of}
use Rattle.append_text.specs.Machinery.Telling.{Decides, begins_key}

blanks_more : (xs more : List ℕ) (b : ℕ) (bs : List ℕ) → after_blanks xs ≡ b ∷ bs → after_blanks (xs ++ more) ≡ b ∷ (bs ++ more)
blanks_more [] more b bs is = absurd cc
blanks_more (x ∷ xs) more b bs is = elim (cases_Bool (is_blank x)) [
  | inl blank ↦ rw blank (blanks_more xs more b bs (rw blank at is))
  | inr other ↦ rw other (ap (λ r. r ++ more) (rw other at is))
]

-- a test of what follows white space
pub through_blanks : (test : List ℕ → Bool) (xs ys : List ℕ) (form : Option TextForm) → after_blanks xs ≡ ys
    → Decides test ys form → Decides (λ t. test (after_blanks t)) xs form
through_blanks test xs ys None is none = ap test is ∙ none
through_blanks test xs [] (Some f) is some = λ more. some (after_blanks (xs ++ more))
through_blanks test xs (b ∷ bs) (Some f) is some = λ more.
    some more ∙ ap (λ r. notation_of (test r)) (sym (blanks_more xs more b bs is))

-- what the first byte behind the white space decides
pub key_decided : (text begun : List ℕ) (f : TextForm) → begun ≡ after_blanks text → 1 ≤ length begun
    → f ≡ notation_of (slice_index begun 0 == 34) → (more : List ℕ) → f ≡ notation_of (begins_key (text ++ more))
key_decided text [] f is some told = absurd (omega arith)
key_decided text (b ∷ bs) f is some told = λ more.
    told ∙ ap (λ r. notation_of (begins_with 34 r)) (sym (blanks_more text more b bs (sym is)))

array_at : (bs : List ℕ) (form : Option TextForm) → Decides (λ t. begins_object (after_blanks t)) bs form
    → Decides begins_objects (91 ∷ bs) form
array_at bs None decides = decides
array_at bs (Some f) decides = decides

pub array_decided : (text begun inner : List ℕ) (form : Option TextForm) → begun ≡ after_blanks text → 1 ≤ length begun
    → slice_index begun 0 ≡ 91 → inner ≡ after_blanks (slice_range begun 1 (length begun))
    → Decides begins_object inner form
    → Decides is_json text form
array_decided text [] inner form is some at goes_on decides = absurd (omega arith)
array_decided text (b ∷ bs) inner form is some at goes_on decides =
    through_blanks begins_objects text (b ∷ bs) form (sym is) (subst (λ x. Decides begins_objects (x ∷ bs) form) (sym at)
    (array_at bs form (through_blanks begins_object bs inner form
    (sym (goes_on ∙ ap after_blanks (take_all (length (b ∷ bs) - 1) bs (omega arith)))) decides)))

other_at : (b : ℕ) (bs : List ℕ) (form : Option TextForm) → (b == 91) ≡ false → Decides begins_object (b ∷ bs) form
    → Decides begins_objects (b ∷ bs) form
other_at b bs None other decides = rw other decides
other_at b bs (Some f) other decides = λ more. rw other (decides more)

pub other_decided : (text begun : List ℕ) (form : Option TextForm) → begun ≡ after_blanks text → 1 ≤ length begun
    → slice_index begun 0 ≢ 91 → Decides begins_object begun form → Decides is_json text form
other_decided text [] form is some at decides = absurd (omega arith)
other_decided text (b ∷ bs) form is some at decides = elim (cases_Bool (b == 91)) [
  | inl same ↦ absurd (at (eqb-true b 91 same))
  | inr other ↦ through_blanks begins_objects text (b ∷ bs) form (sym is) (other_at b bs form other decides)
]

-- ---- buffers

-- a part of a list, and what was written behind it
pub pending_more : (xs buf : List ℕ) (start end n : ℕ) → start ≤ end → end ≤ length xs
    → slice_range (take end xs ++ buf) start (end + n) ≡ slice_range xs start end ++ take n buf
pending_more xs buf start end n ordered within =
    let front : List ℕ = drop start (take end xs) in
    let long : length (take end xs) ≡ end = length-take-le end xs within in
    let room : end - start + n ≡ end + n - start = omega arith in
    let rest : start + (end - start) ≡ end = omega arith in
    let part : front ≡ take (end - start) (drop start xs) =
    ap (λ k. drop start (take k xs)) (sym rest) ∙ drop-take start (end - start) xs in
    let many : length front ≡ end - start = length-drop start (take end xs) ∙ ap (λ k. k - start) long in
    let le : start ≤ length (take end xs) = omega (arith, long) in
    ap (take (end + n - start)) (drop-append-le start (take end xs) buf le)
    ∙ ap (λ k. take k (front ++ buf)) (sym room ∙ ap (λ k. k + n) (sym many)) ∙ take-append-add front buf n
    ∙ ap (λ r. r ++ take n buf) part

-- the text that is left goes on as before
pub text_kept : (pending got : List ℕ) (old new : Option (List ℕ)) (text : List ℕ) → Consumes old new got
    → prepend_known pending old ≡ Some text → prepend_known (pending ++ got) new ≡ Some text
text_kept pending got None new text consumes is = absurd cc
text_kept pending got (Some xs) None text consumes is = absurd consumes
text_kept pending got (Some xs) (Some ys) text consumes is =
    ap (λ r. Some r) (append_assoc pending got ys ∙ ap (λ r. pending ++ r) (sym consumes)) ∙ is

-- what the text is written in, once the bytes that were read decide it
pub known_text : (pending : List ℕ) (left : Option (List ℕ)) (text : List ℕ) → prepend_known pending left ≡ Some text
    → (rest : List ℕ) × (left ≡ Some rest) × (text ≡ pending ++ rest)
known_text pending None text is = absurd cc
known_text pending (Some rest) text is = (rest, refl, sym (same_Some (pending ++ rest) text is))

pub told_form : (pending : List ℕ) (left : Option (List ℕ)) (text : List ℕ) (f : TextForm) → length pending ≤ 8192
    → prepend_known pending left ≡ Some text → ((more : List ℕ) → f ≡ notation_of (is_json (pending ++ more)))
    → f ≡ notation_in text
told_form pending left text f short is decides =
    let (rest, goes_on, all) = known_text pending left text is in
    let room : length pending + (8192 - length pending) ≡ 8192 = omega arith in
    decides (take (8192 - length pending) rest)
    ∙ ap (λ r. notation_of (is_json r)) (sym (ap (take 8192) all ∙ ap (λ k. take k (pending ++ rest)) (sym room)
    ∙ take-append-add pending rest (8192 - length pending)))

-- a buffer that is full, or that holds the whole text, holds its first bytes
pub first_bytes : (pending : List ℕ) (left : Option (List ℕ)) (text : List ℕ) → prepend_known pending left ≡ Some text
    → length pending ≤ 8192 → (8192 ≤ length pending) ⊎ IsAtEnd left → take 8192 text ≡ pending
first_bytes pending left text is short all = by (known_text pending left text is) all
  where
    by : ((rest : List ℕ) × (left ≡ Some rest) × (text ≡ pending ++ rest)) → (8192 ≤ length pending) ⊎ IsAtEnd left
        → take 8192 text ≡ pending
    by (rest, goes_on, is) (inl full) =
        let many : length pending ≡ 8192 = omega arith in
        ap (take 8192) is ∙ ap (λ k. take k (pending ++ rest)) (sym many) ∙ take-append_seam pending rest
    by (rest, goes_on, is) (inr end) =
        let none : rest ≡ [] = subst IsAtEnd goes_on end in
        ap (take 8192) (is ∙ ap (λ r. pending ++ r) none ∙ append-nil pending) ∙ take_all 8192 pending short

pub told_none : (pending : List ℕ) (left : Option (List ℕ)) (text : List ℕ) → prepend_known pending left ≡ Some text
    → length pending ≤ 8192 → (8192 ≤ length pending) ⊎ IsAtEnd left → is_json pending ≡ false → notation_of false ≡ notation_in text
told_none pending left text is short all none =
    ap notation_of (sym none) ∙ ap (λ r. notation_of (is_json r)) (sym (first_bytes pending left text is short all))

-- what a read writes behind the bytes that are pending
behind : (xs buf post : List ℕ) (start end n : ℕ) → start ≤ end → end ≤ length xs → n ≤ length buf
    → slice_range (take end xs ++ (buf ++ post)) start (end + n) ≡ slice_range xs start end ++ take n buf
behind xs buf post start end n ordered within few =
    pending_more xs (buf ++ post) start end n ordered within
    ∙ ap (λ r. slice_range xs start end ++ r) (take-append-le n buf post few)

pub read_kept : (xs buf post : List ℕ) (start end n : ℕ) (old new : Option (List ℕ)) (text : List ℕ) → start ≤ end
    → end ≤ length xs → n ≤ length buf → Consumes old new (take n buf) → prepend_known (slice_range xs start end) old ≡ Some text
    → prepend_known (slice_range (take end xs ++ (buf ++ post)) start (end + n)) new ≡ Some text
read_kept xs buf post start end n old new text ordered within few consumes is =
    subst (λ p. prepend_known p new ≡ Some text) (sym (behind xs buf post start end n ordered within few))
    (text_kept (slice_range xs start end) (take n buf) old new text consumes is)

pub read_none : (xs buf post : List ℕ) (start end n most : ℕ) (new : Option (List ℕ)) → start ≤ end → most ≤ length xs
    → n ≤ length buf → end ≤ most → length buf ≡ most - end → (n ≡ 0 → 0 < length buf → IsAtEnd new) → not (n == 0) ≡ false
    → (slice_range (take end xs ++ (buf ++ post)) start (end + n) ≡ slice_range xs start end)
    × ((length (slice_range xs start end) + start ≡ most) ⊎ IsAtEnd new)
read_none xs buf post start end n most new ordered all few room long at_end none =
    let zero : n ≡ 0 = is_zero n none in
    let within : end ≤ length xs = omega (arith, all, room) in (
      behind xs buf post start end n ordered within few ∙ ap (λ k. slice_range xs start end ++ take k buf) zero
          ∙ append-nil (slice_range xs start end),
      elim (cases_Bool (end == most)) [
        | inl full ↦ inl (let here = eqb-true end most full in let e = length-take (end - start) (drop start xs) in
            let d = length-drop start xs in omega (arith, e, d, here, all, ordered))
        | inr other ↦ inr (at_end zero (let apart = eqb-false end most other in omega (arith, apart, long, room)))
      ],
    )
  where
    is_zero : (n : ℕ) → not (n == 0) ≡ false → n ≡ 0
    is_zero n none = elim (cases_Bool (n == 0)) [
      | inl same ↦ eqb-true n 0 same
      | inr other ↦ absurd (let e : true ≡ false = rw other at none in cc)
    ]

pub pending_short : (xs : List ℕ) (start end : ℕ) → end ≤ 8192 → length (slice_range xs start end) ≤ 8192
pending_short xs start end room = let e = length-take (end - start) (drop start xs) in omega (arith, e)

pub full_or_end : (pending : List ℕ) (start : ℕ) (left : Option (List ℕ)) → start ≡ 0
    → (length pending + start ≡ 8192) ⊎ IsAtEnd left → (8192 ≤ length pending) ⊎ IsAtEnd left
full_or_end pending start left zero (inr at_end) = inr at_end
full_or_end pending start left zero (inl full) = inl (omega (arith, zero, full))

-- a buffer that holds nothing yet
pub nothing_pending : (pending : List ℕ) (left : Option (List ℕ)) (text : List ℕ) → pending ≡ [] → left ≡ Some text
    → prepend_known pending left ≡ Some text
nothing_pending pending left text none is = ap (prepend_known pending) is ∙ ap (λ p. Some (p ++ text)) none

-- what is left of a text that was begun is read as the whole text
pub begun_text : (text pending : List ℕ) (r : Reader) (left : Option (List ℕ)) → prepend_known pending left ≡ Some text
    → ((rest : List ℕ) → HasRead (pending ++ rest) [] r (Some rest)) → HasRead text [] r left
begun_text text pending r left is begins = by (known_text pending left text is)
  where
    by : ((rest : List ℕ) × (left ≡ Some rest) × (text ≡ pending ++ rest)) → HasRead text [] r left
    by (rest, goes_on, all) =
        subst (λ t. HasRead t [] r left) (sym all) (subst (HasRead (pending ++ rest) [] r) (sym goes_on) (begins rest))

-- ---- a byte order mark

chosen : (b : Bool) (xs ys : List ℕ) → b ≡ true → (if b then xs else ys) ≡ xs
chosen true xs ys is = refl
chosen false xs ys is = absurd cc

not_chosen : (b : Bool) (xs ys : List ℕ) → b ≡ false → (if b then xs else ys) ≡ ys
not_chosen true xs ys is = absurd cc
not_chosen false xs ys is = refl

-- three bytes are pending, which are the mark
pub mark_taken : (pending none : List ℕ) (left : Option (List ℕ)) (text : List ℕ) → prepend_known pending left ≡ Some text
    → length pending ≡ 3 → pointwise nat_eq pending mark ≡ true → none ≡ [] → prepend_known none left ≡ Some (after_mark text)
mark_taken pending none left text is three same empty =
    let (rest, goes_on, all) = known_text pending left text is in
    let first : take 3 text ≡ pending = ap (take 3) all ∙ take_at pending rest 3 three in
    let behind : drop 3 text ≡ rest = ap (drop 3) all ∙ drop_at pending rest 3 three in
    ap (prepend_known none) goes_on ∙ ap (λ p. Some (p ++ rest)) empty
    ∙ ap (λ r. Some r) (sym (chosen (pointwise nat_eq (take 3 text) mark) (drop 3 text) text
    (ap (λ p. pointwise nat_eq p mark) first ∙ same) ∙ behind))

-- or aren't
pub mark_missing : (pending : List ℕ) (left : Option (List ℕ)) (text : List ℕ) → prepend_known pending left ≡ Some text
    → length pending ≡ 3 → pointwise nat_eq pending mark ≡ false → prepend_known pending left ≡ Some (after_mark text)
mark_missing pending left text is three other =
    let (rest, goes_on, all) = known_text pending left text is in
    let first : take 3 text ≡ pending = ap (take 3) all ∙ take_at pending rest 3 three in
    is ∙ ap (λ r. Some r) (sym (not_chosen (pointwise nat_eq (take 3 text) mark) (drop 3 text) text
    (ap (λ p. pointwise nat_eq p mark) first ∙ other)))

-- the text ends before
pub mark_cut : (pending : List ℕ) (left : Option (List ℕ)) (text : List ℕ) → prepend_known pending left ≡ Some text
    → length pending < 3 → IsAtEnd left → prepend_known pending left ≡ Some (after_mark text)
mark_cut pending left text is short at_end =
    let (rest, goes_on, all) = known_text pending left text is in
    let none : rest ≡ [] = subst IsAtEnd goes_on at_end in
    let whole : text ≡ pending = all ∙ ap (λ r. pending ++ r) none ∙ append-nil pending in
    is ∙ ap (λ r. Some r) (sym (not_chosen (pointwise nat_eq (take 3 text) mark) (drop 3 text) text (apart text whole)))
  where
    apart : (text : List ℕ) → text ≡ pending → pointwise nat_eq (take 3 text) mark ≡ false
    apart text whole = elim (cases_Bool (pointwise nat_eq (take 3 text) mark)) [
      | inl same ↦ absurd (let e = ap length (same_text (take 3 text) mark (sym same)) in let t = length-take 3 text in
          let w = ap length whole in omega (arith, e, t, w, short))
      | inr other ↦ other
    ]

pub three_pending : (xs : List ℕ) (start end : ℕ) → length xs ≡ 8192 → start ≡ 0 → end ≡ 3
    → length (slice_range xs start end) ≡ 3
three_pending xs start end all zero three =
    let e = length-take (end - start) (drop start xs) in let d = length-drop start xs in omega (arith, e, d, all, zero, three)

pub few_pending : (xs : List ℕ) (start end : ℕ) → end < 3 → length (slice_range xs start end) < 3
few_pending xs start end few = let e = length-take (end - start) (drop start xs) in omega (arith, e)
