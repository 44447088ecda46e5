-- What one operation more does to the transactions of a text.
use Rattle.std.proofs.Common.{◌≡◌, ℕ, ℤ, suc, Bool, true, false, cond, List, [], ◌∷◌, ◌++◌, length, Option, Some, None, option_map, refl, sym, ap, ◌∙◌, inl, inr, int_eq}
use Rattle.std.specs.Prelude.{IfSome, is_none, slice_get, slice_set}
use Rattle.std.specs.List.{find}
use Rattle.std.specs.Option.{option_or}
use Rattle.std.proofs.lemmas.Bool.{both_ways, cases_Bool}
use Rattle.std.proofs.lemmas.Bool.Decides.{Decides-int_eq}
use Rattle.append_text.specs.Meaning.Pairing.{Op, Found, is_invocation, is_of, found, invoked, last_of}
use Rattle.append_text.specs.Machinery.Pairings.{open_at}

-- ---- the next operation of a process, and the last one

find_push : (f : Op → Bool) (ops : List Op) (o : Op) → find f (ops ++ o ∷ []) ≡ option_or (find f ops) (cond (f o) (Some o) None)
find_push f [] o = refl
find_push f (x ∷ ops) o = elim (cases_Bool (f x)) [ inl holds ↦ rw holds refl | inr fails ↦ rw fails (find_push f ops o) ]

find_push_other : (f : Op → Bool) (ops : List Op) (o : Op) → f o ≡ false → find f (ops ++ o ∷ []) ≡ find f ops
find_push_other f [] o fails = rw fails refl
find_push_other f (x ∷ ops) o fails =
    elim (cases_Bool (f x)) [ inl holds ↦ rw holds refl | inr other ↦ rw other (find_push_other f ops o fails) ]

find_pushed : (f : Op → Bool) (ops : List Op) (o : Op) → f o ≡ true → is_none (find f (ops ++ o ∷ [])) ≡ false
find_pushed f [] o holds = rw holds refl
find_pushed f (x ∷ ops) o holds =
    elim (cases_Bool (f x)) [ inl here ↦ rw here refl | inr other ↦ rw other (find_pushed f ops o holds) ]

find_push_found : (f : Op → Bool) (ops : List Op) (o : Op) → is_none (find f ops) ≡ false → find f (ops ++ o ∷ []) ≡ find f ops
find_push_found f [] o some = absurd cc
find_push_found f (x ∷ ops) o some =
    elim (cases_Bool (f x)) [
      | inl here ↦ rw here refl
      | inr other ↦ rw other (find_push_found f ops o (rw other at some))
    ]

find_push_here : (f : Op → Bool) (ops : List Op) (o : Op) → is_none (find f ops) ≡ true → f o ≡ true
    → find f (ops ++ o ∷ []) ≡ Some o
find_push_here f [] o none holds = rw holds refl
find_push_here f (x ∷ ops) o none holds =
    elim (cases_Bool (f x)) [
      | inl here ↦ let some : is_none (find f (x ∷ ops)) ≡ false = rw here refl in absurd (both_ways _ some none)
      | inr other ↦ rw other (find_push_here f ops o (rw other at none) holds)
    ]

none_is : (found : Option Op) → is_none found ≡ true → found ≡ None
none_is None none = refl
none_is (Some o) none = absurd cc

last_none : (process : ℤ) (ops : List Op) → is_none (find (is_of process) ops) ≡ true → last_of process ops ≡ None
last_none process [] none = refl
last_none process (x ∷ ops) none =
    elim (cases_Bool (is_of process x)) [
      | inl here ↦
          let some : is_none (find (is_of process) (x ∷ ops)) ≡ false = rw here refl in absurd (both_ways _ some none)
      | inr other ↦ rw (other, last_none process ops (rw other at none)) refl
    ]

-- the other way round
none_last : (process : ℤ) (ops : List Op) → last_of process ops ≡ None → is_none (find (is_of process) ops) ≡ true
none_last process [] none = refl
none_last process (x ∷ ops) none = by_last (last_of process ops) refl (none_last process ops)
  where
    by_last : (last : Option Op) → last_of process ops ≡ last
        → (last_of process ops ≡ None → is_none (find (is_of process) ops) ≡ true)
        → is_none (find (is_of process) (x ∷ ops)) ≡ true
    by_last (Some l) is later = let some : Some l ≡ None = (rw is at none) in absurd cc
    by_last None is later =
        elim (cases_Bool (is_of process x)) [
          | inl here ↦ let some : Some x ≡ None = (rw (is, here) at none) in absurd cc
          | inr other ↦ rw other (later is)
        ]

-- ---- two operations of one process

same_process : (p q : ℤ) → int_eq p q ≡ true → p ≡ q
same_process p q same = (Decides-int_eq p q).0 same

is_own : (o : Op) → is_of o.label.process o ≡ true
is_own o = (Decides-int_eq o.label.process o.label.process).1 refl

-- whoever isn't of the process of an operation, of its process that operation isn't
not_of : (x o : Op) → is_of o.label.process x ≡ false → is_of x.label.process o ≡ false
not_of x o other =
    elim (cases_Bool (is_of x.label.process o)) [
      | inl same ↦ absurd (both_ways _ other
          ((Decides-int_eq o.label.process x.label.process).1 (sym (same_process _ _ same))))
      | inr fails ↦ fails
    ]

find_of : (x : Op) (process : ℤ) (ops : List Op) → is_of process x ≡ true
    → find (is_of x.label.process) ops ≡ find (is_of process) ops
find_of x process ops is = ap (λ p. find (is_of p) ops) (sym (same_process _ _ is))

-- ---- what waits for a completion

none_of_suc : (place : Option ℕ) → option_map suc place ≡ None → place ≡ None
none_of_suc None is = refl
none_of_suc (Some n) is = absurd cc

-- after an invocation of the process, by whether more operations of it follow
open_after : (process : ℤ) (x : Op) (ops : List Op) → is_invocation x ≡ true → is_of process x ≡ true
    → is_none (find (is_of process) ops) ≡ false → open_at process (x ∷ ops) ≡ option_map suc (open_at process ops)
open_after process x ops invokes own some = rw (invokes, own, some) refl

open_here : (process : ℤ) (x : Op) (ops : List Op) → is_invocation x ≡ true → is_of process x ≡ true
    → is_none (find (is_of process) ops) ≡ true → open_at process (x ∷ ops) ≡ Some 0
open_here process x ops invokes own none = rw (invokes, own, none) refl

open_beside : (process : ℤ) (x : Op) (ops : List Op) → is_invocation x ≡ true → is_of process x ≡ false
    → open_at process (x ∷ ops) ≡ option_map suc (open_at process ops)
open_beside process x ops invokes other = rw (invokes, other) refl

open_past : (process : ℤ) (x : Op) (ops : List Op) → is_invocation x ≡ false → open_at process (x ∷ ops) ≡ open_at process ops
open_past process x ops ends = rw ends refl

-- what a list says of its tail
closed_tail : (process : ℤ) (x : Op) (ops : List Op) → open_at process (x ∷ ops) ≡ None → open_at process ops ≡ None
closed_tail process x ops none =
    elim (cases_Bool (is_invocation x)) [
      | inr ends ↦ sym (open_past process x ops ends) ∙ none
      | inl invokes ↦ elim (cases_Bool (is_of process x)) [
        | inr other ↦ none_of_suc _ (sym (open_beside process x ops invokes other) ∙ none)
        | inl own ↦ elim (cases_Bool (is_none (find (is_of process) ops))) [
          | inr some ↦ none_of_suc _ (sym (open_after process x ops invokes own some) ∙ none)
          | inl last ↦ let here : Some 0 ≡ None = sym (open_here process x ops invokes own last) ∙ none in absurd cc
        ]
      ]
    ]

-- an invocation that waits for no completion has one
closed_head : (process : ℤ) (x : Op) (ops : List Op) → open_at process (x ∷ ops) ≡ None → is_invocation x ≡ true
    → is_of process x ≡ true → is_none (find (is_of process) ops) ≡ false
closed_head process x ops none invokes own =
    elim (cases_Bool (is_none (find (is_of process) ops))) [
      | inr some ↦ some
      | inl last ↦ let here : Some 0 ≡ None = sym (open_here process x ops invokes own last) ∙ none in absurd cc
    ]

pub open_push_other : (process : ℤ) (ops : List Op) (o : Op) → is_of process o ≡ false
    → open_at process (ops ++ o ∷ []) ≡ open_at process ops
open_push_other process [] o other =
    elim (cases_Bool (is_invocation o)) [ inl invokes ↦ rw (invokes, other) refl | inr ends ↦ rw ends refl ]
open_push_other process (x ∷ ops) o other =
    rw (find_push_other (is_of process) ops o other, open_push_other process ops o other) refl

pub open_push_end : (process : ℤ) (ops : List Op) (o : Op) → is_invocation o ≡ false → is_of process o ≡ true
    → open_at process (ops ++ o ∷ []) ≡ None
open_push_end process [] o ends own = rw ends refl
open_push_end process (x ∷ ops) o ends own =
    rw (find_pushed (is_of process) ops o own, open_push_end process ops o ends own)
    (elim (cases_Bool (is_invocation x)) [
      | inr past ↦ rw past refl
      | inl invokes ↦ elim (cases_Bool (is_of process x)) [ inl same ↦ rw (invokes, same) refl | inr fails ↦ rw (invokes, fails) refl ]
    ])

invoked_at : (x : Op) (ops : List Op) → is_invocation x ≡ true
    → invoked (x ∷ ops) ≡ found x (find (is_of x.label.process) ops) ∷ invoked ops
invoked_at x ops invokes = rw invokes refl

invoked_past : (x : Op) (ops : List Op) → is_invocation x ≡ false → invoked (x ∷ ops) ≡ invoked ops
invoked_past x ops ends = rw ends refl

pub open_push_invocation : (ops : List Op) (o : Op) → is_invocation o ≡ true → open_at o.label.process ops ≡ None
    → open_at o.label.process (ops ++ o ∷ []) ≡ Some (length (invoked ops))
open_push_invocation [] o invokes none = rw (invokes, is_own o) refl
open_push_invocation (x ∷ ops) o invokes none =
    let process = o.label.process in
    let later = open_push_invocation ops o invokes (closed_tail process x ops none) in
    elim (cases_Bool (is_invocation x)) [
      | inr ends ↦ open_past process x _ ends ∙ later ∙ ap (λ n. Some n) (sym (ap (λ (r : List Found). length r) (invoked_past x ops ends)))
      | inl first ↦
          let longer : Some (suc (length (invoked ops))) ≡ Some (length (invoked (x ∷ ops))) =
          ap (λ n. Some n) (sym (ap (λ (r : List Found). length r) (invoked_at x ops first))) in
          elim (cases_Bool (is_of process x)) [
            | inl own ↦ open_after process x _ first own (find_pushed (is_of process) ops o (is_own o))
                ∙ ap (option_map suc) later ∙ longer
            | inr other ↦ open_beside process x _ first other ∙ ap (option_map suc) later ∙ longer
          ]
    ]

-- ---- the transactions after one operation more

-- what follows an invocation, if the operation doesn't complete it
same_end : (x : Op) (ops : List Op) (o : Op) → open_at o.label.process (x ∷ ops) ≡ None → is_invocation x ≡ true
    → find (is_of x.label.process) (ops ++ o ∷ []) ≡ find (is_of x.label.process) ops
same_end x ops o none invokes =
    elim (cases_Bool (is_of o.label.process x)) [
      | inr other ↦ find_push_other _ ops o (not_of x o other)
      | inl own ↦ find_push_found _ ops o
          (ap is_none (find_of x o.label.process ops own) ∙ closed_head o.label.process x ops none invokes own)
    ]

pub invoked_push_invocation : (ops : List Op) (o : Op) → is_invocation o ≡ true → open_at o.label.process ops ≡ None
    → invoked (ops ++ o ∷ []) ≡ invoked ops ++ found o None ∷ []
invoked_push_invocation [] o invokes none = rw invokes refl
invoked_push_invocation (x ∷ ops) o invokes none =
    let later = invoked_push_invocation ops o invokes (closed_tail o.label.process x ops none) in
    elim (cases_Bool (is_invocation x)) [
      | inr ends ↦ invoked_past x _ ends ∙ later ∙ ap (λ r. r ++ found o None ∷ []) (sym (invoked_past x ops ends))
      | inl first ↦ invoked_at x _ first
          ∙ ap (λ l. found x l ∷ invoked (ops ++ o ∷ [])) (same_end x ops o none first)
          ∙ ap (λ r. found x (find (is_of x.label.process) ops) ∷ r) later
          ∙ ap (λ r. r ++ found o None ∷ []) (sym (invoked_at x ops first))
    ]

-- an operation of a process that did nothing before
quiet : (ops : List Op) (o : Op) → is_invocation o ≡ false → is_none (find (is_of o.label.process) ops) ≡ true
    → invoked (ops ++ o ∷ []) ≡ invoked ops
quiet [] o ends none = rw ends refl
quiet (x ∷ ops) o ends none =
    let other : is_of o.label.process x ≡ false =
    elim (cases_Bool (is_of o.label.process x)) [
      | inr fails ↦ fails
      | inl here ↦
          let some : is_none (find (is_of o.label.process) (x ∷ ops)) ≡ false = rw here refl in absurd (both_ways _ some none)
    ] in
    let later = quiet ops o ends (rw other at none) in
    elim (cases_Bool (is_invocation x)) [
      | inr past ↦ invoked_past x _ past ∙ later ∙ sym (invoked_past x ops past)
      | inl first ↦ invoked_at x _ first
          ∙ ap (λ l. found x l ∷ invoked (ops ++ o ∷ [])) (find_push_other _ ops o (not_of x o other))
          ∙ ap (λ r. found x (find (is_of x.label.process) ops) ∷ r) later
          ∙ sym (invoked_at x ops first)
    ]

-- the invocation that waits: the last operation of its process
pub record IsOpen (process : ℤ) (ops : List Op) (place : ℕ) : Type 0 where
  pub op : Op
  pub last : last_of process ops ≡ Some op
  pub invokes : is_invocation op ≡ true
  pub at : slice_get (invoked ops) place ≡ Some (found op None)
  -- and what its completion makes of the transactions
  pub completed : (o : Op) → o.label.process ≡ process → is_invocation o ≡ false
      → invoked (ops ++ o ∷ []) ≡ slice_set (invoked ops) place (found op (Some o))

-- the invocation at the head waits
open_first : (process : ℤ) (x : Op) (ops : List Op) → is_invocation x ≡ true → is_of process x ≡ true
    → is_none (find (is_of process) ops) ≡ true → IsOpen process (x ∷ ops) 0
open_first process x ops invokes own none =
    let unanswered : find (is_of x.label.process) ops ≡ None = find_of x process ops own ∙ none_is _ none in
    record {
      op = x;
      last = rw (last_none process ops none, own) refl;
      invokes = invokes;
      at = ap (λ r. slice_get r 0) (invoked_at x ops invokes) ∙ ap (λ l. Some (found x l)) unanswered;
      completed = λ o same ends.
          let here : is_none (find (is_of x.label.process) ops) ≡ true = ap is_none unanswered in
          let theirs : is_of x.label.process o ≡ true =
          (Decides-int_eq x.label.process o.label.process).1 (sym (same_process _ _ own) ∙ sym same) in
          let silent : is_none (find (is_of o.label.process) ops) ≡ true =
          ap (λ p. is_none (find (is_of p) ops)) same ∙ none in
          invoked_at x (ops ++ o ∷ []) invokes
          ∙ ap (λ l. found x l ∷ invoked (ops ++ o ∷ [])) (find_push_here (is_of x.label.process) ops o here theirs)
          ∙ ap (λ r. found x (Some o) ∷ r) (quiet ops o ends silent)
          ∙ ap (λ r. slice_set r 0 (found x (Some o))) (sym (invoked_at x ops invokes));
    }

-- an invocation further on waits
open_later : (process : ℤ) (x : Op) (ops : List Op) (place : ℕ) → is_invocation x ≡ true
    → ((o : Op) → o.label.process ≡ process
    → find (is_of x.label.process) (ops ++ o ∷ []) ≡ find (is_of x.label.process) ops)
    → IsOpen process ops place → IsOpen process (x ∷ ops) (suc place)
open_later process x ops place invokes stays later = record {
  op = later.op;
  last = ap (λ l. option_or l (cond (is_of process x) (Some x) None)) later.last;
  invokes = later.invokes;
  at = ap (λ r. slice_get r (suc place)) (invoked_at x ops invokes) ∙ later.at;
  completed = λ o same ends. invoked_at x (ops ++ o ∷ []) invokes
      ∙ ap (λ l. found x l ∷ invoked (ops ++ o ∷ [])) (stays o same)
      ∙ ap (λ r. found x (find (is_of x.label.process) ops) ∷ r) (later.completed o same ends)
      ∙ ap (λ r. slice_set r (suc place) (found later.op (Some o))) (sym (invoked_at x ops invokes));
}

open_beyond : (process : ℤ) (x : Op) (ops : List Op) (place : ℕ) → is_invocation x ≡ false
    → IsOpen process ops place → IsOpen process (x ∷ ops) place
open_beyond process x ops place past later = record {
  op = later.op;
  last = ap (λ l. option_or l (cond (is_of process x) (Some x) None)) later.last;
  invokes = later.invokes;
  at = ap (λ r. slice_get r place) (invoked_past x ops past) ∙ later.at;
  completed = λ o same ends. invoked_past x (ops ++ o ∷ []) past ∙ later.completed o same ends
      ∙ ap (λ r. slice_set r place (found later.op (Some o))) (sym (invoked_past x ops past));
}

pred_is : (place : Option ℕ) (n : ℕ) → option_map suc place ≡ Some n → (m : ℕ) × (place ≡ Some m) × (n ≡ suc m)
pred_is None n is = absurd cc
pred_is (Some m) n is = (m, refl, cc)

pub open_is : (process : ℤ) (ops : List Op) (place : ℕ) → open_at process ops ≡ Some place → IsOpen process ops place
open_is process [] place is = absurd cc
open_is process (x ∷ ops) place is =
    elim (cases_Bool (is_invocation x)) [
      | inr past ↦ open_beyond process x ops place past (open_is process ops place (sym (open_past process x ops past) ∙ is))
      | inl invokes ↦ elim (cases_Bool (is_of process x)) [
        | inr other ↦
            let (m, at, more) = pred_is _ place (sym (open_beside process x ops invokes other) ∙ is) in
            rw more (open_later process x ops m invokes
            (λ o same. find_push_other _ ops o (not_of x o (ap (λ p. is_of p x) same ∙ other)))
            (open_is process ops m at))
        | inl own ↦ elim (cases_Bool (is_none (find (is_of process) ops))) [
          | inr some ↦
              let (m, at, more) = pred_is _ place (sym (open_after process x ops invokes own some) ∙ is) in
              rw more (open_later process x ops m invokes
              (λ o same. find_push_found _ ops o (ap is_none (find_of x process ops own) ∙ some))
              (open_is process ops m at))
          | inl none ↦
              let here : Some 0 ≡ Some place = sym (open_here process x ops invokes own none) ∙ is in
              let zero_is : place ≡ 0 = cc in
              rw zero_is (open_first process x ops invokes own none)
        ]
      ]
    ]

-- if nothing waits, the last operation of the process is no invocation
pub closed_last : (process : ℤ) (ops : List Op) → open_at process ops ≡ None
    → IfSome (last_of process ops) (λ l. is_invocation l ≡ false)
closed_last process [] none = tt
closed_last process (x ∷ ops) none = by_last (last_of process ops) refl (closed_last process ops (closed_tail process x ops none))
  where
    by_last : (last : Option Op) → last_of process ops ≡ last → IfSome last (λ l. is_invocation l ≡ false)
        → IfSome (last_of process (x ∷ ops)) (λ l. is_invocation l ≡ false)
    by_last (Some l) is ends = rw is ends
    by_last None is ends =
        elim (cases_Bool (is_of process x)) [
          | inr other ↦ rw (is, other) tt
          | inl own ↦ rw (is, own) (elim (cases_Bool (is_invocation x)) [
            | inr past ↦ past
            | inl invokes ↦ let some = closed_head process x ops none invokes own in absurd (both_ways _ some (none_last process ops is))
          ])
        ]
