-- What a pairing holds after one operation more.
use Rattle.std.proofs.Common.{◌≡◌, ◌⊎◌, ℕ, ℤ, true, false, List, [], ◌∷◌, ◌++◌, length, map, Option, Some, None, option_map, refl, sym, ap, subst, ◌∙◌, inl, inr, int_eq, int_cmp, zero, suc, arith}
use Rattle.std.proofs.Common.{Result, Ok, Err, OnOk, IfErr}
use Rattle.std.specs.Prelude.{is_some, slice_get, slice_index_or, slice_set, IfSome, IsSomeAnd, ◌<◌, ◌≤◌}
use Rattle.std.specs.BTreeMap.{get, Updates}
use Rattle.std.proofs.lemmas.Bool.{both_ways, cases_Bool}
use Rattle.std.proofs.lemmas.Bool.Decides.{Decides-int_eq}
use Rattle.std.proofs.lemmas.List.{length-map, map-append, map-set}
use Rattle.std.proofs.lemmas.Option.{slice_get-map, slice_get_within, none-some, same_Some}
use Rattle.append_values.specs.declared.transaction.Outcome.TheVariants.{Unknown}
use Rattle.append_values.specs.declared.transaction.Transaction.{Transaction as TransactionValue}
use Rattle.append_values.specs.Meaning.Histories.{Operation, Append, Read, LostRead, Transaction, transaction_of, operation_of}
use Rattle.append_text.specs.declared.pairing.Pairing.{Pairing}
use Rattle.append_text.specs.declared.pairing.Style.{Style}
use Rattle.append_text.specs.declared.pairing.Style.TheVariants.{Undecided, Invoked, Completed}
use Rattle.append_text.specs.declared.operation.Kind.{Kind}
use Rattle.append_text.specs.declared.operation.Kind.TheVariants as kind
use Rattle.append_text.specs.declared.read_fault.Refusal.{Refusal}
use Rattle.append_text.specs.declared.read_fault.Refusal.TheVariants.{Memory}
use Rattle.append_text.specs.Meaning.Steps.{without_result, outcome_of, told, ended}
use Rattle.append_text.specs.Meaning.Pairing.{Op, Found, is_invoke, is_invocation, is_of, found, alone, invoked, transactions, last_of, MayEnd, MayPair, MayFollow}
use Rattle.append_text.specs.Machinery.Pairings.{open_at, style_by, style_or_by, style_at, is_alone, HasTaken, Waits, Ends, MayNotEnd}
use Rattle.append_text.proofs.Pairings.{IsOpen, open_is, closed_last, open_push_other, open_push_end, open_push_invocation, invoked_push_invocation}

-- ---- the style of a text

alone_kind : (k : Kind) → style_by k ≡ Completed → is_invoke k ≡ false
alone_kind kind.Invoke is = absurd cc
alone_kind kind.Ok is = refl
alone_kind kind.Fail is = refl
alone_kind kind.Info is = refl

invoked_kind : (k : Kind) → is_alone (style_by k) ≡ false → is_invoke k ≡ true
invoked_kind kind.Invoke is = refl
invoked_kind kind.Ok is = absurd cc
invoked_kind kind.Fail is = absurd cc
invoked_kind kind.Info is = absurd cc

decided : (j k : Kind) → style_or_by (style_by j) k ≡ style_by j
decided kind.Invoke k = refl
decided kind.Ok k = refl
decided kind.Fail k = refl
decided kind.Info k = refl

pub style_after : (p : Pairing) (ops : List Op) (o : Op) → HasTaken p ops → style_or_by p.style o.kind ≡ style_at (ops ++ o ∷ [])
style_after p [] o taken = ap (λ s. style_or_by s o.kind) taken.style_is
style_after p (first ∷ ops) o taken = ap (λ s. style_or_by s o.kind) taken.style_is ∙ decided first.kind o.kind

-- ---- texts whose operations stand for their transactions alone

alone_transactions : (ops : List Op) → style_at ops ≡ Completed → transactions ops ≡ map alone ops
alone_transactions [] is = refl
alone_transactions (first ∷ ops) is = rw (alone_kind first.kind is) refl

alone_before : (ops : List Op) (o : Op) → style_at (ops ++ o ∷ []) ≡ Completed → transactions ops ≡ map alone ops
alone_before [] o is = refl
alone_before (first ∷ ops) o is = alone_transactions (first ∷ ops) is

alone_may : (ops : List Op) (o : Op) → style_at (ops ++ o ∷ []) ≡ Completed → is_invocation o ≡ false → MayFollow ops o
alone_may [] o is ends = tt
alone_may (first ∷ ops) o is ends = rw (alone_kind first.kind is) ends

pub alone_refuses : (ops : List Op) (o : Op) → style_at (ops ++ o ∷ []) ≡ Completed → is_invocation o ≡ true
    → MayFollow ops o → ⊥
alone_refuses [] o is invokes may = both_ways _ (alone_kind o.kind is) invokes
alone_refuses (first ∷ ops) o is invokes may = both_ways _ (rw (alone_kind first.kind is) at may) invokes

pub took_alone : (old new : Pairing) (ops : List Op) (o : Op) → HasTaken old ops → style_at (ops ++ o ∷ []) ≡ Completed
    → is_invocation o ≡ false → new.style ≡ Completed
    → map transaction_of new.transactions.items
    ≡ map transaction_of old.transactions.items ++ told (outcome_of o.kind) o.steps ∷ []
    → new.labels.items ≡ old.labels.items ++ o.label ∷ [] → MayFollow ops o × HasTaken new (ops ++ o ∷ [])
took_alone old new ops o taken is ends style added labels = (
  alone_may ops o is ends,
  record {
    style_is = style ∙ sym is;
    transactions_are = added ∙ ap (λ r. r ++ told (outcome_of o.kind) o.steps ∷ []) taken.transactions_are
        ∙ after (λ f. f.transaction);
    labels_are = labels ∙ ap (λ r. r ++ o.label ∷ []) taken.labels_are ∙ after (λ f. f.label);
    waits = λ paired. absurd (both_ways _ paired (ap is_alone style));
  },
)
  where
    after : {X : Type 0} (part : Found → X)
        → map part (transactions ops) ++ part (alone o) ∷ [] ≡ map part (transactions (ops ++ o ∷ []))
    after part = sym (map-append part (transactions ops) (alone o ∷ []))
        ∙ ap (map part) (ap (λ r. r ++ alone o ∷ []) (alone_before ops o is)
        ∙ sym (map-append alone ops (o ∷ [])) ∙ sym (alone_transactions (ops ++ o ∷ []) is))

-- ---- texts with invocations

paired_transactions : (ops : List Op) → is_alone (style_at ops) ≡ false → transactions ops ≡ invoked ops
paired_transactions [] is = refl
paired_transactions (first ∷ ops) is = rw (invoked_kind first.kind is) refl

paired_before : (ops : List Op) (o : Op) → is_alone (style_at (ops ++ o ∷ [])) ≡ false → transactions ops ≡ invoked ops
paired_before [] o is = refl
paired_before (first ∷ ops) o is = paired_transactions (first ∷ ops) is

may_if_paired : (ops : List Op) (o : Op) → is_alone (style_at (ops ++ o ∷ [])) ≡ false → MayPair ops o → MayFollow ops o
may_if_paired [] o is may = tt
may_if_paired (first ∷ ops) o is may = rw (invoked_kind first.kind is) may

paired_if_may : (ops : List Op) (o : Op) → is_alone (style_at (ops ++ o ∷ [])) ≡ false → MayFollow ops o → MayPair ops o
paired_if_may [] o is may = rw (invoked_kind o.kind is) tt
paired_if_may (first ∷ ops) o is may = rw (invoked_kind first.kind is) at may

was_paired : (p : Pairing) (ops : List Op) (o : Op) → HasTaken p ops → is_alone (style_at (ops ++ o ∷ [])) ≡ false
    → is_alone p.style ≡ false
was_paired p [] o taken is = ap is_alone taken.style_is
was_paired p (first ∷ ops) o taken is = ap is_alone taken.style_is ∙ is

waiting_in : (p : Pairing) (ops : List Op) (o : Op) → HasTaken p ops → is_alone (style_at (ops ++ o ∷ [])) ≡ false
    → (process : ℤ) → get int_cmp p.waiting process ≡ open_at process ops
waiting_in p ops o taken is = taken.waits (was_paired p ops o taken is)

-- whether an operation is one of the process, from either side
of_process : (process : ℤ) (o : Op) → int_eq o.label.process process ≡ is_of process o
of_process process o =
    elim (cases_Bool (is_of process o)) [
      | inl same ↦ (Decides-int_eq o.label.process process).1 (sym ((Decides-int_eq process o.label.process).0 same)) ∙ sym same
      | inr other ↦ elim (cases_Bool (int_eq o.label.process process)) [
        | inl same ↦ absurd (both_ways _ other
            ((Decides-int_eq process o.label.process).1 (sym ((Decides-int_eq o.label.process process).0 same))))
        | inr fails ↦ fails ∙ sym other
      ]
    ]

pub took_invocation : (old new : Pairing) (ops : List Op) (o : Op) → HasTaken old ops
    → is_alone (style_at (ops ++ o ∷ [])) ≡ false → is_invocation o ≡ true → new.style ≡ style_at (ops ++ o ∷ [])
    → map transaction_of new.transactions.items ≡ map transaction_of old.transactions.items ++ told Unknown o.steps ∷ []
    → new.labels.items ≡ old.labels.items ++ o.label ∷ [] → get int_cmp old.waiting o.label.process ≡ None
    → Updates int_cmp old.waiting new.waiting o.label.process (Some (length old.transactions.items))
    → MayFollow ops o × HasTaken new (ops ++ o ∷ [])
took_invocation old new ops o taken is invokes style added labels none updates = (
  may_if_paired ops o is (rw invokes (closed_last o.label.process ops closed)),
  record {
    style_is = style;
    transactions_are = added ∙ ap (λ r. r ++ told Unknown o.steps ∷ []) taken.transactions_are ∙ after (λ f. f.transaction);
    labels_are = labels ∙ ap (λ r. r ++ o.label ∷ []) taken.labels_are ∙ after (λ f. f.label);
    waits = λ paired process. updates.0 process ∙ elim (cases_Bool (is_of process o)) [
      | inr other ↦ rw (of_process process o, other)
          (waiting_in old ops o taken is process ∙ sym (open_push_other process ops o other))
      | inl own ↦ rw (of_process process o, own)
          (ap (λ n. Some n) many ∙ sym (open_push_invocation ops o invokes closed)
          ∙ ap (λ p. open_at p (ops ++ o ∷ [])) (sym ((Decides-int_eq process o.label.process).0 own)))
    ];
  },
)
  where
    closed : open_at o.label.process ops ≡ None
    closed = sym (waiting_in old ops o taken is o.label.process) ∙ none

    many : length old.transactions.items ≡ length (invoked ops)
    many = sym (length-map old.transactions.items transaction_of) ∙ ap (λ (r : List Transaction). length r) taken.transactions_are
        ∙ length-map (transactions ops) (λ f. f.transaction)
        ∙ ap (λ (r : List Found). length r) (paired_before ops o is)

    after : {X : Type 0} (part : Found → X)
        → map part (transactions ops) ++ part (found o None) ∷ [] ≡ map part (transactions (ops ++ o ∷ []))
    after part = sym (map-append part (transactions ops) (found o None ∷ []))
        ∙ ap (map part) (ap (λ r. r ++ found o None ∷ []) (paired_before ops o is)
        ∙ sym (invoked_push_invocation ops o invokes closed) ∙ sym (paired_transactions (ops ++ o ∷ []) is))

pub invocation_refused : (old : Pairing) (ops : List Op) (o : Op) → HasTaken old ops
    → is_alone (style_at (ops ++ o ∷ [])) ≡ false → is_invocation o ≡ true
    → is_some (get int_cmp old.waiting o.label.process) ≡ true → MayFollow ops o → ⊥
invocation_refused old ops o taken is invokes some may = by_place (open_at o.label.process ops) refl
  where
    by_place : (place : Option ℕ) → open_at o.label.process ops ≡ place → ⊥
    by_place None at =
        let none : is_some (get int_cmp old.waiting o.label.process) ≡ false =
        ap is_some (waiting_in old ops o taken is o.label.process ∙ at) in
        both_ways _ none some
    by_place (Some n) at =
        let waits = open_is o.label.process ops n at in
        let last = rw (invokes, waits.last) at (paired_if_may ops o is may) in
        both_ways _ last waits.invokes

-- ---- completions

once_lost : (steps : List Operation) → map without_result (map without_result steps) ≡ map without_result steps
once_lost [] = refl
once_lost (Append k x ∷ steps) = ap (λ r. Append k x ∷ r) (once_lost steps)
once_lost (Read k xs ∷ steps) = ap (λ r. LostRead k ∷ r) (once_lost steps)
once_lost (LostRead k ∷ steps) = ap (λ r. LostRead k ∷ r) (once_lost steps)

may_end : (k : Kind) (steps others : List Operation) → MayEnd k (map without_result steps) others → MayEnd k steps others
may_end kind.Ok steps others may = sym (once_lost steps) ∙ may
may_end kind.Invoke steps others may = tt
may_end kind.Fail steps others may = tt
may_end kind.Info steps others may = tt

may_end_lost : (k : Kind) (steps others : List Operation) → MayEnd k steps others → MayEnd k (map without_result steps) others
may_end_lost kind.Ok steps others may = once_lost steps ∙ may
may_end_lost kind.Invoke steps others may = tt
may_end_lost kind.Fail steps others may = tt
may_end_lost kind.Info steps others may = tt

-- the transaction that waits is the one that the process invoked last
waits_is : (old : Pairing) (ops : List Op) (o : Op) → HasTaken old ops → is_alone (style_at (ops ++ o ∷ [])) ≡ false
    → (place : ℕ) (w : IsOpen o.label.process ops place)
    → slice_get (map transaction_of old.transactions.items) place ≡ Some (told Unknown w.op.steps)
waits_is old ops o taken is place w = ap (λ r. slice_get r place) taken.transactions_are
    ∙ slice_get-map (λ f. f.transaction) (transactions ops) place
    ∙ ap (λ r. option_map (λ f. f.transaction) (slice_get r place)) (paired_before ops o is)
    ∙ ap (option_map (λ (f : Found). f.transaction)) w.at

completed_parts : {X : Type 0} (part : Found → X) (ops : List Op) (o : Op) → is_alone (style_at (ops ++ o ∷ [])) ≡ false
    → is_invocation o ≡ false → (place : ℕ) (w : IsOpen o.label.process ops place)
    → slice_set (map part (transactions ops)) place (part (found w.op (Some o))) ≡ map part (transactions (ops ++ o ∷ []))
completed_parts part ops o is ends place w =
    ap (λ r. slice_set r place (part (found w.op (Some o)))) (ap (map part) (paired_before ops o is))
    ∙ sym (map-set part (invoked ops) place (found w.op (Some o)))
    ∙ ap (map part) (sym (w.completed o refl ends) ∙ sym (paired_transactions (ops ++ o ∷ []) is))

pub took_completion : (old new : Pairing) (style : Style) (ops : List Op) (o : Op) → HasTaken old ops
    → is_alone (style_at (ops ++ o ∷ [])) ≡ false → is_invocation o ≡ false → new.style ≡ style_at (ops ++ o ∷ [])
    → Ends (record old { style = style }) new o → Updates int_cmp old.waiting new.waiting o.label.process None
    → MayFollow ops o × HasTaken new (ops ++ o ∷ [])
took_completion old new style ops o taken is ends kept e updates =
    let at = sym (waiting_in old ops o taken is o.label.process) ∙ e.waits.at in
    let w = open_is o.label.process ops e.waits.place at in
    let known : e.transaction ≡ told Unknown w.op.steps =
    some_is (sym e.waits.is ∙ waits_is old ops o taken is e.waits.place w) in
    let may : MayEnd o.kind w.op.steps o.steps = may_end o.kind w.op.steps o.steps (rw known at e.may) in (
      may_if_paired ops o is (rw (ends, w.last) (w.invokes, may)),
      record {
        style_is = kept;
        transactions_are = e.transactions ∙ ap (λ t. slice_set (map transaction_of old.transactions.items) e.waits.place
            (ended o.kind t o.steps)) known
            ∙ ap (λ r. slice_set r e.waits.place (ended o.kind (told Unknown w.op.steps) o.steps)) taken.transactions_are
            ∙ completed_parts (λ f. f.transaction) ops o is ends e.waits.place w;
        labels_are = e.labels ∙ ap (λ r. slice_set r e.waits.place o.label) taken.labels_are ∙ completed_parts (λ f. f.label) ops o is ends e.waits.place w;
        waits = λ paired process. updates.0 process ∙ elim (cases_Bool (is_of process o)) [
          | inr other ↦ rw (of_process process o, other)
              (waiting_in old ops o taken is process ∙ sym (open_push_other process ops o other))
          | inl own ↦ rw (of_process process o, own) (sym (open_push_end process ops o ends own))
        ];
      },
    )
  where
    some_is : {X : Type 0} {x y : X} → Some x ≡ Some y → x ≡ y
    some_is same = cc

pub completion_refused : (old : Pairing) (style : Style) (ops : List Op) (o : Op) → HasTaken old ops
    → is_alone (style_at (ops ++ o ∷ [])) ≡ false → is_invocation o ≡ false → MayNotEnd (record old { style = style }) o → MayFollow ops o → ⊥
completion_refused old style ops o taken is ends none may = by_place (open_at o.label.process ops) refl
  where
    pairs : IsSomeAnd (last_of o.label.process ops) (λ l. (is_invocation l ≡ true) × MayEnd o.kind l.steps o.steps)
    pairs = rw ends at (paired_if_may ops o is may)

    by_last : (last : Option Op) → IfSome last (λ l. is_invocation l ≡ false)
        → IsSomeAnd last (λ l. (is_invocation l ≡ true) × MayEnd o.kind l.steps o.steps) → ⊥
    by_last None closed some = some
    by_last (Some l) closed some = both_ways _ closed some.0

    by_place : (place : Option ℕ) → open_at o.label.process ops ≡ place → ⊥
    by_place None at = by_last (last_of o.label.process ops) (closed_last o.label.process ops at) pairs
    by_place (Some n) at =
        let w = open_is o.label.process ops n at in
        let (invokes, ends) = rw w.last at pairs in
        none (told Unknown w.op.steps)
        (record { place = n; at = waiting_in old ops o taken is o.label.process ∙ at; is = waits_is old ops o taken is n w })
        (may_end_lost o.kind w.op.steps o.steps ends)

-- ---- by the results of the calls

alone_is : (s : Style) → is_alone s ≡ true → s ≡ Completed
alone_is Completed is = refl
alone_is Undecided is = absurd cc
alone_is Invoked is = absurd cc

pub after_alone : (old new : Pairing) (style : Style) (o : Op) → style ≡ style_or_by old.style o.kind
    → is_alone style ≡ true → is_invocation o ≡ false → new.style ≡ style
    → map transaction_of new.transactions.items
    ≡ map transaction_of old.transactions.items ++ told (outcome_of o.kind) o.steps ∷ []
    → new.labels.items ≡ old.labels.items ++ o.label ∷ [] → (ops : List Op) → HasTaken old ops
    → MayFollow ops o × HasTaken new (ops ++ o ∷ [])
after_alone old new style o by alone ends kept added labels ops taken =
    let completed = alone_is style alone in
    took_alone old new ops o taken (sym (by ∙ style_after old ops o taken) ∙ completed) ends (kept ∙ completed) added labels

pub alone_refusal : (old : Pairing) (style : Style) (o : Op) → style ≡ style_or_by old.style o.kind → is_alone style ≡ true
    → is_invocation o ≡ true → (ops : List Op) → HasTaken old ops → MayFollow ops o → ⊥
alone_refusal old style o by alone invokes ops taken =
    alone_refuses ops o (sym (by ∙ style_after old ops o taken) ∙ alone_is style alone) invokes

paired : (old : Pairing) (style : Style) (o : Op) (ops : List Op) → style ≡ style_or_by old.style o.kind
    → is_alone style ≡ false → HasTaken old ops → is_alone (style_at (ops ++ o ∷ [])) ≡ false
paired old style o ops by pairs taken = ap is_alone (sym (by ∙ style_after old ops o taken)) ∙ pairs

pub after_invocation : {T : Type 0} (result : Result T Refusal) (old new : Pairing) (style : Style) (o : Op)
    → style ≡ style_or_by old.style o.kind → is_alone style ≡ false → is_invocation o ≡ true → new.style ≡ style
    → OnOk result (map transaction_of new.transactions.items
    ≡ map transaction_of old.transactions.items ++ told Unknown o.steps ∷ [])
    → OnOk result (new.labels.items ≡ old.labels.items ++ o.label ∷ [])
    → OnOk result (get int_cmp old.waiting o.label.process ≡ None)
    → OnOk result (Updates int_cmp old.waiting new.waiting o.label.process (Some (length old.transactions.items)))
    → OnOk result ((ops : List Op) → HasTaken old ops → MayFollow ops o × HasTaken new (ops ++ o ∷ []))
after_invocation (Ok x) old new style o by pairs invokes kept added labels none updates = λ ops taken.
    took_invocation old new ops o taken (paired old style o ops by pairs taken) invokes
    (kept ∙ by ∙ style_after old ops o taken) added labels none updates
after_invocation (Err e) old new style o by pairs invokes kept added labels none updates = tt

pub invocation_refusal : {T : Type 0} (result : Result T Refusal) (old : Pairing) (style : Style) (o : Op)
    → style ≡ style_or_by old.style o.kind → is_alone style ≡ false → is_invocation o ≡ true
    → IfErr result (λ e. (e ≡ Memory) ⊎ (is_some (get int_cmp old.waiting o.label.process) ≡ true))
    → IfErr result (λ e. (ops : List Op) → HasTaken old ops → (e ≡ Memory) ⊎ (MayFollow ops o → ⊥))
invocation_refusal (Ok x) old style o by pairs invokes refused = tt
invocation_refusal (Err e) old style o by pairs invokes refused = λ ops taken.
    elim refused [
      | inl memory ↦ inl memory
      | inr some ↦ inr (invocation_refused old ops o taken (paired old style o ops by pairs taken) invokes some)
    ]

pub after_completion : {T : Type 0} (result : Result T Refusal) (old new : Pairing) (style : Style) (o : Op)
    → style ≡ style_or_by old.style o.kind → is_alone style ≡ false → is_invocation o ≡ false → new.style ≡ style
    → OnOk result (Ends (record old { style = style }) new o) → OnOk result (Updates int_cmp old.waiting new.waiting o.label.process None)
    → OnOk result ((ops : List Op) → HasTaken old ops → MayFollow ops o × HasTaken new (ops ++ o ∷ []))
after_completion (Ok x) old new style o by pairs ends kept ended updates = λ ops taken.
    took_completion old new style ops o taken (paired old style o ops by pairs taken) ends
    (kept ∙ by ∙ style_after old ops o taken) ended updates
after_completion (Err e) old new style o by pairs ends kept ended updates = tt

pub completion_refusal : {T : Type 0} (result : Result T Refusal) (old : Pairing) (style : Style) (o : Op)
    → style ≡ style_or_by old.style o.kind → is_alone style ≡ false → is_invocation o ≡ false
    → IfErr result (λ e. MayNotEnd (record old { style = style }) o)
    → IfErr result (λ e. (ops : List Op) → HasTaken old ops → (e ≡ Memory) ⊎ (MayFollow ops o → ⊥))
completion_refusal (Ok x) old style o by pairs ends none = tt
completion_refusal (Err e) old style o by pairs ends none = λ ops taken.
    inr (completion_refused old style ops o taken (paired old style o ops by pairs taken) ends none)

-- the transaction at a place of a list
at_is : (items : List TransactionValue) (place : ℕ) (t : TransactionValue) → place < length items
    → slice_get (map transaction_of items) place ≡ Some (transaction_of (slice_index_or items place t))
at_is [] place t within = absurd (omega (arith, within))
at_is (x ∷ items) zero t within = refl
at_is (x ∷ items) (suc place) t within = at_is items place t (omega (arith, within))

pub item_is : (items : List TransactionValue) (place : ℕ) (t : TransactionValue) → place < length items
    → t ≡ slice_index_or items place t → slice_get (map transaction_of items) place ≡ Some (transaction_of t)
item_is items place t within is = at_is items place t within ∙ ap (λ x. Some (transaction_of x)) (sym is)

-- a process for which no transaction waits, or none at the place, or one that may not end so
module _ (p : Pairing) (o : Op) where
  pub none_waits : get int_cmp p.waiting o.label.process ≡ None → MayNotEnd p o
  none_waits none t w may = none-some _ (sym none ∙ w.at)

  at_place : (place : ℕ) → get int_cmp p.waiting o.label.process ≡ Some place → (t : Transaction)
      → Waits p o.label.process t → slice_get (map transaction_of p.transactions.items) place ≡ Some t
  at_place place at t w = ap (slice_get (map transaction_of p.transactions.items)) (same_Some place w.place (sym at ∙ w.at)) ∙ w.is

  pub none_at : (place : ℕ) → get int_cmp p.waiting o.label.process ≡ Some place → length p.transactions.items ≤ place
      → MayNotEnd p o
  none_at place at past t w may =
      let within = slice_get_within (map transaction_of p.transactions.items) place t (at_place place at t w) in
      let same = length-map p.transactions.items transaction_of in omega (arith, past, within, same)

  pub other_steps : (place : ℕ) (t : TransactionValue) → get int_cmp p.waiting o.label.process ≡ Some place
      → slice_get (map transaction_of p.transactions.items) place ≡ Some (transaction_of t)
      → (MayEnd o.kind (map operation_of t.operations.items) o.steps → ⊥) → MayNotEnd p o
  other_steps place t at is refused u w may =
      refused (subst (λ (v : Transaction). MayEnd o.kind v.operations o.steps)
      (same_Some u (transaction_of t) (sym (at_place place at u w) ∙ is)) may)
