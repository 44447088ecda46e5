-- What a collector holds after one form more.
use Rattle.std.proofs.Common.{◌≡◌, ◌⊎◌, ℕ, suc, ◌+◌, ◌-◌, ◌^◌, min, Bool, true, false, not, List, [], ◌∷◌, ◌++◌, length, map, Option, Some, None, refl, sym, ap, subst, ◌∙◌, inl, inr, arith, Result, Ok}
use Rattle.std.specs.Prelude.{if◌then◌else◌}
use Rattle.std.specs.List.{filter}
use Rattle.std.proofs.lemmas.List.{append-nil, length-append}
use Rattle.std.proofs.lemmas.List.Elements.{filter-append}
use Rattle.edn.specs.Meaning.Forms.{Form}
use Rattle.append_text.specs.declared.collector.Collector.{Collector}
use Rattle.append_values.specs.Meaning.Histories.{transaction_of}
use Rattle.append_text.specs.declared.history.History.{History}
use Rattle.append_text.specs.declared.history.PassedOver.{PassedOver}
use Rattle.append_text.specs.declared.name.Kept.{Kept}
use Rattle.append_text.specs.declared.operation.Op.{Op as OpValue}
use Rattle.append_text.specs.declared.read_fault.Problem.{Problem}
use Rattle.append_text.specs.declared.read_fault.Refusal.{Refusal}
use Rattle.append_text.specs.declared.read_fault.Refusal.TheVariants as refusal
use Rattle.append_text.specs.declared.text_form.TextForm.{TextForm}
use Rattle.append_text.specs.Meaning.Numbers.{IsOneToOne, IsOp, IsStep, Keeps}
use Rattle.append_text.specs.Meaning.Operations.{Said, said, is_of_txn}
use Rattle.append_text.specs.Meaning.Pairing.{Op, MayFollow}
use Rattle.append_text.specs.Meaning.Texts.{operation, passed_over, one_more, AreAllowed, AreNumbered, ArePassed, IsHistory, counted, said_after}
use Rattle.append_text.specs.Machinery.Collectors.{HasCollected, IsRefusedAfter}
use Rattle.append_text.specs.Machinery.Pairings.{HasTaken, op_of}
use Rattle.append_text.specs.Machinery.Readings.{IsOpIfAny, IsRead, IsRefusal}
use Rattle.append_text.proofs.Readings.{step_keeps, zip_push, zip_weaker}

-- ---- numbers stay

pub op_keeps : (k l : List Kept) → Keeps k l → (s : Said) (o : Op) → IsOp k s o → IsOp l s o
op_keeps k l keeps s o is = record {
  kind = is.kind;
  label = is.label;
  steps = zip_weaker (IsStep k) (IsStep l) (step_keeps k l keeps) s.steps o.steps is.steps;
}

pub numbered_keeps : (n : TextForm) (k l : List Kept) (fs : List Form) (passed : List Form) (ops : List Op) → Keeps k l
    → AreNumbered n k fs passed ops → AreNumbered n l fs passed ops
numbered_keeps n k l fs passed ops keeps are = record {
  said = are.said;
  operations = are.operations;
  numbered = zip_weaker (IsOp k) (IsOp l) (op_keeps k l keeps) are.said ops are.numbered;
  in_order = are.in_order;
}

-- ---- counts

pub counted_more : (n : ℕ) → min (counted n + 1) (2 ^ 64 - 1) ≡ counted (suc n)
unfolding counted
counted_more n = omega arith

pub counted_push : {X : Type 0} (xs : List X) (x : X) → min (counted (length xs) + 1) (2 ^ 64 - 1) ≡ counted (length (xs ++ x ∷ []))
counted_push xs x = counted_more (length xs) ∙ ap counted (sym (length-append xs (x ∷ []) ∙ omega arith))

module _ (p : Form → Bool) (xs : List Form) (x : Form) where
  filtered : filter p (xs ++ x ∷ []) ≡ filter p xs ++ (if p x then x ∷ [] else [])
  filtered = filter-append p xs (x ∷ []) ∙ ap (λ r. filter p xs ++ r) (one (p x))
    where
      one : (b : Bool) → (if b then x ∷ filter p [] else filter p []) ≡ (if b then x ∷ [] else [])
      one true = refl
      one false = refl

  -- one more is counted if the test is true of it
  pub counted_test : (b : Bool) → p x ≡ b → (if b then min (counted (length (filter p xs)) + 1) (2 ^ 64 - 1) else counted (length (filter p xs)))
      ≡ counted (length (filter p (xs ++ x ∷ [])))
  counted_test true is = counted_push (filter p xs) x
      ∙ ap (λ r. counted (length r)) (sym (filtered ∙ ap (λ b. filter p xs ++ (if b then x ∷ [] else [])) is))
  counted_test false is = ap (λ r. counted (length r))
      (sym (filtered ∙ ap (λ b. filter p xs ++ (if b then x ∷ [] else [])) is ∙ append-nil (filter p xs)))

-- one more is passed over
pub passed_more : (n : TextForm) (passed : List Form) (f : Form) (old new : PassedOver) → ArePassed n passed old
    → new.other_function ≡ (if is_of_txn n f then old.other_function else min (old.other_function + 1) (2 ^ 64 - 1))
    → new.other_process ≡ (if is_of_txn n f then min (old.other_process + 1) (2 ^ 64 - 1) else old.other_process)
    → ArePassed n (passed ++ f ∷ []) new
passed_more n passed f old new were function process = record {
  other_function = function ∙ ap (λ k. if is_of_txn n f then k else min (k + 1) (2 ^ 64 - 1)) were.other_function
      ∙ turned (is_of_txn n f) _ _ ∙ counted_test (λ g. not (is_of_txn n g)) passed f (not (is_of_txn n f)) refl;
  other_process = process ∙ ap (λ k. if is_of_txn n f then min (k + 1) (2 ^ 64 - 1) else k) were.other_process
      ∙ counted_test (is_of_txn n) passed f (is_of_txn n f) refl;
}
  where
    turned : (b : Bool) (x y : ℕ) → (if b then x else y) ≡ (if not b then y else x)
    turned true x y = refl
    turned false x y = refl

-- what was collected is operations in order
pub allowed : (n : TextForm) (fs : List Form) (c : Collector) → HasCollected n fs c → IsOneToOne c.names.kept.keys → AreAllowed n fs
allowed n fs c has one_to_one = record {
  kept = c.names.kept.keys;
  one_to_one = one_to_one;
  passed = has.passed;
  ops = has.ops;
  numbered = has.numbered;
}

-- ---- one form more

module _ (n : TextForm) (fs : List Form) (f : Form) (old : Collector) (taken : HasCollected n fs old) where
  said_here : (r : Result (Option Said) Problem) → said n old.taken f ≡ r → said_after n fs f ≡ r
  said_here r is = ap (λ k. said n k f) (sym taken.taken) ∙ is

  pub took_operation : (new : Collector) (s : Said) (o : OpValue) → Keeps old.names.kept.keys new.names.kept.keys
      → said n old.taken f ≡ Ok (Some s) → IsOp new.names.kept.keys s (op_of o)
      → new.taken ≡ min (old.taken + 1) (2 ^ 64 - 1) → new.passed_over ≡ old.passed_over
      → ((ops : List Op) → HasTaken old.pairing ops → MayFollow ops (op_of o) × HasTaken new.pairing (ops ++ op_of o ∷ []))
      → HasCollected n (fs ++ f ∷ []) new
  took_operation new s o keeps is reads more passed pairs =
      let were = taken.numbered in
      let (may, took) = pairs taken.ops taken.paired in
      record {
        ops = taken.ops ++ op_of o ∷ [];
        passed = taken.passed;
        numbered = record {
          said = were.said ++ s ∷ [];
          operations = operation f s were.operations (said_here _ is);
          numbered = zip_push (IsOp new.names.kept.keys) were.said taken.ops s (op_of o)
              (zip_weaker (IsOp old.names.kept.keys) (IsOp new.names.kept.keys)
              (op_keeps old.names.kept.keys new.names.kept.keys keeps) were.said taken.ops were.numbered) reads;
          in_order = one_more (op_of o) were.in_order may;
        };
        paired = took;
        taken = more ∙ ap (λ k. min (k + 1) (2 ^ 64 - 1)) taken.taken ∙ counted_push fs f;
        passed_over = subst (ArePassed n taken.passed) (sym passed) taken.passed_over;
      }

  pub took_other : (new : Collector) → Keeps old.names.kept.keys new.names.kept.keys → said n old.taken f ≡ Ok None
      → new.taken ≡ min (old.taken + 1) (2 ^ 64 - 1)
      → ((passed : List Form) → ArePassed n passed old.passed_over → ArePassed n (passed ++ f ∷ []) new.passed_over)
      → new.pairing ≡ old.pairing → HasCollected n (fs ++ f ∷ []) new
  took_other new keeps is more passed same =
      let were = taken.numbered in
      record {
        ops = taken.ops;
        passed = taken.passed ++ f ∷ [];
        numbered = record {
          said = were.said;
          operations = passed_over f were.operations (said_here _ is);
          numbered = zip_weaker (IsOp old.names.kept.keys) (IsOp new.names.kept.keys)
              (op_keeps old.names.kept.keys new.names.kept.keys keeps) were.said taken.ops were.numbered;
          in_order = were.in_order;
        };
        paired = subst (λ p. HasTaken p taken.ops) (sym same) taken.paired;
        taken = more ∙ ap (λ k. min (k + 1) (2 ^ 64 - 1)) taken.taken ∙ counted_push fs f;
        passed_over = passed taken.passed taken.passed_over;
      }

  -- a form that is no operation
  pub refused_form : (e : Refusal) → IsOneToOne old.names.kept.keys → IsRefusal e (said n old.taken f) → IsRefusedAfter n fs f e
  refused_form (refusal.Problem p) one_to_one is = record {
    before = allowed n fs old taken one_to_one;
    wrong = inl (said_here _ is);
  }
  refused_form refusal.Memory one_to_one is = tt

  -- an operation that can't come there
  pub refused_operation : (e : Refusal) (kept : List Kept) (s : Said) (o : OpValue) → IsOneToOne kept → Keeps old.names.kept.keys kept
      → said n old.taken f ≡ Ok (Some s) → IsOp kept s (op_of o)
      → ((ops : List Op) → HasTaken old.pairing ops → (e ≡ refusal.Memory) ⊎ (MayFollow ops (op_of o) → ⊥)) → IsRefusedAfter n fs f e
  refused_operation (refusal.Problem p) kept s o one_to_one keeps is reads refused = by (refused taken.ops taken.paired)
    where
      by : (refusal.Problem p ≡ refusal.Memory) ⊎ (MayFollow taken.ops (op_of o) → ⊥) → IsRefusedAfter n fs f (refusal.Problem p)
      by (inl memory) = absurd cc
      by (inr not) = record {
        before = record {
          kept = kept;
          one_to_one = one_to_one;
          passed = taken.passed;
          ops = taken.ops;
          numbered = numbered_keeps n old.names.kept.keys kept fs taken.passed taken.ops keeps taken.numbered;
        };
        wrong = inr (s, op_of o, said_here _ is, reads, not);
      }
  refused_operation refusal.Memory kept s o one_to_one keeps is reads refused = tt

module _ (n : TextForm) (f : Form) (old : Collector) (l : List Kept) (o : OpValue) where
  pub took_some : (new : Collector) → new.names.kept.keys ≡ l → IsRead old.names.kept.keys l (said n old.taken f) IsOpIfAny (Some o)
      → new.taken ≡ min (old.taken + 1) (2 ^ 64 - 1) → new.passed_over ≡ old.passed_over
      → ((ops : List Op) → HasTaken old.pairing ops → MayFollow ops (op_of o) × HasTaken new.pairing (ops ++ op_of o ∷ []))
      → (fs : List Form) → HasCollected n fs old → HasCollected n (fs ++ f ∷ []) new
  took_some new same ((None, is, reads), keeps) more passed pairs fs has = absurd reads
  took_some new same ((Some s, is, reads), keeps) more passed pairs fs has =
      took_operation n fs f old has new s o (subst (Keeps old.names.kept.keys) (sym same) keeps) is
      (subst (λ k. IsOp k s (op_of o)) (sym same) reads) more passed pairs

  pub refused_some : (e : Refusal) → IsOneToOne l → IsRead old.names.kept.keys l (said n old.taken f) IsOpIfAny (Some o)
      → ((ops : List Op) → HasTaken old.pairing ops → (e ≡ refusal.Memory) ⊎ (MayFollow ops (op_of o) → ⊥))
      → (fs : List Form) → HasCollected n fs old → IsRefusedAfter n fs f e
  refused_some e one_to_one ((None, is, reads), keeps) refused fs has = absurd reads
  refused_some e one_to_one ((Some s, is, reads), keeps) refused fs has =
      refused_operation n fs f old has e l s o one_to_one keeps is reads refused

pub took_none : (n : TextForm) (f : Form) (old : Collector) (l : List Kept) (new : Collector) → new.names.kept.keys ≡ l
    → IsRead old.names.kept.keys l (said n old.taken f) IsOpIfAny None
    → new.taken ≡ min (old.taken + 1) (2 ^ 64 - 1)
    → ((passed : List Form) → ArePassed n passed old.passed_over → ArePassed n (passed ++ f ∷ []) new.passed_over)
    → new.pairing ≡ old.pairing → (fs : List Form) → HasCollected n fs old → HasCollected n (fs ++ f ∷ []) new
took_none n f old l new same ((Some s, is, reads), keeps) more passed pairs fs has = absurd reads
took_none n f old l new same ((None, is, reads), keeps) more passed pairs fs has =
    took_other n fs f old has new (subst (Keeps old.names.kept.keys) (sym same) keeps) is more passed pairs

pub counted_zero : 0 ≡ counted 0
unfolding counted
counted_zero = refl

-- a collector holds a history
pub history_of : (n : TextForm) (fs : List Form) (c : Collector) (h : History) → HasCollected n fs c → IsOneToOne c.names.kept.keys
    → h.names ≡ c.names → h.passed_over ≡ c.passed_over → h.transactions ≡ c.pairing.transactions → h.labels ≡ c.pairing.labels
    → IsHistory n fs h
history_of n fs c h has one_to_one names passed transactions labels = record {
  ops = has.ops;
  passed = has.passed;
  numbered = subst (λ k. AreNumbered n k fs has.passed has.ops) (sym (ap (λ m. m.kept.keys) names)) has.numbered;
  transactions_are = ap (λ v. map transaction_of v.items) transactions ∙ has.paired.transactions_are;
  labels_are = ap (λ v. v.items) labels ∙ has.paired.labels_are;
  passed_are = subst (ArePassed n has.passed) (sym passed) has.passed_over;
  one_to_one = subst IsOneToOne (sym (ap (λ m. m.kept.keys) names)) one_to_one;
}
