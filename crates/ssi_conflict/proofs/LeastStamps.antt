-- The least stamp of those that pass.
use Rattle.std.proofs.Common.{◌≡◌, ℕ, ◌⊎◌, nat_lt, List, Option, Some, None, sym, ◌∙◌, subst, arith, inl, inr}
use Rattle.std.proofs.lemmas.Bool.{cases_Bool, cond-true, cond-false, ltb-true, ltb-false}
use Rattle.ssi_conflict.specs.Meaning.Calls.{Call, stamp_of}
use Rattle.ssi_conflict.specs.Machinery.Rows.{IsLeast, sooner}

-- the same ones pass, and have the same stamps
pub least_carried : (P R : ℕ → Type 0) (calls later : List Call) (a : Option ℕ) → ((u : ℕ) → P u → R u)
    → ((u : ℕ) → R u → P u) → ((u : ℕ) → P u → stamp_of u later ≡ stamp_of u calls)
    → IsLeast P calls a → IsLeast R later a
least_carried P R calls later None to from same h = λ u r. h u (from u r)
least_carried P R calls later (Some b) to from same h = record {
  who = h.who;
  is_one = to h.who h.is_one;
  stamped = same h.who h.is_one ∙ h.stamped;
  least = λ u m r e. let p = from u r in h.least u m p (sym (same u p) ∙ e);
}

pub least_either : (P Q R : ℕ → Type 0) (calls : List Call) (a b : Option ℕ) → ((u : ℕ) → P u → R u)
    → ((u : ℕ) → Q u → R u) → ((u : ℕ) → R u → P u ⊎ Q u)
    → IsLeast P calls a → IsLeast Q calls b → IsLeast R calls (sooner a b)
least_either P Q R calls None None f g h i j = λ u r. elim (h u r) [ inl p ↦ i u p | inr q ↦ j u q ]
least_either P Q R calls None (Some m) f g h i j = record {
  who = j.who;
  is_one = g j.who j.is_one;
  stamped = j.stamped;
  least = λ u l r e. elim (h u r) [ inl p ↦ absurd (i u p) | inr q ↦ j.least u l q e ];
}
least_either P Q R calls (Some n) None f g h i j = record {
  who = i.who;
  is_one = f i.who i.is_one;
  stamped = i.stamped;
  least = λ u l r e. elim (h u r) [ inl p ↦ i.least u l p e | inr q ↦ absurd (j u q) ];
}
least_either P Q R calls (Some n) (Some m) f g h i j =
    elim (cases_Bool (nat_lt m n)) [
      | inl below ↦ subst (IsLeast R calls) (sym (cond-true (nat_lt m n) (Some m) (Some n) below)) (record {
        who = j.who;
        is_one = g j.who j.is_one;
        stamped = j.stamped;
        least = λ u l r e. elim (h u r) [
          | inl p ↦
              (let x = i.least u l p e in let y = ltb-true m n below in omega (arith, x, y))
          | inr q ↦ j.least u l q e
        ];
      })
      | inr above ↦ subst (IsLeast R calls) (sym (cond-false (nat_lt m n) (Some m) (Some n) above)) (record {
        who = i.who;
        is_one = f i.who i.is_one;
        stamped = i.stamped;
        least = λ u l r e. elim (h u r) [
          | inl p ↦ i.least u l p e
          | inr q ↦
              (let x = j.least u l q e in let y = ltb-false m n above in omega (arith, x, y))
        ];
      })
    ]
