-- The first line that is faulty.
use Rattle.std.proofs.Common.{◌≡◌, ℕ, suc, ◌≤◌, inl, inr, List, [], ◌∷◌, ◌++◌, length, take, drop, refl, ap, arith, append_assoc, append-nil, take-append-drop}
use Rattle.std.proofs.lemmas.List.{length-append, take-append-le}
use Rattle.adya_text.specs.Clauses.Faults.{Begins, IsFaulty, IsFirstFaulty}

abbrev pub Grammar : Type 1
Grammar = List (List ℕ) → Type 0

pub front_begins : (grammar : Grammar) (xs ys : List (List ℕ)) → Begins grammar (xs ++ ys) → Begins grammar xs
front_begins grammar xs ys b = record { more = ys ++ b.more; within = rw (← append_assoc xs ys b.more) b.within }

pub take_begins : (grammar : Grammar) (lines : List (List ℕ)) (j : ℕ) → Begins grammar lines
    → Begins grammar (take j lines)
take_begins grammar lines j b = front_begins grammar (take j lines) (drop j lines) (rw (take-append-drop j lines) b)

-- if the lines begin a text, none of them is faulty
not_faulty : (grammar : Grammar) (lines : List (List ℕ)) (j : ℕ) → Begins grammar lines → j ≤ length lines
    → IsFaulty grammar lines j → ⊥
not_faulty grammar lines j b within (inl missing) = omega arith
not_faulty grammar lines j b within (inr stops) = stops (take_begins grammar lines j b)

pub fault_missing : (grammar : Grammar) (lines : List (List ℕ)) → Begins grammar lines
    → IsFirstFaulty grammar lines (suc (length lines))
fault_missing grammar lines b = record {
  counted = omega arith;
  faulty = inl (omega arith);
  first = λ j low high. not_faulty grammar lines j b (omega arith);
}

-- a line more makes no line before it faulty
fault_in_front : (grammar : Grammar) (lines more : List (List ℕ)) (j : ℕ) → j ≤ length lines
    → IsFaulty grammar (lines ++ more) j → IsFaulty grammar lines j
fault_in_front grammar lines more j within (inl missing) = absurd (omega (arith, length-append lines more))
fault_in_front grammar lines more j within (inr stops) = inr (λ b. stops (rw (take-append-le j lines more within) b))

fault_after : (grammar : Grammar) (lines more : List (List ℕ)) (j : ℕ) → j ≤ length lines → IsFaulty grammar lines j
    → IsFaulty grammar (lines ++ more) j
fault_after grammar lines more j within (inl missing) = absurd (omega arith)
fault_after grammar lines more j within (inr stops) = inr (λ b. stops (rw (take-append-le j lines more within) at b))

pub fault_stays : (grammar : Grammar) (lines more : List (List ℕ)) (k : ℕ) → k ≤ length lines
    → IsFirstFaulty grammar lines k → IsFirstFaulty grammar (lines ++ more) k
fault_stays grammar lines more k within fault = record {
  counted = fault.counted;
  faulty = fault_after grammar lines more k within fault.faulty;
  first = λ j low high f. fault.first j low high (fault_in_front grammar lines more j (omega arith) f);
}

take_all : (xs : List (List ℕ)) (x : List ℕ) → take (suc (length xs)) (xs ++ x ∷ []) ≡ xs ++ x ∷ []
take_all [] x = refl
take_all (y ∷ ys) x = ap (λ (r : List (List ℕ)). y ∷ r) (take_all ys x)

pub fault_at : (grammar : Grammar) (front : List (List ℕ)) (l : List ℕ) → Begins grammar front
    → (Begins grammar (front ++ l ∷ []) → ⊥) → IsFirstFaulty grammar (front ++ l ∷ []) (suc (length front))
fault_at grammar front l b stops = record {
  counted = omega arith;
  faulty = inr (λ begins. stops (rw (take_all front l) at begins));
  first = λ j low high f. not_faulty grammar front j b (omega arith)
      (fault_in_front grammar front (l ∷ []) j (omega arith) f);
}

-- lines with a faulty one begin nothing
pub fault_stops : (grammar : Grammar) (lines : List (List ℕ)) (k : ℕ) → k ≤ length lines
    → IsFirstFaulty grammar lines k → Begins grammar lines → ⊥
fault_stops grammar lines k within fault b = not_faulty grammar lines k b within fault.faulty

pub whole_begins : (grammar : Grammar) (lines : List (List ℕ)) → grammar lines → Begins grammar lines
whole_begins grammar lines is = record { more = []; within = rw (append-nil lines) is }
