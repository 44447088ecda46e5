-- A number is entered if and only if its name was found.
use Rattle.std.proofs.Common.{◌≡◌, ℕ, Bool, List, Some, true, cond, ◌||◌, bytes_eq, eqb, ◌∙◌, ap, eq-eqb, arith}
use Rattle.std.specs.Prelude.{◌↔◌}
use Rattle.std.specs.Cmp.{both_ways}
use Rattle.std.proofs.lemmas.Bool.Decides.{nat_tests}
use Rattle.std.specs.Ordering.{nat_cmp, is_eq}
use Rattle.std.proofs.lemmas.Bool.{eqb-true}
use Rattle.std.proofs.lemmas.Slice.Eq.{bytes_eq-Decides}

is_eq-nat_cmp : (a b : ℕ) → is_eq (nat_cmp a b) ≡ eqb a b
is_eq-nat_cmp a b = grind (arith, nat_tests)

some_same : (m n : ℕ) → Some m ≡ Some n → m ≡ n
some_same m n same = cc

pub named : (m n : ℕ) (name text : List ℕ) → ((Some m ≡ Some n) ↔ (name ≡ text)) → is_eq (nat_cmp m n) ≡ bytes_eq name text
named m n name text exact =
    is_eq-nat_cmp m n ∙ both_ways (eqb m n) (bytes_eq name text)
    (λ same. (bytes_eq-Decides name text).1 (exact.0 (ap Some (eqb-true m n same))))
    (λ same. eq-eqb m n (some_same m n (exact.1 ((bytes_eq-Decides name text).0 same))))

or_cond : (b c : Bool) → cond b true c ≡ (b || c)
or_cond b c = grind arith

pub entered : (m n : ℕ) (name text : List ℕ) (was is : Bool) → ((Some m ≡ Some n) ↔ (name ≡ text))
    → is ≡ cond (is_eq (nat_cmp m n)) true was → is ≡ (bytes_eq name text || was)
entered m n name text was is exact after =
    after ∙ (ap (λ b. cond b true was) (named m n name text exact) ∙ or_cond (bytes_eq name text) was)
