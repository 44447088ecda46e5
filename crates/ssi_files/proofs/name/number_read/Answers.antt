use Rattle.std.proofs.Common.{◌/◌, ◌%◌, ℕ, List, slice_index, ap, arith}
use Rattle.ssi_files.proofs.name.number_read.Goals as goal

pub returns-clause-number : goal.returns-clause-number
returns-clause-number c = λ n small same.
    let v0 = c.value.ensures.value (n / 10 / 10 / 10 / 10 / 10 / 10 / 10 % 10) (omega arith) (ap (λ (xs : List ℕ). slice_index xs 0) same) in
    let v1 = c.value-2.ensures.value (n / 10 / 10 / 10 / 10 / 10 / 10 % 10) (omega arith) (ap (λ (xs : List ℕ). slice_index xs 1) same) in
    let v2 = c.value-3.ensures.value (n / 10 / 10 / 10 / 10 / 10 % 10) (omega arith) (ap (λ (xs : List ℕ). slice_index xs 2) same) in
    let v3 = c.value-4.ensures.value (n / 10 / 10 / 10 / 10 % 10) (omega arith) (ap (λ (xs : List ℕ). slice_index xs 3) same) in
    let v4 = c.value-5.ensures.value (n / 10 / 10 / 10 % 10) (omega arith) (ap (λ (xs : List ℕ). slice_index xs 4) same) in
    let v5 = c.value-6.ensures.value (n / 10 / 10 % 10) (omega arith) (ap (λ (xs : List ℕ). slice_index xs 5) same) in
    let v6 = c.value-7.ensures.value (n / 10 % 10) (omega arith) (ap (λ (xs : List ℕ). slice_index xs 6) same) in
    let v7 = c.value-8.ensures.value (n % 10) (omega arith) (ap (λ (xs : List ℕ). slice_index xs 7) same) in
    omega arith
