use Rattle.std.proofs.Common.{◌≡◌, ℕ, List, ap, arith, inl, inr, length, option_map, Some, slice_get}
use Rattle.std.proofs.lemmas.Bool.{cases_lt}
use Rattle.adya_values.specs.Meaning.Histories.{Order}
use Rattle.adya_values.specs.Mirror.Lines.{orders_of}
use Rattle.adya_terms.specs.Machinery.EventIndex.{indexed}
use Rattle.adya_terms.proofs.Found.{found_is}
use Rattle.adya_terms.proofs.LastValues.{last_held, no_writer}
use Rattle.adya_terms.proofs.finals.last_write.Goals as goal

count_is : (os : List Order) (i : ℕ) (o : Order) (ts : List ℕ) → option_map (λ (x : Order). x.writers) (slice_get os i) ≡ Some ts → slice_get os i ≡ Some o
    → length o.writers ≡ length ts
count_is os i o ts is found = ap length (found_is (λ (x : Order). x.writers) (slice_get os i) o ts is found)

pub write_at-requires : goal.write_at-requires
write_at-requires c = let less = c.requires.there in let count = c.requires.writes.count in omega (arith, less, count)

pub returns-in_default : goal.returns-in_default
returns-in_default c o e =
    let x = c.args.index.now in
    let os = orders_of c.args.orders.now in
    let long = count_is os c.args.line o c.writers.result.now c.writers.ensures e in
    let none : length o.writers ≡ 0 = elim (cases_lt 0 (length o.writers)) [
      | inl more ↦ absurd (c.in_default.ensures (omega (arith, long, more)))
      | inr none ↦ omega (arith, none)
    ] in
    no_writer _ _ _ _ (indexed x) x.tell os c.requires.rise c.args.lines.now c.requires.writes c.args.line o e none

pub returns : goal.returns
returns c o e =
    let x = c.args.index.now in
    let os = orders_of c.args.orders.now in
    let long = count_is os c.args.line o c.writers.result.now c.writers.ensures e in
    let some = c.in-Some.ensures in
    last_held _ _ _ _ (indexed x) x.tell os c.requires.rise c.args.lines.now c.requires.writes c.args.line o e c.in-Some.last
    (omega (arith, long, some.0, some.1)) c.write_at.result c.write_at.ensures
