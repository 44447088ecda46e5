use Rattle.std.proofs.Common.{◌≡◌, ◌-◌, ℕ, Bool}
use Rattle.adya_keys.specs.Machinery.Within.{key_at}
use Rattle.adya_values.specs.Mirror.Numbers.{keys_of}
use Rattle.txn_table.specs.Mirror.{value_for}
use Rattle.adya_terms.specs.Machinery.Chains.{chain_passes}
use Rattle.adya_terms.specs.Machinery.Owed.{passes}
use Rattle.adya_terms.proofs.scans.Owed.has_chain.Given as goal

abbrev pub invariant-loop : goal.invariant-loop
invariant-loop l =
    let w = l.self.writes.now in
    let chain = value_for w.chains l.self.txn in
    let test : ℕ → Bool = λ n. passes l.self (key_at (keys_of w.events.now) n) in
    chain_passes w.rows.items test chain.len chain.last ≡ chain_passes w.rows.items test (l.end - l.counter) l.link
