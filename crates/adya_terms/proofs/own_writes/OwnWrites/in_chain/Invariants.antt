use Rattle.std.proofs.Common.{◌≡◌, ◌-◌}
use Rattle.adya_terms.specs.Machinery.Chains.{walk}
use Rattle.adya_terms.proofs.own_writes.OwnWrites.in_chain.Given as goal

abbrev pub invariant-loop : goal.invariant-loop
invariant-loop l =
    let rows = l.self.rows.items in
    walk rows l.number l.fn.chain.len l.fn.chain.last ≡ walk rows l.number (l.end - l.counter) l.link
