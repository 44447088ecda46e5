use Rattle.std.proofs.Common.{◌≡◌, ◌∙◌, ◌-◌, length, reverse, ap, arith}
use Rattle.edn.proofs.Tapes.{length_back, skip_atoms}
use Rattle.edn.proofs.tape.Tape.start_of.Goals as goal

pub returns-then-count-self : goal.returns-then-count-self
returns-then-count-self c =
    let tape = c.args.self.now in
    let back = length_back tape.nodes.items in
    let few = tape.few in
    let len = tape.nodes.ok.0 in
    let here = c.len.ensures in
    let all : c.len.result ≡ length (reverse tape.nodes.items) = omega (arith, len, here, back) in
    ap (λ n. n - c.args.count) all
    ∙ skip_atoms (reverse tape.nodes.items) tape.atoms c.args.count c.if-count-self.true (omega (arith, few, back)) tape.flat
