use Rattle.std.proofs.Common.{drop, arith}
use Rattle.std.proofs.lemmas.List.{length-drop}
use Rattle.ssi_reads.proofs.Prefixes.{shared_within}
use Rattle.ssi_reads.proofs.place.shared_len.Goals as goal

pub returns : goal.returns
returns c =
    let low = c.args.low.now in
    let high = c.args.high.now in
    let n = c.loop-len.len in
    let within = shared_within (drop n low) (drop n high) in
    grind (arith, c.loop-len.invariant, within.0, within.1, length-drop n low, length-drop n high, c.min-most.ensures, c.loop-len-test.false, c.loop-len.auto.len-end)
