use Rattle.std.proofs.Common.{arith, subst, sym}
use Rattle.std.specs.Prelude.{IfSome}
use Rattle.lemmas.proofs.Indices.{all_more}
use Rattle.adya_values.specs.Mirror.Events.{entries_of}
use Rattle.adya_line.specs.Meaning.Limits.{IsEntry}
use Rattle.adya_line.proofs.laws.entries_within.Goals as goal

pub loop-j-preserved : goal.loop-j-preserved
loop-j-preserved c =
    let within = subst (λ o. IfSome o IsEntry) (sym c.at.ensures) c.entry_within.ensures in
    all_more IsEntry (entries_of c.args.entries.now) c.loop-j.j (omega arith) within c.loop-j.invariant
