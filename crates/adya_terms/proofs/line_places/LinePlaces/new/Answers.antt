use Rattle.std.proofs.Common.{ap, length, replicate, sym}
use Rattle.adya_values.specs.Mirror.Lines.{orders_of}
use Rattle.adya_keys.specs.Machinery.Indices.{indices_in}
use Rattle.adya_terms.specs.Machinery.LinePlaces.{blank}
use Rattle.adya_terms.proofs.LineParts.{line_added, named_is}
use Rattle.adya_terms.proofs.line_places.LinePlaces.new.Goals as goal

pub loop-i-preserved : goal.loop-i-preserved
loop-i-preserved c =
    let os = orders_of c.args.orders.now in
    let i = c.loop-i.i in
    let ts = c.writers.result.now in
    let named = named_is _ ts c.writers.ensures in
    line_added (blank os) (indices_in c.loop-i.writes) (indices_in c.loop-i.starts) i c.loop-i.invariant (replicate (length ts) 0) (ap (λ us. replicate (length us) 0) (sym named))
    (indices_in c.add_zeros.new.self) (indices_in c.push-in-loop-i.new.self) c.len-in-loop-i.result c.in_ok-add_zeros.ensures.ok c.len-in-loop-i.ensures.length c.in_ok-push-2.ensures.ok
