use Rattle.std.proofs.Common.{◌≡◌, drop, flat_map}
use Rattle.std.specs.List.{find}
use Rattle.adya_values.specs.Mirror.Lines.{orders_of}
use Rattle.adya_dsg.specs.Machinery.PartEdges.{line_edges, is_backward}
use Rattle.adya_dsg.proofs.backward.first_write.Given as goal

abbrev pub invariant-loop-line : goal.invariant-loop-line
invariant-loop-line l =
    find (is_backward l.certificate.txns.now) (flat_map (λ o. line_edges o.key o.writers) (orders_of l.orders))
    ≡ find (is_backward l.certificate.txns.now)
    (flat_map (λ o. line_edges o.key o.writers) (drop l.line (orders_of l.orders)))
