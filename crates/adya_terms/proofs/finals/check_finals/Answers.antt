use Rattle.std.proofs.Common.{◌≡◌, ◌+◌, ◌∙◌, sym, ap, length, Some}
use Rattle.adya_values.specs.declared.fault.Rule.TheVariants.{M8}
use Rattle.adya_values.specs.Computing.Faults.{Malformed, first, fault_unless, has_finals, final_faults}
use Rattle.adya_values.specs.Mirror.Lines.{finals_of, orders_of}
use Rattle.adya_terms.specs.Machinery.EventIndex.{indexed}
use Rattle.adya_terms.specs.Machinery.Checks.{parts}
use Rattle.adya_terms.proofs.finals.check_finals.Goals as goal
use Rattle.adya_values.proofs.Faults.{first_right}

pub returns-then-not-has_finals : goal.returns-then-not-has_finals
returns-then-not-has_finals c =
    let h = parts (indexed c.args.index.now) (orders_of c.args.orders.now) (finals_of c.args.finals.now) in
    let line = c.args.first in
    let last : first (fault_unless (has_finals h) (line + length h.finals) M8) ≡ Some (Malformed (line + c.len.result) M8) =
    ap (λ b. first (fault_unless b (line + length h.finals) M8)) (sym c.has_finals.ensures ∙ c.if-not-has_finals.true) ∙
    ap (λ n. Some (Malformed (line + n) M8)) (sym c.len.ensures.length) in
    first_right (final_faults h line h.finals) _ _ c.in_default.ensures last
