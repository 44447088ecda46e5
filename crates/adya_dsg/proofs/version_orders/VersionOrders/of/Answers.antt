use Rattle.std.proofs.Common.{refl, length, subst, sym}
use Rattle.std.proofs.lemmas.Result.{IfOk-from_err}
use Rattle.adya_values.specs.declared.events.Events.{Events}
use Rattle.adya_keys.specs.Machinery.Indices.{indices_in}
use Rattle.adya_values.specs.Mirror.Numbers.{keys_of}
use Rattle.adya_terms.specs.Clauses.Checked.{checked_history}
use Rattle.adya_terms.specs.Mirror.LineNumbers.{FindsLines}
use Rattle.adya_dsg.proofs.version_orders.VersionOrders.of.Goals as goal

pub line_tables-requires : goal.line_tables-requires
line_tables-requires c = tt

pub returns-in_err-tables : goal.returns-in_err-tables
returns-in_err-tables c = record { same = IfOk-from_err c.from_residual.result _ c.from_residual.ensures.0 }

pub scan_changes-requires : goal.scan_changes-requires
scan_changes-requires c = tt

pub returns-in_err-changes : goal.returns-in_err-changes
returns-in_err-changes c = record { same = IfOk-from_err c.from_residual-in_err-changes.result _ c.from_residual-in_err-changes.ensures.0 }

pub events-requires : goal.events-requires
events-requires c = tt

pub line_numbers-requires : goal.line_numbers-requires
line_numbers-requires c = tt

pub returns : goal.returns
returns c = record { same = refl }

pub invariant_of-result : goal.invariant_of-result
invariant_of-result c =
    let os = (checked_history c.args.checked.now).orders in record {
      same = c.events.ensures.events;
      found = subst (λ (es : Events). FindsLines (indices_in c.line_numbers.result.now) (keys_of es) os (length os))
          (sym c.events.ensures.same) c.line_numbers.ensures;
      tabled = c.in_ok-tables.ensures;
      changed = c.in_ok-changes.ensures;
    }
