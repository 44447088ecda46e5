use Rattle.std.proofs.Common.{◌≡◌, ◌+◌, ◌∙◌, List, ap, length, refl, subst, sym, Some, [], true, false}
use Rattle.adya_values.specs.declared.fault.Rule.TheVariants.{M7}
use Rattle.adya_values.specs.Computing.Faults.{Malformed, first, fault_unless, has_lines, order_faults}
use Rattle.adya_values.specs.Meaning.Histories.{Order}
use Rattle.adya_values.specs.Mirror.Lines.{orders_of}
use Rattle.adya_terms.specs.Machinery.Checks.{parts, Names}
use Rattle.adya_terms.specs.Machinery.Places.{Judges}
use Rattle.adya_terms.specs.Machinery.EventIndex.{indexed, keys_in}
use Rattle.adya_terms.proofs.Firsts.{names_front}
use Rattle.adya_terms.proofs.PlacedLines.{all_listed, judges, one_unlisted, writes_are}
use Rattle.adya_terms.proofs.listed.check_orders.Goals as goal
use Rattle.adya_values.proofs.Faults.{first_right}
use Rattle.lemmas.proofs.Lists.{both_nil}

pub returns-in-Err-clause-faults : goal.returns-in-Err-clause-faults
returns-in-Err-clause-faults c =
    let x = c.args.index.now in
    let os = orders_of c.args.orders.now in
    let h = parts (indexed x) os [] in
    let placing = c.in-Ok.placing in
    let same = c.in-Ok.ensures.orders in
    let right = judges _ _ _ _ h.events x.tell (keys_in x) os placing (length h.events) refl c.in-Ok.ensures.placed in
    names_front (order_faults h.events c.args.first os) _ c.in-Err.fault
    (subst (λ (zs : List Order). Names (order_faults h.events c.args.first zs) c.in-Err.fault) same
    (c.in-Err.ensures h.events (subst (λ (zs : List Order). Judges h.events zs placing) (sym same) right)))

pub returns-then-placing-clause-faults : goal.returns-then-placing-clause-faults
returns-then-placing-clause-faults c =
    let x = c.args.index.now in
    let os = orders_of c.args.orders.now in
    let h = parts (indexed x) os [] in
    let line = c.args.first in
    let placing = c.in-Ok.placing in
    let same = c.in-Ok.ensures.orders in
    let right = judges _ _ _ _ h.events x.tell (keys_in x) os placing (length h.events) refl c.in-Ok.ensures.placed in
    let faultless = subst (λ (zs : List Order). order_faults h.events line zs ≡ []) same
    (c.in_default-check_lines.ensures h.events (subst (λ (zs : List Order). Judges h.events zs placing) (sym same) right)) in
    let none : has_lines h ≡ false =
    one_unlisted _ _ _ _ h.events x.tell (keys_in x) os placing (length h.events) refl c.in-Ok.ensures.placed c.if-placing.true in
    let end : first (fault_unless (has_lines h) (line + length h.orders) M7) ≡ Some (Malformed (line + c.len.result) M7) =
    ap (λ b. first (fault_unless b (line + length h.orders) M7)) none ∙ ap (λ n. Some (Malformed (line + n) M7)) (sym c.len.ensures.length) in
    first_right (order_faults h.events line os) _ _ faultless end

pub returns-clause-faults : goal.returns-clause-faults
returns-clause-faults c =
    let x = c.args.index.now in
    let os = orders_of c.args.orders.now in
    let h = parts (indexed x) os [] in
    let line = c.args.first in
    let placing = c.in-Ok.placing in
    let same = c.in-Ok.ensures.orders in
    let right = judges _ _ _ _ h.events x.tell (keys_in x) os placing (length h.events) refl c.in-Ok.ensures.placed in
    let faultless = subst (λ (zs : List Order). order_faults h.events line zs ≡ []) same
    (c.in_default-check_lines.ensures h.events (subst (λ (zs : List Order). Judges h.events zs placing) (sym same) right)) in
    let there : has_lines h ≡ true =
    all_listed _ _ _ _ h.events x.tell (keys_in x) os placing (length h.events) refl c.in-Ok.ensures.placed c.if-placing.false in
    both_nil (order_faults h.events line os) _ faultless (ap (λ b. fault_unless b (line + length h.orders) M7) there)

pub returns-clause-lines : goal.returns-clause-lines
returns-clause-lines c =
    let x = c.args.index.now in
    let os = orders_of c.args.orders.now in
    let all = indexed x in
    let line = c.args.first in
    let placing = c.in-Ok.placing in
    let same = c.in-Ok.ensures.orders in
    let right = judges _ _ _ _ all x.tell (keys_in x) os placing (length all) refl c.in-Ok.ensures.placed in
    writes_are _ _ _ _ all x.tell (keys_in x) os placing (length all) refl c.in-Ok.ensures.placed line
    (subst (λ (zs : List Order). order_faults all line zs ≡ []) same
    (c.in_default-check_lines.ensures all (subst (λ (zs : List Order). Judges all zs placing) (sym same) right)))
