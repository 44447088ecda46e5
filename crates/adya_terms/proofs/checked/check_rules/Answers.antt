use Rattle.std.proofs.Common.{◌≡◌, ℕ, ◌+◌, List, ◌++◌, ◌∙◌, sym, ap, subst, length, [], Result, MatchResult}
use Rattle.adya_values.specs.declared.fault.Rule.TheVariants.{M6}
use Rattle.adya_values.specs.declared.fault.CheckFault.{CheckFault}
use Rattle.adya_values.specs.Computing.Faults.{Malformed, first, fault_unless, all_end}
use Rattle.adya_values.specs.Mirror.Lines.{finals_of, orders_of}
use Rattle.adya_values.specs.Meaning.Histories.{Event, FinalPair, Order}
use Rattle.adya_terms.specs.Machinery.Checks.{Names, whole, listing_faults, final_value_faults, rule_faults}
use Rattle.adya_terms.specs.Machinery.EventIndex.{indexed, unfinished_in}
use Rattle.adya_terms.proofs.Firsts.{found_behind, names_front, names_behind}
use Rattle.adya_terms.proofs.checked.check_rules.Goals as goal
use Rattle.adya_values.proofs.Faults.{first_left}

pub returns-then-not-all_end-clause-faults : goal.returns-then-not-all_end-clause-faults
returns-then-not-all_end-clause-faults c =
    let x = c.args.index.now in
    let h = whole (indexed x) (unfinished_in x) (orders_of c.args.orders.now) (finals_of c.args.finals.now) in
    first_left (fault_unless (all_end h) c.args.line M6) (listing_faults h c.args.line ++ final_value_faults h (c.args.line + length h.orders)) (Malformed c.args.line M6)
    (ap (λ b. first (fault_unless b c.args.line M6)) (sym c.all_end.ensures ∙ c.if-not-all_end.true))

-- what the check of the finals finds comes after the order lines, which have no fault
after_orders : (es : List Event) (us : List ℕ) (os : List Order) (fs : List FinalPair) (line : ℕ) (r : Result (Unit {0}) CheckFault) (n : ℕ) → n ≡ length os
    → let h = whole es us os fs in fault_unless (all_end h) line M6 ≡ [] → listing_faults h line ≡ []
    → MatchResult r (λ u. final_value_faults h (line + n) ≡ []) (Names (final_value_faults h (line + n)))
    → MatchResult r (λ u. rule_faults h line ≡ []) (Names (rule_faults h line))
after_orders es us os fs line r n count ends lists finals =
    let h = whole es us os fs in
    found_behind r (fault_unless (all_end h) line M6) _ ends
    (found_behind r (listing_faults h line) _ lists
    (subst (λ k. MatchResult r (λ u. final_value_faults h (line + k) ≡ []) (Names (final_value_faults h (line + k)))) count finals))

pub returns-in-Err-clause-faults : goal.returns-in-Err-clause-faults
returns-in-Err-clause-faults c =
    let x = c.args.index.now in
    let h = whole (indexed x) (unfinished_in x) (orders_of c.args.orders.now) (finals_of c.args.finals.now) in
    let ends : fault_unless (all_end h) c.args.line M6 ≡ [] =
    ap (λ b. fault_unless b c.args.line M6) (sym c.all_end.ensures ∙ c.if-not-all_end.false) in
    names_behind (fault_unless (all_end h) c.args.line M6) _ c.in-Err.fault ends
    (names_front (listing_faults h c.args.line) (final_value_faults h (c.args.line + length h.orders)) c.in-Err.fault c.in-Err.ensures.faults)

pub returns-in-Ok-check_finals-clause-faults : goal.returns-in-Ok-check_finals-clause-faults
returns-in-Ok-check_finals-clause-faults c =
    let x = c.args.index.now in
    let h = whole (indexed x) (unfinished_in x) (orders_of c.args.orders.now) (finals_of c.args.finals.now) in
    let ends : fault_unless (all_end h) c.args.line M6 ≡ [] =
    ap (λ b. fault_unless b c.args.line M6) (sym c.all_end.ensures ∙ c.if-not-all_end.false) in
    subst (λ r. MatchResult r (λ u. rule_faults h c.args.line ≡ []) (Names (rule_faults h c.args.line))) c.in-Ok-check_finals.is
    (after_orders (indexed x) (unfinished_in x) (orders_of c.args.orders.now) (finals_of c.args.finals.now) c.args.line c.check_finals.result c.len.result c.len.ensures.length ends c.in-Ok.ensures.faults c.check_finals.ensures)
