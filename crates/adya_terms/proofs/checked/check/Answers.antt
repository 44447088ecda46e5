use Rattle.std.proofs.lemmas.Grind.{common_steps}
use Rattle.std.proofs.Common.{◌<◌, ◌^◌, ◌≡◌, ◌∙◌, ◌+◌, ℕ, List, true, sym, ap, subst, length, [], arith}
use Rattle.std.specs.List.{list_all}
use Rattle.adya_values.specs.declared.events.Events.{Events}
use Rattle.adya_terms.specs.declared.event_index.EventIndex.{EventIndex}
use Rattle.adya_values.specs.Meaning.Histories.{FinalPair, History, Order}
use Rattle.adya_values.specs.Mirror.Events.{events_of}
use Rattle.adya_values.specs.Mirror.Lines.{finals_of, orders_of}
use Rattle.adya_values.specs.Computing.Faults.{was_written, malformed, unfinished_faults, unfinished_line, orders_line}
use Rattle.adya_terms.specs.Machinery.EventIndex.{events_in, indexed, unfinished_in}
use Rattle.adya_terms.specs.Machinery.Checks.{Names, whole, rule_faults, read_faults}
use Rattle.adya_terms.proofs.Firsts.{names_behind}
use Rattle.adya_terms.proofs.Replaced.{all_were_written}
use Rattle.adya_terms.proofs.Parts.{events_first, unfinished_first, rules_first, none_malformed}
use Rattle.adya_terms.proofs.checked.check.Goals as goal
use Rattle.lemmas.proofs.Lists.{both_nil}

-- the index is of the same events and unfinished transactions
same_lists : (x : EventIndex) (es : Events) (us : List ℕ) (os : List Order) (fs : List FinalPair) → events_in x ≡ es → x.unfinished.now ≡ us
    → whole (indexed x) (unfinished_in x) os fs ≡ whole (events_of es) us os fs
same_lists x es us os fs e u =
    ap (λ v. whole (events_of v) (unfinished_in x) os fs) e ∙ ap (λ v. whole (events_of es) v os fs) u

pub returns-in-Err-clause-faults : goal.returns-in-Err-clause-faults
returns-in-Err-clause-faults c =
    let h = whole (events_of c.args.events.now) c.args.unfinished.now (orders_of c.args.orders.now) (finals_of c.args.finals.now) in
    events_first h c.in-Err.fault c.in-Err.ensures.faults

pub returns-in-Err-check_unfinished-clause-faults : goal.returns-in-Err-check_unfinished-clause-faults
returns-in-Err-check_unfinished-clause-faults c =
    let h = whole (events_of c.args.events.now) c.args.unfinished.now (orders_of c.args.orders.now) (finals_of c.args.finals.now) in
    let same = same_lists c.in-Ok.index c.args.events.now c.args.unfinished.now (orders_of c.args.orders.now) (finals_of c.args.finals.now) c.in-Ok.ensures.events c.in-Ok.ensures.unfinished in
    let n = c.len-unfinished_line.ensures.length in
    let at : c.len-unfinished_line.result + 2 ≡ unfinished_line h = omega (arith, n) in
    let fault = c.in-Err-check_unfinished.fault in
    unfinished_first h c.in-Ok.ensures.faults fault
    (subst (λ k. Names (unfinished_faults h.events k h.unfinished) fault) at
    (subst (λ (z : History). Names (unfinished_faults z.events (c.len-unfinished_line.result + 2) z.unfinished) fault) same c.in-Err-check_unfinished.ensures))

pub returns-in-Err-check_rules-clause-faults : goal.returns-in-Err-check_rules-clause-faults
returns-in-Err-check_rules-clause-faults c =
    let h = whole (events_of c.args.events.now) c.args.unfinished.now (orders_of c.args.orders.now) (finals_of c.args.finals.now) in
    let same = same_lists c.in-Ok.index c.args.events.now c.args.unfinished.now (orders_of c.args.orders.now) (finals_of c.args.finals.now) c.in-Ok.ensures.events c.in-Ok.ensures.unfinished in
    let n = c.len-unfinished_line.ensures.length in
    let at : c.len-unfinished_line.result + 2 ≡ unfinished_line h = omega (arith, n) in
    let ended = subst (λ k. unfinished_faults h.events k h.unfinished ≡ []) at
    (subst (λ (z : History). unfinished_faults z.events (c.len-unfinished_line.result + 2) z.unfinished ≡ []) same c.in_default.ensures) in
    let line : c.len-unfinished_line.result + 2 + length c.args.unfinished.now ≡ orders_line h = ap (λ k. k + length h.unfinished) at in
    let fault = c.in-Err-check_rules.fault in
    rules_first h c.in-Ok.ensures.faults ended fault
    (subst (λ k. Names (rule_faults h k) fault) line
    (subst (λ z. Names (rule_faults z (c.len-unfinished_line.result + 2 + length c.args.unfinished.now)) fault) same c.in-Err-check_rules.ensures.faults))

pub returns-in-Err-check_reads-clause-faults : goal.returns-in-Err-check_reads-clause-faults
returns-in-Err-check_reads-clause-faults c =
    let h = whole (events_of c.args.events.now) c.args.unfinished.now (orders_of c.args.orders.now) (finals_of c.args.finals.now) in
    let same = same_lists c.in-Ok.index c.args.events.now c.args.unfinished.now (orders_of c.args.orders.now) (finals_of c.args.finals.now) c.in-Ok.ensures.events c.in-Ok.ensures.unfinished in
    let n = c.len-unfinished_line.ensures.length in
    let at : c.len-unfinished_line.result + 2 ≡ unfinished_line h = omega (arith, n) in
    let ended = subst (λ k. unfinished_faults h.events k h.unfinished ≡ []) at
    (subst (λ (z : History). unfinished_faults z.events (c.len-unfinished_line.result + 2) z.unfinished ≡ []) same c.in_default.ensures) in
    let line : c.len-unfinished_line.result + 2 + length c.args.unfinished.now ≡ orders_line h = ap (λ k. k + length h.unfinished) at in
    let rules = subst (λ k. rule_faults h k ≡ []) line
    (subst (λ z. rule_faults z (c.len-unfinished_line.result + 2 + length c.args.unfinished.now) ≡ []) same c.in-Ok-check_rules.ensures.faults) in
    names_behind (malformed h) (read_faults h) c.in-Err-check_reads.fault (none_malformed h c.in-Ok.ensures.faults ended rules)
    (subst (λ z. Names (read_faults z) c.in-Err-check_reads.fault) same c.in-Err-check_reads.ensures)

pub returns-clause-faults : goal.returns-clause-faults
returns-clause-faults c =
    let h = whole (events_of c.args.events.now) c.args.unfinished.now (orders_of c.args.orders.now) (finals_of c.args.finals.now) in
    let same = same_lists c.in-Ok.index c.args.events.now c.args.unfinished.now (orders_of c.args.orders.now) (finals_of c.args.finals.now) c.in-Ok.ensures.events c.in-Ok.ensures.unfinished in
    let n = c.len-unfinished_line.ensures.length in
    let at : c.len-unfinished_line.result + 2 ≡ unfinished_line h = omega (arith, n) in
    let ended = subst (λ k. unfinished_faults h.events k h.unfinished ≡ []) at
    (subst (λ (z : History). unfinished_faults z.events (c.len-unfinished_line.result + 2) z.unfinished ≡ []) same c.in_default.ensures) in
    let line : c.len-unfinished_line.result + 2 + length c.args.unfinished.now ≡ orders_line h = ap (λ k. k + length h.unfinished) at in
    let rules = subst (λ k. rule_faults h k ≡ []) line
    (subst (λ z. rule_faults z (c.len-unfinished_line.result + 2 + length c.args.unfinished.now) ≡ []) same c.in-Ok-check_rules.ensures.faults) in
    both_nil (malformed h) (read_faults h) (none_malformed h c.in-Ok.ensures.faults ended rules)
    (subst (λ z. read_faults z ≡ []) same c.in_default-check_reads.ensures)

pub check_reads-requires : goal.check_reads-requires
check_reads-requires c = record {
  written =
      subst (λ (es : Events). let all = events_of es in list_all (was_written all) all ≡ true) (sym c.in-Ok.ensures.events)
      (all_were_written [] 2 (events_of c.args.events.now) c.in-Ok.ensures.faults);
}

pub check_unfinished-requires : goal.check_unfinished-requires
check_unfinished-requires c =
    let near : c.len-unfinished_line.result + 2 + length c.args.unfinished.now < 2 ^ 64 = grind (arith, common_steps) in
    record {
      near = subst (λ us. c.len-unfinished_line.result + 2 + length us < 2 ^ 64) (sym c.in-Ok.ensures.unfinished) near;
    }

pub check_rules-requires-clause-near : goal.check_rules-requires-clause-near
check_rules-requires-clause-near c =
    omega (
      arith,
      c.len-orders.ensures.length,
      c.len-orders.ensures.near,
      c.len-finals.ensures.length,
      c.len-finals.ensures.near,
      c.len-unfinished_line.ensures.near,
    )
