use Rattle.std.proofs.Common.{◌≡◌, ◌+◌, ◌∙◌, ◌||◌, ◌&&◌, Bool, Option, Some, None, List, true, false, not, ap, arith, drop, is_none, is_some, refl, sym, ℕ}
use Rattle.std.specs.List.{list_all}
use Rattle.adya_values.specs.Meaning.Histories.{Order}
use Rattle.adya_values.specs.Mirror.Lines.{finals_of, orders_of}
use Rattle.adya_values.specs.Clauses.Rules.{final_value}
use Rattle.adya_values.specs.Computing.Faults.{last_value}
use Rattle.adya_terms.specs.Machinery.Checks.{parts}
use Rattle.adya_terms.specs.Machinery.EventIndex.{indexed}
use Rattle.adya_terms.proofs.Found.{found_is}
use Rattle.adya_terms.proofs.finals.has_finals.Goals as goal
use Rattle.adya_terms.proofs.finals.has_finals.Goals.{else-has_value-via-then-has_value+else-not-has_final, else-has_value-via-else-has_value}
use Rattle.lemmas.proofs.Steps.{turn_below, IsTurn}

none_unless : (last : Option (List ℕ)) → is_none last ≡ not (is_some last)
none_unless None = refl
none_unless (Some x) = refl

-- whether the last version has no value
no_value : (last : Option (List ℕ)) (b : Bool) → b ≡ is_some last → is_none last ≡ not b
no_value last b is = none_unless last ∙ ap not (sym is)

-- a test of what is left, by that of the first element
all_from : {X : Type 0} (test : X → Bool) (xs : List X) (i : ℕ) (x : X) (b : Bool) → IsTurn xs i x → test x ≡ b → list_all test (drop i xs) ≡ (b && list_all test (drop (i + 1) xs))
all_from test xs i x b t e = ap (list_all test) t.rest ∙ ap (λ c. c && list_all test (drop (i + 1) xs)) e

pub returns-then-not-has_final : goal.returns-then-not-has_final
returns-then-not-has_final c =
    let os = orders_of c.args.orders.now in
    let fs = finals_of c.args.finals.now in
    let h = parts (indexed c.args.index.now) os fs in
    let test = λ (o : Order). is_none (last_value h o.key) || is_some (final_value fs o.key) in
    let less = c.loop-i-test.true in
    let count = c.len-i-end.ensures.length in
    let t = turn_below os c.loop-i.i (omega (arith, less, count)) in
    let o = t.0 in
    let key : o.key ≡ c.key.result = found_is (λ (x : Order). x.key) _ o _ c.key.ensures t.1.found in
    let last = no_value (last_value h o.key) _ (c.line_has_value-has_value.ensures o t.1.found) ∙ ap not c.if-has_value.true in
    let no_final = ap (λ k. is_some (final_value fs k)) key ∙ (sym c.has_final.ensures ∙ c.if-not-has_final.true) in
    sym (c.loop-i.invariant ∙ all_from test os c.loop-i.i o false t.1 (ap (λ b. b || is_some (final_value fs o.key)) last ∙ no_final))

pub loop-i-preserved : goal.loop-i-preserved
loop-i-preserved c =
    let os = orders_of c.args.orders.now in
    let fs = finals_of c.args.finals.now in
    let h = parts (indexed c.args.index.now) os fs in
    let test = λ (o : Order). is_none (last_value h o.key) || is_some (final_value fs o.key) in
    let less = c.loop-i-test.true in
    let count = c.len-i-end.ensures.length in
    let t = turn_below os c.loop-i.i (omega (arith, less, count)) in
    let o = t.0 in
    let last = no_value (last_value h o.key) _ (c.line_has_value-has_value.ensures o t.1.found) in
    c.loop-i.invariant ∙
    all_from test os c.loop-i.i o true t.1
    (elim c.else-has_value.branch [
      | else-has_value-via-then-has_value+else-not-has_final w ↦
          let key : o.key ≡ w.key.result = found_is (λ (x : Order). x.key) _ o _ w.key.ensures t.1.found in
          let final = ap (λ k. is_some (final_value fs k)) key ∙ (sym w.has_final.ensures ∙ w.if-not-has_final.false) in
          ap (λ b. b || is_some (final_value fs o.key)) (last ∙ ap not w.if-has_value.true) ∙ final
      | else-has_value-via-else-has_value w ↦
          ap (λ b. b || is_some (final_value fs o.key)) (last ∙ ap not w.if-has_value.false)
    ])
