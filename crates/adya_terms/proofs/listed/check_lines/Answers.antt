use Rattle.std.proofs.Common.{◌≡◌, ◌+◌, ◌∙◌, ◌<◌, ℕ, List, Bool, ap, arith, length, sym}
use Rattle.std.proofs.lemmas.List.{drop_all}
use Rattle.adya_values.specs.Meaning.Histories.{Event, Order}
use Rattle.adya_values.specs.Clauses.Rules.{installs}
use Rattle.adya_values.specs.Computing.Faults.{first, lists_exactly, order_faults}
use Rattle.adya_terms.specs.declared.placing.Placing.{Placing}
use Rattle.adya_terms.specs.Machinery.Places.{is_full, lacks_at, orders_in, places_in, Judges}
use Rattle.adya_terms.proofs.Firsts.{order_here, order_later}
use Rattle.adya_terms.proofs.listed.check_lines.Goals as goal
use Rattle.lemmas.proofs.Steps.{turn_below, IsTurn}

-- the line of the turn, and whether it is right
record IsJudged (all : List Event) (os : List Order) (i : ℕ) (b : Bool) : Type 0 where
  line : Order
  turn : IsTurn os i line
  exact : lists_exactly (installs all line.key) line.writers all ≡ b

judged : (all : List Event) (os : List Order) (x : Placing) (i : ℕ) (b : Bool) → Judges all os x → i < length os
    → is_full (places_in x.lines i) (lacks_at x.lacks.items i) ≡ b → IsJudged all os i b
judged all os x i b j less is =
    let t = turn_below os i less in
    record {
      line = t.0;
      turn = t.1;
      exact = j i t.0 t.1.found ∙ is;
    }

pub loop-i-init : goal.loop-i-init
loop-i-init c all j =
    let same : c.args.first ≡ c.args.first + 0 = omega arith in
    ap (λ n. order_faults all n (orders_in c.args.placing.now)) same

pub returns-then-not-is_full : goal.returns-then-not-is_full
returns-then-not-is_full c all j =
    let x = c.args.placing.now in
    let os = orders_in x in
    let i = c.loop-i.i in
    let less = c.loop-i-test.true in
    let count = c.len-i-end.ensures in
    let t = judged all os x i _ j (omega (arith, less, count)) (sym c.is_full.ensures ∙ c.if-not-is_full.true) in
    ap first (c.loop-i.invariant all j) ∙ order_here all (c.args.first + i) os i t.line t.turn t.exact

pub loop-i-preserved : goal.loop-i-preserved
loop-i-preserved c all j =
    let x = c.args.placing.now in
    let os = orders_in x in
    let i = c.loop-i.i in
    let less = c.loop-i-test.true in
    let count = c.len-i-end.ensures in
    let t = judged all os x i _ j (omega (arith, less, count)) (sym c.is_full.ensures ∙ c.if-not-is_full.false) in
    c.loop-i.invariant all j ∙ order_later all c.args.first os i t.line t.turn t.exact

pub returns : goal.returns
returns c all j =
    let os = orders_in c.args.placing.now in
    let i = c.loop-i.i in
    let past = c.loop-i-test.false in
    let count = c.len-i-end.ensures in
    c.loop-i.invariant all j ∙ ap (order_faults all (c.args.first + i)) (drop_all i os (omega (arith, past, count)))
