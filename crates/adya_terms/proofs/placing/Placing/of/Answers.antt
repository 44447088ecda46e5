use Rattle.std.proofs.Common.{◌≡◌, ◌+◌, ◌∙◌, ap, suc, arith, length, subst, sym}
use Rattle.adya_keys.specs.Machinery.Indices.{indices_in}
use Rattle.adya_values.specs.declared.events.Events.{Events}
use Rattle.adya_values.specs.Mirror.Lines.{orders_of}
use Rattle.adya_values.specs.Mirror.Numbers.{keys_of}
use Rattle.adya_terms.specs.Machinery.EventIndex.{indexed, keys_in, last_in}
use Rattle.adya_terms.specs.Machinery.Places.{orders_in, ArePlaced}
use Rattle.adya_terms.specs.Mirror.LineNumbers.{FindsLines}
use Rattle.adya_terms.proofs.Places.{injective}
use Rattle.adya_terms.proofs.PlacedLines.{event_passed, nothing_placed, placed_in}
use Rattle.adya_terms.proofs.placing.Placing.of.Goals as goal
use Rattle.adya_terms.proofs.placing.Placing.of.Goals.{in-Some+in_ok-put, in_default}

pub loop-at-init : goal.loop-at-init
loop-at-init c =
    let x = c.args.index.now in
    let os = orders_of c.args.orders.now in
    let y = c.in_ok-placing.placing in
    record {
      orders = c.in_ok-placing.ensures.orders;
      placed =
          nothing_placed (indexed x) (last_in x) (keys_in x) os y
          (subst (λ (es : Events). FindsLines (indices_in y.numbers) (keys_of es) os (length os)) c.events.ensures c.in_ok-placing.ensures.numbers)
          c.in_ok-placing.ensures.lines c.in_ok-placing.ensures.lacks c.in_ok-placing.ensures.left_out;
    }

pub loop-at-preserved : goal.loop-at-preserved
loop-at-preserved c =
    let x = c.args.index.now in
    let all = indexed x in
    let last = last_in x in
    let ks = keys_in x in
    let os = orders_of c.args.orders.now in
    let at = c.loop-at.at in
    let was = c.loop-at.invariant in
    let next : suc at ≡ at + 1 = omega arith in
    elim c.match-installed_at.branch [
      | in-Some+in_ok-put w ↦
          let same = ap orders_in w.placing-is in
          let put = placed_in os _ (λ zs. ArePlaced all last at ks zs c.loop-at.placing → ArePlaced all last (suc at) ks zs w.put.new.self) was.orders c.requires.rise
          (λ rise. w.in_ok-put.ensures.placed all last ks rise (injective _ _ _ _ all x.tell) w.in-Some.ensures.there w.in-Some.ensures.installs) in
          record {
            orders = same ∙ (w.in_ok-put.ensures.orders ∙ was.orders);
            placed = subst (λ n. ArePlaced all last n ks os c.match-installed_at.placing) next (subst (ArePlaced all last (suc at) ks os) (sym w.placing-is) (put was.placed));
          }
      | in_default w ↦
          record {
            orders = ap orders_in w.placing-is ∙ was.orders;
            placed =
                subst (λ n. ArePlaced all last n ks os c.match-installed_at.placing) next
                (subst (ArePlaced all last (suc at) ks os) (sym w.placing-is)
                (event_passed all last at ks os c.loop-at.placing was.placed w.in_default.ensures.none));
          }
    ]

pub returns-clause-placed : goal.returns-clause-placed
returns-clause-placed c =
    let x = c.args.index.now in
    let upto = c.loop-at.auto.at-end in
    let past = c.loop-at-test.false in
    let long = c.len-at-end.ensures.length in
    let end : c.loop-at.at ≡ length (indexed x) = omega (arith, upto, past, long) in
    subst (λ n. ArePlaced (indexed x) (last_in x) n (keys_in x) (orders_of c.args.orders.now) c.loop-at.placing) end c.loop-at.invariant.placed
