use Rattle.std.proofs.Common.{◌≡◌, ap, sym, ◌∙◌, arith, inl, inr}
use Rattle.std.proofs.lemmas.Bool.{cases_lt, false_from_ne_true}
use Rattle.adya_terms.specs.Clauses.Checked.{history_in}
use Rattle.lemmas.proofs.Orderings.{bytes_lt-apart}
use Rattle.adya_keys.specs.Meaning.Keys.{key_lt}
use Rattle.adya_dsg.specs.Machinery.Choices.{key_at}
use Rattle.adya_dsg.specs.Machinery.VersionOrders.{ordered_history, numbered}
use Rattle.adya_dsg.proofs.Keys.{lt-other, lt-turned}
use Rattle.adya_dsg.proofs.Lines.{lines_rise, line_above, line_below}
use Rattle.adya_dsg.proofs.version_orders.VersionOrders.lines_up_to.Goals as goal

pub returns-in-Some-clause-up_to : goal.returns-in-Some-clause-up_to
returns-in-Some-clause-up_to c = λ i l.
    let g = c.args.self.now in
    let k = numbered g c.args.key in
    let at = key_at (ordered_history g) in
    let n = c.in-Some.line in
    elim (cases_lt i n) [
      | inl below ↦
          lt-turned (at i) k
          (line_below (ordered_history g).orders (lines_rise (history_in g.checked.now)) k n c.in-Some.ensures.within
          c.in-Some.ensures.found i below)
      | inr more ↦
          let here : i ≡ n = omega (arith, l, more) in
          false_from_ne_true (key_lt k (at i)) (λ e. bytes_lt-apart k (at i) e (sym (ap at here ∙ c.in-Some.ensures.found)))
    ]

pub returns-in-Some-clause-above : goal.returns-in-Some-clause-above
returns-in-Some-clause-above c = λ i l m.
    let g = c.args.self.now in
    line_above (ordered_history g).orders (lines_rise (history_in g.checked.now)) (numbered g c.args.key) c.in-Some.line
    c.in-Some.ensures.found i (omega (arith, l)) m

pub returns-in-None-clause-up_to : goal.returns-in-None-clause-up_to
returns-in-None-clause-up_to c = λ i l.
    let g = c.args.self.now in
    lt-turned (key_at (ordered_history g) i) (numbered g c.args.key) (c.lines_below.ensures.below i l)

pub returns-in-None-clause-above : goal.returns-in-None-clause-above
returns-in-None-clause-above c = λ i l m.
    let g = c.args.self.now in
    lt-other (key_at (ordered_history g) i) (numbered g c.args.key) (c.lines_below.ensures.others i l m)
    (c.in-None.ensures.none i m)
