use Rattle.std.proofs.Common.{◌∙◌, ◌+◌, ◌<◌, ◌≤◌, ◌&&◌, Bool, drop, length, sym, ap, subst}
use Rattle.std.specs.List.{list_all}
use Rattle.std.proofs.lemmas.List.{drop_all}
use Rattle.adya_values.specs.Meaning.Histories.{Event}
use Rattle.adya_values.specs.Meaning.Events.{txn_of}
use Rattle.adya_terms.specs.Machinery.EventIndex.{indexed, is_done}
use Rattle.adya_terms.proofs.ends.all_end.Goals as goal
use Rattle.lemmas.proofs.Steps.{turn_below}

pub returns-then-not-is_done : goal.returns-then-not-is_done
returns-then-not-is_done c =
    let all = indexed c.args.index.now in
    let i = c.loop-i.i in
    let test : Event → Bool = λ e. is_done c.args.index.now (txn_of e) in
    let less : i < length all = subst (λ n. i < n) c.len-i-end.ensures.length c.loop-i-test.true in
    let t = turn_below all i less in
    sym (c.loop-i.invariant ∙ ap (list_all test) t.1.rest ∙
    ap (λ b. b && list_all test (drop (i + 1) all)) (sym (c.is_done.ensures t.0 t.1.found) ∙ c.if-not-is_done.true))

pub loop-i-preserved : goal.loop-i-preserved
loop-i-preserved c =
    let all = indexed c.args.index.now in
    let i = c.loop-i.i in
    let test : Event → Bool = λ e. is_done c.args.index.now (txn_of e) in
    let less : i < length all = subst (λ n. i < n) c.len-i-end.ensures.length c.loop-i-test.true in
    let t = turn_below all i less in
    c.loop-i.invariant ∙ ap (list_all test) t.1.rest ∙
    ap (λ b. b && list_all test (drop (i + 1) all)) (sym (c.is_done.ensures t.0 t.1.found) ∙ c.if-not-is_done.false)

pub returns : goal.returns
returns c =
    let all = indexed c.args.index.now in
    let i = c.loop-i.i in
    let test : Event → Bool = λ e. is_done c.args.index.now (txn_of e) in
    let past : length all ≤ i = subst (λ n. n ≤ i) c.len-i-end.ensures.length c.loop-i-test.false in
    sym (c.loop-i.invariant ∙ ap (list_all test) (drop_all i all past))
