use Rattle.std.proofs.Common.{◌<◌, ◌≤◌, ◌+◌, ◌∷◌, [], ◌++◌, map, take, drop, length, subst, sym, ◌∙◌, ap}
use Rattle.std.specs.HashMap.{get}
use Rattle.std.proofs.lemmas.List.{take-append-drop, take_all, length-map}
use Rattle.lemmas.proofs.Steps.{turn}
use Rattle.append_values.specs.Meaning.Histories.{operation_of}
use Rattle.append_check.specs.Machinery.Appending.{item, item_eq, times, count_in, Adds}
use Rattle.append_check.proofs.Appending.{adds_more, again_in_all}
use Rattle.append_check.proofs.appenders.Appenders.add.Goals as goal

pub steps-preserved : goal.steps-preserved
steps-preserved c =
    let old = get item_eq c.args.self.now.by_item in
    let mid = get item_eq c.steps.self.by_item in
    let new = get item_eq c.add_step.new.self.by_item in
    let all = map operation_of c.args.operations.now in
    let i = c.steps.operation-index in
    let o = c.operation-item.result in
    let t = turn operation_of c.args.operations.now i o c.steps-test.true c.operation-item.is in
    let more = rw c.in-None.is at c.in_ok-again.ensures in
    subst (Adds old new c.args.place) (sym t.front) (adds_more old mid new c.args.place (take i all) (operation_of o ∷ []) c.steps.invariant more)

pub returns-in-Some : goal.returns-in-Some
returns-in-Some c =
    let old = get item_eq c.args.self.now.by_item in
    let mid = get item_eq c.steps.self.by_item in
    let all = map operation_of c.args.operations.now in
    let i = c.steps.operation-index in
    let o = c.operation-item.result in
    let t = turn operation_of c.args.operations.now i o c.steps-test.true c.operation-item.is in
    let more = rw c.in-Some.is at c.in_ok-again.ensures in
    let k = c.in-Some.item.key in
    let x = c.in-Some.item.element in
    subst (λ (os : _). 1 < times (old (item k x)) + count_in k x os)
    (ap (λ os. os ++ drop (i + 1) all) (sym t.front) ∙ take-append-drop (i + 1) all)
    (again_in_all old mid c.args.place (take i all) (operation_of o ∷ []) (drop (i + 1) all) k x c.steps.invariant more)

pub returns : goal.returns
returns c =
    let old = get item_eq c.args.self.now.by_item in
    let now = get item_eq c.steps.self.by_item in
    let all = map operation_of c.args.operations.now in
    let past : length all ≤ c.steps.operation-index = rw length-map c.steps-test.false in
    subst (Adds old now c.args.place) (take_all c.steps.operation-index all past) c.steps.invariant
