use Rattle.std.proofs.Common.{◌≤◌, ◌+◌, length, map, drop, subst}
use Rattle.std.proofs.lemmas.List.{length-map, drop_all}
use Rattle.lemmas.proofs.Steps.{turn}
use Rattle.append_values.specs.Meaning.Histories.{operation_of}
use Rattle.append_check.specs.Machinery.Running.{lists_of}
use Rattle.append_check.proofs.Running.{Goes, goes_on, ends}
use Rattle.append_check.proofs.lists.Lists.steps.Goals as goal

pub steps-preserved : goal.steps-preserved
steps-preserved c =
    let all = map operation_of c.args.operations.now in
    let first = lists_of c.args.self.now in
    let now = lists_of c.steps.self in
    let t = turn operation_of c.args.operations.now c.steps.operation-index c.operation-item.result c.steps-test.true c.operation-item.is in
    let said = c.in_ok-goes_on.ensures c.if-not-goes_on.false in
    goes_on c.args.claims first now (lists_of c.step.new.self) all (drop (c.steps.operation-index + 1) all)
    (operation_of c.operation-item.result) (subst (Goes c.args.claims first now all) t.rest c.steps.invariant) said.0 said.1

pub returns : goal.returns
returns c e =
    let all = map operation_of c.args.operations.now in
    let first = lists_of c.args.self.now in
    let now = lists_of c.steps.self in
    let past : length all ≤ c.steps.operation-index = rw length-map c.steps-test.false in
    ends c.args.claims first now all (subst (Goes c.args.claims first now all) (drop_all c.steps.operation-index all past) c.steps.invariant)
