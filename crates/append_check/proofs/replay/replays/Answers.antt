use Rattle.std.proofs.Common.{◌≡◌, ◌<◌, ◌+◌, ◌∷◌, length, drop, get_or, add-one, subst}
use Rattle.std.proofs.Math.Seq.{drop-cons}
use Rattle.append_values.specs.Meaning.Runs.{empty}
use Rattle.append_check.specs.Meaning.Verdicts.{history_of}
use Rattle.append_check.specs.Machinery.Running.{lists_of}
use Rattle.append_check.proofs.Running.{Replays, replay_goes_on}
use Rattle.append_check.proofs.replay.replays.Goals as goal

pub order-preserved : goal.order-preserved
order-preserved c =
    let h = history_of c.args.transactions.now in
    let all = c.args.order.now in
    let i = c.order.place-index in
    let now = lists_of c.order.lists in
    let within : i < length all = c.order-test.true in
    let rest : drop i all ≡ get_or all i 0 ∷ drop (i + 1) all = rw (add-one, drop-cons all i 0) in
    let said = c.in_ok-fine.ensures c.if-not-fine.false in
    replay_goes_on h empty now (lists_of c.replay_one.new.lists) all (drop (i + 1) all) (get_or all i 0)
    (subst (Replays h empty now all) rest c.order.invariant) said.0 said.1
