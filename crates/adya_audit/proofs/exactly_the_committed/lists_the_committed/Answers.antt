use Rattle.std.proofs.Common.{◌&&◌, ℕ, sym, ◌∙◌, ap, nat_cmp}
use Rattle.std.specs.List.{list_all}
use Rattle.std.specs.BTreeSet.{contains}
use Rattle.adya_values.specs.Mirror.Histories.{history_of}
use Rattle.adya_audit.specs.Machinery.ExactlyTheCommitted.{commit_passes}
use Rattle.adya_audit.proofs.ExactlyTheCommitted.{twice_fails, lists_by_set}
use Rattle.adya_audit.proofs.exactly_the_committed.lists_the_committed.Goals as goal
use Rattle.adya_audit.proofs.exactly_the_committed.lists_the_committed.Goals.{then-all_committed, else-all_committed}

pub returns-in_default : goal.returns-in_default
returns-in_default c =
    let h = history_of c.args.checked.now.history.now in
    let twice = rw c.in_default.is at c.in_ok-listed.ensures in
    sym (twice_fails h.events c.args.txns.now twice.0 twice.1)

pub returns : goal.returns
returns c =
    let h = history_of c.args.checked.now.history.now in
    let listed = λ (t : ℕ). contains nat_cmp c.in-Some.listed t in
    let all = lists_by_set h.events c.args.txns.now listed (rw c.in-Some.is at c.in_ok-listed.ensures) in
    let events = c.events-events.ensures ∙ ap (λ x. (history_of x).events) c.history.ensures.same in
    let rest = list_all (commit_passes listed) h.events in
    elim c.if-all_committed.branch [
      | then-all_committed w ↦
          w.result-is ∙ w.all_listed.ensures ∙ ap (λ es. list_all (commit_passes listed) es) events
          ∙ ap (λ b. b && rest) (sym w.if-all_committed.true ∙ c.all_committed.ensures) ∙ all
      | else-all_committed w ↦
          w.result-is ∙ w.if-all_committed.false
          ∙ ap (λ b. b && rest) (sym w.if-all_committed.false ∙ c.all_committed.ensures) ∙ all
    ]
