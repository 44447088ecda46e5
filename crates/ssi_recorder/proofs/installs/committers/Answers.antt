use Rattle.std.proofs.Common.{◌≡◌, ◌∙◌, ◌+◌, ◌<◌, ap, sym, drop, fold, get_or, slice_get, Some, option_and_then, subst}
use Rattle.std.specs.List.{filter_map, cons_option}
use Rattle.std.proofs.lemmas.Option.{slice_get-get_or}
use Rattle.adya_values.specs.Meaning.Histories.{Abort}
use Rattle.adya_values.specs.Meaning.Events.{commit_of}
use Rattle.adya_values.specs.Mirror.Events.{events_of}
use Rattle.lemmas.proofs.Steps.{turn_at}
use Rattle.ssi_recorder.specs.Meaning.Recorded.{with_number}
use Rattle.ssi_recorder.proofs.installs.committers.Goals as goal
use Rattle.ssi_recorder.proofs.installs.committers.Goals.{in-Some+in_ok-insert, in_default}

pub events-preserved : goal.events-preserved
events-preserved c =
    let all = events_of c.args.events.now in
    let i = c.events.i in
    let keys = c.events.committed.keys in
    let x = get_or all i (Abort 0) in
    let found : slice_get all i ≡ Some x = slice_get-get_or all i (Abort 0) (subst (λ n. i < n) c.len-i-end.ensures.length c.events-test.true) in
    let left = filter_map commit_of (drop (i + 1) all) in
    let here : filter_map commit_of (drop i all) ≡ cons_option c.commit_at.result left =
    ap (filter_map commit_of) (turn_at all i x found).rest ∙
    ap (λ o. cons_option o left) (sym (ap (option_and_then commit_of) found) ∙ c.commit_at.ensures) in
    elim c.match-commit_at.branch [
      | in-Some+in_ok-insert w ↦
          ap (λ s. fold with_number s.keys left) w.committed-is ∙
          (ap (λ ks. fold with_number ks left) w.in_ok-insert.ensures.keys ∙
          (sym (ap (fold with_number keys) (here ∙ ap (λ o. cons_option o left) w.in-Some.is)) ∙ c.events.invariant))
      | in_default w ↦
          ap (λ s. fold with_number s.keys left) w.committed-is ∙
          (sym (ap (fold with_number keys) (here ∙ ap (λ o. cons_option o left) w.in_default.is)) ∙ c.events.invariant)
    ]
