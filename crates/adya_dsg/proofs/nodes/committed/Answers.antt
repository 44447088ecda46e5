use Rattle.std.proofs.Common.{◌<◌, ◌∙◌, All, Vec, Global, ℕ, ◌++◌, ◌∷◌, [], append-nil, ap, sym, subst, arith}
use Rattle.std.specs.List.{cons_option}
use Rattle.std.proofs.lemmas.List.Elements.{All-push}
use Rattle.std.proofs.lemmas.Grind.{common_steps}
use Rattle.adya_keys.specs.Meaning.Keys.{IsTxn}
use Rattle.adya_values.specs.Mirror.Events.{events_of}
use Rattle.adya_dsg.proofs.CommittedNodes.{one_more}
use Rattle.adya_dsg.proofs.nodes.committed.Goals as goal
use Rattle.adya_dsg.proofs.nodes.committed.Goals.{in-Some+in_ok-push, in_default}

pub loop-i-preserved : goal.loop-i-preserved
loop-i-preserved c =
    let ts = c.loop-i.nodes.items in
    let more = one_more (events_of c.args.events.now) c.loop-i.i
    (subst (λ n. c.loop-i.i < n) c.len-i-end.ensures.length c.loop-i-test.true) c.commit_at.result c.commit_at.ensures ts
    c.loop-i.invariant.value in
    elim c.match-commit_at.branch [
      | in-Some+in_ok-push w ↦
          let longer = ap (λ (v : Vec ℕ Global). v.items) w.nodes-is ∙ w.in_ok-push.ensures.items in record {
            value = longer ∙ (ap (λ (t : ℕ). ts ++ t ∷ []) w.get.ensures.same ∙
                (sym (ap (λ o. ts ++ cons_option o []) w.in-Some.is) ∙ more));
            numbers = subst (All IsTxn) (sym longer) (All-push IsTxn ts _ c.loop-i.invariant.numbers
                (subst IsTxn (sym w.get.ensures.same) w.get.ensures.limits));
          }
      | in_default w ↦
          let same = ap (λ (v : Vec ℕ Global). v.items) w.nodes-is in record {
            value = same ∙ (sym (append-nil ts) ∙ (sym (ap (λ o. ts ++ cons_option o []) w.in_default.is) ∙ more));
            numbers = subst (All IsTxn) (sym same) c.loop-i.invariant.numbers;
          }
    ]

pub returns-clause-value : goal.returns-clause-value
returns-clause-value c = grind (arith, common_steps)
