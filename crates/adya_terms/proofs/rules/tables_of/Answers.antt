use Rattle.std.proofs.Common.{◌≡◌, ◌<◌, ◌+◌, ◌∙◌, ◌++◌, ◌∷◌, [], ◌≤◌, Bor, ap, length, refl, take, Some, arith, subst, sym}
use Rattle.std.proofs.lemmas.List.{drop_all, take_all}
use Rattle.std.specs.Prelude.{slice_get}
use Rattle.adya_values.specs.declared.events.Events.{Events}
use Rattle.adya_values.specs.Computing.Faults.{Malformed, event_faults, first}
use Rattle.adya_values.specs.Mirror.Events.{events_of}
use Rattle.adya_terms.specs.Machinery.NewestWrites.{Keeps}
use Rattle.adya_terms.specs.Machinery.Telling.{told, Means}
use Rattle.adya_terms.proofs.Firsts.{fault_here, fault_later}
use Rattle.adya_terms.proofs.NewestWrites.{written_quiet}
use Rattle.adya_terms.proofs.rules.tables_of.Goals as goal
use Rattle.adya_terms.proofs.rules.tables_of.Goals.{in-Some-numbered_at, in_default-numbered_at}
use Rattle.adya_values.proofs.Faults.{passes_all}
use Rattle.lemmas.proofs.Steps.{turn_below}

pub returns-in-Some : goal.returns-in-Some
returns-in-Some c =
    let all = events_of c.args.events.now in
    let i = c.loop-i.i in
    let t = turn_below all i (subst (λ n. i < n) c.len-i-end.ensures.length c.loop-i-test.true) in
    let same : told c.loop-i.tables ≡ all = ap events_of c.loop-i.invariant.same in
    let line : 2 + i ≡ i + 2 = omega arith in
    ap first c.loop-i.invariant.faults ∙
    (fault_here all i t.0 t.1 (Malformed (2 + i) c.in-Some.rule)
    (c.in-Some.ensures (take i all) t.0 c.loop-i.invariant.means (subst (λ xs. Keeps c.loop-i.newest xs (take i all)) (sym same) c.loop-i.invariant.newest)
    (ap (λ xs. slice_get xs i) same ∙ t.1.found) (2 + i)) ∙
    ap (λ n. Some (Malformed n c.in-Some.rule)) line)

pub loop-i-preserved : goal.loop-i-preserved
loop-i-preserved c =
    let all = events_of c.args.events.now in
    let i = c.loop-i.i in
    let t = turn_below all i (subst (λ n. i < n) c.len-i-end.ensures.length c.loop-i-test.true) in
    let e = t.0 in
    let same : told c.loop-i.tables ≡ all = ap events_of c.loop-i.invariant.same in
    let found = ap (λ xs. slice_get xs i) same ∙ t.1.found in
    let m = c.loop-i.invariant.means in
    let newest = c.loop-i.invariant.newest in
    let none = c.in_default-broken_rule.ensures (take i all) e m (subst (λ xs. Keeps c.loop-i.newest xs (take i all)) (sym same) newest) found (2 + i) in
    record {
      same = ap (λ (x : Bor Events). x.now) c.record.ensures.events ∙ c.loop-i.invariant.same;
      means = subst (Means c.record.new.self) (sym t.1.front) (c.in-Ok-record.ensures.means (take i all) e m found (passes_all (take i all) (2 + i) e none).next);
      newest = subst (Keeps c.match-numbered_at.newest all) (sym t.1.front)
          (elim c.match-numbered_at.branch [
            | in-Some-numbered_at v ↦
                subst (λ n. Keeps n all (take i all ++ e ∷ [])) (sym v.newest-is) (v.keep.ensures all (take i all) e newest t.1.found)
            | in_default-numbered_at v ↦
                subst (λ n. Keeps n all (take i all ++ e ∷ [])) (sym v.newest-is) (written_quiet c.loop-i.newest.places.items all (take i all) e newest)
          ]);
      faults = c.loop-i.invariant.faults ∙ fault_later all i e t.1 none;
    }

pub new-requires-2 : goal.new-requires-2
new-requires-2 c = c.key_count-keys.ensures.numbered

pub loop-i-init : goal.loop-i-init
loop-i-init c =
    record {
      same = c.in-Ok-new.ensures.events;
      means = c.in-Ok-new.ensures.means;
      newest = c.in-Ok.ensures (events_of c.args.events.now);
      faults = refl;
    }

pub broken_rule-requires : goal.broken_rule-requires
broken_rule-requires c =
    subst (λ n. c.loop-i.i < n) (c.len-i-end.ensures.length ∙ ap (λ es. length (events_of es)) (sym c.loop-i.invariant.same)) c.loop-i-test.true

pub record-requires : goal.record-requires
record-requires c =
    subst (λ n. c.loop-i.i < n) (c.len-i-end.ensures.length ∙ ap (λ es. length (events_of es)) (sym c.loop-i.invariant.same)) c.loop-i-test.true

pub returns : goal.returns
returns c =
    let all = events_of c.args.events.now in
    let i = c.loop-i.i in
    let past = subst (λ n. n ≤ i) c.len-i-end.ensures.length c.loop-i-test.false in (
      c.loop-i.invariant.same,
      subst (Means c.loop-i.tables) (take_all i all past) c.loop-i.invariant.means,
      c.loop-i.invariant.faults ∙ ap (event_faults (take i all) (2 + i)) (drop_all i all past),
    )
