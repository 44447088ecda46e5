use Rattle.std.proofs.Common.{◌≡◌, ◌<◌, ◌≤◌, ◌+◌, ◌++◌, ◌∷◌, [], ℕ, Vec, Global, map, drop, length, get_or, refl, sym, ◌∙◌, ap, subst, append-nil, arith, falls, lt_of_lt_of_le}
use Rattle.std.proofs.lemmas.Result.{IfOk-from_err}
use Rattle.std.specs.List.{All}
use Rattle.std.proofs.lemmas.List.{map-append}
use Rattle.std.proofs.lemmas.List.Elements.{All-push, All-nil}
use Rattle.adya_values.specs.Meaning.Histories.{Scan}
use Rattle.adya_values.specs.Meaning.Selections.{selected, place_of}
use Rattle.adya_dsg.specs.Machinery.VersionOrders.{ordered_entry, ordered_history, numbered}
use Rattle.adya_dsg.specs.declared.selection.Selection.{Selection}
use Rattle.adya_dsg.specs.Machinery.Choices.{choice_of, key_at}
use Rattle.adya_dsg.proofs.Selections.{chosen_in, scan_starts, scan_ends, inside, chosen_step, passed_step}
use Rattle.adya_dsg.proofs.selection.select_scanned.Goals as goal
use Rattle.adya_dsg.proofs.selection.select_scanned.Goals.{in-Some+in_ok-push, in_default}

pub loop-line-init : goal.loop-line-init
loop-line-init c =
    let g = c.args.versions.now in
    let h = ordered_history g in
    let os = h.orders in
    let low = numbered g c.args.low in
    let high = numbered g c.args.high in
    let es = map (ordered_entry g) c.args.seen.now in
    let n = c.lines_below-line.result in
    let none = c.requires.none in record {
      within = subst (λ zs. (k : ℕ) (d : Selection) → k < length zs → (get_or zs k d).line < length os) (sym none)
          (All-nil (λ (s : Selection). s.line < length os));
      choices =
          ap (λ zs. map (choice_of h) zs ++ chosen_in (selected h (Scan c.args.txn low high es)) (drop n h.orders)) none ∙
          scan_starts h c.args.txn low high es n c.lines_below-line.ensures.below;
      passed = λ i l m. refl;
    }

pub loop-line-preserved : goal.loop-line-preserved
loop-line-preserved c =
    let g = c.args.versions.now in
    let h = ordered_history g in
    let os = h.orders in
    let low = numbered g c.args.low in
    let high = numbered g c.args.high in
    let es = map (ordered_entry g) c.args.seen.now in
    let f = selected h (Scan c.args.txn low high es) in
    let i = c.loop-line.line in
    let k = key_at h i in
    let end = c.lines_up_to-line-end.ensures.within in
    let within : i < length os = omega (arith, end, c.loop-line-test.true) in
    let passed = λ (j : ℕ) (l : i ≤ j) (m : j < length os).
    c.reached-next.ensures.same j l m ∙ c.loop-line.invariant.passed j l m in
    let later = λ (j : ℕ) (l : i + 1 ≤ j) (m : j < length os). passed j (omega (arith, l)) m in
    let gives : f k ≡ c.selected.result =
    inside h c.args.txn low high es k (c.lines_below-line.ensures.others i c.loop-line.auto.line within)
    (c.lines_up_to-line-end.ensures.up_to i c.loop-line-test.true) ∙
    (ap (place_of h c.args.txn k) (sym (c.listed-listed.ensures ∙ passed i (omega arith) within)) ∙
    sym c.selected.ensures) in
    let done = map (choice_of h) c.loop-line.selections.items in
    let rest = chosen_in f (drop (i + 1) h.orders) in
    let in_lines = λ (s : Selection). s.line < length os in
    elim c.match-selected.branch [
      | in-Some+in_ok-push w ↦
          let s : Selection = record { line = i; place = w.in-Some.place } in record {
            within = subst (λ (v : Vec Selection Global). All in_lines v.items) (sym w.selections-is)
                (subst (All in_lines) (sym w.in_ok-push.ensures.items)
                (All-push in_lines c.loop-line.selections.items s c.loop-line.invariant.within within));
            choices =
                ap (λ (v : Vec Selection Global). map (choice_of h) v.items ++ rest) w.selections-is ∙
                (ap (λ zs. map (choice_of h) zs ++ rest) w.in_ok-push.ensures.items ∙
                (ap (λ zs. zs ++ rest) (map-append (choice_of h) c.loop-line.selections.items (s ∷ [])) ∙
                chosen_step f h.orders i within done _ c.loop-line.invariant.choices w.in-Some.place (gives ∙ w.in-Some.is)));
            passed = later;
          }
      | in_default w ↦ record {
        within = subst (λ (v : Vec Selection Global). All in_lines v.items) (sym w.selections-is)
            c.loop-line.invariant.within;
        choices =
            ap (λ (v : Vec Selection Global). map (choice_of h) v.items ++ rest) w.selections-is ∙
            passed_step f h.orders i within done _ c.loop-line.invariant.choices (gives ∙ w.in_default.is);
        passed = later;
      }
    ]

pub returns-clause-choices : goal.returns-clause-choices
returns-clause-choices c =
    let g = c.args.versions.now in
    let h = ordered_history g in
    let es = map (ordered_entry g) c.args.seen.now in
    let done = map (choice_of h) c.loop-line.selections.items in
    let end = c.loop-line-test.false in
    sym (append-nil done) ∙
    (ap (λ zs. done ++ zs)
    (sym (scan_ends h c.args.txn (numbered g c.args.low) (numbered g c.args.high) es c.loop-line.line
    (λ i l m. c.lines_up_to-line-end.ensures.above i (omega (arith, end, l)) m))) ∙
    c.loop-line.invariant.choices)

pub lines_below-line-requires : goal.lines_below-line-requires
lines_below-line-requires c = c.requires.low

pub lines_up_to-line-end-requires : goal.lines_up_to-line-end-requires
lines_up_to-line-end-requires c = c.requires.high

pub reached-next-requires : goal.reached-next-requires
reached-next-requires c = c.requires.there

pub listed-listed-requires-clause-within : goal.listed-listed-requires-clause-within
listed-listed-requires-clause-within c = lt_of_lt_of_le c.loop-line-test.true c.lines_up_to-line-end.ensures.within

pub listed-listed-requires-clause-there : goal.listed-listed-requires-clause-there
listed-listed-requires-clause-there c = c.requires.there

pub listed-listed-requires-clause-rise : goal.listed-listed-requires-clause-rise
listed-listed-requires-clause-rise c = c.requires.rise

pub listed-listed-requires-clause-reached : goal.listed-listed-requires-clause-reached
listed-listed-requires-clause-reached c = c.reached-next.ensures.reached

pub selected-requires : goal.selected-requires
selected-requires c = lt_of_lt_of_le c.loop-line-test.true c.lines_up_to-line-end.ensures.within

pub returns-in_err-push-clause-within : goal.returns-in_err-push-clause-within
returns-in_err-push-clause-within c = IfOk-from_err c.from_residual.result _ c.from_residual.ensures.0

pub returns-in_err-push-clause-choices : goal.returns-in_err-push-clause-choices
returns-in_err-push-clause-choices c = IfOk-from_err c.from_residual.result _ c.from_residual.ensures.0

pub loop-line-smaller : goal.loop-line-smaller
loop-line-smaller c = falls _ _ c.loop-line-test.true

pub returns-clause-within : goal.returns-clause-within
returns-clause-within c = c.loop-line.invariant.within
