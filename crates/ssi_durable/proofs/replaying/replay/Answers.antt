use Rattle.std.proofs.Common.{◌+◌, ◌-◌, List, [], ◌∷◌, ◌++◌, length, refl, sym, ◌∙◌, ap, subst, arith, length-append}
use Rattle.std.proofs.lemmas.Bool.{false≢true}
use Rattle.adya_keys.specs.Meaning.Keys.{Bytes}
use Rattle.adya_text.specs.Meaning.Texts.{with_ends}
use Rattle.ssi_store.specs.Meaning.Courses.{New}
use Rattle.ssi_durable.specs.Meaning.Lines.{whole_lines}
use Rattle.ssi_durable.specs.Meaning.Replays.{Replays}
use Rattle.ssi_durable.specs.Clauses.Recovery.{ReplayFails}
use Rattle.ssi_durable.specs.Machinery.Noting.{loaded_with}
use Rattle.ssi_durable.proofs.Courses.{leads_on}
use Rattle.ssi_durable.proofs.Stopped.{stopped}
use Rattle.ssi_durable.proofs.Recovering.{IsFound, none_done, one_done, next_of, all_done, done_len, found_next, found_all}
use Rattle.ssi_durable.proofs.replaying.replay.Goals as goal

pub returns-then-not-has_header-clause-fault : goal.returns-then-not-has_header-clause-fault
returns-then-not-has_header-clause-fault g c = λ at has.
    false≢true (sym c.if-not-has_header.true ∙ c.has_header.ensures.1 has)

pub loop-line-init : goal.loop-line-init
loop-line-init g c = ([], none_done c.args.text.now, refl, omega arith, refl, λ at. (New 1, refl, at))

pub overflow_add-lines : goal.overflow_add-lines
overflow_add-lines g c =
    let (done, is, count, fits, found, led) = c.loop-line.invariant in
    omega (arith, fits, ap length c.in-Some.ensures.some.1, length-append c.in-Some.line.now (10 ∷ c.in-Some.after.now))

pub overflow_add-lines-in-Some : goal.overflow_add-lines-in-Some
overflow_add-lines-in-Some g c =
    let (done, is, count, fits, found, led) = c.loop-line.invariant in
    omega (arith, fits, ap length c.in-Some.ensures.some.1, length-append c.in-Some.line.now (10 ∷ c.in-Some.after.now))

pub loop-line-smaller : goal.loop-line-smaller
loop-line-smaller g c = omega (arith, ap length c.in-Some.ensures.some.1, length-append c.in-Some.line.now (10 ∷ c.in-Some.after.now))

pub loop-line-preserved : goal.loop-line-preserved
loop-line-preserved g c =
    let (done, is, count, fits, found, led) = c.loop-line.invariant in
    let (plain, first) = c.in-Some.ensures.some in
    let line = c.in-Some.line.now in
    let after = c.in-Some.after.now in (
      done ++ (line ∷ []),
      one_done c.args.text.now done c.loop-line.rest.now line after is plain first,
      omega (arith, count, length-append done (line ∷ [])),
      omega (arith, fits, ap length first, length-append line (10 ∷ after)),
      subst (IsFound c.args.text.now (done ++ (line ∷ [])) after)
          {x = loaded_with c.loop-line.loaded line (length c.args.text.now - length after)} (sym c.loaded_with-loaded.ensures)
          (found_next c.args.text.now done c.loop-line.rest.now line after is plain first c.loop-line.loaded found
          (length c.args.text.now - length after) refl),
      λ at.
          let (course, replayed, now) = led at in
          let next = c.in_default-carried.ensures.carried course now in
          (next.0, leads_on (New 1) done course next.0 line replayed next.1, next.2),
    )

pub returns-in-Err-clause-fault : goal.returns-in-Err-clause-fault
returns-in-Err-clause-fault g c = λ at.
    let (done, is, count, fits, found, led) = c.loop-line.invariant in
    let (plain, first) = c.in-Some.ensures.some in
    let line = c.in-Some.line.now in
    let after = c.in-Some.after.now in
    let (course, replayed, now) = led at in
    let lines = whole_lines c.args.text.now in
    subst (ReplayFails c.args.number lines) (sym c.at_line.ensures)
    (stopped c.args.number lines done (whole_lines after) line (c.loop-line.lines + 1) course c.in-Err.fault
    (next_of c.args.text.now done c.loop-line.rest.now line after is plain first) (omega (arith, count)) replayed
    (c.in-Err.ensures.fault course now))

pub overflow_sub-result : goal.overflow_sub-result
overflow_sub-result g c =
    let (done, is, count, fits, found, led) = c.loop-line.invariant in
    omega (arith, fits)

pub returns-clause-replayed : goal.returns-clause-replayed
returns-clause-replayed g c = λ at.
    let (done, is, count, fits, found, led) = c.loop-line.invariant in
    let all = all_done c.args.text.now done c.loop-line.rest.now is c.in_default.ensures.none in
    let (course, replayed, now) = led at in
    record {
      has_header = c.has_header.ensures.0 c.if-not-has_header.false;
      course = course;
      replayed = subst (λ (ls : List Bytes). Replays (New 1) ls course) (sym all) replayed;
      at = now;
    }

pub returns-clause-lines : goal.returns-clause-lines
returns-clause-lines g c =
    let (done, is, count, fits, found, led) = c.loop-line.invariant in
    count ∙ sym (ap length (all_done c.args.text.now done c.loop-line.rest.now is c.in_default.ensures.none))

pub returns-clause-len : goal.returns-clause-len
returns-clause-len g c =
    let (done, is, count, fits, found, led) = c.loop-line.invariant in
    done_len c.args.text.now done c.loop-line.rest.now is
    ∙ sym (ap (λ (ls : List Bytes). length (with_ends ls)) (all_done c.args.text.now done c.loop-line.rest.now is c.in_default.ensures.none))

pub returns-clause-loaded : goal.returns-clause-loaded
returns-clause-loaded g c =
    let (done, is, count, fits, found, led) = c.loop-line.invariant in
    c.unwrap_or.ensures ∙ found_all c.args.text.now done c.loop-line.rest.now c.in_default.ensures.none c.loop-line.loaded found
