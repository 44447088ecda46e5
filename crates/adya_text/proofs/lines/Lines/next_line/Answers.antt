use Rattle.std.proofs.Common.{◌≢◌, [], ◌∷◌, Ok, All, refl, rules, sym, ap, subst, ◌∙◌, inl, inr, arith, append-nil}
use Rattle.std.specs.Io.KnownBytes.{Consumes}
use Rattle.std.proofs.lemmas.Bool.{false≢true}
use Rattle.std.proofs.lemmas.Grind.{common_steps}
use Rattle.std.proofs.lemmas.List.Elements.{All-append}
use Rattle.std.proofs.lemmas.Result.{IfOk-at_ok, IfOk-from_err}
use Rattle.adya_text.specs.Machinery.LongLines.{IsLonger}
use Rattle.adya_text.proofs.FewReads.{took_idle, took_some, took_last}
use Rattle.adya_text.proofs.LineTaken.{unmapped, piece_taken, filled, some_taken, still_short, not_failed, as_before}
use Rattle.adya_text.proofs.ReadFaults.{ok_no_error, err_is}
use Rattle.adya_text.proofs.lines.Lines.next_line.Goals as goal

pub returns-then-branch : goal.returns-then-branch
returns-then-branch g c =
    let (plain, short, stream, work, same, works, few, eaten) = c.loop-line.invariant in
    let is = unmapped c.take_line.result _ _ c.map_err.ensures.cases c.map_err.ensures.variant
    (c.in_ok-map_err.was ∙ ap Ok c.if-branch.true) in
    let (taken, grown, plain_taken, moved) = IfOk-at_ok _ is c.take_line.ensures.moved in
    let less = IfOk-at_ok _ is c.take_line.ensures.less refl in record {
      bytes = piece_taken _ _ c.loop-line.line.items taken (10 ∷ []) c.take_line.new.self c.loop-line.self _ eaten moved grown;
      plain = subst (All (λ x. x ≢ 10)) (sym grown) (All-append (λ x. x ≢ 10) c.loop-line.line.items taken plain plain_taken);
      short = still_short c.args.longest c.loop-line.line.items _ short (IfOk-at_ok _ is c.take_line.ensures.short);
      end = λ no. absurd (false≢true (sym no));
      less = λ _. omega (arith, less, work);
      few = took_idle _ _ _ _ few;
      no_idle = λ _. few;
      fault = λ no. absurd (ok_no_error no);
      stream = stream;
      unfailed = λ _. same;
      works = λ empty. elim (works empty) [
        | inl none ↦ absurd (some_taken c.take_line.new.self c.loop-line.self less none.1)
        | inr is_works ↦ is_works
      ];
    }

pub returns-then-not-branch : goal.returns-then-not-branch
returns-then-not-branch g c =
    let (plain, short, stream, work, same, works, few, eaten) = c.loop-line.invariant in
    let is = unmapped c.take_line.result _ _ c.map_err.ensures.cases c.map_err.ensures.variant
    (c.in_ok-map_err.was ∙ ap Ok c.if-branch.false) in
    let (taken, grown, plain_taken, moved) = IfOk-at_ok _ is c.take_line.ensures.moved in
    let left = IfOk-at_ok _ is c.take_line.ensures.all refl in
    let fill = c.in_ok-fill.ensures in
    let works_now = not_failed _ fill.fault.1 in record {
      bytes = subst (Consumes _ _) (sym (append-nil c.take_line.new.line.items))
          (filled _ _ _ c.take_line.new.line.items c.take_line.new.self c.fill.new.self
          (piece_taken _ _ c.loop-line.line.items taken [] c.take_line.new.self c.loop-line.self _ eaten moved grown)
          left fill.bytes);
      plain = subst (All (λ x. x ≢ 10)) (sym grown) (All-append (λ x. x ≢ 10) c.loop-line.line.items taken plain plain_taken);
      short = still_short c.args.longest c.loop-line.line.items _ short (IfOk-at_ok _ is c.take_line.ensures.short);
      end = λ _. inr (fill.end c.if-not-branch.true);
      less = λ no. absurd (false≢true no);
      few = took_last _ _ _ _ _ _ few fill.bytes fill.few;
      no_idle = λ is. elim is [
        | inl is_line ↦ absurd (false≢true is_line)
        | inr longer ↦ absurd (false≢true (c.if-is_longer.ensures.1 (subst (IsLonger c.args.longest) (sym c.deref.ensures.value) longer)))
      ];
      fault = λ no. absurd (ok_no_error no);
      stream = g.met.S.Source.same_trans _ _ _ stream fill.stream;
      unfailed = λ _. as_before _ _ works_now fill.kept ∙ same;
      works = λ _. works_now;
    }

pub loop-line-preserved : goal.loop-line-preserved
loop-line-preserved g c =
    let (plain, short, stream, work, same, works, few, eaten) = c.loop-line.invariant in
    let is = unmapped c.take_line.result _ _ c.map_err.ensures.cases c.map_err.ensures.variant
    (c.in_ok-map_err.was ∙ ap Ok c.if-branch.false) in
    let (taken, grown, plain_taken, moved) = IfOk-at_ok _ is c.take_line.ensures.moved in
    let left = IfOk-at_ok _ is c.take_line.ensures.all refl in
    let fill = c.in_ok-fill.ensures in
    let works_now = not_failed _ fill.fault.1 in (
      subst (All (λ x. x ≢ 10)) (sym grown) (All-append (λ x. x ≢ 10) c.loop-line.line.items taken plain plain_taken),
      grind (arith, common_steps),
      g.met.S.Source.same_trans _ _ _ stream fill.stream,
      omega (arith, work, fill.less c.if-not-branch.false, fill.short),
      as_before _ _ works_now fill.kept ∙ same,
      λ _. inr works_now,
      took_some _ _ _ _ _ _ few fill.bytes fill.few (fill.some c.if-not-branch.false),
      filled _ _ _ c.take_line.new.line.items c.take_line.new.self c.fill.new.self
          (piece_taken _ _ c.loop-line.line.items taken [] c.take_line.new.self c.loop-line.self _ eaten moved grown)
          left fill.bytes,
    )

pub loop-line-smaller : goal.loop-line-smaller
loop-line-smaller g c =
    let fill = c.in_ok-fill.ensures in omega (arith, fill.less c.if-not-branch.false, fill.short)

pub returns-in_err-map_err : goal.returns-in_err-map_err
returns-in_err-map_err g c =
    let (plain, short, stream, work, same, works, few, eaten) = c.loop-line.invariant in
    let failed = c.from_residual.ensures.0 in record {
      bytes = IfOk-from_err c.from_residual.result _ failed;
      plain = IfOk-from_err c.from_residual.result _ failed;
      short = IfOk-from_err c.from_residual.result _ failed;
      end = IfOk-from_err c.from_residual.result _ failed;
      less = IfOk-from_err c.from_residual.result _ failed;
      few = took_idle _ _ _ _ few;
      no_idle = IfOk-from_err c.from_residual.result _ failed;
      fault = search rules;
      stream = stream;
      unfailed = λ none. same;
      works = λ _. IfOk-from_err c.from_residual.result _ failed;
    }

pub returns-in_err-fill : goal.returns-in_err-fill
returns-in_err-fill g c =
    let (plain, short, stream, work, same, works, few, eaten) = c.loop-line.invariant in
    let fault = c.from_residual-in_err-fill in record {
      bytes = IfOk-from_err fault.result _ fault.ensures.0;
      plain = IfOk-from_err fault.result _ fault.ensures.0;
      short = IfOk-from_err fault.result _ fault.ensures.0;
      end = IfOk-from_err fault.result _ fault.ensures.0;
      less = IfOk-from_err fault.result _ fault.ensures.0;
      few = took_last _ _ _ _ _ _ few c.fill.ensures.bytes c.fill.ensures.few;
      no_idle = IfOk-from_err fault.result _ fault.ensures.0;
      fault = λ _. c.in_err-fill.ensures.fault.0 refl;
      stream = g.met.S.Source.same_trans _ _ _ stream c.fill.ensures.stream;
      unfailed = λ none. absurd (none (err_is fault.result _ fault.ensures.1));
      works = λ _. IfOk-from_err fault.result _ fault.ensures.0;
    }
