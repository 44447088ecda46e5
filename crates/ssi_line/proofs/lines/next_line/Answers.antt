use Rattle.std.proofs.Common.{rules, ◌++◌, ◌∙◌, sym, append-nil}
use Rattle.devices.specs.Clauses.Lines.{line_end}
use Rattle.ssi_line.proofs.Consumed.{took_front, read_more, fault_ends, same_bytes, plain_both, with_feed, without_feed}
use Rattle.ssi_line.proofs.lines.next_line.Goals as goal

pub returns-then-take_line-clause-bytes : goal.returns-then-take_line-clause-bytes
returns-then-take_line-clause-bytes g c =
    let (same, work, works, (past, plain, is, eaten)) = c.loop-buffer.invariant in
    let (taken, plain_taken, moved, keeps) = c.take_line.ensures.moved in (
      past ++ taken,
      plain_both past taken plain plain_taken,
      keeps past is,
      same_bytes _ _ _ _ (with_feed past taken c.take_line.result c.if-take_line.true)
          (took_front _ _ past (taken ++ line_end c.take_line.result) c.take_line.new.buffer c.loop-buffer.buffer moved eaten),
    )

pub returns-in_err-fill-clause-bytes : goal.returns-in_err-fill-clause-bytes
returns-in_err-fill-clause-bytes g c =
    let (same, work, works, (past, plain, is, eaten)) = c.loop-buffer.invariant in
    let (taken, plain_taken, moved, keeps) = c.take_line.ensures.moved in
    let front = took_front _ _ past (taken ++ line_end c.take_line.result) c.take_line.new.buffer c.loop-buffer.buffer moved eaten in
    let empty = c.take_line.ensures.all c.if-take_line.false in (
      past ++ taken,
      plain_both past taken plain plain_taken,
      keeps past is,
      same_bytes _ _ _ _
          (without_feed past taken c.take_line.result c.if-take_line.false
          ∙ fault_ends c.from_residual.result (past ++ taken) c.from_residual.ensures.0)
          (read_more _ _ _ _ c.fill.new.self c.take_line.new.buffer empty front c.fill.ensures.bytes),
    )

pub returns-then-not-branch-clause-bytes : goal.returns-then-not-branch-clause-bytes
returns-then-not-branch-clause-bytes g c =
    let (same, work, works, (past, plain, is, eaten)) = c.loop-buffer.invariant in
    let (taken, plain_taken, moved, keeps) = c.take_line.ensures.moved in
    let front = took_front _ _ past (taken ++ line_end c.take_line.result) c.take_line.new.buffer c.loop-buffer.buffer moved eaten in
    let empty = c.take_line.ensures.all c.if-take_line.false in (
      past ++ taken,
      plain_both past taken plain plain_taken,
      keeps past is,
      same_bytes _ _ _ _
          (without_feed past taken c.take_line.result c.if-take_line.false ∙ sym (append-nil (past ++ taken)))
          (read_more _ _ _ _ c.fill.new.self c.take_line.new.buffer empty front c.fill.ensures.bytes),
    )

pub loop-buffer-preserved : goal.loop-buffer-preserved
loop-buffer-preserved g c =
    let (same, work, works, (past, plain, is, eaten)) = c.loop-buffer.invariant in
    let (taken, plain_taken, moved, keeps) = c.take_line.ensures.moved in
    let front = took_front _ _ past (taken ++ line_end c.take_line.result) c.take_line.new.buffer c.loop-buffer.buffer moved eaten in
    let empty = c.take_line.ensures.all c.if-take_line.false in (
      search rules,
      search rules,
      search rules,
      (
        past ++ taken,
        plain_both past taken plain plain_taken,
        keeps past is,
        same_bytes _ _ _ _ (without_feed past taken c.take_line.result c.if-take_line.false)
            (read_more _ _ _ _ c.fill.new.self c.take_line.new.buffer empty front c.fill.ensures.bytes),
      ),
    )
