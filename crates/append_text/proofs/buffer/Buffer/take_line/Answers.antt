use Rattle.std.proofs.Common.{slice_range, arith}
use Rattle.append_text.proofs.BufferLines.{adds_all, adds_line, no_range}
use Rattle.append_text.proofs.buffer.Buffer.take_line.Goals as goal

pub returns-in_ok-extend_from_slice-in-Some-clause-front : goal.returns-in_ok-extend_from_slice-in-Some-clause-front
returns-in_ok-extend_from_slice-in-Some-clause-front c =
    let b = c.args.self.now in
    let at = c.in-Some.at in
    adds_line b.bytes b.start b.end at c.args.line.now.items c.extend_from_slice.new.self.items c.in-Some.ensures.0.high (omega arith)
    c.in-Some.ensures.0.before c.in-Some.ensures.1
    c.in_ok-extend_from_slice-in-Some.ensures.items

pub returns-in_ok-extend_from_slice-in-None-clause-front : goal.returns-in_ok-extend_from_slice-in-None-clause-front
returns-in_ok-extend_from_slice-in-None-clause-front c =
    let b = c.args.self.now in
    adds_all (slice_range b.bytes b.start b.end) (slice_range b.bytes b.end b.end) c.args.line.now.items
    c.extend_from_slice-in-None.new.self.items c.in-None.ensures c.in_ok-extend_from_slice-in-None.ensures.items (no_range b.bytes b.end)
