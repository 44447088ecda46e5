use Rattle.std.proofs.Common.{◌+◌, ◌≡◌, arith, length, sym, ap}
use Rattle.devices.specs.Clauses.Lines.{line_end}
use Rattle.devices.proofs.Ranges.{range_taken}
use Rattle.devices.proofs.line_buffer.LineBuffer.take.Goals as goal

pub returns-then-feed : goal.returns-then-feed
returns-then-feed c =
    let b = c.self.inside in
    let one : length (line_end c.args.feed) ≡ 1 = ap (λ f. length (line_end f)) c.if-feed.true in
    range_taken b.bytes c.args.self.now b.start b.end c.args.count c.args.feed (b.start + c.args.count + 1) (sym c.self.view_is)
    c.self.invariant.0 c.requires (omega (arith, one))

pub returns-else-feed : goal.returns-else-feed
returns-else-feed c =
    let b = c.self.inside in
    let none : length (line_end c.args.feed) ≡ 0 = ap (λ f. length (line_end f)) c.if-feed.false in
    range_taken b.bytes c.args.self.now b.start b.end c.args.count c.args.feed (b.start + c.args.count) (sym c.self.view_is)
    c.self.invariant.0 c.requires (omega (arith, none))
