use Rattle.std.proofs.Common.{[], ◌∷◌, length, arith}
use Rattle.adya_line.specs.Computing.Reading.{with_front, later_at}
use Rattle.adya_line.proofs.Orders.{goes_on, fails, is_done, after_shorter, writer_shorter}
use Rattle.adya_line.proofs.order_line.Cursor.later.Goals as goal

pub returns-in_default-writer : goal.returns-in_default-writer
returns-in_default-writer c =
    let bytes = c.args.self.now.rest.now in
    let total = with_front (c.args.first ∷ []) (later_at (length bytes) bytes) in
    let on = c.later.invariant in
    fails c.later.writers.items c.later.self.rest.now c.in-Some.rest.now total c.in-Some.ensures
    c.in_default-writer.ensures on

pub later-smaller : goal.later-smaller
later-smaller c =
    let rest = c.in-Some.rest.now in
    let first = after_shorter 60 c.later.self.rest.now rest c.in-Some.ensures in
    let one = c.in-Some-writer in
    let then = writer_shorter rest c.writer.new.self.rest.now one.writer one.ensures in
    omega (arith, first, then)

pub later-preserved : goal.later-preserved
later-preserved c =
    let bytes = c.args.self.now.rest.now in
    let total = with_front (c.args.first ∷ []) (later_at (length bytes) bytes) in
    let one = c.in-Some-writer in
    let after_t = c.writer.new.self.rest.now in
    let on = c.later.invariant in
    rw c.in_ok-push-2.ensures.items
    (goes_on c.later.writers.items c.later.self.rest.now c.in-Some.rest.now after_t one.writer total c.in-Some.ensures
    one.ensures on)

pub returns : goal.returns
returns c =
    let bytes = c.args.self.now.rest.now in
    let total = with_front (c.args.first ∷ []) (later_at (length bytes) bytes) in
    is_done c.later.writers.items c.later.self.rest.now total c.in_default.ensures c.later.invariant
