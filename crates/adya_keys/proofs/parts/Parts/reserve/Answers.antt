use Rattle.std.proofs.Common.{◌≡◌, ◌+◌, ◌≤◌, ap, arith, length}
use Rattle.adya_keys.proofs.parts.Parts.reserve.Goals as goal

pub returns-clause-keeps : goal.returns-clause-keeps
returns-clause-keeps g c n m more room =
    let old = c.args.self.now in
    let all = room.all in
    let few = room.few in
    let same : length c.reserve.new.self.items ≡ length old.all.items = ap length c.reserve.ensures.items in
    let most : c.len-2.result + c.args.elements ≤ length old.all.items + m = omega (arith, more, c.len-2.ensures, c.reserve.ensures.len, old.all.ok.0) in
    record {
      ends = rw same (c.reserve-2.ensures.keeps n (length old.all.items + m) most room.ends);
      all = omega (arith, all, c.reserve.ensures.len, c.reserve.ensures.capacity);
      few = omega (arith, few, ap length c.reserve-2.ensures.same);
    }
