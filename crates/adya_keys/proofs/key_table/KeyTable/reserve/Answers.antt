use Rattle.std.proofs.Common.{◌*◌, ap, arith, length, subst, sym}
use Rattle.adya_keys.specs.Machinery.Parts.{parts_of, HasRoom}
use Rattle.adya_keys.proofs.key_table.KeyTable.reserve.Goals as goal

pub returns-clause-keeps : goal.returns-clause-keeps
returns-clause-keeps c n more room =
    let t = c.args.self.now in
    let buckets = room.buckets in
    let next = room.next in
    let texts = subst (λ p. HasRoom p n (n * 32)) (sym c.widen.ensures.texts) room.texts in
    let same = ap length c.reserve-2.ensures.same in
    let before = ap (λ p. length (parts_of p)) c.widen.ensures.texts in
    record {
      buckets = omega (arith, buckets, same, before, c.widen.ensures.kept);
      next = omega (arith, next, c.widen.ensures.next, c.widen.ensures.capacity, c.reserve.ensures.len, c.reserve.ensures.capacity);
      texts = c.reserve-2.ensures.keeps n (n * 32) (omega (arith, more)) texts;
    }
