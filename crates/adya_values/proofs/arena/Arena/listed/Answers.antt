use Rattle.std.proofs.Common.{◌≡◌, ◌-◌, ◌+◌, subst, sym, arith, true}
use Rattle.std.specs.List.{list_all}
use Rattle.adya_keys.specs.Machinery.Within.{part}
use Rattle.adya_values.specs.Machinery.Packed.{is_seen_of}
use Rattle.adya_keys.proofs.Within.{all_in_part}
use Rattle.adya_values.proofs.arena.Arena.listed.Goals as goal

pub returns-clause-there : goal.returns-clause-there
returns-clause-there c =
    let a = c.args.self.now in
    let l = c.args.listing in
    let ok = is_seen_of a in
    let count : (l.from + l.count) - l.from ≡ l.count = omega arith in
    rw c.deref.ensures.value
    (subst (λ n. list_all ok (part l.from n a.seen.items) ≡ true) (sym count) (all_in_part ok l.from l.count a.seen.items a.there))
