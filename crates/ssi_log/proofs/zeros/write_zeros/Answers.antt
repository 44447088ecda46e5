use Rattle.std.proofs.Common.{◌≡◌, ℕ, ◌+◌, ◌<◌, ◌^◌, List, arith, length, sym, subst, take, ◌∙◌}
use Rattle.std.specs.Prelude.{IsTrue}
use Rattle.ssi_log.specs.Machinery.Zeros.{HasZeros}
use Rattle.ssi_log.proofs.Filling.{first_size, first_zeros, more_zeros, torn_below, zero_bytes, zeroed_more}
use Rattle.ssi_log.proofs.zeros.write_zeros.Goals as goal

pub returns-in_err-write_at-clause-crash : goal.returns-in_err-write_at-clause-crash
returns-in_err-write_at-clause-crash g c =
    let n = c.min-n.result in
    let size : length (take n (zero_bytes 16384)) ≡ n = first_size n 16384 (omega arith) in
    let fits : c.loop-at.at + length (take n (zero_bytes 16384)) < 2 ^ 64 = omega (arith, size) in
    zeroed_more c.args.from c.loop-at.at (take n (zero_bytes 16384)) c.loop-at.invariant.behind (first_zeros n 16384)
    (g.D.Disk.may_leave c.args.disk.now) (g.D.Disk.may_leave c.loop-at.disk) (g.D.Disk.may_leave c.write_at.new.self)
    c.loop-at.invariant.crash (c.write_at.ensures.mixed (subst IsTrue (sym c.loop-at.invariant.mixing) c.requires.mixing) fits)

pub loop-at-preserved : goal.loop-at-preserved
loop-at-preserved g c =
    let was = c.loop-at.invariant in
    let n = c.min-n.result in
    let at = c.loop-at.at in
    let bytes : List ℕ = take n (zero_bytes 16384) in
    let are = first_zeros n 16384 in
    let size : length (take n (zero_bytes 16384)) ≡ n = first_size n 16384 (omega arith) in
    let fits : at + length (take n (zero_bytes 16384)) < 2 ^ 64 = omega (arith, size) in
    let some : 0 < length (take n (zero_bytes 16384)) = omega (arith, size) in
    record {
      behind = omega (arith, was.behind);
      within = omega arith;
      usable = c.write_at.ensures.usable;
      faults = c.in_ok-write_at.ensures.faults ∙ was.faults;
      mixing = c.write_at.ensures.mixing ∙ was.mixing;
      clean = c.write_at.ensures.calm ∙ was.clean;
      same = torn_below c.args.from at bytes was.behind (g.D.Disk.seen c.args.disk.now) (g.D.Disk.seen c.loop-at.disk)
          (g.D.Disk.seen c.write_at.new.self) was.same c.write_at.ensures.others;
      zeros = λ more. subst (λ k. HasZeros c.args.from (at + k) (g.D.Disk.seen c.write_at.new.self)) size
          (more_zeros c.args.from at bytes was.behind (g.D.Disk.seen c.loop-at.disk) (g.D.Disk.seen c.write_at.new.self) are was.zeros
          c.write_at.ensures.others (c.in_ok-write_at.ensures.written some));
      crash = zeroed_more c.args.from at bytes was.behind are (g.D.Disk.may_leave c.args.disk.now)
          (g.D.Disk.may_leave c.loop-at.disk) (g.D.Disk.may_leave c.write_at.new.self)
          was.crash (c.write_at.ensures.mixed (subst IsTrue (sym was.mixing) c.requires.mixing) fits);
    }
