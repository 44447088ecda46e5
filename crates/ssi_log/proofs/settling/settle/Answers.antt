use Rattle.std.proofs.Common.{arith}
use Rattle.ssi_log.proofs.Settled.{written_left, zeroed_left}
use Rattle.ssi_log.proofs.settling.settle.Goals as goal

pub returns-in_err-write_at-clause-crash : goal.returns-in_err-write_at-clause-crash
returns-in_err-write_at-clause-crash g c = λ torn finds.
    written_left (g.D.Disk.seen c.args.disk.now) (g.D.Disk.may_leave c.args.disk.now) c.args.text.now torn finds
    (g.D.Disk.may_leave c.write_at.new.self) (c.write_at.ensures.mixed c.requires.mixing (omega arith))

pub returns-in_err-write_zeros-clause-crash : goal.returns-in_err-write_zeros-clause-crash
returns-in_err-write_zeros-clause-crash g c = λ torn finds.
    zeroed_left (g.D.Disk.seen c.args.disk.now) (g.D.Disk.may_leave c.args.disk.now) c.args.text.now torn finds
    (g.D.Disk.may_leave c.write_at.new.self) (g.D.Disk.may_leave c.write_zeros.new.disk)
    (c.write_at.ensures.mixed c.requires.mixing (omega arith)) c.write_zeros.ensures.crash

pub returns-clause-crash : goal.returns-clause-crash
returns-clause-crash g c = λ torn finds file left.
    zeroed_left (g.D.Disk.seen c.args.disk.now) (g.D.Disk.may_leave c.args.disk.now) c.args.text.now torn finds
    (g.D.Disk.may_leave c.write_at.new.self) (g.D.Disk.may_leave c.write_zeros.new.disk)
    (c.write_at.ensures.mixed c.requires.mixing (omega arith)) c.write_zeros.ensures.crash file (c.sync.ensures.crash file left)
