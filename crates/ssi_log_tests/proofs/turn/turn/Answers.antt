use Rattle.std.proofs.Common.{◌++◌, arith}
use Rattle.ssi_log_tests.proofs.Kept.{fewer, longer}
use Rattle.ssi_log_tests.proofs.turn.turn.Goals as goal

pub returns-in_err-make_room-clause-crash : goal.returns-in_err-make_room-clause-crash
returns-in_err-make_room-clause-crash g c = λ text has plain.
    longer (g.D.Disk.may_leave c.make_room.new.log.disk) text c.args.log.now.synced (c.make_room.ensures.crash text has) c.args.bytes.now

pub returns-in_err-append-clause-crash : goal.returns-in_err-append-clause-crash
returns-in_err-append-clause-crash g c = λ text has plain.
    let mid = c.in_ok-make_room.ensures.text text has in
    fewer (g.D.Disk.may_leave c.append.new.self.disk) (text ++ c.args.bytes.now) c.make_room.new.log.synced
    (c.append.ensures.crash text mid plain) c.args.log.now.synced (c.in_ok-make_room.ensures.synced text has)

pub returns-clause-crash : goal.returns-clause-crash
returns-clause-crash g c = λ text has plain.
    let mid = c.in_ok-make_room.ensures.text text has in
    let added = c.in_ok-append.ensures.text text mid plain in
    fewer (g.D.Disk.may_leave c.sync.new.self.disk) (text ++ c.args.bytes.now) c.append.new.self.synced
    (c.sync.ensures.crash (text ++ c.args.bytes.now) added) c.args.log.now.synced
    (omega (arith, c.in_ok-make_room.ensures.synced text has, c.append.ensures.synced))
