use Rattle.std.proofs.Common.{[]}
use Rattle.ssi_log_tests.proofs.Kept.{found_whole, kept_whole}
use Rattle.ssi_log_tests.proofs.turn.restart.Goals as goal

pub returns-in_err-resume-clause-crash : goal.returns-in_err-resume-clause-crash
returns-in_err-resume-clause-crash g c = λ only clean.
    let mid = c.resume.ensures.clean clean in
    let same = c.deref.ensures.value in
    kept_whole (g.D.Disk.seen c.args.log.now.disk) c.in_ok-text.text.items c.deref.result.now (g.D.Disk.may_leave c.resume.new.self.disk)
    (c.resume.ensures.crash [] (found_whole (g.D.Disk.seen c.read.new.self.disk) c.in_ok-text.text.items c.deref.result.now
    (g.D.Disk.may_leave c.read.new.self.disk) (c.in_ok-text.ensures.finds mid only) same)) same (c.in_ok-text.ensures.text mid).0

pub returns-clause-crash : goal.returns-clause-crash
returns-clause-crash g c = λ only clean.
    let mid = c.resume.ensures.clean clean in
    let same = c.deref.ensures.value in
    kept_whole (g.D.Disk.seen c.args.log.now.disk) c.in_ok-text.text.items c.deref.result.now (g.D.Disk.may_leave c.resume.new.self.disk)
    (c.resume.ensures.crash [] (found_whole (g.D.Disk.seen c.read.new.self.disk) c.in_ok-text.text.items c.deref.result.now
    (g.D.Disk.may_leave c.read.new.self.disk) (c.in_ok-text.ensures.finds mid only) same)) same (c.in_ok-text.ensures.text mid).0
