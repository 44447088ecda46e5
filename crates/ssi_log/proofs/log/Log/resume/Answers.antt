use Rattle.std.proofs.Common.{◌++◌, ◌+◌, length, arith, length-append, refl, subst}
use Rattle.ssi_log.specs.Meaning.Texts.{HasNoZero}
use Rattle.ssi_log.proofs.Settled.{plain_text}
use Rattle.ssi_log.proofs.Texts.{keeps, left_synced}
use Rattle.ssi_log.proofs.Standings.{found_same}
use Rattle.ssi_log.proofs.log.Log.resume.Goals as goal

pub returns-in-Err-clause-crash : goal.returns-in-Err-clause-crash
returns-in-Err-clause-crash g c = λ torn finds.
    let all = c.args.text.now ++ torn in
    keeps (g.D.Disk.may_leave c.settle.new.disk) all (length c.args.text.now) (length all + 1)
    (subst HasNoZero finds.text_is (plain_text (g.D.Disk.seen c.args.self.now.disk)))
    (omega (arith, length-append c.args.text.now torn)) (omega arith)
    (c.settle.ensures.crash torn (found_same finds c.len.ensures.seen c.len.ensures.crash))

pub returns-clause-text : goal.returns-clause-text
returns-clause-text g c = λ plain. (
  record {
    is_open = refl;
    end = refl;
    synced = omega arith;
    short = omega (arith, c.in-Some.ensures);
    plain = plain;
    seen = c.in_default-settle.ensures.seen;
    left = left_synced (g.D.Disk.seen c.settle.new.disk) (g.D.Disk.may_leave c.settle.new.disk) c.args.text.now (length c.args.text.now)
        c.max-room.result c.in_default-settle.ensures.seen c.in_default-settle.ensures.only;
  },
  refl,
)

pub returns-clause-crash : goal.returns-clause-crash
returns-clause-crash g c = λ torn finds.
    let all = c.args.text.now ++ torn in
    keeps (g.D.Disk.may_leave c.settle.new.disk) all (length c.args.text.now) (length all + 1)
    (subst HasNoZero finds.text_is (plain_text (g.D.Disk.seen c.args.self.now.disk)))
    (omega (arith, length-append c.args.text.now torn)) (omega arith)
    (c.settle.ensures.crash torn (found_same finds c.len.ensures.seen c.len.ensures.crash))
