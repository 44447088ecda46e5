use Rattle.std.proofs.Common.{◌≡◌, arith, refl}
use Rattle.ssi_log.proofs.Standings.{keeps_same, keeps_text, has_further, still_has}
use Rattle.ssi_log.proofs.log.Log.extend.Goals as goal

pub returns-then-not-self-clause-crash : goal.returns-then-not-self-clause-crash
returns-then-not-self-clause-crash g c = λ text has. keeps_text c.args.self.now text has

pub returns-in_default-clause-crash : goal.returns-in_default-clause-crash
returns-in_default-clause-crash g c = λ text has. keeps_text c.args.self.now text has

pub returns-in-Err-clause-crash : goal.returns-in-Err-clause-crash
returns-in-Err-clause-crash g c = λ text has.
    keeps_same c.args.self.now text has (g.D.Disk.may_leave c.write_zeros.new.disk) c.write_zeros.ensures.crash

pub returns-in_err-sync-clause-crash : goal.returns-in_err-sync-clause-crash
returns-in_err-sync-clause-crash g c = λ text has.
    c.sync.ensures.crash text (still_has c.args.self.now text has _ refl refl refl refl c.write_zeros.ensures.same c.write_zeros.ensures.crash)

pub returns-clause-text : goal.returns-clause-text
returns-clause-text g c = λ text has.
    let mid = c.in_ok-sync.ensures.text text (still_has c.args.self.now text has _ refl refl refl refl c.write_zeros.ensures.same c.write_zeros.ensures.crash) in
    let room : c.sync.new.self.room ≡ c.args.self.now.room = omega (arith, mid.0.short, has.short, c.in_ok-sync.ensures.room, c.in_ok-sync.ensures.end) in (
      has_further c.sync.new.self _ text (g.D.Disk.seen c.write_zeros.new.disk) mid.0 mid.1 c.in_ok-sync.ensures.durable
          c.in_ok-sync.ensures.seen refl refl refl refl c.args.self.now.room room (omega (arith, c.in-Some.ensures))
          c.in_default-write_zeros.ensures.zeros,
      mid.1,
    )

pub returns-clause-room : goal.returns-clause-room
returns-clause-room g c = omega (arith, c.args.self.now.ended)

pub returns-clause-crash : goal.returns-clause-crash
returns-clause-crash g c = λ text has.
    c.sync.ensures.crash text (still_has c.args.self.now text has _ refl refl refl refl c.write_zeros.ensures.same c.write_zeros.ensures.crash)
