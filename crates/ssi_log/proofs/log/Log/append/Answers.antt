use Rattle.std.proofs.Common.{arith, length-append, sym, ◌∙◌}
use Rattle.ssi_log.proofs.Standings.{keeps_more, keeps_text, leaves_more, longer, seen_more}
use Rattle.ssi_log.proofs.Texts.{no_zero_more}
use Rattle.ssi_log.proofs.log.Log.append.Goals as goal

pub returns-then-not-self-clause-crash : goal.returns-then-not-self-clause-crash
returns-then-not-self-clause-crash g c = λ text has none.
    longer (g.D.Disk.may_leave c.args.self.now.disk) text c.args.bytes.now c.args.self.now.synced (keeps_text c.args.self.now text has)

pub returns-then-bytes-self-clause-crash : goal.returns-then-bytes-self-clause-crash
returns-then-bytes-self-clause-crash g c = λ text has none.
    longer (g.D.Disk.may_leave c.args.self.now.disk) text c.args.bytes.now c.args.self.now.synced (keeps_text c.args.self.now text has)

pub returns-in-Err-clause-crash : goal.returns-in-Err-clause-crash
returns-in-Err-clause-crash g c = λ text has none.
    keeps_more c.args.self.now text has c.args.bytes.now none (omega arith) (g.D.Disk.may_leave c.write_at.new.self)
    (c.write_at.ensures.mixed (sym c.mixes.ensures ∙ c.if-not-mixes.false) (omega arith))

pub returns-clause-text : goal.returns-clause-text
returns-clause-text g c = λ text has none.
    let bytes = c.args.bytes.now in
    record {
      is_open = has.is_open;
      end = omega (arith, has.end, length-append text bytes);
      synced = omega (arith, has.synced);
      short = omega arith;
      plain = no_zero_more text bytes has.plain none;
      seen = seen_more c.args.self.now text has bytes none (omega arith) (g.D.Disk.seen c.write_at.new.self) c.write_at.ensures.others
          c.in_default.ensures.written;
      left = leaves_more c.args.self.now text has bytes none (omega arith) (g.D.Disk.may_leave c.write_at.new.self)
          (c.write_at.ensures.mixed (sym c.mixes.ensures ∙ c.if-not-mixes.false) (omega arith));
    }

pub returns-clause-crash : goal.returns-clause-crash
returns-clause-crash g c = λ text has none.
    keeps_more c.args.self.now text has c.args.bytes.now none (omega arith) (g.D.Disk.may_leave c.write_at.new.self)
    (c.write_at.ensures.mixed (sym c.mixes.ensures ∙ c.if-not-mixes.false) (omega arith))
