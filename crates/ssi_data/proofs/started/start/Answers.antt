use Rattle.std.proofs.Common.{◌∙◌, ap, sym, subst}
use Rattle.std.specs.Prelude.{IsTrue}
use Rattle.ssi_log.specs.declared.log.Log.{Log}
use Rattle.ssi_log.specs.Machinery.Standing.{disk_of}
use Rattle.ssi_log.specs.Meaning.Texts.{text_of}
use Rattle.ssi_durable.specs.Meaning.Lines.{whole_lines}
use Rattle.ssi_data.proofs.started.start.Goals as goal

pub returns : goal.returns
returns g c = λ at.
    let (text, read, replayed, has, lines, torn, loaded) = c.in_ok-recovered.ensures.recovered at in (
      text,
      record {
        serves = c.in_ok-server.ensures.serves c.args.number (whole_lines text) replayed
            (record { plain = c.texts_fall_into_lines.ensures.whole text; has = has.has; synced = has.synced });
        read = λ clean. ap (λ (d : g.row.D.Denot). text_of (g.D.Disk.seen d)) (sym c.new-log.ensures.disk)
            ∙ read (subst (λ (l : Log g.row.D.Denot g.D.Disk). IsTrue (g.D.Disk.is_clean (disk_of l)))
            c.in_ok-server.ensures.log clean);
        lines = lines;
        torn = torn;
        loaded = loaded;
      },
    )
