use Rattle.std.proofs.Common.{Bool, List, ◌++◌, subst}
use Rattle.ssi_hub.specs.Clauses.Calls.{Call}
use Rattle.ssi_log.specs.Meaning.Texts.{text_of}
use Rattle.ssi_durable.specs.Meaning.Lines.{IsBetween, whole_lines}
use Rattle.ssi_durable.specs.Meaning.Logs.{logged}
use Rattle.ssi_durable.specs.Clauses.Holding.{RestsOn}
use Rattle.ssi_durable.proofs.laws.crashes_end_lives.Goals as goal

pub returns-clause-synced : goal.returns-clause-synced
returns-clause-synced g c = λ n began calls file default serves left.
    let rests = subst (λ (b : Bool). RestsOn b c.args.server.now.holds serves.sure serves.since began.before) default serves.rests in (
      serves.since,
      serves.parts,
      record {
        start = serves.gone.start;
        replayed = serves.gone.replayed;
        end = serves.gone.end;
        led = serves.gone.led;
        between = subst (λ (cs : List Call). IsBetween (began.lines ++ logged cs) (whole_lines (text_of file))
            (began.lines ++ logged serves.since)) rests (serves.keeps.left file left);
      },
    )

pub returns-clause-early : goal.returns-clause-early
returns-clause-early g c = λ n began calls file early serves left.
    let held = subst (λ (b : Bool). RestsOn b c.args.server.now.holds serves.sure serves.since began.before) early serves.rests in (
      serves.since,
      serves.parts,
      record {
        start = serves.gone.start;
        replayed = serves.gone.replayed;
        end = serves.gone.end;
        led = serves.gone.led;
        sure = serves.sure;
        recent = held.recent;
        cut = held.cut;
        between = serves.keeps.left file left;
        told = λ t. (held.each t).told;
      },
    )
