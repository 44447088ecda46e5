use Rattle.std.proofs.Common.{refl, subst, arith, ◌++◌, ◌∙◌}
use Rattle.std.specs.Prelude.{IfOk}
use Rattle.adya_text.specs.Meaning.Texts.{history_text, serial_text}
use Rattle.ssi_line.specs.Clauses.Dumps.{IsDumpText}
use Rattle.ssi_line.specs.Meaning.Steps.{Dumped, NotDumped, NotRead}
use Rattle.ssi_line.proofs.Drafts.{said}
use Rattle.ssi_line.proofs.Dumps.{said_same}
use Rattle.ssi_line.proofs.KeptHistories.{when_kept, no_dump}
use Rattle.ssi_line.proofs.carrying.say_dump.Goals as goal

pub returns-in-Some-Ok-clause-told : goal.returns-in-Some-Ok-clause-told
returns-in-Some-Ok-clause-told g c =
    let text = subst (λ r. IfOk r (λ t. IsDumpText (g.S.AnyStore.is_at c.args.store.now) t.items)) c.in-Some-Ok.field-0-is
    c.in-Some-Ok.ensures.text in (
      Dumped text.history text.serial,
      record {
        made = when_kept g.S.ProtocolStore.keeps c.in-Some-Ok.ensures.kept (refl, text.accepted);
        goes_on = refl;
        idle = refl;
        follows = text.follows;
        leaves = λ course. refl;
      },
      said_same g.W.Write.contents c.args.out.now c.say.new.out c.say.result c.deref.result.now
          (history_text text.history ++ serial_text text.serial) (c.deref.ensures.value ∙ text.is) c.say.ensures.said,
    )

pub returns-in-Some-Err-clause-told : goal.returns-in-Some-Err-clause-told
returns-in-Some-Err-clause-told g c = (
  NotDumped,
  record {
    made = when_kept g.S.ProtocolStore.keeps c.in-Some-Err.ensures.kept refl;
    goes_on = refl;
    idle = refl;
    follows = λ course at. tt;
    leaves = λ course. refl;
  },
  said g.W.Write.contents c.write_reply.result c.args.out.now c.write_reply.new.out _ c.write_reply.ensures.wrote
      c.write_reply.ensures.broke,
)

pub returns-in-None-clause-told : goal.returns-in-None-clause-told
returns-in-None-clause-told g c = (
  NotRead,
  record {
    made = (omega arith, no_dump g.S.ProtocolStore.keeps c.in-None.ensures.kept);
    goes_on = refl;
    idle = refl;
    follows = λ course at. tt;
    leaves = λ course. refl;
  },
  c.say-in-None.ensures.said,
)
