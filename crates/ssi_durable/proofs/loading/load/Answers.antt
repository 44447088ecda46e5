use Rattle.std.proofs.Common.{List, [], ◌≡◌, sym, ◌∙◌, ap, subst, append-nil, length}
use Rattle.adya_keys.specs.Meaning.Keys.{Bytes}
use Rattle.adya_text.specs.Meaning.Texts.{with_ends}
use Rattle.ssi_log.specs.Machinery.Standing.{HasText}
use Rattle.ssi_durable.specs.Meaning.Lines.{whole_lines}
use Rattle.ssi_durable.specs.Clauses.Recovery.{IsReplayed}
use Rattle.ssi_durable.proofs.WholeLines.{lines_are, from_all_plain}
use Rattle.ssi_durable.proofs.loading.load.Goals as goal

pub returns-clause-loaded : goal.returns-clause-loaded
returns-clause-loaded g c = λ lines plain is none at.
    let same : whole_lines c.args.text.now ≡ lines =
    ap whole_lines (is ∙ sym (append-nil (with_ends lines))) ∙ lines_are lines [] (from_all_plain lines plain) tt in
    let resumed = c.in_default-resume.ensures.text none in (
      subst (λ (ls : List Bytes). IsReplayed g.S.AnyStore.is_at c.args.number ls c.replay.new.store) same
          (c.in_default.ensures.replayed at),
      record {
        plain = plain;
        has = subst (HasText c.resume.new.self) is resumed.0;
        synced = resumed.1 ∙ ap length is;
      },
    )
