use Rattle.std.proofs.Common.{nat_eq, sym, ap, arith, ◌∙◌}
use Rattle.std.specs.Cmp.Lexicographic.{pointwise}
use Rattle.append_text.specs.Meaning.Notations.{mark}
use Rattle.append_text.specs.Machinery.BufferTexts.{pending_in}
use Rattle.append_text.proofs.FirstBytes.{mark_missing, three_pending}
use Rattle.append_text.proofs.buffer.Buffer.drop_mark.Goals as goal

pub returns-else-is_mark-clause-kept : goal.returns-else-is_mark-clause-kept
returns-else-is_mark-clause-kept c = λ left text zero three has.
    let b = c.args.self.now in
    mark_missing (pending_in b) left text has (three_pending b.bytes b.start b.end (omega arith) zero three)
    (ap (λ p. pointwise nat_eq p mark) (sym c.pending.ensures) ∙ sym c.is_mark.ensures ∙ c.if-is_mark.false)
