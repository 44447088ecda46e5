use Rattle.std.proofs.Common.{sym, ◌∙◌}
use Rattle.edn.proofs.PlainWords.{plain_nil_read}
use Rattle.edn.proofs.plain.plain_nil.Goals as goal

pub returns-clause-exact : goal.returns-clause-exact
returns-clause-exact c = λ beyond.
    plain_nil_read beyond c.args.text.now c.in_ok-after_n.after_n.now c.in_ok-after_ni.after_ni.now c.in_ok-rest.rest.now
    (rw c.in_ok-after_n.was at c.after_byte.ensures.value)
    (rw c.in_ok-after_ni.was at c.after_byte-2.ensures.value)
    (rw c.in_ok-rest.was at c.after_byte-3.ensures.value)
    (sym c.begins_with_end.ensures ∙ c.if-not-begins_with_end.false)
