use Rattle.std.proofs.Common.{◌≡◌, Some, sym, subst}
use Rattle.std.specs.Io.KnownBytes.{prepend_known}
use Rattle.append_text.specs.Meaning.Notations.{after_mark}
use Rattle.append_text.specs.Machinery.BufferTexts.{pending_in}
use Rattle.append_text.proofs.FirstBytes.{begun_text, nothing_pending}
use Rattle.append_text.proofs.TextFaults.{begun_unfailed}
use Rattle.append_text.proofs.reading.read_edn.Goals as goal

pub returns-clause-history : goal.returns-clause-history
returns-clause-history g c = λ text is.
    let left = g.S.Read.remaining c.skip_mark.new.source in
    let begun = after_mark text in
    c.edn_text.ensures.history begun (begun_text begun c.pending.result.now c.in_ok-after.field-0 left
    (subst (λ p. prepend_known p left ≡ Some (after_mark text)) (sym c.pending.ensures)
    (c.in_ok-skip_mark.ensures.kept text c.new-buffer.ensures.start c.new-buffer.ensures.end
    (nothing_pending (pending_in c.new-buffer.result) (g.S.Read.remaining c.args.source.now) text c.new-buffer.ensures.pending is)))
    c.in_ok-after.ensures.begins)

pub returns-clause-fault : goal.returns-clause-fault
returns-clause-fault g c = λ text is.
    let left = g.S.Read.remaining c.skip_mark.new.source in
    let begun = after_mark text in
    c.edn_text.ensures.fault begun (begun_text begun c.pending.result.now c.in_ok-after.field-0 left
    (subst (λ p. prepend_known p left ≡ Some (after_mark text)) (sym c.pending.ensures)
    (c.in_ok-skip_mark.ensures.kept text c.new-buffer.ensures.start c.new-buffer.ensures.end
    (nothing_pending (pending_in c.new-buffer.result) (g.S.Read.remaining c.args.source.now) text c.new-buffer.ensures.pending is)))
    c.in_ok-after.ensures.begins)

pub returns-clause-device : goal.returns-clause-device
returns-clause-device g c =
    c.edn_text.ensures.device (begun_unfailed c.pending.result.now c.in_ok-after.field-0 c.in_ok-after.ensures.begins)
