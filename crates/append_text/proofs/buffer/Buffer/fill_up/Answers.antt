use Rattle.std.proofs.Common.{◌≡◌, Some, sym, subst, ◌∙◌}
use Rattle.std.specs.Io.KnownBytes.{prepend_known}
use Rattle.append_text.specs.Machinery.BufferTexts.{pending_in}
use Rattle.append_text.proofs.FirstBytes.{first_bytes, full_or_end, pending_short}
use Rattle.append_text.proofs.buffer.Buffer.fill_up.Goals as goal

pub returns-then-not-branch-clause-first : goal.returns-then-not-branch-clause-first
returns-then-not-branch-clause-first g c = λ text zero has.
    let b = c.loop.self in
    let left = g.S.Read.remaining c.read_more.new.source in
    let (same, none) = c.in_ok-read_more.ensures.end c.if-not-branch.true in
    same ∙ sym (first_bytes (pending_in b) left text (subst (λ p. prepend_known p left ≡ Some text) same
    (c.in_ok-read_more.ensures.kept text (c.loop.invariant.kept text has))) (pending_short b.bytes b.start b.end b.within)
    (full_or_end (pending_in b) b.start left (c.loop.invariant.start ∙ zero) none))
