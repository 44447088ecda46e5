use Rattle.std.proofs.Common.{◌≡◌, ◌++◌, ℕ, List, Some, false, subst, ◌∙◌}
use Rattle.std.specs.Io.KnownBytes.{prepend_known}
use Rattle.append_text.specs.Meaning.Notations.{is_json, notation_of}
use Rattle.append_text.specs.Machinery.BufferTexts.{pending_in}
use Rattle.append_text.proofs.FirstBytes.{full_or_end, pending_short, told_form, told_none}
use Rattle.append_text.proofs.buffer.Buffer.form.Goals as goal

pub returns-in-Some-clause-form : goal.returns-in-Some-clause-form
returns-in-Some-clause-form g c = λ text zero has.
    let b = c.loop-form.self in
    told_form (pending_in b) (g.S.Read.remaining c.loop-form.source) text c.in-Some.form
    (pending_short b.bytes b.start b.end b.within) (c.loop-form.invariant.kept text has)
    (subst (λ p. (more : List ℕ) → c.in-Some.form ≡ notation_of (is_json (p ++ more))) c.pending.ensures c.in-Some.ensures)

pub returns-then-not-branch-clause-form : goal.returns-then-not-branch-clause-form
returns-then-not-branch-clause-form g c = λ text zero has.
    let b = c.loop-form.self in
    let left = g.S.Read.remaining c.read_more.new.source in
    let (same, none) = c.in_ok-read_more.ensures.end c.if-not-branch.true in
    told_none (pending_in b) left text (subst (λ p. prepend_known p left ≡ Some text) same
    (c.in_ok-read_more.ensures.kept text (c.loop-form.invariant.kept text has))) (pending_short b.bytes b.start b.end b.within)
    (full_or_end (pending_in b) b.start left (c.loop-form.invariant.start ∙ zero) none)
    (subst (λ p. is_json p ≡ false) c.pending.ensures c.in_default.ensures)
