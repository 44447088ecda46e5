use Rattle.std.proofs.Common.{◌++◌, refl, ap, ◌∙◌}
use Rattle.append_text.specs.Machinery.BufferTexts.{pending_in}
use Rattle.append_text.proofs.BufferLines.{all_added, all_read}
use Rattle.append_text.proofs.buffer.Buffer.read_to_end.Goals as goal

pub loop-self-init : goal.loop-self-init
loop-self-init g c = λ rest has. (rest, has, refl)

pub loop-self-preserved : goal.loop-self-preserved
loop-self-preserved g c = λ rest has.
    let (more, left, all) = c.loop-self.invariant rest has in
    let added = all_added c.loop-self.text.items (pending_in c.loop-self.self) c.extend_from_slice.new.self.items more
    (c.args.text.now.items ++ rest) (g.S.Read.remaining c.loop-self.source) left all
    (c.in_ok-extend_from_slice.ensures.items ∙ ap (λ p. c.loop-self.text.items ++ p) c.pending.ensures) in
    (added.0, c.in_ok-fill.ensures.kept added.0 added.1, added.2)

pub returns-then-not-branch-clause-all : goal.returns-then-not-branch-clause-all
returns-then-not-branch-clause-all g c = λ rest has.
    let (more, left, all) = c.loop-self.invariant rest has in
    let added = all_added c.loop-self.text.items (pending_in c.loop-self.self) c.extend_from_slice.new.self.items more
    (c.args.text.now.items ++ rest) (g.S.Read.remaining c.loop-self.source) left all
    (c.in_ok-extend_from_slice.ensures.items ∙ ap (λ p. c.loop-self.text.items ++ p) c.pending.ensures) in
    let (none, at_end) = c.in_ok-fill.ensures.end c.if-not-branch.true in
    all_read c.extend_from_slice.new.self.items (pending_in c.fill.new.self) added.0 (c.args.text.now.items ++ rest)
    (g.S.Read.remaining c.fill.new.source) (c.in_ok-fill.ensures.kept added.0 added.1) none at_end added.2
