use Rattle.std.proofs.Common.{◌==◌, ap, subst, sym, ◌∙◌, arith}
use Rattle.append_text.specs.Machinery.BufferTexts.{AddsFront, pending_in}
use Rattle.append_text.proofs.BufferLines.{HasBegun, begun_more, begun_none, ended_text, taken_all, taken_line}
use Rattle.append_text.proofs.buffer.Buffer.next_line.Goals as goal

pub loop-self-init : goal.loop-self-init
loop-self-init g c = record {
  work = omega arith;
  begun = λ text has. subst (λ l. HasBegun text l (pending_in c.args.self.now) (g.S.Read.remaining c.args.source.now))
      (sym c.clear.ensures.items) (begun_none text (pending_in c.args.self.now) (g.S.Read.remaining c.args.source.now) has);
}

pub loop-self-preserved : goal.loop-self-preserved
loop-self-preserved g c = record {
  work = omega (arith, c.in_ok-take_line.ensures.size, c.in_ok-fill.ensures.work);
  begun = λ text has. begun_more text c.take_line.new.line.items (pending_in c.fill.new.self) (g.S.Read.remaining c.loop-self.source)
      (g.S.Read.remaining c.fill.new.source) (taken_all text c.loop-self.line.items (pending_in c.take_line.new.self)
      (pending_in c.loop-self.self) c.take_line.new.line.items (g.S.Read.remaining c.loop-self.source)
      (c.loop-self.invariant.begun text has)
      (subst (λ e. AddsFront e (pending_in c.loop-self.self) (pending_in c.take_line.new.self) c.loop-self.line.items
      c.take_line.new.line.items) c.if-branch.false c.in_ok-take_line.ensures.front)
      (c.in_ok-take_line.ensures.all c.if-branch.false)) c.in_ok-fill.ensures.kept;
}

pub returns-then-branch-clause-line : goal.returns-then-branch-clause-line
returns-then-branch-clause-line g c = λ text has. taken_line text c.loop-self.line.items (pending_in c.take_line.new.self)
    (pending_in c.loop-self.self) c.take_line.new.line.items (g.S.Read.remaining c.loop-self.source) (c.loop-self.invariant.begun text has)
    (subst (λ e. AddsFront e (pending_in c.loop-self.self) (pending_in c.take_line.new.self) c.loop-self.line.items
    c.take_line.new.line.items) c.if-branch.true c.in_ok-take_line.ensures.front)

pub returns-then-not-branch-clause-line : goal.returns-then-not-branch-clause-line
returns-then-not-branch-clause-line g c = λ text has.
    let (none, at_end) = c.in_ok-fill.ensures.end c.if-not-branch.true in
    ended_text text c.take_line.new.line.items (pending_in c.fill.new.self) (g.S.Read.remaining c.fill.new.source) c.is_empty.result
    (begun_more text c.take_line.new.line.items (pending_in c.fill.new.self) (g.S.Read.remaining c.loop-self.source)
    (g.S.Read.remaining c.fill.new.source) (taken_all text c.loop-self.line.items (pending_in c.take_line.new.self)
    (pending_in c.loop-self.self) c.take_line.new.line.items (g.S.Read.remaining c.loop-self.source)
    (c.loop-self.invariant.begun text has)
    (subst (λ e. AddsFront e (pending_in c.loop-self.self) (pending_in c.take_line.new.self) c.loop-self.line.items
    c.take_line.new.line.items) c.if-branch.false c.in_ok-take_line.ensures.front)
    (c.in_ok-take_line.ensures.all c.if-branch.false)) c.in_ok-fill.ensures.kept)
    none at_end (c.is_empty.ensures ∙ ap (λ n. n == 0) c.take_line.new.line.ok.0)
