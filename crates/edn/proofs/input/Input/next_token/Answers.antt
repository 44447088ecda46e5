use Rattle.std.proofs.Common.{arith, refl, sym, ap, ◌∙◌, subst, ◌≡◌}
use Rattle.std.proofs.lemmas.Int.{to_z-of_z}
use mir.Val.{to_z, of_z}
use mir.Syntax.{w64}
use Rattle.std.specs.Io.KnownBytes.{prepend_known}
use Rattle.edn.specs.Meaning.Forms.{integer}
use Rattle.edn.specs.Meaning.Tokens.{leaf}
use Rattle.edn.specs.Meaning.Lines.{IsAt}
use Rattle.edn.specs.Meaning.Reading.{IsLinked, ReadsToken}
use Rattle.edn.specs.declared.read_fault.ReadFault.TheVariants.{Syntax}
use Rattle.edn.specs.declared.token.Beyond.TheVariants.{Nothing}
use Rattle.edn.specs.Computing.Tokens.{token, end, bad, token_of, token_at}
use Rattle.edn.specs.Computing.Stages.{IsBadIn}
use Rattle.edn.proofs.BadTokens.{bad_in, no_end_bad, no_end_token, read_on, spent_ends}
use Rattle.edn.proofs.LinesPassed.{at_known, at_last, at_plain, at_token}
use Rattle.edn.proofs.TokensRead.{token_rest, none_passed, more_passed, same_passed, token_read}
use Rattle.edn.proofs.NoTokens.{no_token, none_at_end, none_at_bad}
use Rattle.edn.proofs.TextOver.{blank_left}
use Rattle.edn.proofs.NotOver.{bad_blank}
use Rattle.edn.proofs.input.Input.next_token.Goals as goal

pub loop-value-init : goal.loop-value-init
loop-value-init g c = (omega arith, λ l. (l, none_passed _), refl, λ spent. (spent, refl), λ text at. at)

pub returns-in-Token-clause-token : goal.returns-in-Token-clause-token
returns-in-Token-clause-token g c = λ l.
    let (now, passed) = c.loop-value.invariant.1 l in
    let (gap, is_gap, e) = c.pass_gap.ensures.passed in
    let start = prepend_known c.args.self.now.pending (g.S.Read.remaining c.args.source.now) in
    let left = g.S.Read.remaining c.loop-value.source in
    let p = c.pass_gap.new.self.pending in
    let t = token_of c.read_token.new.leaf c.in-Token.token in
    let rest = c.in-Token.rest.now in
    let is : token_at c.pass_gap.new.self.beyond p ≡ token t rest =
    sym (rw (c.in-Token.is, c.bytes-in-loop-value.ensures) at c.in_ok-token.ensures.exact) in
    let linked = subst (λ b. IsLinked b left) (sym c.pass_gap.ensures.beyond) now in
    let read = token_read c.pass_gap.new.self.beyond p t rest start left is linked
    (more_passed _ p gap start left e is_gap passed) in
    let pending = (rw c.bytes-in-Token.ensures at c.pass_token.ensures.rest) ∙ token_rest _ p t rest is in
    subst (λ x. ReadsToken start (prepend_known x left) t) (sym pending) read

pub returns-in-Some-clause-token : goal.returns-in-Some-clause-token
returns-in-Some-clause-token g c = λ l.
    let (now, passed) = c.loop-value.invariant.1 l in
    let (gap, is_gap, e) = c.pass_gap.ensures.passed in
    let start = prepend_known c.args.self.now.pending (g.S.Read.remaining c.args.source.now) in
    let left = g.S.Read.remaining c.loop-value.source in
    let p = c.pass_gap.new.self.pending in
    let z = c.in-Some.value in
    let same : to_z w64 (of_z w64 z) ≡ z = grind (arith, to_z-of_z) in
    let t = leaf (integer z) in
    let rest = c.in-Some.rest.now in
    let is : token_at c.pass_gap.new.self.beyond p ≡ token t rest =
    rw c.bytes.ensures at (c.in-Some.ensures.exact c.pass_gap.new.self.beyond) in
    let linked = subst (λ b. IsLinked b left) (sym c.pass_gap.ensures.beyond) now in
    let read = token_read c.pass_gap.new.self.beyond p t rest start left is linked
    (more_passed _ p gap start left e is_gap passed) in
    let pending = (rw c.bytes-in-Some.ensures at c.pass.ensures.rest) ∙ token_rest _ p t rest is in
    subst (λ v. ReadsToken start (prepend_known c.pass.new.self.pending left) (leaf (integer v))) (sym same)
    (subst (λ x. ReadsToken start (prepend_known x left) t) (sym pending) read)

pub loop-value-preserved : goal.loop-value-preserved
loop-value-preserved g c =
    let (gap, is_gap, e) = c.pass_gap.ensures.passed in
    let left = g.S.Read.remaining c.loop-value.source in
    let p = c.pass_gap.new.self.pending in
    let unread = rw c.in-More.is at c.in_ok-token.ensures.within in (
      omega (arith, c.in_ok-fill-in-More.ensures.work, c.pass_gap.ensures.within, c.loop-value.invariant.0),
      λ l. (
        c.in_ok-fill-in-More.ensures.linked,
        same_passed _ _ _ c.in_ok-fill-in-More.ensures.same
            (more_passed _ p gap _ left e is_gap (c.loop-value.invariant.1 l).1),
      ),
      c.in_ok-fill-in-More.ensures.kept (λ no. cc) ∙ c.loop-value.invariant.2,
      λ spent. absurd (read_on c.pass_gap.new.self.beyond unread (c.pass_gap.ensures.beyond ∙ (c.loop-value.invariant.3 spent).0.0)),
      λ text at.
          subst (IsAt text _) (sym c.fill.ensures.line)
          (at_known text _ _ _ c.in_ok-fill-in-More.ensures.same (c.pass_gap.ensures.line text left (c.loop-value.invariant.4 text at))),
    )

pub returns-in-End-clause-none : goal.returns-in-End-clause-none
returns-in-End-clause-none g c = λ l.
    let (now, passed) = c.loop-value.invariant.1 l in
    let (gap, is_gap, e) = c.pass_gap.ensures.passed in
    let start = prepend_known c.args.self.now.pending (g.S.Read.remaining c.args.source.now) in
    let left = g.S.Read.remaining c.loop-value.source in
    let p = c.pass_gap.new.self.pending in
    let over : c.pass_gap.new.self.beyond ≡ Nothing = (rw c.in-End.is at c.in_ok-token.ensures.within).0 in
    let is : token_at Nothing p ≡ end =
    sym (rw (c.in-End.is, c.bytes-in-loop-value.ensures, over) at c.in_ok-token.ensures.exact) in
    let linked = subst (λ b. IsLinked b left) (sym c.pass_gap.ensures.beyond ∙ over) now in
    no_token Nothing p start left (none_at_end p c.pass_gap.ensures.all is) linked
    (more_passed _ p gap start left e is_gap passed)

pub returns-in-End-clause-blank : goal.returns-in-End-clause-blank
returns-in-End-clause-blank g c = λ l.
    let (now, passed) = c.loop-value.invariant.1 l in
    let (gap, is_gap, e) = c.pass_gap.ensures.passed in
    let start = prepend_known c.args.self.now.pending (g.S.Read.remaining c.args.source.now) in
    let left = g.S.Read.remaining c.loop-value.source in
    let p = c.pass_gap.new.self.pending in
    let within = rw (c.in-End.is, c.bytes-in-loop-value.ensures) at c.in_ok-token.ensures.within in
    let linked = subst (λ b. IsLinked b left) (sym c.pass_gap.ensures.beyond ∙ within.0) now in
    blank_left p start left c.pass_gap.ensures.all within.1 linked (more_passed _ p gap start left e is_gap passed)

pub returns-in-Bad-clause-refused : goal.returns-in-Bad-clause-refused
returns-in-Bad-clause-refused g c = λ l _.
    let (now, passed) = c.loop-value.invariant.1 l in
    let (gap, is_gap, e) = c.pass_gap.ensures.passed in
    let start = prepend_known c.args.self.now.pending (g.S.Read.remaining c.args.source.now) in
    let left = g.S.Read.remaining c.loop-value.source in
    let p = c.pass_gap.new.self.pending in
    let is : token_at c.pass_gap.new.self.beyond p ≡ bad c.in-Bad.problem =
    sym (rw (c.in-Bad.is, c.bytes-in-loop-value.ensures) at c.in_ok-token.ensures.exact) in
    let linked = subst (λ b. IsLinked b left) (sym c.pass_gap.ensures.beyond) now in
    no_token c.pass_gap.new.self.beyond p start left (none_at_bad _ p _ c.pass_gap.ensures.all is) linked
    (more_passed _ p gap start left e is_gap passed)

pub returns-in-Bad-clause-other : goal.returns-in-Bad-clause-other
returns-in-Bad-clause-other g c = λ l _.
    let (now, passed) = c.loop-value.invariant.1 l in
    let (gap, is_gap, e) = c.pass_gap.ensures.passed in
    let start = prepend_known c.args.self.now.pending (g.S.Read.remaining c.args.source.now) in
    let left = g.S.Read.remaining c.loop-value.source in
    let p = c.pass_gap.new.self.pending in
    let is : token_at c.pass_gap.new.self.beyond p ≡ bad c.in-Bad.problem =
    sym (rw (c.in-Bad.is, c.bytes-in-loop-value.ensures) at c.in_ok-token.ensures.exact) in
    bad_blank c.pass_gap.new.self.beyond p c.in-Bad.problem start left c.pass_gap.ensures.all is
    (more_passed _ p gap start left e is_gap passed)

pub returns-in-Some-clause-again : goal.returns-in-Some-clause-again
returns-in-Some-clause-again g c = λ spent.
    let is = rw c.bytes.ensures at (c.in-Some.ensures.exact c.pass_gap.new.self.beyond) in
    absurd (no_end_token _ _ _ is (spent_ends _ _ _ _ (c.loop-value.invariant.3 spent).0 c.pass_gap.ensures.beyond c.pass_gap.ensures.rest))

pub returns-in-Token-clause-again : goal.returns-in-Token-clause-again
returns-in-Token-clause-again g c = λ spent.
    let is = sym (rw (c.in-Token.is, c.bytes-in-loop-value.ensures) at c.in_ok-token.ensures.exact) in
    absurd (no_end_token _ _ _ is (spent_ends _ _ _ _ (c.loop-value.invariant.3 spent).0 c.pass_gap.ensures.beyond c.pass_gap.ensures.rest))

pub returns-in-Bad-clause-again : goal.returns-in-Bad-clause-again
returns-in-Bad-clause-again g c = λ spent.
    let is = sym (rw (c.in-Bad.is, c.bytes-in-loop-value.ensures) at c.in_ok-token.ensures.exact) in
    absurd (no_end_bad _ _ is (spent_ends _ _ _ _ (c.loop-value.invariant.3 spent).0 c.pass_gap.ensures.beyond c.pass_gap.ensures.rest))

pub returns-in-Some-clause-line : goal.returns-in-Some-clause-line
returns-in-Some-clause-line g c = λ text at _.
    let left = g.S.Read.remaining c.loop-value.source in
    let p = c.pass_gap.new.self.pending in
    let z = c.in-Some.value in
    let same : to_z w64 (of_z w64 z) ≡ z = grind (arith, to_z-of_z) in
    let t = leaf (integer z) in
    let rest = c.in-Some.rest.now in
    let is : token_at c.pass_gap.new.self.beyond p ≡ token t rest =
    rw c.bytes.ensures at (c.in-Some.ensures.exact c.pass_gap.new.self.beyond) in
    let pending = (rw c.bytes-in-Some.ensures at c.pass.ensures.rest) ∙ token_rest _ p t rest is in
    subst (λ x. IsAt text (prepend_known x left) c.pass.new.self.line) (sym pending)
    (at_plain _ p t rest is (λ bytes no. cc, λ name no. cc) text left _ _ c.pass.ensures.line
    (c.pass_gap.ensures.line text left (c.loop-value.invariant.4 text at)))

pub returns-in-Token-clause-line : goal.returns-in-Token-clause-line
returns-in-Token-clause-line g c = λ text at _.
    let left = g.S.Read.remaining c.loop-value.source in
    let p = c.pass_gap.new.self.pending in
    let t = token_of c.read_token.new.leaf c.in-Token.token in
    let rest = c.in-Token.rest.now in
    let is : token_at c.pass_gap.new.self.beyond p ≡ token t rest =
    sym (rw (c.in-Token.is, c.bytes-in-loop-value.ensures) at c.in_ok-token.ensures.exact) in
    subst (λ x. IsAt text (prepend_known x left) c.pass_token.new.self.line) (sym (rw c.bytes-in-Token.ensures at c.pass_token.ensures.rest))
    (at_token c.in-Token.token c.read_token.new.leaf _ p rest _ is (token_rest _ p t rest is) text left _ _
    (rw c.bytes-in-Token.ensures at c.pass_token.ensures.leaf) c.pass_token.ensures.other
    (c.pass_gap.ensures.line text left (c.loop-value.invariant.4 text at)))

pub returns-in-End-clause-last : goal.returns-in-End-clause-last
returns-in-End-clause-last g c = λ text l at.
    let (now, passed) = c.loop-value.invariant.1 l in
    let left = g.S.Read.remaining c.loop-value.source in
    let p = c.pass_gap.new.self.pending in
    let within = rw (c.in-End.is, c.bytes-in-loop-value.ensures) at c.in_ok-token.ensures.within in
    let linked = subst (λ b. IsLinked b left) (sym c.pass_gap.ensures.beyond ∙ within.0) now in
    at_last text p left _ c.pass_gap.ensures.all within.1 linked (c.pass_gap.ensures.line text left (c.loop-value.invariant.4 text at))

pub returns-in-Bad-clause-bad : goal.returns-in-Bad-clause-bad
returns-in-Bad-clause-bad g c = λ text l at.
    let (now, passed) = c.loop-value.invariant.1 l in
    let (gap, is_gap, e) = c.pass_gap.ensures.passed in
    let start = prepend_known c.args.self.now.pending (g.S.Read.remaining c.args.source.now) in
    let left = g.S.Read.remaining c.loop-value.source in
    let p = c.pass_gap.new.self.pending in
    let is : token_at c.pass_gap.new.self.beyond p ≡ bad c.in-Bad.problem =
    sym (rw (c.in-Bad.is, c.bytes-in-loop-value.ensures) at c.in_ok-token.ensures.exact) in
    let linked = subst (λ b. IsLinked b left) (sym c.pass_gap.ensures.beyond) now in
    subst (IsBadIn text start) (sym (c.syntax.ensures ∙ ap (λ n. Syntax n c.in-Bad.problem) c.line.ensures))
    (bad_in _ p _ text start left _ _ c.pass_gap.ensures.all is linked (more_passed _ p gap start left e is_gap passed) at
    (c.pass_gap.ensures.line text left (c.loop-value.invariant.4 text at)))
