use Rattle.std.proofs.Common.{true, [], sym, subst, ◌∙◌, List}
use Rattle.std.specs.Prelude.{is_err}
use Rattle.ssi_store.specs.Mirror.Stores.{IsAt}
use Rattle.ssi_line.specs.Meaning.Steps.{Step}
use Rattle.ssi_line.specs.Clauses.Ends.{WentOn}
use Rattle.ssi_cli.proofs.Aborts.{no_abort, only_opened, carried_out, when_ok, when_err, still_none}
use Rattle.ssi_cli.proofs.leaving.abort_by.Goals as goal

pub returns-in_default-clause-aborted : goal.returns-in_default-clause-aborted
returns-in_default-clause-aborted g c = λ calls s.
    ([], c.in_default.ensures.stands true calls s, λ course at. (tt, at), no_abort c.args.hub.now c.args.session calls s)

pub returns-then-is_err-clause-aborted : goal.returns-then-is_err-clause-aborted
returns-then-is_err-clause-aborted g c = λ calls s.
    let (made, stands, quiet, is) =
    only_opened c.args.hub.now c.opened.new.self c.hand_on.new.hub c.args.session c.in-Ok.token c.in-Ok.ensures.token
    (c.in-Ok.ensures.stands true)
    (λ calls s. when_err _ c.hand_on.result (sym c.is_err.ensures.value ∙ c.if-is_err.true) (c.hand_on.ensures.stands calls s))
    calls s in (
      made,
      stands,
      subst (λ (ss : List Step). WentOn (IsAt {g = g.C.Chains} {h = g.M.Marks} g.C.Chains.held g.M.Marks.marked)
          c.args.store.now ss c.args.store.now) (sym quiet) (λ course at. (tt, at)),
      is,
    )

pub returns-clause-aborted : goal.returns-clause-aborted
returns-clause-aborted g c =
    carried_out (IsAt {g = g.C.Chains} {h = g.M.Marks} g.C.Chains.held g.M.Marks.marked) c.args.hub.now c.opened.new.self
    c.hand_on.new.hub c.run.new.self c.closed.new.self c.args.store.now c.run.new.store c.args.session c.args.line.now
    c.in-Ok.token c.requires c.in-Ok.ensures.token (c.in-Ok.ensures.stands true)
    (λ calls s. when_ok _ c.hand_on.result (sym c.is_err.ensures.value ∙ c.if-is_err.false) (c.hand_on.ensures.stands calls s))
    (λ calls s. let (lines, steps, some, stands, went, grew) = c.run.ensures.stands calls s in
    (is_err c.run.result, lines, steps, stands, went, grew))
    (c.closed.ensures.stands true)

pub returns-in_default-clause-gone : goal.returns-in_default-clause-gone
returns-in_default-clause-gone g c = λ t none. c.in_default.ensures.err.buffers t ∙ none

pub returns-then-is_err-clause-gone : goal.returns-then-is_err-clause-gone
returns-then-is_err-clause-gone g c = λ t none.
    still_none c.args.hub.now c.hand_on.new.hub c.in-Ok.token
    (λ u apart. c.hand_on.ensures.others u apart ∙ c.in-Ok.ensures.others u apart)
    (c.hand_on.ensures.lost (sym c.is_err.ensures.value ∙ c.if-is_err.true)) t none

pub returns-clause-gone : goal.returns-clause-gone
returns-clause-gone g c = λ t none.
    still_none c.args.hub.now c.closed.new.self c.in-Ok.token
    (λ u apart. c.closed.ensures.closed.others u apart ∙ c.run.ensures.others u apart ∙ c.hand_on.ensures.others u apart
    ∙ c.in-Ok.ensures.others u apart)
    c.closed.ensures.closed.own t none
