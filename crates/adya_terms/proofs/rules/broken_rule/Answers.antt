use Rattle.std.proofs.Common.{◌∙◌, sym}
use Rattle.adya_terms.proofs.BrokenRules.{breaks_first, breaks_second, breaks_third, breaks_fourth, breaks_fifth, breaks_none}
use Rattle.adya_terms.proofs.rules.broken_rule.Goals as goal

pub returns-then-not-is_open : goal.returns-then-not-is_open
returns-then-not-is_open c before e m newest found line =
    breaks_first before line e (sym (c.is_open.ensures before e m found) ∙ c.if-not-is_open.true)

pub returns-then-not-is_next : goal.returns-then-not-is_next
returns-then-not-is_next c before e m newest found line =
    breaks_second before line e (sym (c.is_open.ensures before e m found) ∙ c.if-not-is_open.false)
    (sym (c.is_next.ensures before e m found) ∙ c.if-not-is_next.true)

pub returns-then-not-was_written : goal.returns-then-not-was_written
returns-then-not-was_written c before e m newest found line =
    breaks_third before line e (sym (c.is_open.ensures before e m found) ∙ c.if-not-is_open.false)
    (sym (c.is_next.ensures before e m found) ∙ c.if-not-is_next.false)
    (sym (c.was_written.ensures before e m newest found) ∙ c.if-not-was_written.true)

pub returns-then-not-sees_own : goal.returns-then-not-sees_own
returns-then-not-sees_own c before e m newest found line =
    breaks_fourth before line e (sym (c.is_open.ensures before e m found) ∙ c.if-not-is_open.false)
    (sym (c.is_next.ensures before e m found) ∙ c.if-not-is_next.false)
    (sym (c.was_written.ensures before e m newest found) ∙ c.if-not-was_written.false)
    (sym (c.sees_own.ensures before e m found) ∙ c.if-not-sees_own.true)

pub returns-then-not-is_rising : goal.returns-then-not-is_rising
returns-then-not-is_rising c before e m newest found line =
    breaks_fifth before line e (sym (c.is_open.ensures before e m found) ∙ c.if-not-is_open.false)
    (sym (c.is_next.ensures before e m found) ∙ c.if-not-is_next.false)
    (sym (c.was_written.ensures before e m newest found) ∙ c.if-not-was_written.false)
    (sym (c.sees_own.ensures before e m found) ∙ c.if-not-sees_own.false)
    (sym (c.is_rising.ensures e found) ∙ c.if-not-is_rising.true)

pub returns : goal.returns
returns c before e m newest found line =
    breaks_none before line e (sym (c.is_open.ensures before e m found) ∙ c.if-not-is_open.false)
    (sym (c.is_next.ensures before e m found) ∙ c.if-not-is_next.false)
    (sym (c.was_written.ensures before e m newest found) ∙ c.if-not-was_written.false)
    (sym (c.sees_own.ensures before e m found) ∙ c.if-not-sees_own.false)
    (sym (c.is_rising.ensures e found) ∙ c.if-not-is_rising.false)
