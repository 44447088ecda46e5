use Rattle.std.proofs.Common.{◌∙◌, ap, subst, arith}
use Rattle.ssi_loads.proofs.Texts.{AreWithin, started, group_written, all_written, more_within, none_within}
use Rattle.ssi_loads.proofs.writing.first_lines.Goals as goal

pub loop-group-init : goal.loop-group-init
loop-group-init c =
    let it = c.into_iter-group-iterator in
    let groups = c.chunks-group-items in
    let same = ap (λ s. s.rest.now) it.ensures.into_iter_gives ∙ groups.ensures.rest in (
      ap (λ s. s.size) it.ensures.into_iter_gives ∙ groups.ensures.size,
      started c.args.number c.put_header.new.text.items c.new-text.result.items c.args.rows.now it.result.rest.now
          c.in_ok-put_header.ensures c.new-text.ensures.items same,
      subst AreWithin same,
    )

pub loop-group-preserved : goal.loop-group-preserved
loop-group-preserved c =
    let (size, taken) = c.in-Some.ensures.steps in
    let (rest, long, some) = taken in
    let (limit, so_far, within) = c.loop-group.invariant in
    let left = c.loop-group.group-iterator.rest.now in (
      size ∙ limit,
      group_written c.loop-group.text.items c.put_load.new.text.items _ left c.in-Some.group.now c.next.new.self.rest.now so_far
          c.in_ok-put_load.ensures.grown rest (omega (arith, long, limit)) some,
      more_within left c.in-Some.group.now c.next.new.self.rest.now c.args.rows.now within rest c.in_ok-put_load.ensures.within,
    )

pub returns-clause-text : goal.returns-clause-text
returns-clause-text c =
    c.in_ok-extend_from_slice.ensures.items
    ∙ all_written c.args.number c.loop-group.text.items c.args.rows.now c.loop-group.group-iterator.rest.now
    c.loop-group.invariant.1 c.in-None.ensures.steps.1.0

pub returns-clause-within : goal.returns-clause-within
returns-clause-within c =
    c.loop-group.invariant.2 (none_within c.loop-group.group-iterator.rest.now c.in-None.ensures.steps.1.0)
