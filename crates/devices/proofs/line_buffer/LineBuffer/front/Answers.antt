use Rattle.std.proofs.Common.{◌+◌, ◌-◌, ◌<◌, ◌≤◌, ◌++◌, [], arith, slice_range, length, refl, sym, ◌∙◌}
use Rattle.std.proofs.Common.{append-nil}
use Rattle.std.proofs.lemmas.Bool.{eqb-true}
use Rattle.devices.proofs.Ranges.{range_split, plain_before, plain_all, length_range}
use Rattle.devices.proofs.line_buffer.LineBuffer.front.Goals as goal

pub returns-in-Some-clause-parts : goal.returns-in-Some-clause-parts
returns-in-Some-clause-parts c =
    let b = c.self.inside in
    let pending = slice_range b.bytes b.start b.end in
    let at = c.in-Some.at in
    let within : at < length pending = c.in-Some.ensures.0.high in
    let size : length pending ≤ b.end - b.start = length_range b.bytes b.start b.end in
    let fits : b.start + (at + 1) ≤ b.end = omega arith in (
      slice_range b.bytes (b.start + (at + 1)) b.end,
      sym c.self.view_is ∙ range_split b.bytes b.start b.end at within fits (eqb-true _ 10 c.in-Some.ensures.1),
      λ no. cc,
    )

pub returns-in-Some-clause-plain : goal.returns-in-Some-clause-plain
returns-in-Some-clause-plain c =
    let b = c.self.inside in
    let pending = slice_range b.bytes b.start b.end in
    let low : c.in-Some.at ≤ length pending = omega (arith, c.in-Some.ensures.0.high) in
    plain_before pending c.in-Some.at low c.in-Some.ensures.0.before

pub returns-in-None-clause-parts : goal.returns-in-None-clause-parts
returns-in-None-clause-parts c =
    let b = c.self.inside in
    let pending = slice_range b.bytes b.start b.end in
    ([], sym c.self.view_is ∙ sym (append-nil (pending ++ []) ∙ append-nil pending), λ _. refl)

pub returns-in-None-clause-plain : goal.returns-in-None-clause-plain
returns-in-None-clause-plain c =
    let b = c.self.inside in
    plain_all (slice_range b.bytes b.start b.end) c.in-None.ensures
