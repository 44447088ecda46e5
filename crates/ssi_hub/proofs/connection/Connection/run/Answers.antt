use Rattle.std.proofs.Common.{◌≡◌, ◌∷◌, ◌++◌, [], length, refl, sym, arith}
use Rattle.ssi_hub.proofs.Carrying.{carried_none, carried_more, goes_on, enough_ended, none_waits, enough_lines, length_more}
use Rattle.ssi_hub.proofs.connection.Connection.run.Goals as goal

pub lines-init : goal.lines-init
lines-init g c = λ bytes waits. (
  [],
  [],
  bytes,
  carried_none g.S.ProtocolStore.keeps g.S.AnyStore.is_at c.args.self.now bytes
      c.args.store.now waits,
  refl,
)

pub returns-in_default : goal.returns-in_default
returns-in_default g c = λ bytes waits.
    let (lines, steps, left, so, counted) = c.lines.invariant bytes waits in
    let (same, same_store) = c.in_default.ensures.none in
    let both =
    none_waits g.S.ProtocolStore.keeps g.S.AnyStore.is_at c.args.self.now c.lines.self
    c.step.new.self bytes left c.args.store.now c.lines.store c.step.new.store lines steps c.args.most c.lines.counter
    same same_store (sym c.in_default.ensures.when) counted c.lines-test.true so in
    (lines, steps, left, both.0, both.1)

pub returns-then-is_last : goal.returns-then-is_last
returns-then-is_last g c = λ bytes waits.
    let (lines, steps, left, so, counted) = c.lines.invariant bytes waits in
    let (line, step, after, more) = c.in-Some.ensures.some left so.waits in (
      lines ++ line ∷ [],
      steps ++ step ∷ [],
      after,
      carried_more g.S.ProtocolStore.keeps g.S.AnyStore.is_at c.args.self.now c.lines.self
          c.step.new.self bytes left after c.args.store.now c.lines.store c.step.new.store c.in-Some.carried lines steps
          line step so more,
      enough_ended c.in-Some.carried.outcome c.args.most c.lines.counter lines line c.step.new.self c.if-is_last.ensures counted c.lines-test.true,
    )

pub lines-preserved : goal.lines-preserved
lines-preserved g c = λ bytes waits.
    let (lines, steps, left, so, counted) = c.lines.invariant bytes waits in
    let (line, step, after, more) = c.in-Some.ensures.some left so.waits in
    let all =
    carried_more g.S.ProtocolStore.keeps g.S.AnyStore.is_at c.args.self.now c.lines.self
    c.step.new.self bytes left after c.args.store.now c.lines.store c.step.new.store c.in-Some.carried lines steps line
    step so more in
    let long = length_more lines line in (
      lines ++ line ∷ [],
      steps ++ step ∷ [],
      after,
      goes_on g.S.ProtocolStore.keeps g.S.AnyStore.is_at c.args.self.now c.step.new.self
          bytes after c.args.store.now c.step.new.store c.in-Some.carried.outcome (lines ++ line ∷ []) (steps ++ step ∷ [])
          c.if-is_last.ensures all,
      omega (arith, long, counted),
    )

pub returns : goal.returns
returns g c = λ bytes waits.
    let (lines, steps, left, so, counted) = c.lines.invariant bytes waits in
    let full : length lines ≡ c.args.most = omega (arith, counted, c.lines-test.false, c.lines.auto.counter-end) in
    (lines, steps, left, so, enough_lines c.args.most lines c.lines.self full)
