use Rattle.std.proofs.Common.{refl, sym, ◌∙◌, ap}
use Rattle.ssi_conflict.specs.Machinery.Tables.{row_at, any_pivots}
use Rattle.ssi_conflict.proofs.CommitReaders.{judged_safe, judged_unsafe}
use Rattle.ssi_conflict.proofs.RefusedCalls.{same_stands}
use Rattle.ssi_conflict.proofs.tracker.Tracker.judge.Goals as goal

pub returns-then-any_pivots_with-clause-answer : goal.returns-then-any_pivots_with-clause-answer
returns-then-any_pivots_with-clause-answer g c calls n stands ok =
    let row = row_at c.args.self.now.table in
    judged_unsafe row _ calls stands.holds.rows c.args.txn n c.args.keys.now (ok, stands.holds.rows.allowed)
    c.find_readers.new.readers.items c.in_ok-find_readers.ensures
    (ap (any_pivots row c.args.txn) (sym c.deref.ensures.value) ∙
    (sym c.any_pivots_with.ensures ∙ c.if-any_pivots_with.true))

pub returns-clause-answer : goal.returns-clause-answer
returns-clause-answer g c calls n stands ok =
    let row = row_at c.args.self.now.table in
    judged_safe row _ calls stands.holds.rows c.args.txn n c.args.keys.now (ok, stands.holds.rows.allowed)
    c.find_readers.new.readers.items c.in_ok-find_readers.ensures
    (ap (any_pivots row c.args.txn) (sym c.deref.ensures.value) ∙
    (sym c.any_pivots_with.ensures ∙ c.if-any_pivots_with.false))

pub returns-clause-ready : goal.returns-clause-ready
returns-clause-ready g c e =
    let row = row_at c.args.self.now.table in
    let none = ap (any_pivots row c.args.txn) (sym c.deref.ensures.value) ∙
    (sym c.any_pivots_with.ensures ∙ c.if-any_pivots_with.false) in
    record {
      prepared = c.in_ok-prepare.ensures.prepared;
      readers = c.in_ok-find_readers.ensures;
      safe = λ calls n stands ok.
          judged_safe row _ calls (same_stands _ row _ _ calls (λ t. sym (c.prepare.ensures.rows t)) (λ t k. refl)
          stands.holds.rows) c.args.txn n c.args.keys.now (ok, stands.holds.rows.allowed)
          c.find_readers.new.readers.items c.in_ok-find_readers.ensures none;
    }
