use Rattle.std.proofs.Common.{Some, None, option_map, refl, sym, ◌∙◌, ap, subst}
use Rattle.std.specs.Option.{option_copied}
use Rattle.ssi_conflict.specs.Meaning.Calls.{Reads}
use Rattle.ssi_conflict.specs.Mirror.{Stands}
use Rattle.ssi_conflict.specs.Machinery.Rows.{IsSmallestRow, read_pivot, with_sooner}
use Rattle.ssi_conflict.specs.Machinery.Records.{row_of}
use Rattle.ssi_conflict.specs.Machinery.Index.{writer_in}
use Rattle.ssi_conflict.specs.Machinery.Tables.{row_at, IsTidy}
use Rattle.ssi_conflict.proofs.AfterRead.{read_answer, stands_after_read}
use Rattle.ssi_conflict.proofs.RefusedCalls.{carried_refused}
use Rattle.ssi_conflict.proofs.TableOrder.{tidy_paired}
use Rattle.ssi_conflict.proofs.TrackerSteps.{same_tracker, same_there}
use Rattle.ssi_conflict.proofs.tracker.Tracker.on_read.Goals as goal

pub returns-in-Some-pivot-clause-answer : goal.returns-in-Some-pivot-clause-answer
returns-in-Some-pivot-clause-answer g c calls stands ok =
    let kept = row_of c.in-Some.kept.now in
    let own = sym c.get.ensures ∙ ap (λ o. option_map row_of (option_copied o)) c.in-Some.is in
    read_answer (row_at c.args.self.now.table) _ calls stands.holds.rows c.args.txn c.args.low c.args.high
    (ok, stands.holds.rows.allowed) kept own (Some c.in-Some-pivot.pivot)
    (subst (IsSmallestRow (row_at c.args.self.now.table) (read_pivot kept.snapshot c.args.low c.args.high))
    c.in-Some-pivot.is (c.met-met.ensures.pivot stands.holds.tidy))

pub returns-in_err-mark-clause-stands : goal.returns-in_err-mark-clause-stands
returns-in_err-mark-clause-stands g c calls stands ok =
    subst (Stands g.M.Marks.marked _) (sym
    (carried_refused (Reads c.args.txn c.args.low c.args.high) calls _ c.from_residual.ensures.0))
    (same_tracker g.M.Marks.marked c.args.self.now _ calls (λ t. refl) (λ t. t) refl c.in_err-mark.ensures.refused
    stands)

pub returns-clause-stands : goal.returns-clause-stands
returns-clause-stands g c calls stands ok =
    let m = c.args.self.now.table in
    let rows = stands.holds.rows in
    let kept = row_of c.in-Some.kept.now in
    let own = sym c.get.ensures ∙ ap (λ o. option_map row_of (option_copied o)) c.in-Some.is in
    let safe = read_answer (row_at m) _ calls rows c.args.txn c.args.low c.args.high (ok, rows.allowed) kept own None
    (subst (IsSmallestRow (row_at m) (read_pivot kept.snapshot c.args.low c.args.high)) c.in_default-pivot.is
    (c.met-met.ensures.pivot stands.holds.tidy)) in
    record {
      holds = record {
        rows = stands_after_read (row_at m) _ calls rows c.args.txn c.args.low c.args.high (ok, rows.allowed) kept own
            c.met-met.result.first (c.met-met.ensures.first stands.holds.tidy)
            (row_at c.add_out.new.self) _ (c.add_out.ensures.rows.here ∙ ap
            (option_map (with_sooner c.met-met.result.first)) own) c.add_out.ensures.rows.others
            c.in_ok-mark.ensures.marks safe;
        tidy = subst IsTidy (sym c.add_out.ensures.rest)
            (tidy_paired (row_at m) (row_at c.add_out.new.self) _ m.closed.items (writer_in m.writes) m.last
            m.judged.items c.args.txn c.met-met.result.first c.add_out.ensures.rows stands.holds.tidy);
        last = ap (λ t. t.last) c.add_out.ensures.rest ∙ stands.holds.last;
      };
      exact = λ t h. stands.exact t (sym
          (same_there (with_sooner c.met-met.result.first) (row_at m) (row_at c.add_out.new.self) c.args.txn
          c.add_out.ensures.rows t) ∙ h);
    }

pub returns-clause-answer : goal.returns-clause-answer
returns-clause-answer g c calls stands ok =
    let kept = row_of c.in-Some.kept.now in
    let own = sym c.get.ensures ∙ ap (λ o. option_map row_of (option_copied o)) c.in-Some.is in
    read_answer (row_at c.args.self.now.table) _ calls stands.holds.rows c.args.txn c.args.low c.args.high
    (ok, stands.holds.rows.allowed) kept own None
    (subst (IsSmallestRow (row_at c.args.self.now.table) (read_pivot kept.snapshot c.args.low c.args.high))
    c.in_default-pivot.is (c.met-met.ensures.pivot stands.holds.tidy))
