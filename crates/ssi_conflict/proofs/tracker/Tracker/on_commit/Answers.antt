use Rattle.std.proofs.Common.{◌≡◌, ◌∷◌, ℕ, suc, List, option_map, sym, ◌∙◌, ap, subst}
use Rattle.std.specs.Option.{option_copied}
use Rattle.ssi_conflict.specs.Meaning.Calls.{Commits}
use Rattle.ssi_conflict.specs.Machinery.Rows.{closed}
use Rattle.ssi_conflict.specs.Machinery.Tables.{IsTidy, IsPrepared, row_at, met_if}
use Rattle.ssi_conflict.proofs.AfterCommit.{stands_after_commit}
use Rattle.ssi_conflict.proofs.CommitReaders.{after_own, after_met, after_unmet, after_gone}
use Rattle.ssi_conflict.proofs.Retirement.{row_open}
use Rattle.ssi_conflict.proofs.TrackerSteps.{met_rows}
use Rattle.ssi_conflict.proofs.TableOrder.{tidy_pairs}
use Rattle.ssi_conflict.proofs.tracker.Tracker.on_commit.Goals as goal
use Rattle.ssi_conflict.specs.Machinery.Records.{Changes, row_of}
use Rattle.ssi_reads.specs.Clauses.Marks.{has_txn}

pub returns : goal.returns
returns g c calls stands ok ready =
    let rows = stands.holds.rows in
    let row = row_at c.args.self.now.table in
    let t = c.args.txn in
    let n = c.args.stamp in
    let ks = c.args.keys.now in
    let kept = row_of c.in-Some.kept.now in
    let own = sym c.get.ensures ∙ ap (λ o. option_map row_of (option_copied o)) c.in-Some.is in
    let readers = c.args.self.now.readers.items in
    let middle = row_at c.meet_all.new.table in
    let all : (r : ℕ) → middle r ≡ option_map (met_if t kept.snapshot n readers r) (row r) =
    λ r. subst (λ (xs : List ℕ). middle r ≡ option_map (met_if t kept.snapshot n xs r) (row r)) c.deref.ensures.value
    (c.meet_all.ensures.rows r) in
    let table : c.meet_all.new.table ≡ record c.args.self.now.table { records = c.meet_all.new.table.records } =
    c.meet_all.ensures.rest in
    let judged : c.meet_all.new.table.judged.items ≡ ks = ap (λ m. m.judged.items) table ∙ ready.prepared.keys in
    let close : Changes middle (row_at c.close.new.self) t (option_map (closed n ks) (middle t)) =
    subst (λ (xs : List (List ℕ)). Changes middle (row_at c.close.new.self) t (option_map (closed n xs) (middle t)))
    judged c.close.ensures.rows in
    let same = met_rows t kept.snapshot n readers row middle all in
    let tidy : IsTidy c.meet_all.new.table = subst IsTidy (sym table)
    (tidy_pairs row middle _ _ _ _ _ (λ x. (same x).0) (λ x. (same x).1) stands.holds.tidy) in
    let prepared : IsPrepared c.meet_all.new.table t ks =
    subst (λ m. IsPrepared m t ks) (sym table) (record
    { room = ready.prepared.room; keys = ready.prepared.keys; filed = ready.prepared.filed }) in
    c.retire.ensures (Commits t n ks ∷ calls) (record {
      rows = stands_after_commit row _ calls rows t n ks (ok, rows.allowed) kept own (has_txn readers) ready.readers
          (row_at c.close.new.self)
          (after_own t kept.snapshot n ks readers row middle (row_at c.close.new.self) kept own all close)
          (after_met t kept.snapshot n ks readers row middle (row_at c.close.new.self) kept own all close)
          (after_unmet t kept.snapshot n ks readers row middle (row_at c.close.new.self) kept own all close)
          (after_gone t kept.snapshot n ks readers row middle (row_at c.close.new.self) kept own all close)
          (ready.safe calls n stands ok);
      tidy = c.close.ensures.tidy ((same t).1 ∙ row_open row _ calls rows t ok.opened)
          (ok.next ∙ ap suc (sym (ap (λ m. m.last) table ∙ stands.holds.last)))
          (subst (IsPrepared c.meet_all.new.table t) (sym judged) prepared) tidy;
      last = c.close.ensures.last;
    })
