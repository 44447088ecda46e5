use Rattle.std.proofs.Common.{refl, subst, ◌+◌, ◌∷◌, map, Some, None}
use Rattle.std.proofs.lemmas.Result.{err_from_is_err_and}
use Rattle.ssi_versions.specs.Mirror.{write_of}
use Rattle.ssi_conflict.specs.Meaning.Calls.{Commits as Ends}
use Rattle.ssi_conflict.specs.Clauses.Pairs.{IsOrderedPivot, IsSmallest}
use Rattle.ssi_conflict.specs.Mirror.{pivot_of}
use Rattle.ssi_store.specs.Meaning.Acts.{acts}
use Rattle.ssi_store.specs.Meaning.Courses.{Commit, Conflict, Unsafe}
use Rattle.ssi_store.specs.Meaning.Tracked.{tracked}
use Rattle.ssi_store.proofs.Commits.{commit_idle, commit_memory, found_conflict, conflict_ends, may_commit, commit_ends, committed, above_installed}
use Rattle.ssi_store.proofs.Looks.{safe_of}
use Rattle.ssi_store.proofs.RisingOpens.{below_without}
use Rattle.ssi_store.proofs.Steps.{same_course}
use Rattle.ssi_store.proofs.engine.Engine.commit.Goals as goal

pub returns-in_err-open : goal.returns-in_err-open
returns-in_err-open g c = record {
  stands = λ course st.
      let p = err_from_is_err_and c.from_residual.result c.from_residual.ensures.1 in
      rw (p.1, p.2, c.in_err-open.ensures.idle.0) (commit_idle st c.args.session c.in_err-open.ensures.idle.1);
}

pub returns-in-Some : goal.returns-in-Some
returns-in-Some g c = record {
  stands = λ course st.
      let at = c.in_ok-open.ensures.open in
      let o = c.in_ok-open.open.now in
      c.drop_txn.ensures.stands course (Commit c.args.session) (Conflict c.in-Some.least.key
      c.in-Some.least.writer) st
      (conflict_ends st c.args.session o at c.laws_below.ensures c.txn-txn.result c.in-Some.least.key
      c.in-Some.least.writer c.txn-txn.ensures
      (found_conflict st c.args.session o at c.laws_below.ensures c.snapshot.result (map write_of c.writes-writes.result.now)
      (Some c.in-Some.least.key) c.snapshot.ensures c.writes-writes.ensures.all
      c.in-Some.ensures.least)
      c.in-Some.ensures.writer);
}

pub invariant_of-self-2-clause-above : goal.invariant_of-self-2-clause-above
invariant_of-self-2-clause-above g c =
    above_installed (c.args.self.now.commits + 1) _ _ (map write_of c.writes-writes.result.now) c.args.self.now.above
    c.in_ok-install.ensures.added

pub returns-in-Unsafe : goal.returns-in-Unsafe
returns-in-Unsafe g c = record {
  stands = λ course st.
      let at = c.in_ok-open.ensures.open in
      let o = c.in_ok-open.open.now in
      let free = found_conflict st c.args.session o at c.laws_below.ensures c.snapshot.result
      (map write_of c.writes-writes.result.now) None c.snapshot.ensures c.writes-writes.ensures.all
      c.in_default.ensures.least in
      let keys_are = c.keys-keys.ensures in
      let may = may_commit st c.args.session o at c.laws_below.ensures free c.txn-txn.result c.keys-keys.result.now
      c.txn-txn.ensures keys_are in
      c.drop_txn-in-Unsafe.ensures.stands course (Commit c.args.session) (Unsafe c.in-Unsafe.pivot)
      (same_course st _ (record {
        commits = st.log.commits;
        chains = st.log.chains;
        tracker = c.judge.ensures.stands (tracked (acts course)) st.log.tracker;
        events = st.log.events;
        opened = st.log.opened;
        snapshots = st.log.snapshots;
      }))
      (commit_ends st c.args.session o at c.laws_below.ensures free c.txn-txn.result c.keys-keys.result.now c.txn-txn.ensures
      keys_are c.in-Unsafe.pivot
      (subst (λ a. IsSmallest IsOrderedPivot
      (Ends c.txn-txn.result (c.args.self.now.commits + 1) c.keys-keys.result.now ∷ tracked (acts course)) (pivot_of a))
      c.in-Unsafe.is (c.in_ok-answer.ensures.answer (tracked (acts course)) (c.args.self.now.commits + 1) st.log.tracker may)));
}

pub returns : goal.returns
returns g c = record {
  stands = λ course st.
      let at = c.in_ok-open.ensures.open in
      let o = c.in_ok-open.open.now in
      let free = found_conflict st c.args.session o at c.laws_below.ensures c.snapshot.result
      (map write_of c.writes-writes.result.now) None c.snapshot.ensures c.writes-writes.ensures.all
      c.in_default.ensures.least in
      let keys_are = c.keys-keys.ensures in
      let may = may_commit st c.args.session o at c.laws_below.ensures free c.txn-txn.result c.keys-keys.result.now
      c.txn-txn.ensures keys_are in
      let safe = safe_of c.in_ok-answer.answer c.in_default-answer.not-Unsafe in
      committed st c.args.session o at c.laws_below.ensures free c.txn-txn.result c.keys-keys.result.now c.txn-txn.ensures
      keys_are _ _ _ _ _ _ (map write_of c.writes-writes.result.now)
      (subst (λ a. IsSmallest IsOrderedPivot
      (Ends c.txn-txn.result (c.args.self.now.commits + 1) c.keys-keys.result.now ∷ tracked (acts course)) (pivot_of a))
      safe (c.in_ok-answer.ensures.answer (tracked (acts course)) (c.args.self.now.commits + 1) st.log.tracker may))
      c.writes-writes.ensures.all c.in_ok-install.ensures.added
      (c.on_commit.ensures (tracked (acts course)) (c.judge.ensures.stands (tracked (acts course)) st.log.tracker) may
      (c.in_ok-answer.ensures.ready safe))
      c.end-2.ensures.recorded c.end.ensures.opened c.end-2.ensures.started c.remove-there.ensures.gone;
}

pub invariant_of-self-2-clause-early : goal.invariant_of-self-2-clause-early
invariant_of-self-2-clause-early g c =
    below_without _ _ c.txn-txn.result c.args.self.now.next c.args.self.now.roster.rising c.args.self.now.early c.end.ensures.opened

pub returns-in_err-answer : goal.returns-in_err-answer
returns-in_err-answer g c = record {
  stands = λ course st.
      let p = err_from_is_err_and c.from_residual-in_err-answer.result c.from_residual-in_err-answer.ensures.1 in
      rw (p.1, p.2) (commit_memory st c.args.session c.in_ok-open.open.now (c.in_ok-open.ensures.open) _ _
      refl (c.judge.ensures.stands (tracked (acts course)) st.log.tracker));
}

pub returns-in_err-install : goal.returns-in_err-install
returns-in_err-install g c = record {
  stands = λ course st.
      let p = err_from_is_err_and c.from_residual-in_err-install.result c.from_residual-in_err-install.ensures.1 in
      rw (p.1, p.2) (commit_memory st c.args.session c.in_ok-open.open.now (c.in_ok-open.ensures.open) _ _
      c.in_err-install.ensures.err (c.judge.ensures.stands (tracked (acts course)) st.log.tracker));
}
