use Rattle.std.proofs.Common.{◌≡◌, ◌-◌, ℕ, List, cond, None, Some, option_map, ap, refl, sym, ◌∙◌}
use Rattle.ssi_conflict.proofs.KeyIndex.{indexed_same, indexed_dropped}
use Rattle.ssi_conflict.proofs.TableOrder.{same_commits, with_stamp}
use Rattle.ssi_conflict.proofs.table.Table.drop_record.Goals as goal
use Rattle.ssi_conflict.specs.Machinery.Index.{commit_in, writer_in, is_one_of}
use Rattle.ssi_conflict.specs.Machinery.Records.{row_of}
use Rattle.ssi_conflict.specs.Machinery.Tables.{row_at}

pub returns-in_default-clause-indexed : goal.returns-in_default-clause-indexed
returns-in_default-clause-indexed c =
    let gone = sym c.remove.ensures.value ∙ ap (option_map row_of) c.in_default.is in
    indexed_same (λ t. commit_in (row_at c.args.self.now t)) _ _ _ _
    (same_commits (row_at c.args.self.now) _ c.args.txn None c.remove.ensures.rows (ap commit_in gone) refl)

pub returns-in_default-stamp-clause-indexed : goal.returns-in_default-stamp-clause-indexed
returns-in_default-stamp-clause-indexed c =
    let was = sym c.remove.ensures.value ∙ ap (option_map row_of) c.in-Some.is in
    let uncommitted = ap commit_in was ∙ with_stamp (row_of c.in-Some.kept) None c.in_default-stamp.is in
    indexed_same (λ t. commit_in (row_at c.args.self.now t)) _ _ _ _
    (same_commits (row_at c.args.self.now) _ c.args.txn None c.remove.ensures.rows uncommitted refl)

pub returns-clause-indexed : goal.returns-clause-indexed
returns-clause-indexed c =
    let m = c.args.self.now in
    let u = row_of c.in-Some.kept in
    let n = c.in-Some-stamp.stamp in
    let was = sym c.remove.ensures.value ∙ ap (option_map row_of) c.in-Some.is in
    let removed : (k : List ℕ) (a : ℕ) → writer_in c.remove-2.new.self k a ≡
    cond (is_one_of u.keys (n - 1) k a) None (writer_in m.writes k a) =
    λ k a. c.remove-2.ensures k a ∙ (ap
    (λ ks. cond (is_one_of ks c.saturating_sub.result k a) None (writer_in m.writes k a)) c.deref.ensures.value ∙
    ap (λ b. cond (is_one_of u.keys b k a) None (writer_in m.writes k a)) c.saturating_sub.ensures) in
    indexed_dropped (λ t. commit_in (row_at m t)) (writer_in m.writes) _ m.last _ m.judged.items c.args.txn n u.keys
    (ap commit_in was ∙ with_stamp u (Some n) c.in-Some-stamp.is)
    (ap commit_in c.remove.ensures.rows.here) (λ x ne. ap commit_in (c.remove.ensures.rows.others x ne)) removed
