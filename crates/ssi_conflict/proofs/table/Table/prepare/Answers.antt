use Rattle.std.proofs.Common.{rules, ◌≡◌, [], None, cond, ap, sym, ◌∙◌}
use Rattle.ssi_conflict.proofs.KeyIndex.{indexed_cleared, indexed_filled, indexed_judged, has_each}
use Rattle.ssi_conflict.proofs.RefusedCalls.{on_ok}
use Rattle.ssi_conflict.proofs.TableOrder.{tidy_reindexed}
use Rattle.ssi_conflict.proofs.table.Table.prepare.Goals as goal
use Rattle.ssi_conflict.specs.Machinery.Index.{commit_in, writer_in, is_one_of}
use Rattle.ssi_conflict.specs.Machinery.Tables.{row_at}

pub returns-in_err-reserve-clause-tidy : goal.returns-in_err-reserve-clause-tidy
returns-in_err-reserve-clause-tidy c tidy =
    let m = c.args.self.now in
    let cleared = indexed_cleared (λ t. commit_in (row_at m t)) (writer_in m.writes) _ m.last m.judged.items
    (λ k a. c.remove.ensures k a ∙ ap (λ ks. cond (is_one_of ks m.last k a) None (writer_in m.writes k a))
    c.deref.ensures.value) tidy.indexed in
    tidy_reindexed (row_at m) _ m.closed.items _ (writer_in m.writes) _ m.last m.judged.items _ c.reserve.ensures.items
    (indexed_judged _ _ m.last [] _ c.clear.ensures.items cleared) tidy

pub returns-in_err-extend_from_slice-clause-tidy : goal.returns-in_err-extend_from_slice-clause-tidy
returns-in_err-extend_from_slice-clause-tidy c tidy =
    let m = c.args.self.now in
    let cleared = indexed_cleared (λ t. commit_in (row_at m t)) (writer_in m.writes) _ m.last m.judged.items
    (λ k a. c.remove.ensures k a ∙ ap (λ ks. cond (is_one_of ks m.last k a) None (writer_in m.writes k a))
    c.deref.ensures.value) tidy.indexed in
    tidy_reindexed (row_at m) _ m.closed.items _ (writer_in m.writes) _ m.last m.judged.items _ c.reserve.ensures.items
    (indexed_judged _ _ m.last [] _ (c.in_err-extend_from_slice.ensures.items ∙ c.clear.ensures.items) cleared) tidy

pub returns-clause-tidy : goal.returns-clause-tidy
returns-clause-tidy c tidy =
    let m = c.args.self.now in
    let cleared = indexed_cleared (λ t. commit_in (row_at m t)) (writer_in m.writes) _ m.last m.judged.items
    (λ k a. c.remove.ensures k a ∙ ap (λ ks. cond (is_one_of ks m.last k a) None (writer_in m.writes k a))
    c.deref.ensures.value) tidy.indexed in
    tidy_reindexed (row_at m) _ m.closed.items _ (writer_in m.writes) _ m.last m.judged.items _ c.reserve.ensures.items
    (indexed_judged _ _ m.last c.deref-2.result.now _ (sym c.deref-2.ensures.value)
    (indexed_filled _ _ _ m.last c.deref-2.result.now c.add.ensures.others cleared)) tidy

pub returns-clause-prepared : goal.returns-clause-prepared
returns-clause-prepared c =
    let keys : c.extend_from_slice.new.self.items ≡ c.args.keys.now = search rules in
    on_ok c.add.result _ _ (λ h. record {
      room = search rules;
      keys = keys;
      filed = λ k i. h k (has_each c.deref-2.result.now c.args.keys.now k (c.deref-2.ensures.value ∙ keys) i);
    }) c.add.ensures.added
