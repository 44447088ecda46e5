use Rattle.std.proofs.Common.{rules, ◌≡◌, filter, ◌∙◌, ap}
use Rattle.std.proofs.lemmas.Fn.{filter_same}
use Rattle.ssi_reads.specs.Machinery.Listed.{is_of_other, list_marked}
use Rattle.ssi_reads.proofs.ListedMarks.{filtered_marked}
use Rattle.ssi_reads.proofs.list_marks.ListMarksMarks.forget.Goals as goal

pub returns : goal.returns
returns c u k =
    let left : c.retain.new.self.items ≡ filter (is_of_other c.args.txn) c.args.self.now.marks.items =
    filter_same _ (is_of_other c.args.txn) _ (λ x b f k. search rules) _ _ c.retain.ensures.filtered in
    ap (λ ms. list_marked ms u k) left ∙ filtered_marked c.args.txn u k c.args.self.now.marks.items
