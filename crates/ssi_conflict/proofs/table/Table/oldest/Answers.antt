use Rattle.std.proofs.Common.{rules, ◌≡◌, Some, None, ap, refl, sym, ◌∙◌}
use Rattle.std.proofs.lemmas.Bool.{both_ways}
use Rattle.ssi_conflict.proofs.TableOrder.{not_gt, unstamped_gone}
use Rattle.ssi_conflict.proofs.table.Table.oldest.Goals as goal
use Rattle.ssi_conflict.specs.Machinery.Index.{stamp_in}
use Rattle.ssi_conflict.specs.Machinery.Records.{row_of}
use Rattle.ssi_conflict.specs.Machinery.Tables.{row_at, is_open_row}

pub returns-in_default-get : goal.returns-in_default-get
returns-in_default-get c tidy =
    let none : row_at c.args.self.now c.in-Some.txn.now ≡ None = search rules in
    absurd (both_ways _ (tidy.opens c.in-Some.txn.now ∙ ap is_open_row none) c.in-Some.ensures.member)

pub returns : goal.returns
returns c tidy =
    let row : row_at c.args.self.now c.in-Some.txn.now ≡ Some (row_of c.in-Some-get.kept.now) = search rules in
    let opened = sym (tidy.opens c.in-Some.txn.now) ∙ c.in-Some.ensures.member in
    record {
      who = c.in-Some.txn.now;
      one = row_of c.in-Some-get.kept.now;
      is_row = row;
      unstamped = sym (ap stamp_in row) ∙ unstamped_gone (row_at c.args.self.now c.in-Some.txn.now) opened;
      seen = refl;
      first = λ x h. not_gt c.in-Some.txn.now x (c.in-Some.ensures.least x (tidy.opens x ∙ h));
    }
