use Rattle.std.proofs.Common.{◌-◌, ◌∙◌, ap, slice_get, sym}
use Rattle.adya_terms.specs.Machinery.Chains.{row_at}
use Rattle.adya_terms.proofs.Compared.{got, row_before}
use Rattle.adya_terms.proofs.own_writes.OwnWrites.row.Goals as goal

pub returns-then-link-eq0 : goal.returns-then-link-eq0
returns-then-link-eq0 c = sym (ap (row_at c.args.self.now.rows.items) c.if-link-eq0.true)

pub returns : goal.returns
returns c =
    let i = c.args.link - 1 in
    c.copied.ensures ∙
    (got c.deref.result.now i c.get.result c.get.ensures.lookup.0 c.get.ensures.lookup.1 ∙
    (ap (λ rows. slice_get rows i) c.deref.ensures.value ∙ row_before c.args.self.now.rows.items c.args.link c.if-link-eq0.false))
