use Rattle.std.proofs.Common.{◌∙◌, sym, ap, ◌||◌, ◌==◌}
use Rattle.std.specs.List.{list_any}
use Rattle.adya_terms.specs.Machinery.EventIndex.{unfinished_in}
use Rattle.adya_terms.proofs.event_index.EventIndex.is_aborted.Goals as goal

pub returns-else-has_aborted : goal.returns-else-has_aborted
returns-else-has_aborted c =
    let x = c.args.self.now in
    let t = c.args.txn in
    c.is_unfinished.ensures ∙
    ap (λ b. b || list_any (λ u. u == t) (unfinished_in x)) (sym (sym (c.has_aborted.ensures ∙ x.tell.aborted_is t) ∙ c.if-has_aborted.false))
