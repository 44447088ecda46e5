use Rattle.std.proofs.Common.{map, ap, ◌∙◌}
use Rattle.adya_values.specs.Mirror.Events.{final_of}
use Rattle.ssi_store.specs.Meaning.Contents.{contents_after}
use Rattle.ssi_durable.specs.Clauses.Journals.{HasAll}
use Rattle.ssi_durable.specs.Clauses.Recovery.{IsReplayed}
use Rattle.ssi_data.proofs.Rotating.{loads}
use Rattle.ssi_data.proofs.segment.next_segment.Goals as goal

pub returns : goal.returns
returns g c = λ at course is.
    loads (λ n lines. IsReplayed g.T.AnyStore.is_at n lines c.load.new.store
    × HasAll c.load.new.log lines)
    c.first_lines_are_plain.ensures c.first_lines_are_clean.ensures c.args.number c.get.result c.get-2.result
    c.get.ensures.same c.get-2.ensures.same c.get.ensures.limits
    (map final_of c.deref.result.now) (contents_after course) c.deref-2.result.now
    (ap (map final_of) c.deref.ensures.value ∙ c.in_ok-rows.ensures course is) c.in_ok-text.ensures.within
    (c.deref-2.ensures.value ∙ c.in_ok-text.ensures.text)
    (λ lines plain text clean. c.in_ok-load.ensures.loaded lines plain text clean at)
