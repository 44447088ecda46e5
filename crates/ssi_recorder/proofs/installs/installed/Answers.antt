use Rattle.std.proofs.Common.{slice_get, ap, ◌∙◌}
use Rattle.std.specs.List.{filter_map}
use Rattle.adya_values.specs.Mirror.Events.{events_of}
use Rattle.adya_values.specs.Mirror.Lines.{orders_of}
use Rattle.adya_values.specs.Computing.Shapes.{is_shape}
use Rattle.ssi_recorder.specs.Machinery.Lines.{final_in, write_by}
use Rattle.ssi_recorder.proofs.Ranks.{line_versions}
use Rattle.ssi_recorder.proofs.Shaped.{shape_of}
use Rattle.ssi_recorder.proofs.Installed.{orders_are, finals_are}
use Rattle.ssi_recorder.proofs.installs.installed.Goals as goal

pub returns-clause-shape : goal.returns-clause-shape
returns-clause-shape c =
    let es = c.in_ok-by_key.by_key.entries in
    ap (is_shape (orders_of c.in_ok-orders.orders)) c.in_ok-finals.ensures ∙
    ap (λ os. is_shape os (filter_map final_in es)) c.in_ok-orders.ensures.orders ∙
    shape_of es c.in_ok-by_key.ensures.good c.in_ok-orders.ensures.ordered

pub returns-clause-orders : goal.returns-clause-orders
returns-clause-orders c =
    let es = c.in_ok-by_key.by_key.entries in
    let events = events_of c.args.events.now in
    c.in_ok-orders.ensures.orders ∙
    orders_are events es c.in_ok-by_key.ensures.good c.in_ok-orders.ensures.ordered
    (λ k. line_versions k events es c.in_ok-by_key.ensures.good
    (λ r. c.in_ok-by_key.ensures.lines k r ∙ ap (λ ts. write_by (slice_get ts r) k events) c.in_ok-committed.ensures))

pub returns-clause-finals : goal.returns-clause-finals
returns-clause-finals c =
    let es = c.in_ok-by_key.by_key.entries in
    let events = events_of c.args.events.now in
    c.in_ok-finals.ensures ∙
    finals_are events es c.in_ok-by_key.ensures.good c.in_ok-orders.ensures.ordered
    (λ k. line_versions k events es c.in_ok-by_key.ensures.good
    (λ r. c.in_ok-by_key.ensures.lines k r ∙ ap (λ ts. write_by (slice_get ts r) k events) c.in_ok-committed.ensures))
