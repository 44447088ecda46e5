use Rattle.std.proofs.Common.{◌++◌, map, sym, ◌∙◌, ap, append_assoc}
use Rattle.std.proofs.lemmas.Result.{on_ok_weaker, IfOk-from_err}
use Rattle.adya_dsg.specs.Machinery.VersionOrders.{ordered_history}
use Rattle.adya_dsg.specs.Mirror.{edge_of}
use Rattle.adya_dsg.specs.Machinery.Choices.{event_at, key_at}
use Rattle.adya_values.specs.Computing.EdgeList.{read_edges, overwrite_edges}
use Rattle.adya_dsg.proofs.ChoiceEdges.{item_edges_are}
use Rattle.adya_dsg.proofs.event_edges.push_edges_at.Goals as goal

pub returns-then-not-is_scan : goal.returns-then-not-is_scan
returns-then-not-is_scan c =
    let h = ordered_history c.args.versions.now in
    let e = event_at h c.args.event in
    let same = item_edges_are h e (key_at h c.args.at.line) c.args.at.place (sym c.is_scan.ensures.scan ∙ c.if-not-is_scan.true) in
    on_ok_weaker c.push_read_edges.result (λ is. is ∙ ap (λ es. map edge_of c.args.edges.now.items ++ es) (sym same))
    c.push_read_edges.ensures

pub is_scan-requires : goal.is_scan-requires
is_scan-requires c = tt

pub push_read_edges-requires-clause-there : goal.push_read_edges-requires-clause-there
push_read_edges-requires-clause-there c = c.requires.there

pub push_read_edges-requires-clause-within : goal.push_read_edges-requires-clause-within
push_read_edges-requires-clause-within c = c.requires.within

pub push_sources-requires-clause-scan : goal.push_sources-requires-clause-scan
push_sources-requires-clause-scan c = sym c.is_scan.ensures.scan ∙ c.if-not-is_scan.false

pub push_sources-requires-clause-scans : goal.push_sources-requires-clause-scans
push_sources-requires-clause-scans c = c.is_scan.ensures.some c.if-not-is_scan.false

pub push_sources-requires-clause-there : goal.push_sources-requires-clause-there
push_sources-requires-clause-there c = c.requires.there

pub push_sources-requires-clause-within : goal.push_sources-requires-clause-within
push_sources-requires-clause-within c = c.requires.within

pub returns-in_err-push_sources : goal.returns-in_err-push_sources
returns-in_err-push_sources c = IfOk-from_err c.from_residual.result _ c.from_residual.ensures.0

pub push_overwriters-requires-clause-scan : goal.push_overwriters-requires-clause-scan
push_overwriters-requires-clause-scan c = sym c.is_scan.ensures.scan ∙ c.if-not-is_scan.false

pub push_overwriters-requires-clause-scans : goal.push_overwriters-requires-clause-scans
push_overwriters-requires-clause-scans c = c.is_scan.ensures.some c.if-not-is_scan.false

pub push_overwriters-requires-clause-there : goal.push_overwriters-requires-clause-there
push_overwriters-requires-clause-there c = c.requires.there

pub push_overwriters-requires-clause-within : goal.push_overwriters-requires-clause-within
push_overwriters-requires-clause-within c = c.requires.within

pub returns : goal.returns
returns c =
    let h = ordered_history c.args.versions.now in
    let e = event_at h c.args.event in
    let k = key_at h c.args.at.line in
    let after = overwrite_edges h e k c.args.at.place in
    on_ok_weaker c.push_overwriters.result
    (λ is. is ∙ (ap (λ es. es ++ after) c.in_ok-push_sources.ensures ∙
    append_assoc (map edge_of c.args.edges.now.items) (read_edges h e k c.args.at.place) after))
    c.push_overwriters.ensures
