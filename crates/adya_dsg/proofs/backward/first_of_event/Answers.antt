use Rattle.std.proofs.Common.{sym, ◌∙◌}
use Rattle.adya_dsg.specs.Machinery.VersionOrders.{ordered_history}
use Rattle.adya_dsg.specs.Machinery.Choices.{event_at}
use Rattle.adya_dsg.specs.Machinery.Links.{event_links}
use Rattle.lemmas.proofs.Members.{Contains-slice_get}
use Rattle.adya_dsg.proofs.EventsAt.{found_at}
use Rattle.adya_dsg.proofs.LinksDecide.{all_forward_none, none_of_event}
use Rattle.adya_dsg.proofs.backward.first_of_event.Goals as goal

pub returns-then-branch : goal.returns-then-branch
returns-then-branch c =
    let h = ordered_history c.args.versions.now in
    let e = event_at h c.args.event in
    sym (none_of_event c.selected_is_installed.ensures h c.requires.checked e
    (Contains-slice_get h.events c.args.event e (found_at h.events c.args.event c.requires.occurs)) c.requires.committed
    c.args.certificate.now.txns.now c.requires.writes
    (all_forward_none c.args.certificate.now.txns.now (event_links h e) (sym c.in_ok-links_go_forward.ensures ∙ c.if-branch.true)))
