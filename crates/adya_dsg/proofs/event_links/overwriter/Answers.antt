use Rattle.std.proofs.Common.{◌≡◌, ◌&&◌, not, false, slice_get, sym, ◌∙◌, ap}
use Rattle.std.proofs.lemmas.Bool.{and_left, and_right}
use Rattle.adya_values.specs.Meaning.Orders.{is_visible_at}
use Rattle.adya_values.specs.Meaning.Selections.{is_scan}
use Rattle.adya_dsg.specs.Machinery.VersionOrders.{ordered_history}
use Rattle.adya_dsg.specs.Machinery.Choices.{event_at, key_at}
use Rattle.adya_dsg.specs.Machinery.Links.{installer_at}
use Rattle.adya_dsg.proofs.Numbers.{got}
use Rattle.adya_dsg.proofs.ChoiceEdges.{overwriter_hidden, overwriter_next}
use Rattle.adya_dsg.proofs.event_links.overwriter.Goals as goal
use Rattle.adya_dsg.proofs.event_links.overwriter.Goals.{else-is_scan-via-then-is_scan+else-not-is_visible, else-is_scan-via-else-is_scan}

pub returns-in_err-place : goal.returns-in_err-place
returns-in_err-place c =
    let h = ordered_history c.args.versions.now in
    let e = event_at h c.args.event in
    let k = key_at h c.args.at.line in
    let p = c.args.at.place in
    let scan = sym c.is_scan.ensures.scan ∙ c.if-is_scan.true in
    let hidden = sym c.is_visible.ensures ∙ c.if-not-is_visible.true in
    c.from_residual.ensures ∙
    (ap (installer_at h k) c.in_err-place.ensures ∙ sym (overwriter_hidden h e k p scan hidden))

pub returns-then-not-is_visible : goal.returns-then-not-is_visible
returns-then-not-is_visible c =
    let h = ordered_history c.args.versions.now in
    let e = event_at h c.args.event in
    let k = key_at h c.args.at.line in
    let p = c.args.at.place in
    let scan = sym c.is_scan.ensures.scan ∙ c.if-is_scan.true in
    let hidden = sym c.is_visible.ensures ∙ c.if-not-is_visible.true in
    c.installer.ensures ∙
    (ap (installer_at h k) c.in_ok-place.ensures ∙ sym (overwriter_hidden h e k p scan hidden))

pub returns : goal.returns
returns c =
    let h = ordered_history c.args.versions.now in
    let e = event_at h c.args.event in
    let k = key_at h c.args.at.line in
    let p = c.args.at.place in
    let test : (is_scan e && not (is_visible_at h k p)) ≡ false =
    elim c.else-is_scan.branch [
      | else-is_scan-via-then-is_scan+else-not-is_visible w ↦ and_right _ _ (ap not (sym w.is_visible.ensures ∙ w.if-not-is_visible.false))
      | else-is_scan-via-else-is_scan w ↦ and_left _ _ (sym c.is_scan.ensures.scan ∙ w.if-is_scan.false)
    ] in
    c.copied.ensures ∙
    (got c.writers.result.now p c.get.result c.get.ensures.lookup.0 c.get.ensures.lookup.1 ∙
    (ap (λ xs. slice_get xs p) c.writers.ensures ∙ sym (overwriter_next h e k p test)))
