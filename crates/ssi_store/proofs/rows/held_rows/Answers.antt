use Rattle.std.proofs.Common.{arith, ◌≡◌, ◌+◌, ap, map, sym, take, ◌++◌, ◌∷◌, [], ◌∙◌}
use Rattle.std.proofs.lemmas.Grind.{common_steps}
use Rattle.std.proofs.lemmas.List.{map-append}
use Rattle.std.proofs.lemmas.List.Elements.{filter_map-append}
use Rattle.adya_values.specs.Meaning.Events.{visible}
use Rattle.adya_values.specs.Meaning.Serial.{visible_pair_of, visible_pairs}
use Rattle.ssi_versions.specs.Mirror.{held_of}
use Rattle.ssi_store.specs.Machinery.HeldRows.{entries_in}
use Rattle.ssi_store.proofs.rows.held_rows.Goals as goal

pub versions-preserved : goal.versions-preserved
versions-preserved c =
    let before = take c.versions.version-index c.args.held.now in
    let more : take (c.versions.version-index + 1) c.args.held.now ≡ before ++ c.version-item.result ∷ [] =
    grind (arith, common_steps) in
    c.in_ok-push_row.ensures
    ∙ ap (λ rs. rs ++ visible_pairs (entries_in (held_of c.version-item.result ∷ []))) c.versions.invariant
    ∙ sym (ap (λ hs. visible_pairs (entries_in (map held_of hs))) more
    ∙ ap (λ hs. visible_pairs (entries_in hs)) (map-append held_of before (c.version-item.result ∷ []))
    ∙ ap visible_pairs (map-append (λ h. h.entry) (map held_of before) (held_of c.version-item.result ∷ []))
    ∙ filter_map-append (λ w. visible_pair_of w.version.key (visible w.content)) (entries_in (map held_of before))
    (entries_in (held_of c.version-item.result ∷ [])))
