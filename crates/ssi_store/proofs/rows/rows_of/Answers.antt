use Rattle.std.proofs.Common.{arith, ◌≡◌, ◌+◌, ap, map, sym, take, ◌++◌, ◌∷◌, [], ◌∙◌}
use Rattle.std.proofs.lemmas.Grind.{common_steps}
use Rattle.std.proofs.lemmas.List.{map-append}
use Rattle.std.proofs.lemmas.List.Elements.{filter_map-append}
use Rattle.adya_values.specs.Meaning.Events.{visible}
use Rattle.adya_values.specs.Mirror.Events.{entry_of}
use Rattle.adya_values.specs.Meaning.Serial.{visible_pair_of, visible_pairs}
use Rattle.ssi_store.proofs.rows.rows_of.Goals as goal

pub entries-preserved : goal.entries-preserved
entries-preserved c =
    let before = take c.entries.entry-index c.args.entries.now in
    let more : take (c.entries.entry-index + 1) c.args.entries.now ≡ before ++ c.entry-item.result ∷ [] =
    grind (arith, common_steps) in
    c.in_ok-push_row.ensures
    ∙ ap (λ rs. rs ++ visible_pairs (entry_of c.entry-item.result ∷ [])) c.entries.invariant
    ∙ sym (ap (λ ws. visible_pairs (map entry_of ws)) more
    ∙ ap visible_pairs (map-append entry_of before (c.entry-item.result ∷ []))
    ∙ filter_map-append (λ w. visible_pair_of w.version.key (visible w.content)) (map entry_of before)
    (entry_of c.entry-item.result ∷ []))
