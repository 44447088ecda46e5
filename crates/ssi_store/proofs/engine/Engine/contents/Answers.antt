use Rattle.std.proofs.Common.{ap, map, ◌∙◌}
use Rattle.adya_values.specs.Meaning.Serial.{visible_pairs}
use Rattle.ssi_versions.specs.Mirror.{held_of}
use Rattle.ssi_store.specs.Machinery.HeldRows.{entries_in}
use Rattle.ssi_store.proofs.NewestVersions.{held_newest}
use Rattle.ssi_store.proofs.engine.Engine.contents.Goals as goal

pub returns : goal.returns
returns g c = λ course st.
    c.in_ok-rows.ensures ∙ ap (λ hs. visible_pairs (entries_in (map held_of hs))) c.as_slice.ensures.value
    ∙ ap visible_pairs (held_newest st c.laws_below.ensures (map held_of c.in_ok-held.held.items)
    c.in_ok-held.ensures.rising c.in_ok-held.ensures.found)
