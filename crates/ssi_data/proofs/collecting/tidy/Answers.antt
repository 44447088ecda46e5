use Rattle.ssi_data.proofs.OwnLines.{none_noted, none_opened, made_between}
use Rattle.ssi_data.proofs.collecting.tidy.Goals as goal

pub returns-then-versions-saturating_mul-clause-tidied : goal.returns-then-versions-saturating_mul-clause-tidied
returns-then-versions-saturating_mul-clause-tidied g c =
    let dumps = g.T.ProtocolStore.keeps in
    let is_at = g.T.AnyStore.is_at in
    none_noted dumps is_at c.calls_are_deeds.ensures.quiet c.args.tables.now.users c.args.server.now c.versions-versions.new.self _
    (none_opened dumps is_at c.args.server.now c.versions-versions.new.self _ c.versions-versions.ensures.serves)

pub returns-then-saturating_sub-lt-COMMITS-clause-tidied : goal.returns-then-saturating_sub-lt-COMMITS-clause-tidied
returns-then-saturating_sub-lt-COMMITS-clause-tidied g c =
    let dumps = g.T.ProtocolStore.keeps in
    let is_at = g.T.AnyStore.is_at in
    none_noted dumps is_at c.calls_are_deeds.ensures.quiet c.args.tables.now.users c.args.server.now c.args.server.now _
    (none_opened dumps is_at c.args.server.now c.args.server.now _ (λ n began calls s. s))

pub returns-in-Ok-clause-tidied : goal.returns-in-Ok-clause-tidied
returns-in-Ok-clause-tidied g c =
    made_between g.T.ProtocolStore.keeps g.T.AnyStore.is_at c.args.server.now c.versions-versions.new.self c.carry_out_own-done.new.server
    c.versions-upkeep.new.self _ c.versions-versions.ensures.serves c.carry_out_own-done.ensures.own c.versions-upkeep.ensures.serves

pub returns-in-Err-clause-tidied : goal.returns-in-Err-clause-tidied
returns-in-Err-clause-tidied g c =
    made_between g.T.ProtocolStore.keeps g.T.AnyStore.is_at c.args.server.now c.versions-versions.new.self c.carry_out_own-done.new.server
    c.versions-upkeep.new.self _ c.versions-versions.ensures.serves c.carry_out_own-done.ensures.own c.versions-upkeep.ensures.serves
