use Rattle.std.proofs.Common.{◌∙◌, Some, sym, ap}
use Rattle.adya_values.specs.Mirror.Numbers.{seen_entry}
use Rattle.adya_terms.specs.Machinery.Tables.{is_there, written_at}
use Rattle.adya_terms.specs.Machinery.Telling.{told}
use Rattle.adya_terms.proofs.Replaced.{there_is}
use Rattle.adya_terms.proofs.tables.Tables.wrote.Goals as goal

pub returns-in-Some : goal.returns-in-Some
returns-in-Some c =
    let t = c.args.self.now in
    let o = seen_entry t.writes.events.now c.args.seen.now in
    c.wrote.ensures ∙ (there_is o (written_at (told t) (Some c.in-Some.at)) ∙ ap (λ p. is_there o (written_at (told t) p)) (sym c.in-Some.is))
