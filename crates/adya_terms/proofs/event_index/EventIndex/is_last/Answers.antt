use Rattle.std.proofs.Common.{◌∙◌, is_some, not, ap, refl}
use Rattle.adya_values.specs.Mirror.Numbers.{seen_entry, version_in}
use Rattle.adya_terms.specs.Machinery.EventIndex.{events_in, keys_in}
use Rattle.adya_terms.specs.Machinery.Telling.{replaced_in}
use Rattle.adya_terms.proofs.Replaced.{last_unless_replaced}
use Rattle.adya_terms.proofs.event_index.EventIndex.is_last.Goals as goal

pub returns : goal.returns
returns c =
    let x = c.args.self.now in
    let o = seen_entry (events_in x) c.args.seen.now in
    ap not c.was_replaced.ensures ∙
    (ap (λ v. not (is_some (replaced_in x.tables (version_in (keys_in x) v)))) c.version.ensures ∙
    last_unless_replaced _ _ _ _ _ _ x.tell o c.requires.written _ refl)
