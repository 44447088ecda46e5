use Rattle.std.proofs.Common.{sym, ◌∙◌}
use Rattle.std.specs.Map.{keys_of}
use Rattle.std.specs.Ordering.{nat_cmp, eq_by_cmp}
use Rattle.std.specs.BTreeMap.{get}
use Rattle.std.proofs.lemmas.Cmp.{nat_cmp_total, eq_by_cmp_equiv}
use Rattle.std.proofs.lemmas.Map.Entries.{length-keys_of}
use Rattle.std.proofs.lemmas.Map.Keys.{IsDistinct-from_sorted}
use Rattle.std.proofs.lemmas.Map.Made.{length-from_same_keys, is_some-lookup}
use Rattle.slab.specs.Slab.{get as held}
use Rattle.ssi_conflict.proofs.RecordSlots.{row_taken}
use Rattle.ssi_conflict.proofs.records.Records.len.Goals as goal

pub returns : goal.returns
returns c ts once lists =
    let m = c.args.self.now in
    c.len.ensures.len ∙ (sym (length-keys_of m.slots.entries) ∙
    length-from_same_keys (eq_by_cmp_equiv nat_cmp_total) (keys_of m.slots.entries) ts
    (IsDistinct-from_sorted nat_cmp (keys_of m.slots.entries) c.len.ensures.ordered) once
    (λ t. sym (is_some-lookup (eq_by_cmp nat_cmp t) m.slots.entries) ∙
    (sym (row_taken (get nat_cmp m.slots) (held m.records) m.taken t) ∙ sym (lists t))))
