use Rattle.std.proofs.Common.{◌∙◌, ◌++◌, ◌∷◌, [], append_assoc, append-nil, ap, map, sym}
use Rattle.std.proofs.lemmas.List.{map-append}
use Rattle.adya_line.specs.Computing.Reading.{entries_of}
use Rattle.adya_values.specs.Mirror.Refs.{view_entry}
use Rattle.adya_line.proofs.Scans.{none_more, one_more, entry_shorter}
use Rattle.adya_line.proofs.entries.take_entries.Goals as goal

pub entries-smaller : goal.entries-smaller
entries-smaller c = entry_shorter c.entries.left.now _ _ c.in-Some.ensures

pub entries-preserved : goal.entries-preserved
entries-preserved c =
    let one = one_more c.entries.left.now c.in-Some.rest.now (view_entry c.in-Some.entry) c.in-Some.ensures in
    let es = map view_entry c.entries.entries.items in
    record {
      rest = sym one.1 ∙ c.entries.invariant.rest;
      taken = ap (λ ws. map view_entry ws ++ entries_of c.in-Some.rest.now) c.in_ok-push.ensures.items ∙
          (ap (λ ws. ws ++ entries_of c.in-Some.rest.now) (map-append view_entry c.entries.entries.items (c.in-Some.entry ∷ [])) ∙
          (append_assoc es (view_entry c.in-Some.entry ∷ []) (entries_of c.in-Some.rest.now) ∙
          (ap (λ ws. es ++ ws) (sym one.0) ∙ c.entries.invariant.taken)));
    }

pub returns-clause-rest : goal.returns-clause-rest
returns-clause-rest c = sym (none_more c.entries.left.now c.in_default.ensures).1 ∙ c.entries.invariant.rest

pub returns-clause-entries : goal.returns-clause-entries
returns-clause-entries c =
    let es = map view_entry c.entries.entries.items in
    sym (append-nil es) ∙ (ap (λ ws. es ++ ws) (sym (none_more c.entries.left.now c.in_default.ensures).0) ∙ c.entries.invariant.taken)
