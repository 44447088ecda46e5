use Rattle.std.proofs.Common.{◌∙◌, ◌<◌, Some, ap, length, option_map, refl, slice_get, subst, sym}
use Rattle.std.proofs.Math.Bool.{false≢true}
use Rattle.std.proofs.lemmas.Bool.{lt-ltb, ltb-true}
use Rattle.std.proofs.lemmas.List.{length-map}
use Rattle.std.proofs.lemmas.Option.{slice_get-map, slice_get_read}
use Rattle.adya_keys.specs.Machinery.KeyTables.{keys_in}
use Rattle.adya_values.specs.Machinery.Seen.{entry_in}
use Rattle.adya_values.specs.Mirror.Events.{entries_of, entry_of}
use Rattle.adya_values.specs.Mirror.Refs.{view_entry}
use Rattle.adya_values.proofs.listed.Listed.slices_at.Goals as goal

pub unreachable-requires : goal.unreachable-requires
unreachable-requires c =
    let es = c.in-Plain.entries.now in
    let less : c.args.i < length es = subst (λ n. c.args.i < n) (length-map es entry_of) (subst (λ l. c.args.i < length (entries_of l)) c.in-Plain.is c.requires) in
    false≢true (c.in_default.ensures.lookup.0 ∙ lt-ltb c.args.i (length es) less)

pub unreachable-requires-in_default-get : goal.unreachable-requires-in_default-get
unreachable-requires-in_default-get c =
    let es = c.in-Slices.entries.now in
    let less : c.args.i < length es = subst (λ n. c.args.i < n) (length-map es view_entry) (subst (λ l. c.args.i < length (entries_of l)) c.in-Slices.is c.requires) in
    false≢true (c.in_default-get.ensures.lookup.0 ∙ lt-ltb c.args.i (length es) less)

pub at-requires : goal.at-requires
at-requires c =
    let p = c.in-Packed.packed in
    subst (λ n. c.args.i < n) (length-map p.seen.now (entry_in (keys_in p.keys.now) p.bytes.now))
    (subst (λ l. c.args.i < length (entries_of l)) c.in-Packed.is c.requires)

pub returns-in-Some : goal.returns-in-Some
returns-in-Some c =
    let es = c.in-Plain.entries.now in
    let e = c.in-Some.entry.now in
    let found = slice_get_read es _ c.args.i e refl (ltb-true c.args.i (length es) (sym c.in-Some.ensures.lookup.0)) c.in-Some.ensures.lookup.1 in
    ap (λ l. slice_get (entries_of l) c.args.i) c.in-Plain.is ∙
    (slice_get-map entry_of es c.args.i ∙ (ap (option_map entry_of) found ∙ ap Some (sym c.slices.ensures)))

pub returns-in-Some-get : goal.returns-in-Some-get
returns-in-Some-get c =
    let es = c.in-Slices.entries.now in
    let e = c.in-Some-get.entry.now in
    let found = slice_get_read es _ c.args.i e refl (ltb-true c.args.i (length es) (sym c.in-Some-get.ensures.lookup.0)) c.in-Some-get.ensures.lookup.1 in
    ap (λ l. slice_get (entries_of l) c.args.i) c.in-Slices.is ∙ (slice_get-map view_entry es c.args.i ∙ ap (option_map view_entry) found)

pub returns-in-Packed : goal.returns-in-Packed
returns-in-Packed c =
    let p = c.in-Packed.packed in
    ap (λ l. slice_get (entries_of l) c.args.i) c.in-Packed.is ∙
    (slice_get-map (entry_in (keys_in p.keys.now) p.bytes.now) p.seen.now c.args.i ∙ c.at.ensures)
