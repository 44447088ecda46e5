use Rattle.std.proofs.Common.{◌∙◌, ap, refl, slice_get, subst, []}
use Rattle.adya_values.specs.Meaning.Histories.{Order}
use Rattle.adya_keys.specs.Mirror.{value_of}
use Rattle.adya_values.specs.Mirror.Lines.{orders_of}
use Rattle.adya_values.specs.Computing.Faults.{is_value, last_value}
use Rattle.adya_values.proofs.KeyLookups.{line_missing}
use Rattle.adya_terms.specs.Machinery.Checks.{parts}
use Rattle.adya_terms.specs.Machinery.EventIndex.{indexed}
use Rattle.adya_terms.specs.Machinery.Places.{IsLineOf}
use Rattle.adya_terms.proofs.Found.{found_within, has_key}
use Rattle.adya_terms.proofs.finals.is_final.Goals as goal

pub returns-in_default : goal.returns-in_default
returns-in_default c =
    let os = orders_of c.args.orders.now in
    let k = c.args.pair.now.key in
    let missing = line_missing os k (subst (λ i. IsLineOf i os k) c.in_default.is c.requires.line) in
    rw missing refl

pub line_value-requires-clause-there : goal.line_value-requires-clause-there
line_value-requires-clause-there c =
    let os = orders_of c.args.orders.now in
    let k = c.args.pair.now.key in
    found_within (λ (o : Order). o.key) os c.in-Some.line k (subst (λ j. IsLineOf j os k) c.in-Some.is c.requires.line)

pub returns : goal.returns
returns c =
    let os = orders_of c.args.orders.now in
    let k = c.args.pair.now.key in
    let o = has_key (λ (x : Order). x.key) (slice_get os c.in-Some.line) k (subst (λ j. IsLineOf j os k) c.in-Some.is c.requires.line) in
    let h = parts (indexed c.args.index.now) os [] in
    let v = value_of c.args.pair.now.value in
    c.is_value.ensures ∙
    (ap (λ w. is_value w v) (c.line_value.ensures o.0 o.1) ∙ ap (λ j. is_value (last_value h j) v) o.2)
