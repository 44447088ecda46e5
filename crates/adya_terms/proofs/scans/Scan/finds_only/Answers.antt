use Rattle.std.proofs.Common.{◌≡◌, ◌∙◌, sym, ap, map, subst, true, false, Some, Equal, rules}
use Rattle.std.specs.List.{list_any}
use Rattle.std.specs.Ordering.{nat_cmp}
use Rattle.std.specs.Cmp.Lexicographic.{slice_cmp}
use Rattle.std.proofs.lemmas.Fn.{always_returns_same}
use Rattle.adya_values.specs.declared.seen.Seen.{Seen}
use Rattle.adya_keys.specs.Meaning.Keys.{key_eq, keys_rise}
use Rattle.adya_values.specs.Meaning.Histories.{Entry}
use Rattle.adya_values.specs.Mirror.Numbers.{has_seen, seen_entry}
use Rattle.adya_values.specs.Computing.Faults.{is_entry}
use Rattle.lemmas.proofs.Orderings.{search_misses_test, tied_bytes}
use Rattle.adya_values.proofs.Entries.{entry_eq-turned}
use Rattle.adya_keys.proofs.Keys.{rises_pairs}
use Rattle.adya_terms.specs.Machinery.Scans.{key_seen, listed}
use Rattle.adya_values.specs.Mirror.Events.{events_of}
use Rattle.adya_terms.specs.Machinery.Tables.{written_at}
use Rattle.adya_terms.proofs.Numbers.{seen_key, seen_keys}
use Rattle.adya_terms.proofs.SameTests.{passes_at}
use Rattle.adya_terms.proofs.Selected.{found_only, missed_only}
use Rattle.adya_terms.proofs.scans.Scan.finds_only.Goals as goal
use Rattle.lemmas.proofs.Members.{Contains-slice_get}
use Rattle.lemmas.proofs.Steps.{turn}
use Rattle.lemmas.proofs.Tests.{list_any-map}

pub returns-in-Err : goal.returns-in-Err
returns-in-Err c w at key =
    let s = c.args.self.now in
    let ys = s.seen.now in
    let k = c.key-key.result in
    let f = key_seen s in
    let same = seen_keys s.events.now s.low ys s.there in
    let rise : keys_rise (map f ys) ≡ true = ap keys_rise same ∙ c.requires.rise in
    let by_key = c.in-Err.ensures.position f (always_returns_same _ _ _ (λ a r g called. search rules)) in
    let missed : list_any (λ (y : Seen). key_eq (f y) k) ys ≡ false = search_misses_test f ys k c.in-Err.field-0 (rises_pairs f ys rise) by_key in
    let none : list_any (λ (v : Entry). key_eq v.version.key k) (listed s) ≡ false =
    sym (list_any-map (λ j. key_eq j k) (λ (v : Entry). v.version.key) (listed s)) ∙
    (ap (list_any (λ j. key_eq j k)) (sym same) ∙ (list_any-map (λ j. key_eq j k) f ys ∙ missed)) in
    sym (missed_only (listed s) w (subst (λ j. list_any (λ (v : Entry). key_eq v.version.key j) (listed s) ≡ false) (c.key-key.ensures ∙ sym key) none))

pub returns-in-Ok : goal.returns-in-Ok
returns-in-Ok c w at key =
    let s = c.args.self.now in
    let ys = s.seen.now in
    let es = s.events.now in
    let y = c.index-self-i.result in
    let i = c.in-Ok.i in
    let k = c.key-key.result in
    let f = key_seen s in
    let by_key = c.in-Ok.ensures.position f (always_returns_same _ _ _ (λ a r g called. search rules)) in
    let here = c.index-self-i.is in
    let tied : slice_cmp nat_cmp (f y) k ≡ Equal = ap (λ (x : Seen). slice_cmp nat_cmp (f x) k) here ∙ by_key y in
    let has = passes_at (has_seen es) ys s.there i y c.in-Ok.ensures.bound here in
    let same : (seen_entry es y).version.key ≡ w.version.key =
    sym (seen_key es s.low y has) ∙ (tied_bytes (f y) k tied ∙ (c.key-key.ensures ∙ sym key)) in
    let t = turn (seen_entry es) ys i y c.in-Ok.ensures.bound here in
    c.wrote.ensures ∙ (ap (λ x. is_entry (written_at (events_of es) (Some c.args.at)) (seen_entry es x)) (sym here) ∙ ap (λ o. is_entry o (seen_entry es y)) at ∙ (entry_eq-turned w (seen_entry es y) ∙
    found_only (listed s) (seen_entry es y) w c.requires.rise (Contains-slice_get (listed s) i (seen_entry es y) t.found) same))
