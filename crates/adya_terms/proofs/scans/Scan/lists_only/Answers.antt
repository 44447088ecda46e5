use Rattle.std.proofs.Common.{◌≡◌, ◌∙◌, ◌+◌, ◌<◌, ℕ, false, ◌∷◌, drop, get_or, length, map, refl, sym, ap}
use Rattle.std.proofs.lemmas.Bool.{ne_eqb}
use Rattle.std.proofs.lemmas.List.{drop_all}
use Rattle.std.proofs.Math.Bool.{and-true, or-false}
use Rattle.lemmas.proofs.Orderings.{bytes_eq-from}
use Rattle.lemmas.proofs.Steps.{drop_step}
use Rattle.adya_values.specs.declared.seen.Seen.{Seen}
use Rattle.adya_keys.specs.Meaning.Keys.{key_eq}
use Rattle.adya_keys.specs.Machinery.Within.{key_at}
use Rattle.adya_values.specs.Mirror.Numbers.{has_seen, keys_of, seen_entry}
use Rattle.adya_values.specs.Computing.Faults.{entry_eq, is_entry}
use Rattle.adya_terms.specs.declared.scans.Scan.{Scan}
use Rattle.adya_terms.proofs.ListsOnly.{judged, judged_found, judged_other, judged_wrong}
use Rattle.adya_terms.proofs.Numbers.{keys_apart, seen_within}
use Rattle.adya_terms.proofs.SameTests.{passes_at}
use Rattle.adya_terms.proofs.scans.Scan.lists_only.Goals as goal
use Rattle.adya_terms.proofs.scans.Scan.lists_only.Goals.{then-wrote, else-wrote+else-seen-number}

-- what is left from an index on
left_is : (s : Scan) (i : ℕ) (x : Seen) → i < length s.seen.now → x ≡ get_or s.seen.now i x
    → map (seen_entry s.events.now) (drop i s.seen.now) ≡ seen_entry s.events.now x ∷ map (seen_entry s.events.now) (drop (i + 1) s.seen.now)
left_is s i x less at = ap (map (seen_entry s.events.now)) (drop_step s.seen.now i x less at)

pub loop-seen-init : goal.loop-seen-init
loop-seen-init c w at key = refl

pub returns-then-seen-number : goal.returns-then-seen-number
returns-then-seen-number c w at key =
    let s = c.args.self.now in
    let es = s.events.now in
    let x = c.seen-item.result in
    let i = c.loop-seen.seen-index in
    let miss : entry_eq w (seen_entry es x) ≡ false = ap (λ o. is_entry o (seen_entry es x)) (sym at) ∙ (sym c.wrote.ensures ∙ c.if-wrote.false) in
    let same : key_at (keys_of es) x.key ≡ w.version.key = ap (key_at (keys_of es)) c.if-seen-number.true ∙ sym key in
    sym (c.loop-seen.invariant w at key ∙ (ap (judged w c.loop-seen.found) (left_is s i x c.loop-seen-test.true c.seen-item.is) ∙
    judged_wrong w c.loop-seen.found (seen_entry es x) (map (seen_entry es) (drop (i + 1) s.seen.now)) miss (bytes_eq-from _ _ same)))

pub loop-seen-preserved : goal.loop-seen-preserved
loop-seen-preserved c w at key =
    let s = c.args.self.now in
    let es = s.events.now in
    let x = c.seen-item.result in
    let i = c.loop-seen.seen-index in
    let rest = map (seen_entry es) (drop (i + 1) s.seen.now) in
    let wrote : c.wrote.result ≡ entry_eq w (seen_entry es x) = c.wrote.ensures ∙ ap (λ o. is_entry o (seen_entry es x)) at in
    c.loop-seen.invariant w at key ∙ (ap (judged w c.loop-seen.found) (left_is s i x c.loop-seen-test.true c.seen-item.is) ∙
    elim c.if-wrote.branch [
      | then-wrote v ↦
          judged_found w c.loop-seen.found (seen_entry es x) rest (sym wrote ∙ v.if-wrote.true) ∙ ap (λ b. judged w b rest) (sym v.found-is)
      | else-wrote+else-seen-number v ↦
          let has = passes_at (has_seen es) s.seen.now s.there i x c.loop-seen-test.true c.seen-item.is in
          let apart = keys_apart (keys_of es) s.numbered x.key c.args.number (seen_within es x has) c.requires (ne_eqb _ _ v.if-seen-number.false) in
          judged_other w c.loop-seen.found (seen_entry es x) rest (sym wrote ∙ v.if-wrote.false)
          (ap (key_eq (key_at (keys_of es) x.key)) key ∙ apart) ∙ ap (λ b. judged w b rest) (sym v.found-is)
    ])

pub returns : goal.returns
returns c w at key =
    let s = c.args.self.now in
    sym (c.loop-seen.invariant w at key ∙
    (ap (λ xs. judged w c.loop-seen.found (map (seen_entry s.events.now) xs)) (drop_all c.loop-seen.seen-index s.seen.now c.loop-seen-test.false) ∙
    (and-true _ ∙ or-false c.loop-seen.found)))
