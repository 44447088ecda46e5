use Rattle.std.proofs.Common.{◌≡◌, ◌∙◌, ◌&&◌, true, map, sym, ap}
use Rattle.std.specs.List.{list_all}
use Rattle.std.proofs.Math.Bool.{false≢true}
use Rattle.std.proofs.lemmas.Bool.{and_from}
use Rattle.std.proofs.lemmas.List.Folds.{list_all-map}
use Rattle.adya_keys.specs.Meaning.Keys.{key_le, keys_rise, lies_in}
use Rattle.adya_values.specs.Meaning.Histories.{Entry}
use Rattle.adya_terms.specs.Machinery.Scans.{key_seen, listed}
use Rattle.adya_terms.proofs.Numbers.{seen_keys}
use Rattle.adya_terms.proofs.scans.Scan.is_rising.Goals as goal
use Rattle.adya_terms.proofs.scans.Scan.is_rising.Goals.{then-le, else-le}

pub returns-then-keys_rise : goal.returns-then-keys_rise
returns-then-keys_rise c t =
    let s = c.args.self.now in
    let inside = lies_in s.low s.high in
    let key = λ (w : Entry). w.version.key in
    let both : (key_le s.low s.high && keys_rise (map key (listed s))) ≡ true =
    elim c.if-le.branch [
      | then-le w ↦ and_from _ _ (sym c.le.ensures ∙ w.if-le.true) (sym w.keys_rise.ensures ∙ (sym w.value-is ∙ c.if-keys_rise.true))
      | else-le w ↦ absurd (false≢true (sym w.if-le.false ∙ (sym w.value-is ∙ c.if-keys_rise.true)))
    ] in
    c.all_lie_in.ensures ∙
    (sym (list_all-map inside (key_seen s) s.seen.now) ∙
    (ap (list_all inside) (seen_keys s.events.now s.low s.seen.now s.there) ∙
    (list_all-map inside key (listed s) ∙ sym (ap (λ b. b && list_all (λ (w : Entry). inside w.version.key) (listed s)) both))))
