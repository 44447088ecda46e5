use Rattle.std.proofs.Common.{arith, rules, length, ◌-◌, ◌+◌, ◌≡◌, sym, ◌∙◌, ap, if◌then◌else◌, suc, map, drop, true, false}
use Rattle.std.specs.List.{list_any}
use Rattle.std.proofs.lemmas.List.{take_rest}
use Rattle.ssi_versions.specs.Mirror.{held_of, key_total, is_of}
use Rattle.ssi_versions.proofs.ByKey.{total_more}
use Rattle.ssi_versions.proofs.plain.key_total.Goals as goal
use Rattle.ssi_versions.proofs.plain.key_total.Goals.{then-not-has_key, else-not-has_key}

pub back-preserved : goal.back-preserved
back-preserved c =
    let n = length c.args.items.now in
    let rest = key_total (map held_of (drop (n - c.back.k) c.args.items.now)) in
    let e = total_more c.args.items.now (n - (c.back.k + 1)) (n - c.back.k) c.index-items-i.result (omega arith) (Prim.search rules) (omega arith) in
    elim c.if-not-has_key.branch [
      | then-not-has_key w ↦
          let no : list_any (λ g. is_of c.index-items-i.result.version.key (held_of g)) (drop (n - c.back.k) c.args.items.now) ≡ false =
          ap (λ m. list_any (λ g. is_of c.index-items-i.result.version.key (held_of g)) (drop m c.args.items.now)) (omega arith) ∙ ap (list_any (λ g. is_of c.index-items-i.result.version.key (held_of g))) (sym (take_rest c.args.items.now (n - 1 - c.back.k + 1))) ∙ sym w.if-not-has_key.ensures in
          record { total = w.total-is ∙ omega (arith, c.back.invariant.total) ∙ sym (e ∙ ap (λ b. if b then rest else suc rest) no); small = omega (arith, w.total-is, c.back.invariant.small) }
      | else-not-has_key w ↦
          let there : list_any (λ g. is_of c.index-items-i.result.version.key (held_of g)) (drop (n - c.back.k) c.args.items.now) ≡ true =
          ap (λ m. list_any (λ g. is_of c.index-items-i.result.version.key (held_of g)) (drop m c.args.items.now)) (omega arith) ∙ ap (list_any (λ g. is_of c.index-items-i.result.version.key (held_of g))) (sym (take_rest c.args.items.now (n - 1 - c.back.k + 1))) ∙ sym w.if-not-has_key.ensures in
          record { total = w.total-is ∙ c.back.invariant.total ∙ sym (e ∙ ap (λ b. if b then rest else suc rest) there); small = omega (arith, w.total-is, c.back.invariant.small) }
    ]
