use Rattle.std.proofs.Common.{rules, arith, get_or, ◌≡◌, ◌++◌, [], ◌∷◌, false, subst, sym, ◌<◌, ◌+◌, length, ◌∙◌, ap, take, map, if◌then◌else◌}
use Rattle.adya_keys.specs.Meaning.Keys.{key_eq}
use Rattle.ssi_versions.specs.Mirror.{held_of, chain_of}
use Rattle.ssi_versions.specs.Machinery.Plain.{as_held}
use Rattle.ssi_versions.specs.Machinery.Keyed.{held_at, filled_count}
use Rattle.ssi_versions.proofs.ByKey.{installed-more, other_write}
use Rattle.ssi_versions.proofs.Entries.{joined, filled_within}
use Rattle.ssi_versions.proofs.keyed.put_all.Goals as goal
use Rattle.ssi_versions.proofs.keyed.put_all.Goals.{then-put, else-put}

pub writes-preserved : goal.writes-preserved
writes-preserved c =
    let h : c.writes.write-index < length c.args.writes.now = omega arith in
    let cur = filled_count c.writes.chains.entries in
    record {
      added = λ q.
          joined (held_at q c.put.new.chains.entries) (held_at q c.writes.chains.entries) (held_at q c.args.chains.now.entries)
          (chain_of q (map held_of (map (as_held c.args.stamp) (take c.writes.write-index c.args.writes.now))))
          (chain_of q (map held_of (map (as_held c.args.stamp) (take (c.writes.write-index + 1) c.args.writes.now)))) _
          (subst (λ x. held_at q c.put.new.chains.entries ≡ held_at q c.writes.chains.entries ++ chain_of q (held_of x ∷ [])) c.stamped.ensures (c.put.ensures.added q)) (c.writes.invariant.added q)
          (installed-more q c.args.stamp c.args.writes.now c.writes.write-index c.write-item.result h (Prim.search rules));
      room = λ k d low high. c.put.ensures.keeps _ (subst (λ x. key_eq x.version.key (get_or c.args.writes.now k d).0.key ≡ false) (sym c.stamped.ensures) (other_write c.args.writes.now c.writes.write-index k c.write-item.result d (Prim.search rules) (omega arith) high c.requires.apart))
          (c.writes.invariant.room k d (omega arith) high);
      owned = c.put.ensures.owned c.writes.invariant.owned;
      count = omega (arith, c.put.ensures.count, c.writes.invariant.count);
      filled = elim c.if-put.branch [
        | then-put w ↦ omega (arith, c.put.ensures.filled ∙ ap (λ b. cur + (if b then 1 else 0)) w.if-put.true, c.writes.invariant.filled, w.opened-is)
        | else-put w ↦ omega (arith, c.put.ensures.filled ∙ ap (λ b. cur + (if b then 1 else 0)) w.if-put.false, c.writes.invariant.filled, w.opened-is)
      ];
      small = elim c.if-put.branch [
        | then-put w ↦ omega (arith, w.opened-is, c.writes.invariant.small)
        | else-put w ↦ omega (arith, w.opened-is, c.writes.invariant.small)
      ];
    }

pub returns-clause-fits : goal.returns-clause-fits
returns-clause-fits c = omega (arith, filled_within c.writes.chains.entries, c.len-after.ensures.len, c.len-after.ensures.small)
