use Rattle.std.proofs.Common.{◌≡◌, ◌∙◌, ◌-◌, ◌+◌, rules, arith, ap, length, drop}
use Rattle.ssi_versions.specs.Meaning.Changes.{otherwise}
use Rattle.ssi_snapshot.specs.Machinery.Stored.{are_keyed, entry_key, stored_at}
use Rattle.ssi_snapshot.proofs.Merging.{own_in, own_more, own_less}
use Rattle.ssi_snapshot.proofs.merge.put_own.Goals as goal
use Rattle.ssi_snapshot.proofs.merge.put_own.Goals.{then-lies_in+in_ok-put, else-lies_in}

pub back-preserved : goal.back-preserved
back-preserved c =
    let ws = c.args.writes.now in
    let low = c.args.low in
    let high = c.args.high in
    let n = length ws in
    let old = c.args.seen.now.entries in
    record {
      stored = λ key.
          elim c.if-lies_in.branch [
            | then-lies_in+in_ok-put w ↦
                ap (λ m. stored_at key m.entries) w.seen-is
                ∙ own_more low high key ws (n - (c.back.k + 1)) (n - c.back.k) c.index-writes-n.result c.back.seen.entries w.put.new.seen.entries (stored_at key old)
                (omega arith) (Prim.search rules) (omega arith) (Prim.search rules) (w.in_ok-put.ensures.stored key) (c.back.invariant.stored key)
            | else-lies_in w ↦
                ap (λ m. stored_at key m.entries) w.seen-is
                ∙ own_less low high key ws (n - (c.back.k + 1)) (n - c.back.k) c.index-writes-n.result c.back.seen.entries (stored_at key old)
                (omega arith) (Prim.search rules) (omega arith) (Prim.search rules) (c.back.invariant.stored key)
          ];
      keyed = λ keyed.
          elim c.if-lies_in.branch [
            | then-lies_in+in_ok-put w ↦ ap (λ m. are_keyed entry_key m.entries) w.seen-is ∙ w.in_ok-put.ensures.keyed (c.back.invariant.keyed keyed)
            | else-lies_in w ↦ ap (λ m. are_keyed entry_key m.entries) w.seen-is ∙ c.back.invariant.keyed keyed
          ];
    }

pub returns-clause-stored : goal.returns-clause-stored
returns-clause-stored c = λ key.
    let end : length c.args.writes.now - c.back.k ≡ 0 = omega arith in
    c.back.invariant.stored key
    ∙ ap (λ n. otherwise (own_in c.args.low c.args.high key (drop n c.args.writes.now)) (stored_at key c.args.seen.now.entries)) end
