use Rattle.std.proofs.Common.{◌≤◌, ◌+◌, ◌∙◌, ap, sym, subst, map}
use Rattle.adya_values.specs.Meaning.Events.{version, listed}
use Rattle.ssi_versions.specs.Mirror.{write_of}
use Rattle.ssi_snapshot.specs.Clauses.Writes.{put_write, mod_of}
use Rattle.ssi_snapshot.specs.Machinery.Stored.{Write, all_writes}
use Rattle.ssi_snapshot.proofs.Writing.{count_more}
use Rattle.ssi_snapshot.proofs.view.View.put.Goals as goal

pub invariant_of-self-2 : goal.invariant_of-self-2
invariant_of-self-2 c =
    let old = c.args.self.now in
    let w : Write = (version c.args.key old.txn c.next_mod-m.result, c.args.content) in
    record {
      keyed = c.put.ensures.keyed;
      counted = λ q.
          subst (λ ws. mod_of (listed q ws) ≤ old.count + 1) (sym c.in_ok-put.ensures.written)
          (count_more (write_of w) (map write_of (all_writes old.writes)) old.count q c.next_mod-m.ensures.within (old.counted q));
    }

pub returns-clause-written : goal.returns-clause-written
returns-clause-written c =
    let old = c.args.self.now in
    c.in_ok-put.ensures.written
    ∙ ap (λ m. put_write (write_of (version c.args.key old.txn m, c.args.content)) (map write_of (all_writes old.writes))) c.next_mod-m.ensures.m
