use Rattle.std.proofs.Common.{refl, sym}
use Rattle.std.proofs.lemmas.Result.{IfErr-weaker, on_ok_weaker}
use Rattle.append_text.proofs.Collecting.{passed_more, refused_some, took_none, took_some}
use Rattle.append_text.proofs.collector.Collector.take.Goals as goal

pub returns-in-Some-clause-taken : goal.returns-in-Some-clause-taken
returns-in-Some-clause-taken g c = on_ok_weaker c.take.result (took_some g.D.Data.notation (g.D.Data.form c.args.datum) c.args.self.now
    c.operation.new.names.kept.keys c.in-Some.op (record {
      alloc = c.args.self.now.alloc;
      names = c.operation.new.names;
      pairing = c.take.new.self;
      taken = c.saturating_add-self.result;
      passed_over = c.args.self.now.passed_over;
    }) refl (rw c.in-Some.is at c.in_ok-op.ensures) c.saturating_add-self.ensures refl) c.take.ensures.taken

pub returns-in-Some-clause-refused : goal.returns-in-Some-clause-refused
returns-in-Some-clause-refused g c = IfErr-weaker c.take.result _ _ (λ e refused. refused_some g.D.Data.notation (g.D.Data.form c.args.datum)
    c.args.self.now c.operation.new.names.kept.keys c.in-Some.op e c.operation.new.names.one_to_one
    (rw c.in-Some.is at c.in_ok-op.ensures) refused) c.take.ensures.refused

pub returns-in-None-clause-taken : goal.returns-in-None-clause-taken
returns-in-None-clause-taken g c =
    let n = g.D.Data.notation in
    let f = g.D.Data.form c.args.datum in
    took_none n f c.args.self.now c.operation.new.names.kept.keys (record {
      alloc = c.args.self.now.alloc;
      names = c.operation.new.names;
      pairing = c.args.self.now.pairing;
      taken = c.saturating_add-self.result;
      passed_over = c.count.new.self;
    }) refl (rw c.in-None.is at c.in_ok-op.ensures) c.saturating_add-self.ensures (λ passed were. passed_more n passed f
    c.args.self.now.passed_over c.count.new.self were (rw (sym c.is_of_txn.ensures) c.count.ensures.function)
    (rw (sym c.is_of_txn.ensures) c.count.ensures.process)) refl
