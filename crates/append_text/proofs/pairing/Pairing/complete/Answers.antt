use Rattle.std.proofs.Common.{sym, ap, ◌∙◌, refl, map}
use Rattle.std.specs.Prelude.{slice_set}
use Rattle.std.proofs.lemmas.List.{map-set, set_past}
use Rattle.std.proofs.lemmas.Result.{err_from_is_err_and}
use Rattle.append_values.specs.Meaning.Histories.{transaction_of}
use Rattle.append_text.specs.Machinery.Pairings.{op_of}
use Rattle.append_text.proofs.PairingSteps.{item_is, none_waits, none_at, other_steps}
use Rattle.append_text.proofs.pairing.Pairing.complete.Goals as goal

pub returns-in-Some-get_mut-2-clause-ended : goal.returns-in-Some-get_mut-2-clause-ended
returns-in-Some-get_mut-2-clause-ended c =
    let old = c.args.self.now.transactions.items in
    record {
      transaction = transaction_of c.in-Some-get_mut.transaction.now;
      waits = record {
        place = c.in-Some.place;
        at = sym c.remove.ensures.value ∙ c.in-Some.is;
        is = item_is old c.in-Some.place c.in-Some-get_mut.transaction.now
            c.in-Some-get_mut.ensures.item.3.0 c.in-Some-get_mut.ensures.item.1;
      };
      may = c.in_ok-end_transaction.ensures.may;
      transactions = map-set transaction_of old c.in-Some.place c.end_transaction.new.transaction
          ∙ ap (slice_set (map transaction_of old) c.in-Some.place) c.in_ok-end_transaction.ensures.ok;
      labels = refl;
    }

pub returns-in_default-get_mut-2-clause-ended : goal.returns-in_default-get_mut-2-clause-ended
returns-in_default-get_mut-2-clause-ended c =
    let old = c.args.self.now.transactions.items in
    record {
      transaction = transaction_of c.in-Some-get_mut.transaction.now;
      waits = record {
        place = c.in-Some.place;
        at = sym c.remove.ensures.value ∙ c.in-Some.is;
        is = item_is old c.in-Some.place c.in-Some-get_mut.transaction.now
            c.in-Some-get_mut.ensures.item.3.0 c.in-Some-get_mut.ensures.item.1;
      };
      may = c.in_ok-end_transaction.ensures.may;
      transactions = map-set transaction_of old c.in-Some.place c.end_transaction.new.transaction
          ∙ ap (slice_set (map transaction_of old) c.in-Some.place) c.in_ok-end_transaction.ensures.ok;
      labels = sym (set_past c.args.self.now.labels.items c.in-Some.place c.args.op.label c.in_default-get_mut-2.ensures.item.3);
    }

pub returns-in_default-clause-refused : goal.returns-in_default-clause-refused
returns-in_default-clause-refused c =
    none_waits c.args.self.now (op_of c.args.op) (sym c.remove.ensures.value ∙ c.in_default.is)

pub returns-in_default-get_mut-clause-refused : goal.returns-in_default-get_mut-clause-refused
returns-in_default-get_mut-clause-refused c =
    none_at c.args.self.now (op_of c.args.op) c.in-Some.place (sym c.remove.ensures.value ∙ c.in-Some.is)
    c.in_default-get_mut.ensures.item.3

pub returns-in_err-end_transaction-clause-refused : goal.returns-in_err-end_transaction-clause-refused
returns-in_err-end_transaction-clause-refused c =
    rw (err_from_is_err_and c.from_residual.result c.from_residual.ensures.1).1
    (other_steps c.args.self.now (op_of c.args.op) c.in-Some.place c.in-Some-get_mut.transaction.now
    (sym c.remove.ensures.value ∙ c.in-Some.is)
    (item_is c.args.self.now.transactions.items c.in-Some.place c.in-Some-get_mut.transaction.now
    c.in-Some-get_mut.ensures.item.3.0 c.in-Some-get_mut.ensures.item.1)
    c.in_err-end_transaction.ensures.may_not)

pub returns-in-Some-get_mut-2-clause-waits : goal.returns-in-Some-get_mut-2-clause-waits
returns-in-Some-get_mut-2-clause-waits c = c.remove.ensures.updates

pub returns-in_default-get_mut-2-clause-waits : goal.returns-in_default-get_mut-2-clause-waits
returns-in_default-get_mut-2-clause-waits c = c.remove.ensures.updates
