use Rattle.std.proofs.Common.{◌≡◌, ◌<◌, ◌≤◌, ◌+◌, ℕ, List, map, length, get_or, subst, sym, ◌∙◌, ap}
use Rattle.std.specs.HashMap.{get}
use Rattle.std.proofs.lemmas.List.{length-map, get_or-map}
use Rattle.append_values.specs.declared.transaction.Transaction.{Transaction as TransactionValue}
use Rattle.append_values.specs.Meaning.Histories.{Operation, operation_of, transaction_of, effects_of, nothing}
use Rattle.append_check.specs.Meaning.Verdicts.{history_of}
use Rattle.append_check.specs.Machinery.Appending.{item, item_eq, times, count_in, Adds}
use Rattle.append_check.proofs.Appending.{tells_more, twice_in_all, differ_from, once_from}
use Rattle.append_check.proofs.appenders.Appenders.of.Goals as goal

-- the steps of the transaction at a place that have an effect
effects_at : (ts : List TransactionValue) (i : ℕ) (x : TransactionValue) (os : List Operation) → i < length ts → x ≡ get_or ts i x
    → os ≡ effects_of (transaction_of x) → os ≡ effects_of (get_or (map transaction_of ts) i nothing)
effects_at ts i x os l is same =
    same ∙ sym (ap effects_of (get_or-map transaction_of ts i x nothing l ∙ ap transaction_of (sym is)))

pub transactions-preserved : goal.transactions-preserved
transactions-preserved c =
    let ts = c.args.transactions.now in
    let h = history_of ts in
    let i = c.transactions.place in
    let old = get item_eq c.transactions.table.by_item in
    let new = get item_eq c.add.new.self.by_item in
    let x = c.index-transactions-place.result in
    let os = map operation_of c.effects.result.now in
    let within : i < length h = rw length-map c.transactions-test.true in
    let steps = effects_at ts i x os c.transactions-test.true c.index-transactions-place.is c.effects.ensures in
    let added = rw c.in_default.is at c.in_ok-item.ensures in
    tells_more old new h i within c.transactions.invariant (subst (Adds old new i) steps added)

pub returns-in-Some : goal.returns-in-Some
returns-in-Some c =
    let ts = c.args.transactions.now in
    let h = history_of ts in
    let i = c.transactions.place in
    let old = get item_eq c.transactions.table.by_item in
    let x = c.index-transactions-place.result in
    let os = map operation_of c.effects.result.now in
    let within : i < length h = rw length-map c.transactions-test.true in
    let steps = effects_at ts i x os c.transactions-test.true c.index-transactions-place.is c.effects.ensures in
    let k = c.in-Some.item.key in
    let y = c.in-Some.item.element in
    let more = rw c.in-Some.is at c.in_ok-item.ensures in
    twice_in_all old h i k y within c.transactions.invariant
    (subst (λ (ps : List Operation). 1 < times (old (item k y)) + count_in k y ps) steps more)

pub returns : goal.returns
returns c =
    let h = history_of c.args.transactions.now in
    let table = get item_eq c.transactions.table.by_item in
    let past : length h ≤ c.transactions.place = rw length-map c.transactions-test.false in
    (differ_from table h c.transactions.place past c.transactions.invariant, once_from table h c.transactions.place past c.transactions.invariant)
