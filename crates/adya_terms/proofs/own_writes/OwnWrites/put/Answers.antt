use Rattle.std.proofs.Common.{◌≡◌, ◌==◌, ◌<◌, ◌++◌, [], ◌∷◌, ℕ, Bor, List, Some, cond, ap, subst, Option, Ok, Err, Result, IfOk, ◌∙◌}
use Rattle.std.specs.declared.alloc.AllocError.{AllocError}
use Rattle.txn_table.specs.Mirror.{value_for}
use Rattle.adya_keys.specs.Meaning.Keys.{Key}
use Rattle.adya_keys.specs.Machinery.Within.{key_at}
use Rattle.adya_values.specs.Mirror.Numbers.{keys_of}
use Rattle.std.specs.BTreeMap.{BTreeMap}
use Rattle.adya_values.specs.declared.events.Events.{Events}
use Rattle.adya_terms.specs.declared.own_writes.Chain.{Chain}
use Rattle.adya_terms.specs.declared.own_writes.Row.{Row}
use Rattle.adya_terms.specs.Machinery.Tables.{own, own_eq, Own}
use Rattle.adya_terms.specs.Machinery.Chains.{longer, own_place, row}
use Rattle.adya_terms.specs.Machinery.OwnWrites.{place_of}
use Rattle.adya_terms.proofs.OwnWrites.{place_by, place_longer}
use Rattle.adya_terms.proofs.own_writes.OwnWrites.put.Goals as goal

pub returns-clause-last : goal.returns-clause-last
returns-clause-last c = by_result c.lengthen.result c.lengthen.ensures.rows c.lengthen.ensures.chains
  where
    old : ℕ → Chain
    old = value_for c.args.self.now.chains

    new : ℕ → Chain
    new = value_for c.lengthen.new.self.chains

    is : c.chain-chain.result ≡ old c.args.txn
    is = c.chain-chain.ensures

    ks : List Key
    ks = keys_of c.args.self.now.events.now

    rows : List Row
    rows = c.args.self.now.rows.items

    later : BTreeMap ℕ (BTreeMap (List ℕ) ℕ) → Own → Option ℕ
    later m q = own_place m q.txn q.key

    by_result : (r : Result (Unit {0}) AllocError)
        → IfOk r (λ u. c.lengthen.new.self.rows.items ≡ rows ++ row c.args.at c.chain-chain.result.last c.args.number ∷ [])
        → IfOk r (λ u. (t : ℕ) → new t ≡ cond (c.args.txn == t) (longer c.chain-chain.result rows) (old t))
        → IfOk r (λ u. (q : Own) → place_of c.lengthen.new.self q
        ≡ cond (own_eq (own c.args.txn (key_at ks c.args.number)) q) (Some c.args.at) (place_of c.args.self.now q))
    by_result (Ok _) grown set = λ q.
        let put : c.lengthen.new.self.rows.items ≡ rows ++ row c.args.at (old c.args.txn).last c.args.number ∷ [] =
        grown ∙ ap (λ (x : Chain). rows ++ row c.args.at x.last c.args.number ∷ []) is in
        ap (λ (e : Bor Events). place_by (keys_of e.now) new c.lengthen.new.self.rows.items (later c.lengthen.new.self.later) q) c.lengthen.ensures.events ∙
        (ap (λ m. place_by ks new c.lengthen.new.self.rows.items (later m) q) c.lengthen.ensures.later ∙
        (ap (λ rs. place_by ks new rs (later c.args.self.now.later) q) put ∙
        place_longer ks c.args.self.now.numbered c.args.txn c.args.number c.args.at c.requires c.args.self.now.room old new rows (later c.args.self.now.later)
        c.args.self.now.linked c.args.self.now.few (subst (λ (x : Chain). x.len < c.args.self.now.room) is c.if-chain-self.false)
        (subst (λ x. (u : ℕ) → new u ≡ cond (c.args.txn == u) (longer x rows) (old u)) is set) q))
    by_result (Err _) grown set = tt
