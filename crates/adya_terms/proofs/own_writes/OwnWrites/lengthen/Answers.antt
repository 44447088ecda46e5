use Rattle.std.proofs.Common.{arith, ◌≡◌, ◌==◌, ◌+◌, ◌++◌, [], ◌∷◌, ℕ, cond, List, length, sym, ap, Ok, Err, Result, Option, OnOk, OnErr}
use Rattle.std.specs.declared.alloc.AllocError.{AllocError}
use Rattle.txn_table.specs.Mirror.{value_for}
use Rattle.adya_terms.specs.declared.own_writes.Chain.{Chain}
use Rattle.adya_terms.specs.declared.own_writes.Row.{Row}
use Rattle.adya_terms.specs.Machinery.Tables.{Own}
use Rattle.adya_values.specs.Mirror.Numbers.{keys_of}
use Rattle.adya_keys.specs.Mirror.{AreNumbered}
use Rattle.adya_keys.specs.Meaning.Keys.{Key}
use Rattle.adya_terms.specs.Machinery.Chains.{longer, own_place, row, AreFew, AreKnown, AreLinked}
use Rattle.adya_terms.proofs.Chains.{few_longer, linked_longer, linked_stays, longer_is}
use Rattle.adya_terms.proofs.own_writes.OwnWrites.lengthen.Goals as goal

pub invariant_of-self-2 : goal.invariant_of-self-2
invariant_of-self-2 c = by_result c.set.result c.set.ensures.set c.set.ensures.refused
  where
    old : ℕ → Chain
    old = value_for c.args.self.now.chains

    new : ℕ → Chain
    new = value_for c.set.new.self

    t : ℕ
    t = c.args.txn

    later : Own → Option ℕ
    later q = own_place c.args.self.now.later q.txn q.key

    ks : List Key
    ks = keys_of c.args.self.now.events.now

    rows : List Row
    rows = c.args.self.now.rows.items

    is : old t ≡ c.args.chain
    is = c.requires.chain

    grown : c.push.new.self.items ≡ rows ++ row c.args.at (old t).last c.args.number ∷ []
    grown = rw is c.in_ok-push.ensures.items

    is_len : c.args.chain.len ≡ (old t).len
    is_len = ap (λ (x : Chain). x.len) (sym is)

    value : record { len = c.args.chain.len + 1; last = c.len.result } ≡ longer (old t) rows
    value =
        let len = c.in_ok-push.ensures.len in
        let counted = c.args.self.now.rows.ok in
        let new_len = c.len.ensures in
        longer_is (old t) rows _ _ (omega (arith, is_len)) (omega (arith, len, counted, new_len))

    by_result : (r : Result (Unit {0}) AllocError)
        → OnOk r ((u : ℕ) → new u ≡ cond (t == u) (record { len = c.args.chain.len + 1; last = c.len.result }) (old u))
        → OnErr r ((u : ℕ) → new u ≡ old u)
        → record { numbered : AreNumbered ks; linked : AreLinked (length ks) new c.push.new.self.items; known : AreKnown ks later; few : AreFew c.args.self.now.room new later }
    by_result (Ok _) set refused =
        let longer_set : (u : ℕ) → new u ≡ cond (t == u) (longer (old t) rows) (old u) = λ u. rw (sym value) (set u) in
        record {
          numbered = c.args.self.now.numbered;
          known = c.args.self.now.known;
          linked = rw grown (linked_longer (length ks) old new rows c.args.at c.args.number t c.requires.number c.args.self.now.linked longer_set);
          few = few_longer c.args.self.now.room old new later rows t c.args.self.now.few (rw is c.requires.room) longer_set;
        }
    by_result (Err _) set refused =
        record {
          numbered = c.args.self.now.numbered;
          known = c.args.self.now.known;
          linked = rw grown (linked_stays (length ks) old new rows c.args.at c.args.number t c.requires.number c.args.self.now.linked refused);
          few = λ q less. c.args.self.now.few q (rw (refused q.txn) at less);
        }
