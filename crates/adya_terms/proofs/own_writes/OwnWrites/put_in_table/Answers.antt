use Rattle.std.proofs.Common.{◌≡◌, ℕ, List, Some, cond, length, subst, Option, Ok, Err, Result, IfOk, OnErr, ◌∙◌}
use Rattle.std.specs.declared.alloc.AllocError.{AllocError}
use Rattle.txn_table.specs.Mirror.{value_for}
use Rattle.adya_keys.specs.Meaning.Keys.{Key}
use Rattle.adya_keys.specs.Machinery.Within.{key_at}
use Rattle.adya_values.specs.Mirror.Numbers.{keys_of}
use Rattle.adya_keys.specs.Mirror.{AreNumbered}
use Rattle.std.specs.Prelude.{◌&&◌, IsSome}
use Rattle.std.specs.Ordering.{is_eq, nat_cmp}
use Rattle.std.specs.Cmp.Lexicographic.{slice_cmp}
use Rattle.adya_terms.specs.declared.own_writes.Chain.{Chain}
use Rattle.adya_terms.specs.Machinery.Tables.{own, Own}
use Rattle.adya_terms.specs.Machinery.Chains.{own_place, AreFew, AreKnown, AreLinked}
use Rattle.adya_terms.proofs.OwnWrites.{few_later, if_ok, known_later, place_later, put_is}
use Rattle.adya_terms.proofs.own_writes.OwnWrites.put_in_table.Goals as goal

pub invariant_of-self : goal.invariant_of-self
invariant_of-self c = by_result c.put_later.result c.put_later.ensures.put c.put_later.ensures.refused
  where
    t : ℕ
    t = c.args.txn

    ks : List Key
    ks = keys_of c.args.self.now.events.now

    chains : ℕ → Chain
    chains = value_for c.args.self.now.chains

    old : Own → Option ℕ
    old q = own_place c.args.self.now.later q.txn q.key

    new : Own → Option ℕ
    new q = own_place c.put_later.new.places q.txn q.key

    by_result : (r : Result (Unit {0}) AllocError)
        → IfOk r (λ u. (u : ℕ) (k : List ℕ) → new (own u k) ≡ cond (is_eq (nat_cmp t u) && is_eq (slice_cmp nat_cmp c.key-key.result k)) (Some c.args.at) (old (own u k)))
        → OnErr r ((u : ℕ) (k : List ℕ) → own_place c.put_later.new.places u k ≡ own_place c.args.self.now.later u k)
        → record { numbered : AreNumbered ks; linked : AreLinked (length ks) chains c.args.self.now.rows.items; known : AreKnown ks new; few : AreFew c.args.self.now.room chains new }
    by_result (Ok _) put refused =
        let set = put_is t c.args.at c.key-key.result (key_at ks c.args.number) old new c.key-key.ensures put in
        record {
          numbered = c.args.self.now.numbered;
          linked = c.args.self.now.linked;
          known = known_later ks c.args.self.now.numbered t c.args.number c.args.at c.requires.number old new c.args.self.now.known set;
          few = few_later ks c.args.self.now.numbered t c.args.number c.args.at c.requires.number c.args.self.now.room chains old new c.requires.full c.args.self.now.few set;
        }
    by_result (Err _) put refused = record {
      numbered = c.args.self.now.numbered;
      linked = c.args.self.now.linked;
      known = λ q is. c.args.self.now.known q (subst IsSome (refused q.txn q.key) is);
      few = λ q less. refused q.txn q.key ∙ c.args.self.now.few q less;
    }

pub returns-clause-last : goal.returns-clause-last
returns-clause-last c =
    let w = c.args.self.now in
    let ks = keys_of w.events.now in
    let old : Own → Option ℕ = λ q. own_place w.later q.txn q.key in
    let new : Own → Option ℕ = λ q. own_place c.put_later.new.places q.txn q.key in
    if_ok c.put_later.result c.put_later.ensures.put
    (λ u put. place_later ks w.numbered c.args.txn c.args.number c.args.at c.requires.number (value_for w.chains) w.rows.items old new
    (put_is c.args.txn c.args.at c.key-key.result (key_at ks c.args.number) old new c.key-key.ensures put))
