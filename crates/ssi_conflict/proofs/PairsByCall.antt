-- The pairs of calls, one call at a time: a pair is there after a call exactly where it was there before, or the call
-- adds it.
use Rattle.std.proofs.Common.{◌≡◌, ◌≢◌, ℕ, ◌<◌, ◌==◌, ◌⊎◌, true, false, not, ◌&&◌, List, ◌∷◌, Option, Some, None, is_some, refl, sym, ◌∙◌, ap, subst, arith, inl, inr}
use Rattle.std.proofs.lemmas.Bool.{eqb-true, eq-eqb, ne_eqb, cases_eq, cond-true, cond-false, and_parts, and_from, or_cases, or_left, or_right, not-true, not_from_false, lt-leb, both_ways}
use Rattle.adya_keys.specs.Meaning.Keys.{lies_in}
use Rattle.ssi_conflict.specs.Meaning.Calls.{Call, Begins, Reads, Commits, Aborts, snapshot_of, stamp_of, keys_of, has_begun, is_committed, is_aborted, meets, is_at_or_below, precedes, are_concurrent}
use Rattle.ssi_conflict.specs.Clauses.Pairs.{before_commit, IsPair}
use Rattle.ssi_conflict.specs.Clauses.Allowed.{AreAllowed}
use Rattle.ssi_conflict.specs.Computing.Steps.{adds}
use Rattle.ssi_conflict.proofs.AllowedCalls.{open_parts, unstamped, snapshots_below, reader_begun, committed_begun, unaborted_before}
use Rattle.lemmas.proofs.Tests.{list_any-source, list_any_when}
use Rattle.std.specs.List.{Contains}

-- concurrency by its parts
pub record Apart (r u : ℕ) (calls : List Call) : Type 0 where
  pub differ : (r == u) ≡ false
  pub not_before : precedes r u calls ≡ false
  pub not_after : precedes u r calls ≡ false

pub apart_parts : (r u : ℕ) (calls : List Call) → are_concurrent r u calls ≡ true → Apart r u calls
apart_parts r u calls h =
    let a = and_parts (not (r == u)) _ h in
    let b = and_parts (not (precedes r u calls)) _ a.1 in
    record { differ = not-true _ a.0; not_before = not-true _ b.0; not_after = not-true _ b.1 }

pub apart_from : (r u : ℕ) (calls : List Call) → Apart r u calls → are_concurrent r u calls ≡ true
apart_from r u calls a = rw (a.differ, a.not_before, a.not_after) refl

-- a stamp above all snapshots is within none
pub above_all : (n : ℕ) (s : Option ℕ) → ((m : ℕ) → s ≡ Some m → m < n) → is_at_or_below (Some n) s ≡ false
above_all n None h = refl
above_all n (Some m) h = lt-leb n m (h m refl)

module _ (t s : ℕ) (calls : List Call) (ok : AreAllowed (Begins t s ∷ calls)) where
  pub older : (x : ℕ) → has_begun x calls ≡ true → (t == x) ≡ false
  older x h = ne_eqb t x (λ e. let l = ok.0.above x h in omega (arith, l, e))

  pub same_snapshot : (x : ℕ) → has_begun x calls ≡ true → snapshot_of x (Begins t s ∷ calls) ≡ snapshot_of x calls
  same_snapshot x h = cond-false (t == x) (Some s) (snapshot_of x calls) (older x h)

  concurrent_begins : (r u : ℕ) → has_begun r calls ≡ true → has_begun u calls ≡ true
      → are_concurrent r u (Begins t s ∷ calls) ≡ are_concurrent r u calls
  concurrent_begins r u h i =
      ap (λ x. not (r == u) && (not (is_at_or_below (stamp_of r calls) x) && not
      (is_at_or_below (stamp_of u calls) (snapshot_of r (Begins t s ∷ calls))))) (same_snapshot u i) ∙
      ap (λ x. not (r == u) && (not (is_at_or_below (stamp_of r calls) (snapshot_of u calls)) && not
      (is_at_or_below (stamp_of u calls) x))) (same_snapshot r h)

  pub pair_before_begin : (r u : ℕ) → IsPair r u (Begins t s ∷ calls) → IsPair r u calls
  pair_before_begin r u p =
      let h = reader_begun calls ok.1 r p.key p.met in
      let i = committed_begun calls ok.1 u p.committed in
      record { key = p.key; committed = p.committed; concurrent = sym (concurrent_begins r u h i) ∙ p.concurrent; met = p.met; written = p.written; unaborted = p.unaborted }

  pub pair_after_begin : (r u : ℕ) → IsPair r u calls → IsPair r u (Begins t s ∷ calls)
  pair_after_begin r u p =
      let h = reader_begun calls ok.1 r p.key p.met in
      let i = committed_begun calls ok.1 u p.committed in
      record { key = p.key; committed = p.committed; concurrent = concurrent_begins r u h i ∙ p.concurrent; met = p.met; written = p.written; unaborted = p.unaborted }

module _ (t : ℕ) (low high : List ℕ) (calls : List Call) (ok : AreAllowed (Reads t low high ∷ calls)) where
  pub pair_before_read : (r u : ℕ) → IsPair r u (Reads t low high ∷ calls)
      → (adds (Reads t low high) calls r u ≡ true) ⊎ IsPair r u calls
  pair_before_read r u p =
      elim (or_cases ((t == r) && lies_in low high p.key) (meets r p.key calls) p.met) [
        | inl now ↦
            let a = and_parts (t == r) _ now in
            inl (and_from (t == r) _ a.0 (and_from (is_committed u calls) _ p.committed
            (and_from (are_concurrent r u calls) _ p.concurrent
            (list_any_when (lies_in low high) (keys_of u calls) p.key p.written a.1))))
        | inr was ↦ inr (record {
          key = p.key;
          committed = p.committed;
          concurrent = p.concurrent;
          met = was;
          written = p.written;
          unaborted = p.unaborted;
        })
      ]

  pub pair_of_read : (r u : ℕ) → adds (Reads t low high) calls r u ≡ true → IsPair r u (Reads t low high ∷ calls)
  pair_of_read r u h =
      let a = and_parts (t == r) _ h in
      let b = and_parts (is_committed u calls) _ a.1 in
      let d = and_parts (are_concurrent r u calls) _ b.1 in
      let k = list_any-source (lies_in low high) (keys_of u calls) d.1 in
      let alive : is_aborted r calls ≡ false = subst (λ x. is_aborted x calls ≡ false) (eqb-true t r a.0)
      (open_parts t calls ok.0.opened).unaborted in
      record {
        key = k.0;
        committed = b.0;
        concurrent = d.0;
        met = or_left ((t == r) && lies_in low high k.0) (meets r k.0 calls) (and_from (t == r) _ a.0 k.2);
        written = k.1;
        unaborted = unaborted_before calls r u alive;
      }

  pub pair_after_read : (r u : ℕ) → IsPair r u calls → IsPair r u (Reads t low high ∷ calls)
  pair_after_read r u p = record {
    key = p.key;
    committed = p.committed;
    concurrent = p.concurrent;
    met = or_right
        ((t == r) && lies_in low high p.key) _ p.met;
    written = p.written;
    unaborted = p.unaborted;
  }

module _ (t n : ℕ) (ks : List (List ℕ)) (calls : List Call) (ok : AreAllowed (Commits t n ks ∷ calls)) where
  pub same_stamp : (x : ℕ) → t ≢ x → stamp_of x (Commits t n ks ∷ calls) ≡ stamp_of x calls
  same_stamp x ne = cond-false (t == x) (Some n) (stamp_of x calls) (ne_eqb t x ne)

  pub same_keys : (x : ℕ) → t ≢ x → keys_of x (Commits t n ks ∷ calls) ≡ keys_of x calls
  same_keys x ne = cond-false (t == x) ks (keys_of x calls) (ne_eqb t x ne)

  same_past : (x : ℕ) → t ≢ x → before_commit x (Commits t n ks ∷ calls) ≡ before_commit x calls
  same_past x ne = cond-false (t == x) calls (before_commit x calls) (ne_eqb t x ne)

  pub own_stamp : stamp_of t (Commits t n ks ∷ calls) ≡ Some n
  own_stamp = cond-true (t == t) (Some n) (stamp_of t calls) (eq-eqb t t refl)

  pub own_keys : keys_of t (Commits t n ks ∷ calls) ≡ ks
  own_keys = cond-true (t == t) ks (keys_of t calls) (eq-eqb t t refl)

  -- the new stamp is above all snapshots
  pub new_above : (x : ℕ) → is_at_or_below (Some n) (snapshot_of x calls) ≡ false
  new_above x = above_all n (snapshot_of x calls) (λ m e. let l = snapshots_below calls ok.1 x m e in let next =
      ok.0.next in omega (arith, l, next))

  before_commit_apart : (r u : ℕ) → t ≢ u → are_concurrent r u (Commits t n ks ∷ calls) ≡ true
      → are_concurrent r u calls ≡ true
  before_commit_apart r u ne h =
      let a = apart_parts r u (Commits t n ks ∷ calls) h in
      apart_from r u calls (record {
        differ = a.differ;
        not_before = elim (cases_eq t r) [
          | inl e ↦ ap (λ x. is_at_or_below x (snapshot_of u calls))
              (subst (λ x. stamp_of x calls ≡ None) e (unstamped t calls ok.0.opened))
          | inr apart ↦ ap (λ x. is_at_or_below x (snapshot_of u calls)) (sym (same_stamp r apart)) ∙ a.not_before
        ];
        not_after = ap (λ x. is_at_or_below x (snapshot_of r calls)) (sym (same_stamp u ne)) ∙ a.not_after;
      })

  after_commit_apart : (r u : ℕ) → t ≢ u → are_concurrent r u calls ≡ true
      → are_concurrent r u (Commits t n ks ∷ calls) ≡ true
  after_commit_apart r u ne h =
      let a = apart_parts r u calls h in
      apart_from r u (Commits t n ks ∷ calls) (record {
        differ = a.differ;
        not_before = elim (cases_eq t r) [
          | inl e ↦ ap (λ x. is_at_or_below x (snapshot_of u calls))
              (subst (λ x. stamp_of x (Commits t n ks ∷ calls) ≡ Some n) e own_stamp) ∙ new_above u
          | inr apart ↦ ap (λ x. is_at_or_below x (snapshot_of u calls)) (same_stamp r apart) ∙ a.not_before
        ];
        not_after = ap (λ x. is_at_or_below x (snapshot_of r calls)) (same_stamp u ne) ∙ a.not_after;
      })

  pub not_committed_yet : (r u : ℕ) → IsPair r u calls → t ≢ u
  not_committed_yet r u p e = both_ways (is_committed u calls)
      (subst (λ x. is_committed x calls ≡ false) e (open_parts t calls ok.0.opened).uncommitted) p.committed

  pub pair_before_commit : (r u : ℕ) → IsPair r u (Commits t n ks ∷ calls)
      → (adds (Commits t n ks) calls r u ≡ true) ⊎ IsPair r u calls
  pair_before_commit r u p =
      elim (cases_eq t u) [
        | inl e ↦
            let alive : is_aborted r calls ≡ false = ap (is_aborted r)
            (sym (cond-true (t == u) calls (before_commit u calls) (eq-eqb t u e))) ∙ p.unaborted in
            let written : Contains ks p.key = subst (λ xs. Contains xs p.key)
            (cond-true (t == u) ks (keys_of u calls) (eq-eqb t u e)) p.written in
            inl (and_from (t == u) _ (eq-eqb t u e) (and_from (not (is_aborted r calls)) _ (not_from_false _ alive)
            (and_from (are_concurrent r u (Commits t n ks ∷ calls)) _ p.concurrent
            (list_any_when (λ k. meets r k calls) ks p.key written p.met))))
        | inr ne ↦ inr (record {
          key = p.key;
          committed = ap is_some (sym (same_stamp u ne)) ∙ p.committed;
          concurrent = before_commit_apart r u ne p.concurrent;
          met = p.met;
          written = subst (λ xs. Contains xs p.key) (same_keys u ne) p.written;
          unaborted = ap (is_aborted r) (sym (same_past u ne)) ∙ p.unaborted;
        })
      ]

  pub pair_of_commit : (r u : ℕ) → adds (Commits t n ks) calls r u ≡ true → IsPair r u (Commits t n ks ∷ calls)
  pair_of_commit r u h =
      let a = and_parts (t == u) _ h in
      let b = and_parts (not (is_aborted r calls)) _ a.1 in
      let d = and_parts (are_concurrent r u (Commits t n ks ∷ calls)) _ b.1 in
      let k = list_any-source (λ k. meets r k calls) ks d.1 in
      record {
        key = k.0;
        committed = ap is_some (cond-true (t == u) (Some n) (stamp_of u calls) a.0);
        concurrent = d.0;
        met = k.2;
        written = subst (λ xs. Contains xs k.0) (sym (cond-true (t == u) ks (keys_of u calls) a.0)) k.1;
        unaborted = ap (is_aborted r) (cond-true (t == u) calls (before_commit u calls) a.0) ∙ not-true _ b.0;
      }

  pub pair_after_commit : (r u : ℕ) → IsPair r u calls → IsPair r u (Commits t n ks ∷ calls)
  pair_after_commit r u p =
      let ne = not_committed_yet r u p in
      record {
        key = p.key;
        committed = ap is_some (same_stamp u ne) ∙ p.committed;
        concurrent = after_commit_apart r u ne p.concurrent;
        met = p.met;
        written = subst (λ xs. Contains xs p.key) (sym (same_keys u ne)) p.written;
        unaborted = ap (is_aborted r) (same_past u ne) ∙ p.unaborted;
      }

pub pair_before_abort : (t : ℕ) (calls : List Call) (r u : ℕ) → IsPair r u (Aborts t ∷ calls) → IsPair r u calls
pair_before_abort t calls r u p =
    record {
      key = p.key;
      committed = p.committed;
      concurrent = p.concurrent;
      met = p.met;
      written = p.written;
      unaborted = p.unaborted;
    }

pub pair_after_abort : (t : ℕ) (calls : List Call) (r u : ℕ) → IsPair r u calls → IsPair r u (Aborts t ∷ calls)
pair_after_abort t calls r u p =
    record {
      key = p.key;
      committed = p.committed;
      concurrent = p.concurrent;
      met = p.met;
      written = p.written;
      unaborted = p.unaborted;
    }
