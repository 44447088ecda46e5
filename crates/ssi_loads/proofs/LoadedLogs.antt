-- What the acts of loading leave of a log.
use Rattle.std.proofs.Common.{◌≡◌, ℕ, suc, ◌≤◌, ◌<◌, ◌==◌, Bool, true, false, cond, ◌&&◌, List, [], ◌∷◌, Option, Some, None, refl, sym, ◌∙◌, ap, arith, nat_lt, is_some}
use Rattle.std.proofs.lemmas.Bool.{eq-eqb, ne_eqb, lt-ltb, and_left}
use Rattle.adya_keys.specs.Meaning.Keys.{Key, key_eq}
use Rattle.adya_values.specs.Meaning.Histories.{Content, Live, Entry, FinalPair}
use Rattle.adya_values.specs.Meaning.Events.{entry, version, shown}
use Rattle.adya_values.specs.Meaning.KeySets.{insert}
use Rattle.adya_values.specs.Meaning.Serial.{Contents, empty, put}
use Rattle.ssi_versions.specs.Meaning.Changes.{entry_in, otherwise}
use Rattle.ssi_store.specs.Meaning.Acts.{Act, Begins, Writes, Commits, operations}
use Rattle.ssi_store.specs.Meaning.Seeing.{commit_count, committed, keys, own_keys, own_write, sees, snapshot, write_count, wrote}
use Rattle.ssi_store.specs.Meaning.Tracked.{tracked}
use Rattle.ssi_store.proofs.OwnWrites.{committed_step}
use Rattle.ssi_loads.proofs.QuietLogs.{AreQuiet, quiet_at_first, quiet_on, contents_stay}

-- the transaction has done nothing
pub record IsFresh (t : ℕ) (log : List Act) : Type 0 where
  pub count : operations t log ≡ 0
  pub own : (k : Key) → own_write t k log ≡ None

-- transactions below n have written these keys, and their commits have left these contents
pub record IsIdleLog (m : Contents) (ks : List Key) (n : ℕ) (log : List Act) : Type 0 where
  pub quiet : AreQuiet (tracked log)
  pub fresh : (t : ℕ) → n ≤ t → IsFresh t log
  pub keys : keys log ≡ ks
  pub holds : (k : Key) → shown (committed k (commit_count log) log) ≡ m k

-- and then transaction t has written, so that it sees these contents
pub record IsOpenLog (m : Contents) (ks : List Key) (t done : ℕ) (log : List Act) : Type 0 where
  pub quiet : AreQuiet (tracked log)
  pub fresh : (u : ℕ) → t < u → IsFresh u log
  pub count : operations t log ≡ done
  pub since : snapshot t log ≡ commit_count log
  pub keys : keys log ≡ ks
  pub holds : (k : Key) → shown (sees t k log) ≡ m k

pub nothing_loaded : (n : ℕ) → IsIdleLog empty [] n []
nothing_loaded n = record {
  quiet = quiet_at_first;
  fresh = λ t l. record { count = refl; own = λ k. refl };
  keys = refl;
  holds = λ k. refl;
}

itself : (t : ℕ) → (t == t) ≡ true
itself t = eq-eqb t t refl

apart : (t u : ℕ) → t < u → (t == u) ≡ false
apart t u l = ne_eqb t u (λ e. absurd (omega (arith, l, e)))

module _ (m : Contents) (ks : List Key) where
  pub log_begun : (n : ℕ) (log : List Act) → IsIdleLog m ks n log → IsOpenLog m ks n 0 (Begins n ∷ log)
  log_begun n log was =
      let none = was.fresh n (omega arith) in
      let since : snapshot n (Begins n ∷ log) ≡ commit_count log =
      ap (λ b. cond b (commit_count log) (snapshot n log)) (itself n) in record {
        quiet = record { unread = was.quiet.unread; unpaired = was.quiet.unpaired };
        fresh = λ u l. (let old = was.fresh u (omega (arith, l)) in record { count = old.count; own = old.own });
        count = none.count;
        since = since;
        keys = was.keys;
        holds = λ k. ap (λ o. shown (otherwise o (committed k (snapshot n (Begins n ∷ log)) log))) (none.own k)
            ∙ ap (λ s. shown (committed k s log)) since ∙ was.holds k;
      }

  module _ (t done : ℕ) (log : List Act) (was : IsOpenLog m ks t done log) where
    fresh_still : (j : Key) (c : Content) (u : ℕ) → t < u → IsFresh u (Writes t j c ∷ log)
    fresh_still j c u l =
        let old = was.fresh u l in
        let other = apart t u l in record {
          count = ap (λ b. cond b (suc (operations u log)) (operations u log)) other ∙ old.count;
          own = λ k. ap (λ b. cond b (Some (entry (version k u (suc (write_count u k log))) c)) (own_write u k log))
              (and_left (t == u) (key_eq j k) other) ∙ old.own k;
        }

    sees_row : (row : FinalPair) (k : Key) (b : Bool) → key_eq row.key k ≡ b
        → shown (sees t k (Writes t row.key (Live row.value) ∷ log)) ≡ cond b (Some row.value) (m k)
    sees_row row k true e =
        ap (λ b. shown (otherwise (cond (b && key_eq row.key k)
        (Some (entry (version k t (suc (write_count t k log))) (Live row.value))) (own_write t k log))
        (committed k (snapshot t log) log))) (itself t)
        ∙ ap (λ b. shown (otherwise (cond b (Some (entry (version k t (suc (write_count t k log))) (Live row.value)))
        (own_write t k log)) (committed k (snapshot t log) log))) e
    sees_row row k false e =
        ap (λ b. shown (otherwise (cond (b && key_eq row.key k)
        (Some (entry (version k t (suc (write_count t k log))) (Live row.value))) (own_write t k log))
        (committed k (snapshot t log) log))) (itself t)
        ∙ ap (λ b. shown (otherwise (cond b (Some (entry (version k t (suc (write_count t k log))) (Live row.value)))
        (own_write t k log)) (committed k (snapshot t log) log))) e
        ∙ was.holds k

    pub log_put : (row : FinalPair) → IsOpenLog (put m row.key (Some row.value)) (insert row.key ks) t (suc done)
        (Writes t row.key (Live row.value) ∷ log)
    log_put row = record {
      quiet = was.quiet;
      fresh = fresh_still row.key (Live row.value);
      count = ap (λ b. cond b (suc (operations t log)) (operations t log)) (itself t) ∙ ap suc was.count;
      since = was.since;
      keys = ap (insert row.key) was.keys;
      holds = λ k. sees_row row k (key_eq row.key k) refl;
    }

    installed : (k : Key) (o : Option Entry) → own_write t k log ≡ o
        → cond (is_some o) o (committed k (commit_count log) log) ≡ sees t k log
    installed k None e = ap (λ s. committed k s log) (sym was.since)
        ∙ ap (λ o. otherwise o (committed k (snapshot t log) log)) (sym e)
    installed k (Some w) e = ap (λ o. otherwise o (committed k (snapshot t log) log)) (sym e)

    pub log_committed : IsIdleLog m ks (suc t) (Commits t ∷ log)
    log_committed = record {
      quiet = quiet_on t (suc (commit_count log)) (own_keys t log) (tracked log) was.quiet;
      fresh = λ u l. (let old = was.fresh u (omega (arith, l)) in record { count = old.count; own = old.own });
      keys = was.keys;
      holds = λ k. (
          let n = commit_count log in
          let less : nat_lt n (suc n) ≡ true = lt-ltb n (suc n) (omega arith) in
          let step : committed k (suc n) (Commits t ∷ log) ≡ sees t k log =
          committed_step k (suc n) t log
          ∙ ap (λ b. cond (b && wrote t k log) (own_write t k log) (committed k (suc n) log)) less
          ∙ ap (λ h. cond (wrote t k log) (own_write t k log) (entry_in h)) (contents_stay k n log (omega arith))
          ∙ installed k (own_write t k log) refl in
          ap shown step ∙ was.holds k
          );
    }
