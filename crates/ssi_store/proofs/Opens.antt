-- Open transactions over the log, act by act.
use Rattle.std.proofs.Common.{Bool, List, None, Option, Some, ap, cond, false, true, inl, inr, is_some, not, refl, subst, suc, sym, ◌≡◌, ◌∷◌, ◌++◌, ◌==◌, ◌&&◌, ◌∙◌, ℕ, [], if◌then◌else◌}
use Rattle.std.proofs.lemmas.Bool.{and_left, both_ways, cases_Bool, cond-false, cond-true, eq-eqb, eqb-true, false_from_ne_true, ne_eqb, or_parts}
use Rattle.lemmas.proofs.Orderings.{bytes_eq-same}
use Rattle.adya_keys.specs.Meaning.Keys.{key_eq}
use Rattle.adya_values.specs.Meaning.Histories.{Content, Entry}
use Rattle.adya_values.specs.Meaning.Events.{version, entry, listed}
use Rattle.ssi_snapshot.specs.Clauses.Listings.{keys}
use Rattle.ssi_snapshot.specs.Mirror.{txn_of, snapshot_of, written, own}
use Rattle.ssi_snapshot.specs.Clauses.Writes.{mod_of, next_mod, next_write, put_write}
use Rattle.ssi_store.specs.Meaning.Acts.{Act, Begins, Writes, Gets, Scans, Commits, Aborts, Collects, has_begun, is_open, operations}
use Rattle.ssi_store.specs.Meaning.Seeing.{commit_count, snapshot, write_count, own_write, own_keys, wrote}
use Rattle.ssi_store.specs.Machinery.Below.{Below}
use Rattle.ssi_store.specs.Machinery.Opens.{number_of, IsOpen, IsSameOpen, IsCounted}
use Rattle.ssi_store.specs.declared.open.Open.{Open}
use Rattle.ssi_store.proofs.SoundLogs.{Sound, open_from}

-- whose act it is
abbrev pub IsBy : ℕ → Act → Type 0
IsBy t (Begins u) = u ≡ t
IsBy t (Writes u k c) = u ≡ t
IsBy t (Gets u k) = u ≡ t
IsBy t (Scans u low high) = u ≡ t
IsBy t (Commits u) = u ≡ t
IsBy t (Aborts u) = u ≡ t
IsBy t Collects = Unit {0}

-- a transaction with the same view and count
pub same_open : (log : List Act) (o p : Open) → IsSameOpen o p → IsOpen log o → IsOpen log p
same_open log o p same is =
    let txn = same.view.0 in
    record {
      stamp = same.view.1 ∙ is.stamp ∙ ap (λ t. snapshot t log) (sym txn);
      count = same.count ∙ is.count ∙ ap (λ t. operations t log) (sym txn);
      own = λ k. ap (listed k) same.view.3 ∙ is.own k ∙ ap (λ t. own_write t k log) (sym txn);
      keys = ap keys same.view.3 ∙ is.keys ∙ ap (λ t. own_keys t log) (sym txn);
    }

-- an act of another transaction changes nothing of it
pub other_open : (t : ℕ) (x : Act) (log : List Act) (o : Open) → IsBy t x → (t ≡ number_of o → ⊥) → IsOpen log o
    → IsOpen (x ∷ log) o
other_open t (Begins u) log o by ne is =
    let apart : (u == number_of o) ≡ false = ne_eqb u (number_of o) (λ e. ne (sym by ∙ e)) in
    record {
      stamp = is.stamp
          ∙ sym (cond-false {A = ℕ} (u == number_of o) (commit_count log) (snapshot (number_of o) log) apart);
      count = is.count;
      own = is.own;
      keys = is.keys;
    }
other_open t (Writes u j c) log o by ne is =
    let n : ℕ = number_of o in
    let apart : (u == n) ≡ false = ne_eqb u n (λ e. ne (sym by ∙ e)) in
    record {
      stamp = is.stamp;
      count = is.count ∙ sym (cond-false {A = ℕ} (u == n) (suc (operations n log)) (operations n log) apart);
      own = λ k. is.own k
          ∙ sym (cond-false {A = Option Entry} (u == n && key_eq j k)
          (Some (entry (version k n (suc (write_count n k log))) c)) (own_write n k log) (and_left _ _ apart));
      keys = is.keys
          ∙ sym (cond-false {A = List (List ℕ)} (u == n && not (wrote n j log)) (own_keys n log ++ j ∷ [])
          (own_keys n log) (and_left _ _ apart));
    }
other_open t (Gets u j) log o by ne is =
    let n : ℕ = number_of o in
    record {
      stamp = is.stamp;
      count = is.count ∙ sym (cond-false {A = ℕ} (u == n) (suc (operations n log)) (operations n log)
          (ne_eqb u n (λ e. ne (sym by ∙ e))));
      own = is.own;
      keys = is.keys;
    }
other_open t (Scans u low high) log o by ne is =
    let n : ℕ = number_of o in
    record {
      stamp = is.stamp;
      count = is.count ∙ sym (cond-false {A = ℕ} (u == n) (suc (operations n log)) (operations n log)
          (ne_eqb u n (λ e. ne (sym by ∙ e))));
      own = is.own;
      keys = is.keys;
    }
other_open t (Commits u) log o by ne is = record { stamp = is.stamp; count = is.count; own = is.own; keys = is.keys }
other_open t (Aborts u) log o by ne is = record { stamp = is.stamp; count = is.count; own = is.own; keys = is.keys }
other_open t Collects log o by ne is = record { stamp = is.stamp; count = is.count; own = is.own; keys = is.keys }

-- how often the key was written is the number of the last write
mod_is : (t : ℕ) (k : List ℕ) (log : List Act) → mod_of (own_write t k log) ≡ write_count t k log
mod_is t k [] = refl
mod_is t k (Begins u ∷ log) = mod_is t k log
mod_is t k (Gets u j ∷ log) = mod_is t k log
mod_is t k (Scans u low high ∷ log) = mod_is t k log
mod_is t k (Commits u ∷ log) = mod_is t k log
mod_is t k (Aborts u ∷ log) = mod_is t k log
mod_is t k (Collects ∷ log) = mod_is t k log
mod_is t k (Writes u j c ∷ log) =
    elim (cases_Bool (u == t && key_eq j k)) [ inl same ↦ rw same refl | inr other ↦ rw other (mod_is t k log) ]

-- the number of the next write, by the log
pub next_mod_is : (j : List ℕ) (log : List Act) (o : Open) → IsOpen log o
    → next_mod j (written o.view) ≡ suc (write_count (number_of o) j log)
next_mod_is j log o is = ap (λ w. suc (mod_of w)) (is.own j) ∙ ap suc (mod_is (number_of o) j log)

-- nothing is known of a transaction that has not begun
pub record Blank (t : ℕ) (log : List Act) : Type 0 where
  pub count : operations t log ≡ 0
  pub own : (k : List ℕ) → own_write t k log ≡ None
  pub keys : own_keys t log ≡ []

not_it : (u t : ℕ) (log : List Act) → is_open u log ≡ true → has_begun t log ≡ false → (u == t) ≡ false
not_it u t log opened fresh = false_from_ne_true (u == t)
    (λ e. both_ways _ fresh (subst (λ x. has_begun x log ≡ true) (eqb-true u t e) (open_from u log opened).begun))

pub blank : (t : ℕ) (log : List Act) → Sound log → has_begun t log ≡ false → Blank t log
blank t [] s f = record { count = refl; own = λ k. refl; keys = refl }
blank t (Begins u ∷ log) s f =
    let b = blank t log s.1 (or_parts (u == t) (has_begun t log) f).1 in
    record { count = b.count; own = b.own; keys = b.keys }
blank t (Writes u j c ∷ log) s f =
    let apart = not_it u t log s.0 f in
    let b = blank t log s.1 f in
    record {
      count = cond-false {A = ℕ} (u == t) (suc (operations t log)) (operations t log) apart ∙ b.count;
      own = λ k. cond-false {A = Option Entry} (u == t && key_eq j k)
          (Some (entry (version k t (suc (write_count t k log))) c)) (own_write t k log) (and_left _ _ apart)
          ∙ b.own k;
      keys = cond-false {A = List (List ℕ)} (u == t && not (wrote t j log)) (own_keys t log ++ j ∷ []) (own_keys t log)
          (and_left _ _ apart) ∙ b.keys;
    }
blank t (Gets u j ∷ log) s f =
    let b = blank t log s.1 f in
    record {
      count = cond-false {A = ℕ} (u == t) (suc (operations t log)) (operations t log) (not_it u t log s.0 f) ∙ b.count;
      own = b.own;
      keys = b.keys;
    }
blank t (Scans u low high ∷ log) s f =
    let b = blank t log s.1 f in
    record {
      count = cond-false {A = ℕ} (u == t) (suc (operations t log)) (operations t log) (not_it u t log s.0.0 f)
          ∙ b.count;
      own = b.own;
      keys = b.keys;
    }
blank t (Commits u ∷ log) s f = let b = blank t log s.1 f in record { count = b.count; own = b.own; keys = b.keys }
blank t (Aborts u ∷ log) s f = let b = blank t log s.1 f in record { count = b.count; own = b.own; keys = b.keys }
blank t (Collects ∷ log) s f = let b = blank t log s.1 f in record { count = b.count; own = b.own; keys = b.keys }

-- a transaction that begins
pub open_begun : (t : ℕ) (log : List Act) (o : Open) → Sound log → has_begun t log ≡ false → number_of o ≡ t
    → snapshot_of o.view ≡ commit_count log → o.operations ≡ 0 → written o.view ≡ [] → IsOpen (Begins t ∷ log) o
open_begun t log o s f txn stamp count none =
    let b = blank t log s f in
    record {
      stamp = stamp ∙ sym (cond-true {A = ℕ} (t == number_of o) (commit_count log) (snapshot (number_of o) log)
          (eq-eqb t (number_of o) (sym txn)));
      count = count ∙ sym (ap (λ x. operations x log) txn ∙ b.count);
      own = λ k. ap (listed k) none ∙ sym (ap (λ x. own_write x k log) txn ∙ b.own k);
      keys = ap keys none ∙ sym (ap (λ x. own_keys x log) txn ∙ b.keys);
    }

-- a transaction that writes
pub open_written : Below → (j : List ℕ) (c : Content) (log : List Act) (o p : Open) → IsOpen log o
    → number_of p ≡ number_of o → snapshot_of p.view ≡ snapshot_of o.view → p.operations ≡ suc o.operations
    → written p.view ≡ put_write (next_write (number_of o) j c (written o.view)) (written o.view)
    → IsOpen (Writes (number_of o) j c ∷ log) p
open_written b j c log o p is txn stamp count puts =
    let t : ℕ = number_of o in
    let self : (t == number_of p) ≡ true = eq-eqb t (number_of p) (sym txn) in
    let w : Entry = next_write t j c (written o.view) in
    record {
      stamp = stamp ∙ is.stamp ∙ ap (λ x. snapshot x log) (sym txn);
      count = count ∙ ap suc (is.count ∙ ap (λ x. operations x log) (sym txn))
          ∙ sym (cond-true {A = ℕ} (t == number_of p) (suc (operations (number_of p) log))
          (operations (number_of p) log) self);
      own = λ k. ap (listed k) puts ∙ b.put_found w (written o.view) k ∙ owned k
          ∙ ap (λ x. if key_eq j k then Some (entry (version k x (suc (write_count x k log))) c) else own_write x k log)
          (sym txn)
          ∙ ap (λ (b : Bool). if b && key_eq j k then Some
          (entry (version k (number_of p) (suc (write_count (number_of p) k log))) c) else own_write (number_of p) k log)
          (sym self);
      keys = ap keys puts ∙ b.put_order w (written o.view)
          ∙ ap (λ (v : Option Entry). if is_some v then keys (written o.view) else keys (written o.view) ++ j ∷ [])
          (is.own j ∙ ap (λ x. own_write x j log) (sym txn))
          ∙ ap (λ (ks : List (List ℕ)). if wrote (number_of p) j log then ks else ks ++ j ∷ [])
          (is.keys ∙ ap (λ x. own_keys x log) (sym txn))
          ∙ turned (wrote (number_of p) j log) (own_keys (number_of p) log)
          ∙ ap (λ (b : Bool). if b && not (wrote (number_of p) j log) then own_keys (number_of p) log ++ j ∷ [] else
          own_keys (number_of p) log) (sym self);
    }
  where
    turned : (b : Bool) (ks : List (List ℕ)) → (if b then ks else ks ++ j ∷ []) ≡ (if not b then ks ++ j ∷ [] else ks)
    turned true ks = refl
    turned false ks = refl

    found : (k : List ℕ) → Entry
    found k = entry (version k (number_of o) (suc (write_count (number_of o) k log))) c

    owned : (k : List ℕ) → cond (key_eq j k) (Some (next_write (number_of o) j c (written o.view))) (own k o.view)
        ≡ cond (key_eq j k) (Some (found k)) (own_write (number_of o) k log)
    owned k = elim (cases_Bool (key_eq j k)) [
      | inl same ↦ cond-true {A = Option Entry} (key_eq j k) (Some (next_write (number_of o) j c (written o.view))) _ same
          ∙ ap (λ n. Some (entry (version j (number_of o) n) c)) (next_mod_is j log o is)
          ∙ ap (λ i. Some (found i)) (bytes_eq-same j k same)
          ∙ sym (cond-true {A = Option Entry} (key_eq j k) (Some (found k)) _ same)
      | inr other ↦ cond-false {A = Option Entry} (key_eq j k) (Some (next_write (number_of o) j c (written o.view)))
          (own k o.view) other
          ∙ is.own k ∙ sym (cond-false {A = Option Entry} (key_eq j k) (Some (found k)) _ other)
    ]

counted : (log : List Act) (o p : Open) → IsOpen log o → IsCounted o p
    → p.operations ≡ (if number_of o == number_of p then suc (operations (number_of p) log) else operations (number_of p) log)
counted log o p is same =
    let txn = ap txn_of same.view in
    same.count ∙ ap suc (is.count ∙ ap (λ x. operations x log) (sym txn))
    ∙ sym (cond-true {A = ℕ} (number_of o == number_of p) (suc (operations (number_of p) log))
    (operations (number_of p) log) (eq-eqb (number_of o) (number_of p) (sym txn)))

-- a transaction that gets
pub open_got : (k : List ℕ) (log : List Act) (o p : Open) → IsOpen log o → IsCounted o p
    → IsOpen (Gets (number_of o) k ∷ log) p
open_got k log o p is same =
    let txn = ap txn_of same.view in
    record {
      stamp = ap snapshot_of same.view ∙ is.stamp ∙ ap (λ x. snapshot x log) (sym txn);
      count = counted log o p is same;
      own = λ j. ap (own j) same.view ∙ is.own j ∙ ap (λ x. own_write x j log) (sym txn);
      keys = ap (λ v. keys (written v)) same.view ∙ is.keys ∙ ap (λ x. own_keys x log) (sym txn);
    }

-- a transaction that scans
pub open_scanned : (low high : List ℕ) (log : List Act) (o p : Open) → IsOpen log o → IsCounted o p
    → IsOpen (Scans (number_of o) low high ∷ log) p
open_scanned low high log o p is same =
    let got = open_got low log o p is same in
    record { stamp = got.stamp; count = got.count; own = got.own; keys = got.keys }
