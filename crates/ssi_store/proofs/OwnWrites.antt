-- A transaction's own writes, and the contents that its commit leaves.
use Rattle.std.specs.List.{Contains}
use Rattle.std.proofs.Common.{List, None, Option, Some, [], ap, arith, cond, false, inl, inr, is_some, nat_le, nat_lt, not, refl, subst, suc, sym, true, ℕ, ◌&&◌, ◌==◌, ◌∙◌, ◌∷◌, ◌≡◌, ◌⊎◌}
use Rattle.std.proofs.lemmas.Bool.{and_from, and_parts, both_ways, cases_Bool, cases_lt, cond-true, eq-eqb, eqb-true, le-leb, le-ltb, lt-leb, lt-ltb, not_from_false}
use Rattle.std.proofs.lemmas.List.Elements.{Contains-append_cases, Contains-append_left, Contains-append_right}
use Rattle.std.proofs.lemmas.Option.{none-some, same_Some}
use Rattle.lemmas.proofs.Members.{Contains-head, none_contained}
use Rattle.adya_values.proofs.RisingNumbers.{only_one}
use Rattle.lemmas.proofs.Orderings.{bytes_eq-itself, bytes_eq-same}
use Rattle.adya_values.specs.Meaning.Events.{entry, listed, version}
use Rattle.adya_values.specs.Meaning.Histories.{Content, Entry}
use Rattle.adya_values.specs.Meaning.KeySets.{insert}
use Rattle.adya_keys.specs.Meaning.Keys.{key_eq, keys_rise}
use Rattle.ssi_versions.specs.Meaning.Changes.{contents, entry_in, otherwise, stamped}
use Rattle.ssi_store.specs.Meaning.Acts.{Aborts, Act, Collects, Commits, Gets, Scans, Begins, Writes}
use Rattle.ssi_store.specs.Meaning.Seeing.{changed, commit_count, committed, keys, last_writes, own_keys, own_write, write_count, wrote}
use Rattle.ssi_store.proofs.Lists.{option_cases}
use Rattle.adya_values.proofs.InsertedKeys.{Contains-insert, Contains-inserted, insert_rises}
use Rattle.ssi_store.proofs.RisingKeys.{listed_made}

pub own_write_is : (t : ℕ) (k : List ℕ) (log : List Act) (w : Entry) → own_write t k log ≡ Some w
    → (w.version.txn ≡ t) × (w.version.key ≡ k)
own_write_is t k [] w e = absurd (none-some w e)
own_write_is t k (Begins u ∷ log) w e = own_write_is t k log w e
own_write_is t k (Gets u j ∷ log) w e = own_write_is t k log w e
own_write_is t k (Scans u low high ∷ log) w e = own_write_is t k log w e
own_write_is t k (Commits u ∷ log) w e = own_write_is t k log w e
own_write_is t k (Aborts u ∷ log) w e = own_write_is t k log w e
own_write_is t k (Collects ∷ log) w e = own_write_is t k log w e
own_write_is t k (Writes u j c ∷ log) w e =
    elim (cases_Bool (u == t && key_eq j k)) [
      | inl same ↦ let here = same_Some _ w (rw same at e) in
          (sym (ap (λ x. x.version.txn) here), sym (ap (λ x. x.version.key) here))
      | inr other ↦ own_write_is t k log w (rw other at e)
    ]

-- every key that was written is among the keys
pub wrote_key : (t : ℕ) (k : List ℕ) (log : List Act) → wrote t k log ≡ true → Contains (keys log) k
wrote_key t k [] e = absurd (cc (e))
wrote_key t k (Begins u ∷ log) e = wrote_key t k log e
wrote_key t k (Gets u j ∷ log) e = wrote_key t k log e
wrote_key t k (Scans u low high ∷ log) e = wrote_key t k log e
wrote_key t k (Commits u ∷ log) e = wrote_key t k log e
wrote_key t k (Aborts u ∷ log) e = wrote_key t k log e
wrote_key t k (Collects ∷ log) e = wrote_key t k log e
wrote_key t k (Writes u j c ∷ log) e =
    elim (cases_Bool (u == t && key_eq j k)) [
      | inl same ↦ subst (λ x. Contains (insert j (keys log)) x) (bytes_eq-same j k (and_parts _ _ same).1)
          (Contains-insert j (keys log))
      | inr other ↦ Contains-inserted j (keys log) k (wrote_key t k log (rw other at e))
    ]

-- a write adds its key to the own keys of its transaction, unless it is there
wrote_now : (t : ℕ) (j : List ℕ) (c : Content) (log : List Act) → wrote t j (Writes t j c ∷ log) ≡ true
wrote_now t j c log = ap is_some
    (cond-true {A = Option Entry} (t == t && key_eq j j) (Some (entry (version j t (suc (write_count t j log))) c))
    (own_write t j log) (and_from (t == t) (key_eq j j) (eq-eqb t t refl) (bytes_eq-itself j)))

wrote_still : (t : ℕ) (k : List ℕ) (u : ℕ) (j : List ℕ) (c : Content) (log : List Act) → wrote t k log ≡ true
    → wrote t k (Writes u j c ∷ log) ≡ true
wrote_still t k u j c log e =
    elim (cases_Bool (u == t && key_eq j k)) [ inl same ↦ rw same refl | inr other ↦ rw other e ]

wrote_before : (t : ℕ) (k : List ℕ) (u : ℕ) (j : List ℕ) (c : Content) (log : List Act)
    → wrote t k (Writes u j c ∷ log) ≡ true → ((u ≡ t) × (j ≡ k)) ⊎ (wrote t k log ≡ true)
wrote_before t k u j c log e =
    elim (cases_Bool (u == t && key_eq j k)) [
      | inl same ↦ let both = and_parts (u == t) (key_eq j k) same in inl
          (eqb-true u t both.0, bytes_eq-same j k both.1)
      | inr other ↦ inr (rw other at e)
    ]

pub own_key_there : (t : ℕ) (k : List ℕ) (log : List Act) → wrote t k log ≡ true → Contains (own_keys t log) k
own_key_there t k [] e = absurd (cc (e))
own_key_there t k (Begins u ∷ log) e = own_key_there t k log e
own_key_there t k (Gets u j ∷ log) e = own_key_there t k log e
own_key_there t k (Scans u low high ∷ log) e = own_key_there t k log e
own_key_there t k (Commits u ∷ log) e = own_key_there t k log e
own_key_there t k (Aborts u ∷ log) e = own_key_there t k log e
own_key_there t k (Collects ∷ log) e = own_key_there t k log e
own_key_there t k (Writes u j c ∷ log) e =
    elim (cases_Bool (wrote t k log)) [
      | inl old ↦
          let before = own_key_there t k log old in
          elim (cases_Bool (u == t && not (wrote t j log))) [
            | inl new ↦ rw new (Contains-append_left (own_keys t log) (j ∷ []) k before)
            | inr same ↦ rw same before
          ]
      | inr first ↦
          elim (wrote_before t k u j c log e) [
            | inl now ↦
                let new : (u == t && not (wrote t j log)) ≡ true = and_from (u == t) (not (wrote t j log))
                (eq-eqb u t now.0) (not_from_false _ (subst (λ x. wrote t x log ≡ false) (sym now.1) first)) in
                rw new (Contains-append_right (own_keys t log) (j ∷ []) k
                (subst (Contains (j ∷ [])) now.1 (Contains-head j [])))
            | inr old ↦ absurd (both_ways _ first old)
          ]
    ]

pub own_key_written : (t : ℕ) (k : List ℕ) (log : List Act) → Contains (own_keys t log) k → wrote t k log ≡ true
own_key_written t k [] c = absurd (none_contained k c)
own_key_written t k (Begins u ∷ log) c = own_key_written t k log c
own_key_written t k (Gets u j ∷ log) c = own_key_written t k log c
own_key_written t k (Scans u low high ∷ log) c = own_key_written t k log c
own_key_written t k (Commits u ∷ log) c = own_key_written t k log c
own_key_written t k (Aborts u ∷ log) c = own_key_written t k log c
own_key_written t k (Collects ∷ log) c = own_key_written t k log c
own_key_written t k (Writes u j d ∷ log) c =
    elim (cases_Bool (u == t && not (wrote t j log))) [
      | inl new ↦
          elim (Contains-append_cases (own_keys t log) (j ∷ []) k (rw new at c)) [
            | inl old ↦ wrote_still t k u j d log (own_key_written t k log old)
            | inr here ↦
                let who = eqb-true u t (and_parts (u == t) (not (wrote t j log)) new).0 in
                subst (λ x. wrote t x (Writes u j d ∷ log) ≡ true) (only_one j k here)
                (subst (λ x. wrote t j (Writes x j d ∷ log) ≡ true) (sym who) (wrote_now t j d log))
          ]
      | inr same ↦ wrote_still t k u j d log (own_key_written t k log (rw same at c))
    ]

-- what a commit installs of a key is the transaction's last write of it
pub last_writes_of : (t : ℕ) (k : List ℕ) (log : List Act) → listed k (last_writes t log) ≡ own_write t k log
last_writes_of t k log =
    listed_made (λ j. own_write t j log) (λ j w e. (own_write_is t j log w e).1) (own_keys t log) k
    (elim (option_cases (own_write t k log)) [
      | inl none ↦ inr none
      | inr some ↦ inl (own_key_there t k log (ap is_some some.1))
    ])

-- the contents after one more commit
pub committed_step : (k : List ℕ) (s u : ℕ) (log : List Act)
    → committed k s (Commits u ∷ log) ≡ cond (nat_lt (commit_count log) s && wrote u k log) (own_write u k log)
    (committed k s log)
committed_step k s u log =
    elim (cases_lt (commit_count log) s) [
      | inl less ↦
          let le : nat_le (suc (commit_count log)) s ≡ true = le-leb (suc (commit_count log)) s less in
          let lt : nat_lt (commit_count log) s ≡ true = lt-ltb (commit_count log) s less in
          ap (λ b. entry_in (cond b (otherwise (stamped (suc (commit_count log)) (listed k (last_writes u log)))
          (contents k s (changed log))) (contents k s (changed log)))) le ∙
          (ap (λ o. entry_in (otherwise (stamped (suc (commit_count log)) o) (contents k s (changed log))))
          (last_writes_of u k log) ∙
          (by_write (own_write u k log) ∙ ap (λ b. cond (b && wrote u k log) (own_write u k log) (committed k s log))
          (sym lt)))
      | inr more ↦
          let le : nat_le (suc (commit_count log)) s ≡ false = lt-leb (suc (commit_count log)) s
          (omega (arith, more)) in
          let lt : nat_lt (commit_count log) s ≡ false = le-ltb (commit_count log) s more in
          ap (λ b. entry_in (cond b (otherwise (stamped (suc (commit_count log)) (listed k (last_writes u log)))
          (contents k s (changed log))) (contents k s (changed log)))) le ∙
          ap (λ b. cond (b && wrote u k log) (own_write u k log) (committed k s log)) (sym lt)
    ]
  where
    by_write : (o : Option Entry) → entry_in
        (otherwise (stamped (suc (commit_count log)) o) (contents k s (changed log))) ≡ cond (is_some o) o
        (committed k s log)
    by_write None = refl
    by_write (Some w) = refl

-- all keys that were written rise
pub keys_of_log_rise : (log : List Act) → keys_rise (keys log) ≡ true
keys_of_log_rise [] = refl
keys_of_log_rise (Begins u ∷ log) = keys_of_log_rise log
keys_of_log_rise (Gets u k ∷ log) = keys_of_log_rise log
keys_of_log_rise (Scans u low high ∷ log) = keys_of_log_rise log
keys_of_log_rise (Commits u ∷ log) = keys_of_log_rise log
keys_of_log_rise (Aborts u ∷ log) = keys_of_log_rise log
keys_of_log_rise (Collects ∷ log) = keys_of_log_rise log
keys_of_log_rise (Writes u k c ∷ log) = insert_rises k (keys log) (keys_of_log_rise log)
